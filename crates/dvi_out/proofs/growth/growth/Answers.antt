use Rattle.std.proofs.Common.{arith, rules, ◌∙◌}
use Rattle.std.specs.Int.{w32}
use Rattle.std.proofs.lemmas.Int.{to_z-of_z}
use Rattle.dvi_out.specs.SpellingWalk.{growth}
use Rattle.dvi_out.proofs.growth.growth.Goals as goal

pub returns : goal.returns
unfolding growth
returns c = to_z-of_z w32 c.held.result (search rules) ∙ first_of (search rules, grind (arith, to_z-of_z))
