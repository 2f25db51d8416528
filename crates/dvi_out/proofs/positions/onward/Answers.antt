use Rattle.std.proofs.Common.{ℤ, ◌+◌, ◌%◌, ◌^◌, ap, ◌∙◌, rules}
use Rattle.std.specs.Int.{w32, cast_signed, cast_unsigned}
use Rattle.std.proofs.lemmas.Int.{to_z-of_z}
use Rattle.dvi_out.proofs.ModuloLaws.{onward-is}
use Rattle.dvi_out.proofs.positions.onward.Goals as goal

pub returns : goal.returns
returns c =
    to_z-of_z w32 c.wrapping_add_unsigned.result (search rules)
    ∙ c.wrapping_add_unsigned.ensures
    ∙ ap (λ (z : ℤ). cast_signed w32 ((cast_unsigned w32 z + c.args.by) % 2 ^ 32)) (to_z-of_z w32 c.args.place c.ranges.place)
    ∙ onward-is c.args.place c.args.by c.ranges.place
