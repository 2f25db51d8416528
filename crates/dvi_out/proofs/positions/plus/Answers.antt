use Rattle.std.specs.Int.{w32}
use Rattle.std.proofs.lemmas.Int.{wrapping_add_is}
use Rattle.dvi_out.proofs.positions.plus.Goals as goal

pub returns : goal.returns
returns c = wrapping_add_is w32 c.args.place c.args.by c.ranges.place c.ranges.by
