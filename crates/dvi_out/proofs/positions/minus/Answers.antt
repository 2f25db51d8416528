use Rattle.std.specs.Int.{w32}
use Rattle.std.proofs.lemmas.Int.{wrapping_sub_is}
use Rattle.dvi_out.proofs.positions.minus.Goals as goal

pub returns : goal.returns
returns c = wrapping_sub_is w32 c.args.place c.args.by c.ranges.place c.ranges.by
