use Rattle.std.proofs.Common.{arith}
use Rattle.std.proofs.lemmas.Int.{ints}
use Rattle.box_pack.proofs.vertical.below.Goals as goal

pub returns : goal.returns
returns c = omega (arith, ints)
