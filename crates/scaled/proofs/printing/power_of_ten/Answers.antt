use Rattle.std.proofs.Common.{arith}
use Rattle.scaled.proofs.DecimalLaws.{ten_pos}
use Rattle.scaled.proofs.printing.power_of_ten.Goals as goal

pub returns-clause-low : goal.returns-clause-low
returns-clause-low c = omega (arith, c.pow.ensures, ten_pos c.args.places)
