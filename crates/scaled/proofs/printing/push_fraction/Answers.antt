use Rattle.std.proofs.Common.{rules}
use Rattle.scaled.specs.ArithmeticDecimals.{printed_fraction}
use Rattle.scaled.proofs.printing.push_fraction.Goals as goal

pub returns : goal.returns
unfolding printed_fraction
returns c = search rules
