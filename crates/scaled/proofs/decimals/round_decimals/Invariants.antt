use Rattle.std.proofs.Common.{◌≡◌, ◌<◌, drop}
use Rattle.scaled.specs.ArithmeticDecimals.{doubled_fraction}
use Rattle.scaled.proofs.decimals.round_decimals.Given as goal

abbrev pub invariant-loop-i : goal.invariant-loop-i
invariant-loop-i l = (l.doubled ≡ doubled_fraction (drop l.i l.digits)) × (l.doubled < 131072)
