use Rattle.std.proofs.Common.{◌≡◌}
use Rattle.scan_nums.specs.Awaited.{NextToken}
use Rattle.scan_nums.specs.IntScan.{awaits}
use Rattle.scan_nums.proofs.tests.driver.whole_number.Given as goal

abbrev pub invariant-loop-byte : goal.invariant-loop-byte
invariant-loop-byte l = awaits l.scan ≡ NextToken
