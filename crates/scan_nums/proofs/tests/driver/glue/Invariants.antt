use Rattle.std.proofs.Common.{◌≡◌}
use Rattle.scan_nums.specs.Awaited.{NextToken}
use Rattle.scan_nums.specs.GlueScan.{awaits}
use Rattle.scan_nums.proofs.tests.driver.glue.Given as goal

abbrev pub invariant-tokens : goal.invariant-tokens
invariant-tokens l = awaits l.scan ≡ NextToken
