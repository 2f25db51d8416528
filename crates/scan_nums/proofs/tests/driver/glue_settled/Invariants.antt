use Rattle.std.proofs.Common.{◌≡◌}
use Rattle.scan_nums.specs.Awaited.{awaited_after}
use Rattle.scan_nums.specs.GlueScan.{awaits}
use Rattle.scan_nums.proofs.tests.driver.glue_settled.Given as goal

abbrev pub invariant-verdicts : goal.invariant-verdicts
invariant-verdicts l = awaits l.scan ≡ awaited_after l.verdict
