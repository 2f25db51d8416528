-- Behind no unit the dimension ends.
use Rattle.scan_nums.specs.Taken.{Resumed}
use Rattle.scan_nums.specs.declared.dimen_state.DimenState.TheVariants.{NoUnit}
use Rattle.scan_nums.proofs.DimenLaws.{leads_state}
use Rattle.scan_nums.proofs.dimen_scan.go_on.Goals as goal

pub returns-in-NoUnit-clause-leads : goal.returns-in-NoUnit-clause-leads
returns-in-NoUnit-clause-leads c =
    λ mu orders. leads_state mu orders c.args.state (NoUnit c.in-NoUnit.extent) Resumed _ c.in-NoUnit.is (c.ends.ensures.leads mu orders Resumed)
