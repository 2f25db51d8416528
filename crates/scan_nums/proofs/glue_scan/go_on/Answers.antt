-- The part goes on.
use Rattle.scan_nums.specs.Taken.{Resumed}
use Rattle.scan_nums.specs.declared.glue_state.GlueState.TheVariants.{Part}
use Rattle.scan_nums.proofs.GlueLaws.{glue_state}
use Rattle.scan_nums.proofs.glue_scan.go_on.Goals as goal

pub returns-clause-leads : goal.returns-clause-leads
returns-clause-leads c =
    glue_state c.args.mu c.args.state (Part c.in-Part.part c.in-Part.state) Resumed _ c.in-Part.is c.resume_in_part.ensures.leads
