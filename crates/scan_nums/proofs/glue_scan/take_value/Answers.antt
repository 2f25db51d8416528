-- Each state hands its value to its function.
use Rattle.scan_nums.specs.Taken.{Told}
use Rattle.scan_nums.specs.declared.glue_state.GlueState.TheVariants.{Asked, Part}
use Rattle.scan_nums.proofs.GlueLaws.{glue_state}
use Rattle.scan_nums.proofs.glue_scan.take_value.Goals as goal

pub returns-in-Asked-clause-leads : goal.returns-in-Asked-clause-leads
returns-in-Asked-clause-leads c =
    glue_state c.args.mu c.args.state (Asked c.in-Asked.negative) (Told c.args.n) _ c.in-Asked.is c.begin_with.ensures.leads

pub returns-in-Part-clause-leads : goal.returns-in-Part-clause-leads
returns-in-Part-clause-leads c =
    glue_state c.args.mu c.args.state (Part c.in-Part.part c.in-Part.state) (Told c.args.n) _ c.in-Part.is c.answer_in_part.ensures.leads
