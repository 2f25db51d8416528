-- A value is neither a space nor a letter.
use Rattle.std.proofs.Common.{false, None, refl}
use Rattle.scan_nums.specs.Taken.{Told}
use Rattle.scan_nums.proofs.GlueLaws.{kind_leads, part_waits}
use Rattle.scan_nums.proofs.glue_scan.answer_in_part.Goals as goal

pub returns-clause-leads : goal.returns-clause-leads
returns-clause-leads c =
    kind_leads c.args.mu c.kind_of-kind.result c.args.part c.args.state (Told c.args.n) false None c.take_value-step.result c.follow.result
    c.kind_of-kind.ensures refl refl c.take_value-step.ensures.leads c.follow.ensures

pub returns-clause-awaits : goal.returns-clause-awaits
returns-clause-awaits c =
    part_waits c.args.mu c.args.part c.take_value-step.result false None c.follow.result c.take_value-step.ensures.settled.awaits c.follow.ensures
