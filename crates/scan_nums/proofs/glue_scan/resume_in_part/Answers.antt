-- The word to go on is neither a space nor a letter.
use Rattle.std.proofs.Common.{false, None, refl}
use Rattle.scan_nums.specs.Taken.{Resumed}
use Rattle.scan_nums.specs.GlueStanding.{orders_of}
use Rattle.scan_nums.proofs.GlueLaws.{part_leads, part_waits}
use Rattle.scan_nums.proofs.glue_scan.resume_in_part.Goals as goal

pub returns-clause-leads : goal.returns-clause-leads
returns-clause-leads c =
    part_leads c.args.mu (orders_of c.args.part) c.args.part c.args.state Resumed false None c.go_on-step.result c.follow.result
    refl refl refl (c.go_on-step.ensures.leads c.args.mu (orders_of c.args.part)) c.follow.ensures

pub returns-clause-awaits : goal.returns-clause-awaits
returns-clause-awaits c =
    part_waits c.args.mu c.args.part c.go_on-step.result false None c.follow.result c.go_on-step.ensures.settled.awaits c.follow.ensures
