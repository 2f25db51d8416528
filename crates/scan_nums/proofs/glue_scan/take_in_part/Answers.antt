-- The part takes it, or what stands behind the part does.
use Rattle.std.proofs.Common.{◌≡◌, Bool, ap}
use Rattle.scan_nums.specs.declared.dimen_state.DimenKind.{DimenKind}
use Rattle.scan_nums.specs.Taken.{Seen}
use Rattle.scan_nums.specs.GlueStanding.{orders_of}
use Rattle.scan_nums.proofs.GlueLaws.{kind_leads, part_waits}
use Rattle.scan_nums.proofs.glue_scan.take_in_part.Goals as goal

pub returns-clause-leads : goal.returns-clause-leads
returns-clause-leads c =
    kind_leads c.args.mu c.kind_of-kind.result c.args.part c.args.state (Seen c.args.token c.args.meaning.now) c.is_space.result c.letter_of.result c.take_token-step.result c.follow.result
    c.kind_of-kind.ensures c.is_space.ensures c.letter_of.ensures c.take_token-step.ensures.leads c.follow.ensures

pub returns-clause-awaits : goal.returns-clause-awaits
returns-clause-awaits c =
    part_waits c.args.mu c.args.part c.take_token-step.result c.is_space.result c.letter_of.result c.follow.result c.take_token-step.ensures.awaits c.follow.ensures
