-- What is handed in leads from a state to one that stands for the longer list.
use Rattle.std.proofs.Common.{sym, ◌∙◌}
use Rattle.scan_nums.specs.Taken.{Told}
use Rattle.scan_nums.specs.DimenStanding.{is_at_signs}
use Rattle.scan_nums.proofs.DimenLaws.{and_none, verdict_behind, kept_behind, order_behind}
use Rattle.scan_nums.proofs.dimen_scan.DimenScan.answer.Goals as goal

pub returns-clause-verdict : goal.returns-clause-verdict
returns-clause-verdict c =
    λ taken stands. verdict_behind c.args.self.now.kind c.take_value-step.result c.follow.new.self c.follow.result c.args.self.now.state (Told c.args.n) taken c.take_value-step.ensures.leads c.follow.ensures.followed stands

pub returns-clause-kept : goal.returns-clause-kept
returns-clause-kept c =
    λ taken stands. kept_behind c.args.self.now.kind c.take_value-step.result c.follow.new.self c.follow.result c.args.self.now.state (Told c.args.n) taken c.follow.ensures.kind c.take_value-step.ensures.leads
    (c.take_value-step.ensures.settled.signs ∙ sym (and_none (is_at_signs c.args.self.now.state))) (c.take_value-step.ensures.settled.character ∙ sym (and_none (is_at_signs c.args.self.now.state))) c.follow.ensures.followed stands

pub returns-clause-order : goal.returns-clause-order
returns-clause-order c =
    λ taken stands. order_behind c.args.self.now.kind c.take_value-step.result c.follow.new.self c.follow.result c.args.self.now.state (Told c.args.n) taken c.take_value-step.ensures.leads c.take_value-step.ensures.settled.awaits c.follow.ensures.followed stands
