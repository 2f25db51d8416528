-- What is handed in leads from a state to one that stands for the longer list.
use Rattle.scan_nums.specs.Taken.{Seen}
use Rattle.scan_nums.proofs.DimenLaws.{verdict_behind, kept_behind, order_behind}
use Rattle.scan_nums.proofs.dimen_scan.DimenScan.take.Goals as goal

pub returns-clause-verdict : goal.returns-clause-verdict
returns-clause-verdict c =
    λ taken stands. verdict_behind c.args.self.now.kind c.take_token-step.result c.follow.new.self c.follow.result c.args.self.now.state (Seen c.args.token c.args.meaning.now) taken c.take_token-step.ensures.leads c.follow.ensures.followed stands

pub returns-clause-kept : goal.returns-clause-kept
returns-clause-kept c =
    λ taken stands. kept_behind c.args.self.now.kind c.take_token-step.result c.follow.new.self c.follow.result c.args.self.now.state (Seen c.args.token c.args.meaning.now) taken c.follow.ensures.kind c.take_token-step.ensures.leads
    c.take_token-step.ensures.signs c.take_token-step.ensures.character c.follow.ensures.followed stands

pub returns-clause-order : goal.returns-clause-order
returns-clause-order c =
    λ taken stands. order_behind c.args.self.now.kind c.take_token-step.result c.follow.new.self c.follow.result c.args.self.now.state (Seen c.args.token c.args.meaning.now) taken c.take_token-step.ensures.leads c.take_token-step.ensures.awaits c.follow.ensures.followed stands
