-- What is handed in leads from a state to one that stands for the longer list.
use Rattle.scan_nums.specs.Taken.{Resumed}
use Rattle.scan_nums.proofs.GlueLaws.{kept_behind, verdict_behind}
use Rattle.scan_nums.proofs.glue_scan.GlueScan.resume.Goals as goal

pub returns-clause-verdict : goal.returns-clause-verdict
returns-clause-verdict c = λ taken stands.
    verdict_behind c.args.self.now.mu c.args.self.now.state c.go_on-state.result Resumed taken c.go_on-state.ensures.leads stands

pub returns-clause-kept : goal.returns-clause-kept
returns-clause-kept c = λ taken stands.
    kept_behind c.args.self.now.mu c.args.self.now.state c.go_on-state.result Resumed taken c.go_on-state.ensures.leads stands
