-- What is handed in leads from a state to one that stands for the longer list.
use Rattle.scan_nums.specs.Taken.{Resumed}
use Rattle.scan_nums.proofs.IntLaws.{kept_behind, verdict_behind}
use Rattle.scan_nums.proofs.int_scan.IntScan.resume.Goals as goal

pub returns-clause-verdict : goal.returns-clause-verdict
returns-clause-verdict c = λ taken stands.
    verdict_behind c.go_on-state.result.1 c.args.self.now.state Resumed taken c.go_on-state.ensures.verdict stands

pub returns-clause-kept : goal.returns-clause-kept
returns-clause-kept c = λ taken stands.
    kept_behind c.go_on-state.result.1 c.args.self.now.state c.go_on-state.result.0 Resumed taken c.go_on-state.ensures.signs c.go_on-state.ensures.character stands
    c.go_on-state.ensures.kept
