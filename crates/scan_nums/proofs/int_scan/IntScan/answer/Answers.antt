-- What is handed in leads from a state to one that stands for the longer list.
use Rattle.scan_nums.specs.Taken.{Told}
use Rattle.scan_nums.proofs.IntLaws.{kept_behind, verdict_behind}
use Rattle.scan_nums.proofs.int_scan.IntScan.answer.Goals as goal

pub returns-clause-verdict : goal.returns-clause-verdict
returns-clause-verdict c = λ taken stands.
    verdict_behind c.take_value-state.result.1 c.args.self.now.state (Told c.args.n) taken c.take_value-state.ensures.verdict stands

pub returns-clause-kept : goal.returns-clause-kept
returns-clause-kept c = λ taken stands.
    kept_behind c.take_value-state.result.1 c.args.self.now.state c.take_value-state.result.0 (Told c.args.n) taken c.take_value-state.ensures.signs c.take_value-state.ensures.character stands
    c.take_value-state.ensures.kept
