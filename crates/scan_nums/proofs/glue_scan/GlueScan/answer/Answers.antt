-- What is handed in leads from a state to one that stands for the longer list.
use Rattle.scan_nums.specs.Taken.{Told}
use Rattle.scan_nums.proofs.GlueLaws.{kept_behind, verdict_behind}
use Rattle.scan_nums.proofs.glue_scan.GlueScan.answer.Goals as goal

pub returns-clause-verdict : goal.returns-clause-verdict
returns-clause-verdict c = λ taken stands.
    verdict_behind c.args.self.now.mu c.args.self.now.state c.take_value-state.result (Told c.args.n) taken c.take_value-state.ensures.leads stands

pub returns-clause-kept : goal.returns-clause-kept
returns-clause-kept c = λ taken stands.
    kept_behind c.args.self.now.mu c.args.self.now.state c.take_value-state.result (Told c.args.n) taken c.take_value-state.ensures.leads stands
