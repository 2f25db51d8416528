use Rattle.etex_exprs.proofs.StepLaws.{answer_says}
use Rattle.etex_exprs.proofs.scan.ExprScan.answer.Goals as goal

pub returns-clause-value : goal.returns-clause-value
returns-clause-value c =
    answer_says c.args.self.now c.take_number.new.self c.take_number.result c.args.n c.requires.waits c.requires.kind c.take_number.ensures
