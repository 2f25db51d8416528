use Rattle.etex_exprs.proofs.StepLaws.{take_value, take_is_ready}
use Rattle.etex_exprs.proofs.scan.ExprScan.take.Goals as goal

pub returns-clause-value : goal.returns-clause-value
returns-clause-value c =
    take_value c.take_mark.result c.args.self.now c.take_mark.new.self c.mark_of.result c.args.token c.args.meaning.now c.mark_of.ensures c.requires
    c.take_mark.ensures.ok

pub returns-clause-ready : goal.returns-clause-ready
returns-clause-ready c =
    take_is_ready c.take_mark.result c.args.self.now c.take_mark.new.self c.mark_of.result c.requires c.take_mark.ensures.ok
