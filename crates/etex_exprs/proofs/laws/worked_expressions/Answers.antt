use Rattle.etex_exprs.proofs.ExampleLaws as laws
use Rattle.etex_exprs.proofs.laws.worked_expressions.Goals as goal

pub returns : goal.returns
returns c = laws.worked_expressions
