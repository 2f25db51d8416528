use Rattle.etex_exprs.proofs.TreeLaws as laws
use Rattle.etex_exprs.proofs.laws.trees_are_read.Goals as goal

pub returns : goal.returns
returns c = laws.trees_are_read
