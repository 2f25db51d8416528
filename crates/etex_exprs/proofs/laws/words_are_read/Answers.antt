use Rattle.etex_exprs.proofs.WordLaws as laws
use Rattle.etex_exprs.proofs.laws.words_are_read.Goals as goal

pub returns : goal.returns
returns c = laws.words_are_read
