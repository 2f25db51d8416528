use Rattle.lig_kern.proofs.WorkedWords as laws
use Rattle.lig_kern.proofs.laws.worked_words.Goals as goal

pub returns : goal.returns
returns c = laws.worked_words
