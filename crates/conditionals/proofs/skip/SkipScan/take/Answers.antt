-- What one token does to the scan is what it does to the whole list.
use Rattle.conditionals.proofs.Scanning.{scan-tells}
use Rattle.conditionals.proofs.skip.SkipScan.take.Goals as goal

pub returns : goal.returns
returns c = record {
  tells = λ sought taken short stands.
      scan-tells sought taken _ _ _ _ short stands (rw c.word_of.ensures at c.take_word.ensures.tells) c.take_word.ensures.within;
}
