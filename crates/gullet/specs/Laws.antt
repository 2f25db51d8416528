-- What holds of expansion, of the definitions alone.
use Rattle.asking.specs.Seen.{Outside}
use Rattle.phrases.specs.Laws.{NextLaw, EnoughLaw, next_law, enough_law}
use Rattle.gullet.specs.Expansion.{rules}

-- what a phrase gives from what it has taken is what it gives once the next token, or what an inner phrase tells, was
-- moved to what is taken; and where some turns suffice, more turns mean the same
pub record PhraseLaw : Type 0 where
  pub next : (o : Outside) → NextLaw (rules o)
  pub enough : (o : Outside) → EnoughLaw (rules o)

-- ---- laws

pub phrase_law : PhraseLaw
phrase_law = record { next = λ o. next_law (rules o); enough = λ o. enough_law (rules o) }
