-- The comparison is that of the definition.
use Rattle.tokens.specs.Same.{same_answer}
use Rattle.tokens.specs.TokenList.{same_tokens-decides}
use Rattle.tokens.proofs.list.TokenList.is_same.Goals as goal

pub returns-clause-value : goal.returns-clause-value
returns-clause-value c =
    rw (← c.as_slice.ensures, ← c.as_slice-2.ensures) (same_answer _ _ _ c.are_same.ensures (same_tokens-decides _ _))
