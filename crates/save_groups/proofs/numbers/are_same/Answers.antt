-- The comparison is that of the definition.
use Rattle.tokens.specs.Same.{same_answer}
use Rattle.save_groups.specs.Values.{same_numbers-decides}
use Rattle.save_groups.proofs.numbers.are_same.Goals as goal

pub returns : goal.returns
returns c = same_answer _ _ _ c.are_equal.ensures (same_numbers-decides _ _)
