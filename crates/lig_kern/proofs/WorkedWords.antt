-- The worked words, by computing.
use Rattle.std.specs.Prelude.{refl}
use Rattle.lig_kern.specs.Elements.{between}
use Rattle.lig_kern.specs.Rewriting.{moved_on, rewritten, after}
use Rattle.lig_kern.specs.Settling.{rewritings, settled}
use Rattle.lig_kern.specs.Examples.{WorkedWords}

pub worked_words : WorkedWords
unfolding between moved_on rewritten after rewritings settled
worked_words = record {
  kerned = refl;
  both = refl;
  both_before = refl;
  left_one = refl;
  left_one_passed = refl;
  right_one = refl;
  right_one_passed = refl;
  none = refl;
  none_passed = refl;
  none_passed_twice = refl;
  passed_on = refl;
  left_both = refl;
  left_right = refl;
  left_none = refl;
  right_both = refl;
  right_left = refl;
  right_right = refl;
  right_none = refl;
  endless = refl;
}
