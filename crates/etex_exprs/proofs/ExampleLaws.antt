-- The worked expressions, by computing.
use Rattle.std.specs.Prelude.{refl}
use Rattle.etex_exprs.specs.TermTreeParts.{with_parts, of_parts, part_sum, quotient_of, multiplied, divided, scaled_by, negated, glue_sum, glue_difference, checked}
use Rattle.etex_exprs.specs.TermTreeExamples.{WorkedExpressions}

pub worked_expressions : WorkedExpressions
unfolding with_parts of_parts part_sum quotient_of multiplied divided scaled_by negated glue_sum glue_difference checked
worked_expressions = record {
  halves = refl;
  product_first = refl;
  parentheses = refl;
  from_the_left = refl;
  one_fraction = refl;
  large = refl;
  too_large = refl;
  not_yet = refl;
  at_once = refl;
  whole_operand = refl;
  unclosed = refl;
}
