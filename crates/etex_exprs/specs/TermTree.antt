-- Expressions: their grammar, as the words that a tree is written with, and the value of a tree.
--     sum:     a term, or a sum, `+` or `-` and a term
--     term:    a factor, or a term, `*` or `/` and a factor
--     factor:  an operand, or a sum in parentheses
-- Operands of `*` and `/` are whole numbers; all other operands are of the expression's own sort.
-- From: the e-TeX manual, section 3.5; etex.ch, "scan_expr".
use Rattle.std.specs.Prelude.{◌≡◌, ℕ, Bool, true, false, ℤ, pos, List, [], ◌∷◌, ◌++◌, Option, Some, None, option_and_then}
use Rattle.std.specs.Option.{option_map}
use Rattle.scaled.specs.declared.spacing.Glue.{Glue}
use Rattle.scan_nums.specs.declared.number.Number.{Number}
use Rattle.etex_exprs.specs.declared.sort.Sort.{Sort}
use Rattle.etex_exprs.specs.declared.sort.Sort.TheVariants.{Whole, Length, Spread, MuSpread}
use Rattle.etex_exprs.specs.declared.mark.Operator.TheVariants.{Plus, Minus, Times, Over}
use Rattle.etex_exprs.specs.declared.mark.Mark.{Mark}
use Rattle.etex_exprs.specs.declared.mark.Mark.TheVariants.{Blank, Open, Close, Operator, Relax, Other}
use Rattle.etex_exprs.specs.TermTreeParts.{bound_of, parts_of, multiplied, divided, scaled_by, glue_sum, glue_difference, checked}

-- ---- what an expression is written with

-- a token by what it is to an expression, or the value of an operand
pub data Word : Type 0 where
  Said : Mark → Word
  Value : Number → Word

-- ---- trees

-- an operand is the token that it begins with, which its own phrase reads again, and the phrase's value
mutual
  pub data Sum : Type 0 where
    alone : Term → Sum
    plus : Sum → Term → Sum
    minus : Sum → Term → Sum

  pub data Term : Type 0 where
    single : Factor → Term
    times : Term → Factor → Term
    over : Term → Factor → Term

  pub data Factor : Type 0 where
    operand : Mark → Number → Factor
    enclosed : Sum → Factor

-- the words of a tree, blanks left out
abbrev mutual
  pub sum_words : Sum → List Word
  sum_words (alone t) = term_words t
  sum_words (plus s t) = sum_words s ++ Said (Operator Plus) ∷ term_words t
  sum_words (minus s t) = sum_words s ++ Said (Operator Minus) ∷ term_words t

  pub term_words : Term → List Word
  term_words (single f) = factor_words f
  term_words (times t f) = term_words t ++ Said (Operator Times) ∷ factor_words f
  term_words (over t f) = term_words t ++ Said (Operator Over) ∷ factor_words f

  pub factor_words : Factor → List Word
  factor_words (operand m n) = Said m ∷ Value n ∷ []
  factor_words (enclosed s) = Said Open ∷ sum_words s ++ Said Close ∷ []

-- ---- the value of a tree

-- an operation on two values, where both are there
abbrev pub of_both : (Glue → Glue → Option Glue) → Option Glue → Option Glue → Option Glue
of_both f x y = option_and_then (λ a. option_and_then (f a) y) x

-- a product divided, where all three values are there: one fraction
abbrev pub of_three : ℤ → Option Glue → Option Glue → Option Glue → Option Glue
of_three bound x y z = option_and_then (λ a. option_and_then (λ b. option_and_then (λ c. scaled_by bound a b.width c.width) z) y) x

-- the value of a sum, a term, a factor, and of a factor as it was read, which its bound is not yet looked
-- at; nothing where an operation has none. A `/` directly behind a product makes one fraction of both.
abbrev mutual
  pub sum_value : Sum → Sort → Option Glue
  sum_value (alone t) sort = term_value t sort
  sum_value (plus s t) sort = of_both (glue_sum (bound_of sort)) (sum_value s sort) (term_value t sort)
  sum_value (minus s t) sort = of_both (glue_difference (bound_of sort)) (sum_value s sort) (term_value t sort)

  pub term_value : Term → Sort → Option Glue
  term_value (single f) sort = option_and_then (checked (bound_of sort)) (factor_value f sort)
  term_value (times t f) sort =
      of_both (λ g n. multiplied (bound_of sort) g n.width) (term_value t sort)
      (option_and_then (checked (bound_of Whole)) (factor_value f Whole))
  term_value (over (times t n) d) sort =
      of_three (bound_of sort) (term_value t sort)
      (option_and_then (checked (bound_of Whole)) (factor_value n Whole))
      (option_and_then (checked (bound_of Whole)) (factor_value d Whole))
  term_value (over (single f) d) sort =
      of_both (λ g n. divided (bound_of sort) g n.width)
      (option_and_then (checked (bound_of sort)) (factor_value f sort))
      (option_and_then (checked (bound_of Whole)) (factor_value d Whole))
  term_value (over (over t n) d) sort =
      of_both (λ g n. divided (bound_of sort) g n.width) (term_value (over t n) sort)
      (option_and_then (checked (bound_of Whole)) (factor_value d Whole))

  pub factor_value : Factor → Sort → Option Glue
  factor_value (operand m n) sort = Some (parts_of n)
  factor_value (enclosed s) sort = sum_value s sort

-- the value of an operand of `*` or `/`
abbrev pub whole_value : Factor → Option Glue
whole_value f = option_and_then (checked (bound_of Whole)) (factor_value f Whole)
