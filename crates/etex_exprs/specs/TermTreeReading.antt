-- A beginning of an expression: the trees that are whole, and what still waits for its end; and what is
-- wanted behind it.
-- From: the e-TeX manual, section 3.5; etex.ch, "scan_expr". An operand is looked at, and an operation carried
-- out, once the operator or the end behind it was read; a trouble then comes at once.
use Rattle.std.specs.Prelude.{◌≡◌, ℕ, Bool, true, false, ℤ, pos, List, [], ◌∷◌, ◌++◌, Option, Some, None, option_and_then, ◌&&◌, if◌then◌else◌}
use Rattle.std.specs.Option.{option_map, option_map_or, is_some}
use Rattle.scaled.specs.declared.spacing.Glue.{Glue}
use Rattle.tokens.specs.declared.kind.Kind.TheVariants.{ArithOverflow, MissingParenthesis, IncompatibleGlue}
use Rattle.scan_nums.specs.declared.number.Number.{Number}
use Rattle.scan_nums.specs.declared.verdict.Verdict.{Verdict}
use Rattle.scan_nums.specs.declared.verdict.Verdict.TheVariants.{Need, Sub, Done, DoneBefore, Trouble}
use Rattle.scan_nums.specs.Number.{is_of_phrase}
use Rattle.scan_nums.specs.Taken.{Taken, Seen, Told, Resumed}
use Rattle.etex_exprs.specs.declared.sort.Sort.{Sort}
use Rattle.etex_exprs.specs.declared.sort.Sort.TheVariants.{Whole}
use Rattle.etex_exprs.specs.declared.mark.Operator as operator
use Rattle.etex_exprs.specs.declared.mark.Operator.TheVariants as operators
use Rattle.etex_exprs.specs.declared.mark.Mark.{Mark}
use Rattle.etex_exprs.specs.declared.mark.Mark.TheVariants.{Blank, Open, Close, Operator, Relax, Other}
use Rattle.etex_exprs.specs.TermTreeMarks.{mark_of}
use Rattle.etex_exprs.specs.TermTreeParts.{phrase_of, bound_of, number_of, checked, is_mixed}
use Rattle.etex_exprs.specs.TermTree.{Word, Said, Value, Sum, alone, plus, minus, Term, single, times, over, Factor, operand, enclosed, sum_words, term_words, factor_words, whole_value, sum_value, term_value, factor_value}

-- ---- unfinished trees

-- the sum in front of the last sign, with that sign
pub data Front : Type 0 where
  no_sum : Front
  added : Sum → Front
  subtracted : Sum → Front

-- the term in front of the last `*` or `/` behind that sign
pub data Product : Type 0 where
  no_term : Product
  multiplied : Term → Product
  divided : Term → Product

-- an expression, or one in parentheses, whose end wasn't read
pub record Unfinished : Type 0 where
  pub sort : Sort
  pub front : Front
  pub product : Product

-- what was read: `before` an operand, with an operand `begun`, `behind` a factor; or up to the `end` with the
-- mark of the token that ends it, or to a token that leaves a parenthesis `unclosed`, or to an operand
-- whose units are `mixed` up. The unfinished expressions are the innermost one, and those outside it, from the
-- inside. After all else nothing more is taken.
pub data Reading : Type 0 where
  before : Unfinished → List Unfinished → Reading
  begun : Unfinished → List Unfinished → Mark → Reading
  behind : Unfinished → List Unfinished → Factor → Reading
  end : Sort → Sum → Mark → Reading
  unclosed : Unfinished → Unfinished → List Unfinished → Factor → Mark → Reading
  mixed : Unfinished → List Unfinished → Mark → Number → Reading
  nothing : Reading

-- ---- the words of a beginning

abbrev pub front_words : Front → List Word
front_words no_sum = []
front_words (added s) = sum_words s ++ Said (Operator operators.Plus) ∷ []
front_words (subtracted s) = sum_words s ++ Said (Operator operators.Minus) ∷ []

abbrev pub product_words : Product → List Word
product_words no_term = []
product_words (multiplied t) = term_words t ++ Said (Operator operators.Times) ∷ []
product_words (divided t) = term_words t ++ Said (Operator operators.Over) ∷ []

abbrev pub unfinished_words : Unfinished → List Word
unfinished_words u = front_words u.front ++ product_words u.product

abbrev pub outer_words : List Unfinished → List Word
outer_words [] = []
outer_words (u ∷ us) = outer_words us ++ unfinished_words u ++ Said Open ∷ []

abbrev pub reading_words : Reading → List Word
reading_words (before u us) = outer_words us ++ unfinished_words u
reading_words (begun u us m) = outer_words us ++ unfinished_words u ++ Said m ∷ []
reading_words (behind u us f) = outer_words us ++ unfinished_words u ++ factor_words f
reading_words (end sort s m) = sum_words s ++ Said m ∷ []
reading_words (unclosed u o us f m) = outer_words (o ∷ us) ++ unfinished_words u ++ factor_words f ++ Said m ∷ []
reading_words (mixed u us m n) = outer_words us ++ unfinished_words u ++ Said m ∷ Value n ∷ []
reading_words nothing = []

-- ---- reading on

abbrev pub term_with : Product → Factor → Term
term_with no_term f = single f
term_with (multiplied t) f = times t f
term_with (divided t) f = over t f

abbrev pub sum_with : Front → Term → Sum
sum_with no_sum t = alone t
sum_with (added s) t = plus s t
sum_with (subtracted s) t = minus s t

abbrev pub sum_of : Unfinished → Factor → Sum
sum_of u f = sum_with u.front (term_with u.product f)

abbrev pub fresh : Sort → Unfinished
fresh sort = record { sort = sort; front = no_sum; product = no_term }

-- operands of `*` and `/` are whole numbers
abbrev pub factor_sort_behind : Product → Sort → Sort
factor_sort_behind no_term sort = sort
factor_sort_behind (multiplied t) sort = Whole
factor_sort_behind (divided t) sort = Whole

abbrev pub factor_sort : Unfinished → Sort
factor_sort u = factor_sort_behind u.product u.sort

abbrev pub with_operator : Unfinished → Factor → operator.Operator → Unfinished
with_operator u f operators.Plus = record { sort = u.sort; front = added (sum_of u f); product = no_term }
with_operator u f operators.Minus = record { sort = u.sort; front = subtracted (sum_of u f); product = no_term }
with_operator u f operators.Times = record { sort = u.sort; front = u.front; product = multiplied (term_with u.product f) }
with_operator u f operators.Over = record { sort = u.sort; front = u.front; product = divided (term_with u.product f) }

-- behind a factor
abbrev pub read_behind : Unfinished → List Unfinished → Factor → Mark → Reading
read_behind u us f Blank = behind u us f
read_behind u us f (Operator o) = before (with_operator u f o) us
read_behind u [] f Open = end u.sort (sum_of u f) Open
read_behind u [] f Close = end u.sort (sum_of u f) Close
read_behind u [] f Relax = end u.sort (sum_of u f) Relax
read_behind u [] f Other = end u.sort (sum_of u f) Other
read_behind u (o ∷ us) f Close = behind o us (enclosed (sum_of u f))
read_behind u (o ∷ us) f Open = unclosed u o us f Open
read_behind u (o ∷ us) f Relax = unclosed u o us f Relax
read_behind u (o ∷ us) f Other = unclosed u o us f Other

-- in front of an operand
abbrev pub read_before : Unfinished → List Unfinished → Mark → Reading
read_before u us Blank = before u us
read_before u us Open = before (fresh (factor_sort u)) (u ∷ us)
read_before u us Close = begun u us Close
read_before u us (Operator o) = begun u us (Operator o)
read_before u us Relax = begun u us Relax
read_before u us Other = begun u us Other

-- the value of an operand
abbrev pub read_value : Unfinished → List Unfinished → Mark → Number → Reading
read_value u us m n =
    if is_mixed (phrase_of (factor_sort u)) n then mixed u us m n
    else (if is_of_phrase (phrase_of (factor_sort u)) n then behind u us (operand m n) else nothing)

abbrev pub read : Reading → Word → Reading
read (before u us) (Said m) = read_before u us m
read (before u us) (Value n) = nothing
read (begun u us m) (Said m') = nothing
read (begun u us m) (Value n) = read_value u us m n
read (behind u us f) (Said m) = read_behind u us f m
read (behind u us f) (Value n) = nothing
read (end sort s m) w = nothing
read (unclosed u o us f m) w = nothing
read (mixed u us m n) w = nothing
read nothing w = nothing

-- a token with its meaning, or the value of an operand; an expression passes over no trouble
abbrev pub read_next : Reading → Taken → Reading
read_next r (Seen t m) = read r (Said (mark_of t m))
read_next r (Told n) = read r (Value n)
read_next r Resumed = nothing

abbrev pub read_all : Reading → List Taken → Reading
read_all r [] = r
read_all r (x ∷ more) = read_all (read_next r x) more

-- what was read where all this was taken
abbrev pub reading : Sort → List Taken → Reading
reading sort taken = read_all (before (fresh sort) []) taken

-- ---- what is wanted

-- whether all has a value of which the operator behind it was read; a product that is divided isn't
-- carried out
abbrev pub has_front : Front → Sort → Bool
has_front no_sum sort = true
has_front (added s) sort = is_some (sum_value s sort)
has_front (subtracted s) sort = is_some (sum_value s sort)

abbrev pub has_product : Product → Sort → Bool
has_product no_term sort = true
has_product (multiplied t) sort = is_some (term_value t sort)
has_product (divided (times t n)) sort = is_some (term_value t sort) && is_some (whole_value n)
has_product (divided (single f)) sort = is_some (term_value (single f) sort)
has_product (divided (over t n)) sort = is_some (term_value (over t n) sort)

abbrev pub has_values : Unfinished → Bool
has_values u = has_front u.front u.sort && has_product u.product u.sort

abbrev pub all_have_values : List Unfinished → Bool
all_have_values [] = true
all_have_values (u ∷ us) = has_values u && all_have_values us

abbrev pub overflow : Verdict
overflow = Trouble ArithOverflow

-- one `\relax` behind the expression belongs to it, and any other token doesn't
abbrev pub ended : Mark → Number → Verdict
ended Relax n = Done n
ended Blank n = DoneBefore n 1
ended Open n = DoneBefore n 1
ended Close n = DoneBefore n 1
ended (Operator o) n = DoneBefore n 1
ended Other n = DoneBefore n 1

abbrev pub wanted_behind : Reading → Option Verdict
wanted_behind (before u us) = Some (if has_values u && all_have_values us then Need else overflow)
wanted_behind (begun u us m) =
    Some (if has_values u && all_have_values us then Sub (phrase_of (factor_sort u)) else overflow)
wanted_behind (behind u us f) =
    Some (if (has_values u && all_have_values us) && is_some (factor_value f (factor_sort u)) then Need else overflow)
wanted_behind (end sort s m) = Some (option_map_or (λ g. ended m (number_of sort g)) (sum_value s sort) overflow)
wanted_behind (unclosed u o us f m) = Some (Trouble MissingParenthesis)
wanted_behind (mixed u us m n) = Some (Trouble IncompatibleGlue)
wanted_behind nothing = None

-- what is wanted behind all this; nothing is, where it is no beginning of an expression
abbrev pub wanted : Sort → List Taken → Option Verdict
wanted sort taken = wanted_behind (reading sort taken)
