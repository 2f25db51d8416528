-- Every tree is read as itself.
use Rattle.std.proofs.Common.{◌≡◌, List, [], ◌∷◌, ◌++◌, refl, sym, ap, subst, ◌∙◌, append_assoc}
use Rattle.std.specs.Prelude.{⊤, Bool, true, false, if◌then◌else◌}
use Rattle.scan_nums.specs.declared.number.Number.{Number}
use Rattle.scan_nums.specs.Number.{is_of_phrase}
use Rattle.etex_exprs.specs.declared.mark.Operator.TheVariants as operators
use Rattle.etex_exprs.specs.declared.mark.Mark.{Mark}
use Rattle.etex_exprs.specs.declared.mark.Mark.TheVariants as mark
use Rattle.etex_exprs.specs.declared.sort.Sort.{Sort}
use Rattle.etex_exprs.specs.declared.sort.Sort.TheVariants.{Whole}
use Rattle.etex_exprs.specs.TermTreeParts.{phrase_of, is_mixed}
use Rattle.etex_exprs.specs.TermTree.{Word, Said, Value, Sum, alone, plus, minus, Term, single, times, over, Factor, operand, enclosed, sum_words, term_words, factor_words}
use Rattle.etex_exprs.specs.TermTreeReading.{Front, no_sum, added, subtracted, Product, no_term, multiplied, divided, Unfinished, Reading, before, begun, behind, end, mixed, nothing, read, read_before, read_behind, read_value, fresh, factor_sort, with_operator, sum_of, sum_with, term_with}
use Rattle.etex_exprs.specs.TermTreeLaws.{IsStart, IsOperand, SumIs, TermIs, FactorIs, read_words, last_factor, product_before, last_term, front_before, IsEnd, TreesAreRead}

-- a level
abbrev level : Sort → Front → Product → Unfinished
level sort f p = record { sort = sort; front = f; product = p }

-- what comes behind the words of a tree is read behind the tree
abbrev SumRead : Sum → Type 0
SumRead s = (sort : Sort) (us : List Unfinished) (rest : List Word) → SumIs s sort
    → read_words (before (level sort no_sum no_term) us) (sum_words s ++ rest)
    ≡ read_words (behind (level sort (front_before s) (product_before (last_term s))) us (last_factor (last_term s))) rest

abbrev TermRead : Term → Type 0
TermRead t = (sort : Sort) (f : Front) (us : List Unfinished) (rest : List Word) → TermIs t sort
    → read_words (before (level sort f no_term) us) (term_words t ++ rest)
    ≡ read_words (behind (level sort f (product_before t)) us (last_factor t)) rest

abbrev FactorRead : Factor → Type 0
FactorRead x = (u : Unfinished) (us : List Unfinished) (rest : List Word) → FactorIs x (factor_sort u)
    → read_words (before u us) (factor_words x ++ rest) ≡ read_words (behind u us x) rest

-- an operand
value_chosen : (b a : Bool) (x y : Reading) → b ≡ false → a ≡ true → (if b then x else (if a then y else nothing)) ≡ y
value_chosen b a x y e h = ap (λ c. if c then x else (if a then y else nothing)) e ∙ ap (λ c. if c then y else nothing) h

begins : (u : Unfinished) (us : List Unfinished) (m : Mark) → IsStart m → read_before u us m ≡ begun u us m
begins u us mark.Blank h = absurd h
begins u us mark.Open h = absurd h
begins u us mark.Close h = refl
begins u us (mark.Operator o) h = refl
begins u us mark.Relax h = refl
begins u us mark.Other h = refl

operand_read : (m : Mark) (n : Number) → FactorRead (operand m n)
operand_read m n u us rest h =
    ap (λ r. read_words (read r (Value n)) rest) (begins u us m h.0)
    ∙ ap (λ r. read_words r rest)
    (value_chosen (is_mixed (phrase_of (factor_sort u)) n) (is_of_phrase (phrase_of (factor_sort u)) n) (mixed u us m n) (behind u us (operand m n)) h.2 h.1)

-- a term is the one that it goes on from
term_again : (t : Term) → term_with (product_before t) (last_factor t) ≡ t
term_again (single f) = refl
term_again (times t f) = refl
term_again (over t f) = refl

sum_again : (s : Sum) → sum_with (front_before s) (last_term s) ≡ s
sum_again (alone t) = refl
sum_again (plus s t) = refl
sum_again (minus s t) = refl

whole_again : (sort : Sort) (s : Sum) → sum_of (level sort (front_before s) (product_before (last_term s))) (last_factor (last_term s)) ≡ s
whole_again sort s = ap (sum_with (front_before s)) (term_again (last_term s)) ∙ sum_again s

-- behind a product comes a factor
times_read : (t : Term) (x : Factor) → TermRead t → FactorRead x → TermRead (times t x)
times_read t x first second sort f us rest h =
    ap (read_words (before (level sort f no_term) us)) (append_assoc (term_words t) (Said (mark.Operator operators.Times) ∷ factor_words x) rest)
    ∙ (first sort f us (Said (mark.Operator operators.Times) ∷ (factor_words x ++ rest)) h.0
    ∙ (ap (λ y. read_words (before (level sort f (multiplied y)) us) (factor_words x ++ rest)) (term_again t)
    ∙ second (level sort f (multiplied t)) us rest h.1))

over_read : (t : Term) (x : Factor) → TermRead t → FactorRead x → TermRead (over t x)
over_read t x first second sort f us rest h =
    ap (read_words (before (level sort f no_term) us)) (append_assoc (term_words t) (Said (mark.Operator operators.Over) ∷ factor_words x) rest)
    ∙ (first sort f us (Said (mark.Operator operators.Over) ∷ (factor_words x ++ rest)) h.0
    ∙ (ap (λ y. read_words (before (level sort f (divided y)) us) (factor_words x ++ rest)) (term_again t)
    ∙ second (level sort f (divided t)) us rest h.1))

plus_read : (s : Sum) (t : Term) → SumRead s → TermRead t → SumRead (plus s t)
plus_read s t first second sort us rest h =
    ap (read_words (before (level sort no_sum no_term) us)) (append_assoc (sum_words s) (Said (mark.Operator operators.Plus) ∷ term_words t) rest)
    ∙ (first sort us (Said (mark.Operator operators.Plus) ∷ (term_words t ++ rest)) h.0
    ∙ (ap (λ y. read_words (before (level sort (added y) no_term) us) (term_words t ++ rest)) (whole_again sort s)
    ∙ second sort (added s) us rest h.1))

minus_read : (s : Sum) (t : Term) → SumRead s → TermRead t → SumRead (minus s t)
minus_read s t first second sort us rest h =
    ap (read_words (before (level sort no_sum no_term) us)) (append_assoc (sum_words s) (Said (mark.Operator operators.Minus) ∷ term_words t) rest)
    ∙ (first sort us (Said (mark.Operator operators.Minus) ∷ (term_words t ++ rest)) h.0
    ∙ (ap (λ y. read_words (before (level sort (subtracted y) no_term) us) (term_words t ++ rest)) (whole_again sort s)
    ∙ second sort (subtracted s) us rest h.1))

enclosed_read : (s : Sum) → SumRead s → FactorRead (enclosed s)
enclosed_read s inside u us rest h =
    ap (read_words (before (fresh (factor_sort u)) (u ∷ us))) (append_assoc (sum_words s) (Said mark.Close ∷ []) rest)
    ∙ (inside (factor_sort u) (u ∷ us) (Said mark.Close ∷ rest) h
    ∙ ap (λ y. read_words (behind u us (enclosed y)) rest) (whole_again (factor_sort u) s))

mutual
  sum_read : (s : Sum) → SumRead s
  sum_read (alone t) = λ sort us rest h. term_read t sort no_sum us rest h
  sum_read (plus s t) = plus_read s t (sum_read s) (term_read t)
  sum_read (minus s t) = minus_read s t (sum_read s) (term_read t)

  term_read : (t : Term) → TermRead t
  term_read (single x) = λ sort f us rest h. factor_read x (level sort f no_term) us rest h
  term_read (times t x) = times_read t x (term_read t) (factor_read x)
  term_read (over t x) = over_read t x (term_read t) (factor_read x)

  factor_read : (x : Factor) → FactorRead x
  factor_read (operand m n) = operand_read m n
  factor_read (enclosed s) = enclosed_read s (sum_read s)

end_read : (sort : Sort) (s : Sum) (m : Mark) → IsEnd m
    → read_behind (level sort (front_before s) (product_before (last_term s))) [] (last_factor (last_term s)) m
    ≡ end sort (sum_of (level sort (front_before s) (product_before (last_term s))) (last_factor (last_term s))) m
end_read sort s mark.Blank h = absurd h
end_read sort s (mark.Operator o) h = absurd h
end_read sort s mark.Open h = refl
end_read sort s mark.Close h = refl
end_read sort s mark.Relax h = refl
end_read sort s mark.Other h = refl

pub trees_are_read : TreesAreRead
trees_are_read sort s m h e =
    sum_read s sort [] (Said m ∷ []) h ∙ (end_read sort s m e ∙ ap (λ y. end sort y m) (whole_again sort s))
