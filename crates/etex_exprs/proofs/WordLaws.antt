-- What was read is written with the words that were taken.
use Rattle.std.proofs.Common.{◌≡◌, List, [], ◌∷◌, ◌++◌, refl, sym, ap, subst, ◌∙◌, append_assoc}
use Rattle.std.proofs.lemmas.List.{append-nil}
use Rattle.std.specs.Prelude.{⊤, Bool, true, false, if◌then◌else◌}
use Rattle.scan_nums.specs.declared.number.Number.{Number}
use Rattle.scan_nums.specs.Number.{is_of_phrase}
use Rattle.scan_nums.specs.Taken.{Taken, Seen, Told, Resumed}
use Rattle.etex_exprs.specs.declared.mark.Operator as operator
use Rattle.etex_exprs.specs.declared.mark.Operator.TheVariants as operators
use Rattle.etex_exprs.specs.declared.mark.Mark.{Mark}
use Rattle.etex_exprs.specs.declared.mark.Mark.TheVariants as mark
use Rattle.etex_exprs.specs.declared.sort.Sort.{Sort}
use Rattle.etex_exprs.specs.TermTreeMarks.{mark_of}
use Rattle.etex_exprs.specs.TermTreeParts.{phrase_of, is_mixed}
use Rattle.etex_exprs.specs.TermTree.{Word, Said, Value, Sum, Term, Factor, operand, sum_words, term_words, factor_words}
use Rattle.etex_exprs.specs.TermTreeReading.{Front, no_sum, added, subtracted, Product, no_term, multiplied, divided, Unfinished, Reading, before, begun, behind, end, unclosed, mixed, nothing, reading, read, read_next, read_all, read_before, read_behind, read_value, fresh, factor_sort, with_operator, sum_of, sum_with, term_with, front_words, product_words, unfinished_words, outer_words, reading_words}
use Rattle.etex_exprs.specs.TermTreeLaws.{mark_words, taken_words, all_words, IsRead, WordsAreRead}

-- ---- the words of a whole sum

term_with_words : (p : Product) (f : Factor) → term_words (term_with p f) ≡ product_words p ++ factor_words f
term_with_words no_term f = refl
term_with_words (multiplied t) f = simp append_assoc
term_with_words (divided t) f = simp append_assoc

sum_with_words : (s : Front) (t : Term) → sum_words (sum_with s t) ≡ front_words s ++ term_words t
sum_with_words no_sum t = refl
sum_with_words (added s) t = simp append_assoc
sum_with_words (subtracted s) t = simp append_assoc

sum_of_words : (u : Unfinished) (f : Factor) → sum_words (sum_of u f) ≡ unfinished_words u ++ factor_words f
sum_of_words u f =
    sum_with_words u.front (term_with u.product f)
    ∙ (ap (λ w. front_words u.front ++ w) (term_with_words u.product f)
    ∙ sym (append_assoc (front_words u.front) (product_words u.product) (factor_words f)))

-- ---- one step

operator_words : (u : Unfinished) (us : List Unfinished) (f : Factor) (o : operator.Operator)
    → reading_words (before (with_operator u f o) us) ≡ reading_words (behind u us f) ++ Said (mark.Operator o) ∷ []
operator_words u us f operators.Plus =
    ap (λ w. outer_words us ++ ((w ++ Said (mark.Operator operators.Plus) ∷ []) ++ [])) (sum_of_words u f) ∙ simp (append_assoc, append-nil)
operator_words u us f operators.Minus =
    ap (λ w. outer_words us ++ ((w ++ Said (mark.Operator operators.Minus) ∷ []) ++ [])) (sum_of_words u f) ∙ simp (append_assoc, append-nil)
operator_words u us f operators.Times =
    ap (λ w. outer_words us ++ (front_words u.front ++ (w ++ Said (mark.Operator operators.Times) ∷ []))) (term_with_words u.product f) ∙ simp append_assoc
operator_words u us f operators.Over =
    ap (λ w. outer_words us ++ (front_words u.front ++ (w ++ Said (mark.Operator operators.Over) ∷ []))) (term_with_words u.product f) ∙ simp append_assoc

close_words : (u o : Unfinished) (us : List Unfinished) (f : Factor)
    → reading_words (read_behind u (o ∷ us) f mark.Close) ≡ reading_words (behind u (o ∷ us) f) ++ Said mark.Close ∷ []
close_words u o us f =
    ap (λ w. (outer_words us ++ unfinished_words o) ++ (Said mark.Open ∷ w ++ Said mark.Close ∷ [])) (sum_of_words u f) ∙ simp append_assoc

end_words : (u : Unfinished) (f : Factor) (m : Mark) → reading_words (end u.sort (sum_of u f) m) ≡ reading_words (behind u [] f) ++ Said m ∷ []
end_words u f m = ap (λ w. w ++ Said m ∷ []) (sum_of_words u f) ∙ simp append_assoc

behind_words : (u : Unfinished) (us : List Unfinished) (f : Factor) (m : Mark) → reading_words (read_behind u us f m) ≡ reading_words (behind u us f) ++ mark_words m
behind_words u us f mark.Blank = sym (append-nil (reading_words (behind u us f)))
behind_words u us f (mark.Operator o) = operator_words u us f o
behind_words u [] f mark.Open = end_words u f mark.Open
behind_words u [] f mark.Close = end_words u f mark.Close
behind_words u [] f mark.Relax = end_words u f mark.Relax
behind_words u [] f mark.Other = end_words u f mark.Other
behind_words u (o ∷ us) f mark.Close = close_words u o us f
behind_words u (o ∷ us) f mark.Open = simp append_assoc
behind_words u (o ∷ us) f mark.Relax = simp append_assoc
behind_words u (o ∷ us) f mark.Other = simp append_assoc

before_words : (u : Unfinished) (us : List Unfinished) (m : Mark) → reading_words (read_before u us m) ≡ reading_words (before u us) ++ mark_words m
before_words u us mark.Blank = sym (append-nil (reading_words (before u us)))
before_words u us mark.Open = simp (append_assoc, append-nil)
before_words u us mark.Close = simp append_assoc
before_words u us (mark.Operator o) = simp append_assoc
before_words u us mark.Relax = simp append_assoc
before_words u us mark.Other = simp append_assoc

value_case : (b a : Bool) (u : Unfinished) (us : List Unfinished) (m : Mark) (n : Number) → IsRead (if b then mixed u us m n else (if a then behind u us (operand m n) else nothing))
    → reading_words (if b then mixed u us m n else (if a then behind u us (operand m n) else nothing)) ≡ reading_words (begun u us m) ++ Value n ∷ []
value_case true a u us m n h = simp append_assoc
value_case false true u us m n h = simp append_assoc
value_case false false u us m n h = absurd h

next_words : (r : Reading) (x : Taken) → IsRead (read_next r x) → reading_words (read_next r x) ≡ reading_words r ++ taken_words x
next_words (before u us) (Seen t m) h = before_words u us (mark_of t m)
next_words (behind u us f) (Seen t m) h = behind_words u us f (mark_of t m)
next_words (begun u us m) (Told n) h =
    value_case (is_mixed (phrase_of (factor_sort u)) n) (is_of_phrase (phrase_of (factor_sort u)) n) u us m n h
next_words (before u us) (Told n) h = absurd h
next_words (behind u us f) (Told n) h = absurd h
next_words (begun u us k) (Seen t m) h = absurd h
next_words (end sort s k) (Seen t m) h = absurd h
next_words (end sort s k) (Told n) h = absurd h
next_words (unclosed u o us f k) (Seen t m) h = absurd h
next_words (unclosed u o us f k) (Told n) h = absurd h
next_words (mixed u us k v) (Seen t m) h = absurd h
next_words (mixed u us k v) (Told n) h = absurd h
next_words nothing (Seen t m) h = absurd h
next_words nothing (Told n) h = absurd h
next_words r Resumed h = absurd h

-- ---- all steps

nothing_more : (more : List Taken) → read_all nothing more ≡ nothing
nothing_more [] = refl
nothing_more (Seen t m ∷ more) = nothing_more more
nothing_more (Told n ∷ more) = nothing_more more
nothing_more (Resumed ∷ more) = nothing_more more

read_before_all : (r : Reading) (more : List Taken) → IsRead (read_all r more) → IsRead r
read_before_all (before u us) more h = tt
read_before_all (begun u us m) more h = tt
read_before_all (behind u us f) more h = tt
read_before_all (end sort s m) more h = tt
read_before_all (unclosed u o us f m) more h = tt
read_before_all (mixed u us m n) more h = tt
read_before_all nothing more h =
    let P : Reading → Type 0 = λ r. IsRead r in
    subst P (nothing_more more) h

all_steps : (r : Reading) (taken : List Taken) → IsRead (read_all r taken) → reading_words (read_all r taken) ≡ reading_words r ++ all_words taken
all_steps r [] h = sym (append-nil (reading_words r))
all_steps r (x ∷ more) h =
    all_steps (read_next r x) more h
    ∙ (ap (λ w. w ++ all_words more) (next_words r x (read_before_all (read_next r x) more h))
    ∙ append_assoc (reading_words r) (taken_words x) (all_words more))

pub words_are_read : WordsAreRead
words_are_read sort taken h = all_steps (before (fresh sort) []) taken h
