-- A numeral's letters, once more, and a number by a table, a row further.
use Rattle.std.proofs.Common.{◌≡◌, ℕ, zero, suc, ◌+◌, ◌/◌, ◌%◌, ◌<◌, List, [], ◌∷◌, ◌++◌, map, drop, length, get_or, refl, sym, ap, ◌∙◌, append_assoc, add-one, ◌≤◌}
use Rattle.std.proofs.lemmas.List.{drop_more, drop_all}
use Rattle.scaled.specs.ArithmeticRoman.{repeated, by_numerals}
use Rattle.scaled.specs.declared.numerals.Numeral.{Numeral}
use Rattle.scaled.specs.Numeral.{entry_of, value_of, letters_of}

append_nil : (xs : List ℕ) → xs ++ [] ≡ xs
append_nil [] = refl
append_nil (x ∷ xs) = ap (λ (ys : List ℕ). x ∷ ys) (append_nil xs)

repeated-suc : (k : ℕ) (letters : List ℕ) → repeated (suc k) letters ≡ repeated k letters ++ letters
repeated-suc zero letters = append_nil letters
repeated-suc (suc k) letters =
    ap (λ (ys : List ℕ). letters ++ ys) (repeated-suc k letters) ∙ sym (append_assoc letters (repeated k letters) letters)

repeated_more : (k : ℕ) (letters : List ℕ) → repeated (k + 1) letters ≡ repeated k letters ++ letters
repeated_more k letters = rw add-one (repeated-suc k letters)

-- letters, once more, behind what is written
pub repeated_step : (k : ℕ) (letters old text new : List ℕ) → text ≡ old ++ repeated k letters → new ≡ text ++ letters → new ≡ old ++ repeated (k + 1) letters
repeated_step k letters old text new before step =
    step ∙ ap (λ (xs : List ℕ). xs ++ letters) before ∙ append_assoc old (repeated k letters) letters ∙ ap (λ (xs : List ℕ). old ++ xs) (sym (repeated_more k letters))

-- a row further
by_numerals_more : (table : List Numeral) (i left : ℕ) (d : Numeral) → i < length table → by_numerals (map entry_of (drop i table)) left ≡ repeated (left / value_of (get_or table i d)) (letters_of (get_or table i d)) ++ by_numerals (map entry_of (drop (i + 1) table)) (left % value_of (get_or table i d))
by_numerals_more table i left d h = ap (λ (rows : List Numeral). by_numerals (map entry_of rows) left) (drop_more table i d h)

pub loop_more : (table : List Numeral) (i left : ℕ) (d : Numeral) (old new whole : List ℕ) → i < length table → old ++ by_numerals (map entry_of (drop i table)) left ≡ whole → new ≡ old ++ repeated (left / value_of (get_or table i d)) (letters_of (get_or table i d)) → new ++ by_numerals (map entry_of (drop (i + 1) table)) (left % value_of (get_or table i d)) ≡ whole
loop_more table i left d old new whole h before step =
    let row = get_or table i d in
    ap (λ (xs : List ℕ). xs ++ by_numerals (map entry_of (drop (i + 1) table)) (left % value_of row)) step
    ∙ append_assoc old (repeated (left / value_of row) (letters_of row)) (by_numerals (map entry_of (drop (i + 1) table)) (left % value_of row))
    ∙ ap (λ (xs : List ℕ). old ++ xs) (sym (by_numerals_more table i left d h))
    ∙ before

pub loop_end : (table : List Numeral) (i left : ℕ) (text whole : List ℕ) → length table ≤ i → text ++ by_numerals (map entry_of (drop i table)) left ≡ whole → text ≡ whole
loop_end table i left text whole h e =
    sym (append_nil text) ∙ ap (λ (rows : List Numeral). text ++ by_numerals (map entry_of rows) left) (sym (drop_all i table h)) ∙ e
