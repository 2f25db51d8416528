-- Bytes that are shown as they are, as far as they stay within the line, are a strip by themselves.
use Rattle.std.proofs.Common.{◌≡◌, ℕ, ℤ, zero, suc, ◌+◌, ◌<◌, ◌≤◌, Bool, true, false, cond, List, [], ◌∷◌, ◌++◌, ◌&&◌, length, take, drop, refl, sym, ap, ◌∙◌, append_assoc, arith, rules}
use Rattle.std.proofs.lemmas.Bool.Decides.{nat_tests}
use Rattle.std.specs.Prelude.{nat_lt, nat_le, not}
use Rattle.std.specs.List.{list_all}
use Rattle.world.specs.Printed.{Strip, is_plain, is_newline, byte_printed, bytes_put, visible, printed, followed, line_ended}

first_holds : (a b : Bool) → (a && b) ≡ true → a ≡ true
first_holds true b h = refl
first_holds false b h = h

second_holds : (a b : Bool) → (a && b) ≡ true → b ≡ true
second_holds true b h = h
second_holds false b h = search rules

is_false : (b : Bool) → not b ≡ true → b ≡ false
is_false true h = cc
is_false false h = refl

cond-at_true : {A : Type 0} (b : Bool) (s t : A) → b ≡ true → cond b s t ≡ s
cond-at_true true s t h = refl
cond-at_true false s t h = cc

cond-at_false : {A : Type 0} (b : Bool) (s t : A) → b ≡ false → cond b s t ≡ t
cond-at_false true s t h = cc
cond-at_false false s t h = refl

not_below : (x : ℕ) → nat_le 32 x ≡ true → nat_lt x 32 ≡ false
not_below x h = grind (arith, nat_tests)

below : (x : ℕ) → nat_le x 126 ≡ true → nat_lt x 127 ≡ true
below x h = grind (arith, nat_tests)

within : (column : ℕ) → column + 1 < 79 → nat_lt column 78 ≡ true
within column h = grind (arith, nat_tests)

visible-plain : (x : ℕ) → nat_le 32 x ≡ true → nat_le x 126 ≡ true → visible x ≡ x ∷ []
visible-plain x low high =
    cond-at_false (nat_lt x 32) _ _ (not_below x low)
    ∙ cond-at_true (nat_lt x 127) _ _ (below x high)

-- one byte that is shown as it is, and behind which the line goes on
byte_put-within : (x column : ℕ) → column + 1 < 79 → bytes_put (x ∷ []) column ≡ record { bytes = x ∷ []; column = column + 1 }
byte_put-within x column h =
    let inside : Strip = record { bytes = x ∷ []; column = column + 1 } in
    let at_end : Strip = record { bytes = x ∷ 10 ∷ []; column = 0 } in
    ap (λ (s : Strip). followed s (bytes_put [])) (cond-at_true (nat_lt column 78) inside at_end (within column h))

byte_printed-plain : (newline : ℤ) (x column : ℕ) → is_plain newline x ≡ true → column + 1 < 79 → byte_printed newline x column ≡ record { bytes = x ∷ []; column = column + 1 }
byte_printed-plain newline x column plain h =
    let range = first_holds _ _ plain in
    let low : nat_le 32 x ≡ true = first_holds _ _ range in
    let high : nat_le x 126 ≡ true = second_holds _ _ range in
    let stays : is_newline newline x ≡ false = is_false _ (second_holds _ _ plain) in
    cond-at_false (is_newline newline x) (line_ended column) (bytes_put (visible x) column) stays
    ∙ ap (λ (bytes : List ℕ). bytes_put bytes column) (visible-plain x low high)
    ∙ byte_put-within x column h

-- a run, and what is printed behind it
pub run_then_rest : (newline : ℤ) (n column : ℕ) (bytes : List ℕ) → n ≤ length bytes → column + n < 79 → list_all (is_plain newline) (take n bytes) ≡ true
    → printed newline bytes column ≡ record { bytes = take n bytes ++ (printed newline (drop n bytes) (column + n)).bytes; column = (printed newline (drop n bytes) (column + n)).column }
run_then_rest newline zero column bytes bound room plain =
    let here : column ≡ column + 0 = omega arith in
    ap (λ (c : ℕ). printed newline bytes c) here
run_then_rest newline (suc n) column [] bound room plain = absurd (omega arith)
run_then_rest newline (suc n) column (x ∷ xs) bound room plain =
    let shorter : n ≤ length xs = omega arith in
    let further : (column + 1) + n < 79 = omega arith in
    let one : column + 1 < 79 = omega arith in
    let place : (column + 1) + n ≡ column + suc n = omega arith in
    let rest = run_then_rest newline n (column + 1) xs shorter further (second_holds _ _ plain) in
    ap (λ (s : Strip). followed s (printed newline xs)) (byte_printed-plain newline x column (first_holds _ _ plain) one)
    ∙ ap (λ (s : Strip). let t : Strip = record { bytes = x ∷ s.bytes; column = s.column } in t) rest
    ∙ ap (λ (c : ℕ). let t : Strip = record { bytes = x ∷ (take n xs ++ (printed newline (drop n xs) c).bytes); column = (printed newline (drop n xs) c).column } in t) place

-- so with a run written, what is left to print is printed behind it
pub run_written : (newline : ℤ) (n column : ℕ) (bytes out run written : List ℕ) → n ≤ length bytes → column + n < 79 → list_all (is_plain newline) (take n bytes) ≡ true
    → run ≡ take n bytes → written ≡ out ++ run
    → written ++ (printed newline (drop n bytes) (column + n)).bytes ≡ out ++ (printed newline bytes column).bytes
run_written newline n column bytes out run written bound room plain taken added =
    let rest : List ℕ = (printed newline (drop n bytes) (column + n)).bytes in
    ap (λ (l : List ℕ). l ++ rest) (added ∙ ap (λ (l : List ℕ). out ++ l) taken)
    ∙ append_assoc out (take n bytes) rest
    ∙ ap (λ (s : Strip). out ++ s.bytes) (sym (run_then_rest newline n column bytes bound room plain))
