-- The column after bytes that are put as they are, counted in one go.
use Rattle.std.proofs.Common.{◌≡◌, ℕ, suc, ◌+◌, ◌%◌, ◌<◌, List, [], ◌∷◌, length, arith, cond, true, false, Bool, refl, ◌∙◌, ap}
use Rattle.std.proofs.lemmas.Bool.Decides.{nat_tests}
use Rattle.std.specs.Prelude.{nat_lt}
use Rattle.world.specs.Printed.{Strip, bytes_put, byte_put}

column-if : (b : Bool) (s t : Strip) → (cond b s t).column ≡ cond b s.column t.column
column-if true s t = refl
column-if false s t = refl

wraps : (column : ℕ) → column < 79 → cond (nat_lt column 78) (column + 1) 0 ≡ (column + 1) % 79
wraps column h = grind (arith, nat_tests)

column-byte_put : (byte column : ℕ) → column < 79 → (byte_put byte column).column ≡ (column + 1) % 79
column-byte_put byte column h =
    let inside : Strip = record { bytes = byte ∷ []; column = column + 1 } in
    let at_end : Strip = record { bytes = byte ∷ 10 ∷ []; column = 0 } in
    column-if (nat_lt column 78) inside at_end ∙ wraps column h

again : (column n : ℕ) → ((column + 1) % 79 + n) % 79 ≡ (column + suc n) % 79
again column n = omega arith

in_line : (c d : ℕ) → c ≡ d % 79 → c < 79
in_line c d e = omega arith

pub column_of_bytes : (bytes : List ℕ) (column : ℕ) → column < 79 → (bytes_put bytes column).column ≡ (column + length bytes) % 79
column_of_bytes [] column h = omega arith
column_of_bytes (byte ∷ rest) column h =
    let next = column-byte_put byte column h in
    column_of_bytes rest (byte_put byte column).column (in_line _ _ next)
    ∙ ap (λ (c : ℕ). (c + length rest) % 79) next
    ∙ again column (length rest)
