-- Sums of positions, modulo 2^32.
use Rattle.std.proofs.Common.{◌≡◌, ℕ, suc, ◌+◌, ◌-◌, ◌*◌, ◌%◌, ◌^◌, ◌<◌, ℤ, pos, negsuc, ◌+ℤ◌, unsigned_abs, refl, ap, sym, arith, lit<}
use Rattle.std.specs.Int.{w32, cast_signed, cast_unsigned, int_wrap}
use Rattle.std.specs.Int.RustNames.{FitsSigned}
use Rattle.std.proofs.lemmas.Int.{int_rem_euclid_is, ints}
use Rattle.dvi_out.specs.SpellingWalk.{plus}

-- a number that is added to the bits of a position
pub onward-is : (place : ℤ) (by : ℕ) → FitsSigned w32 place →
    cast_signed w32 ((cast_unsigned w32 place + by) % 2 ^ 32) ≡ plus place (pos by)
unfolding int_wrap
onward-is (pos p) by fits = refl
onward-is (negsuc p) by fits =
    let small : p < 2 ^ 31 = fits.sfits in
    let sum : (negsuc p +ℤ pos by) +ℤ pos (1 * 2 ^ 32) ≡ pos ((2 ^ 32 - suc p) + by) = omega (arith, ints) in
    sym (ap (λ (r : ℤ). cast_signed w32 (unsigned_abs r))
    (int_rem_euclid_is (negsuc p +ℤ pos by) (pos (2 ^ 32)) (2 ^ 32) 1 ((2 ^ 32 - suc p) + by) (lit< tt) refl sum))
