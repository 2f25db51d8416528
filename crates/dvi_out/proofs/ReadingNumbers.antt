-- Numbers in bytes, read back.
use Rattle.std.proofs.Common.{◌≡◌, ℕ, suc, ◌-◌, ◌%◌, ◌^◌, ◌<◌, ℤ, pos, negsuc, ◌-ℤ◌, unsigned_abs, List, ◌++◌, true, false, nat_lt, cond, refl, ap, ◌∙◌, arith}
use Rattle.std.proofs.Math.Nat.{mod-eq_of_lt}
use Rattle.std.specs.Int.{w32, cast_unsigned}
use Rattle.std.specs.Int.RustNames.{FitsSigned}
use Rattle.std.proofs.lemmas.Int.{ints}
use Rattle.std.proofs.lemmas.Bool.{cond_both, ltb-true}
use Rattle.std.proofs.lemmas.Bool.Decides.{nat_tests}
use Rattle.byteorder.specs.Endian.{big_number, twos_complement}
use Rattle.byteorder.specs.Numbers.{big_from-bytes}
use Rattle.dvi_out.specs.DviReading.{signed}
use Rattle.dvi_out.specs.SpellingPage.{four, one, lowest, bytes_for}

-- ---- what two's complement makes of the lowest bytes of a number

complement1 : (z : ℤ) → unsigned_abs z < 2 ^ 7 → twos_complement 1 (cast_unsigned w32 z % 256 ^ 1) ≡ z
complement1 (pos n) small =
    let low : n % 256 ^ 1 ≡ n = mod-eq_of_lt (omega arith) in
    let under : nat_lt n (2 ^ 7) ≡ true = grind (arith, nat_tests) in
    rw (low, under) refl
complement1 (negsuc n) small =
    let low : (2 ^ 32 - suc n) % 256 ^ 1 ≡ 2 ^ 8 - suc n = omega arith in
    let over : nat_lt (2 ^ 8 - suc n) (2 ^ 7) ≡ false = grind (arith, nat_tests) in
    let back : pos (2 ^ 8 - suc n) -ℤ pos (2 ^ 8) ≡ negsuc n = omega (arith, ints) in
    rw (low, over) back

-- a number in 1 bytes
pub back1 : (z : ℤ) (rest : List ℕ) → unsigned_abs z < 2 ^ 7 → signed 1 (lowest 1 z ++ rest) ≡ z
back1 z rest small =
    ap (twos_complement 1) (big_from-bytes 1 (cast_unsigned w32 z) rest) ∙ complement1 z small

complement2 : (z : ℤ) → unsigned_abs z < 2 ^ 15 → twos_complement 2 (cast_unsigned w32 z % 256 ^ 2) ≡ z
complement2 (pos n) small =
    let low : n % 256 ^ 2 ≡ n = mod-eq_of_lt (omega arith) in
    let under : nat_lt n (2 ^ 15) ≡ true = grind (arith, nat_tests) in
    rw (low, under) refl
complement2 (negsuc n) small =
    let low : (2 ^ 32 - suc n) % 256 ^ 2 ≡ 2 ^ 16 - suc n = omega arith in
    let over : nat_lt (2 ^ 16 - suc n) (2 ^ 15) ≡ false = grind (arith, nat_tests) in
    let back : pos (2 ^ 16 - suc n) -ℤ pos (2 ^ 16) ≡ negsuc n = omega (arith, ints) in
    rw (low, over) back

-- a number in 2 bytes
pub back2 : (z : ℤ) (rest : List ℕ) → unsigned_abs z < 2 ^ 15 → signed 2 (lowest 2 z ++ rest) ≡ z
back2 z rest small =
    ap (twos_complement 2) (big_from-bytes 2 (cast_unsigned w32 z) rest) ∙ complement2 z small

complement3 : (z : ℤ) → unsigned_abs z < 2 ^ 23 → twos_complement 3 (cast_unsigned w32 z % 256 ^ 3) ≡ z
complement3 (pos n) small =
    let low : n % 256 ^ 3 ≡ n = mod-eq_of_lt (omega arith) in
    let under : nat_lt n (2 ^ 23) ≡ true = grind (arith, nat_tests) in
    rw (low, under) refl
complement3 (negsuc n) small =
    let low : (2 ^ 32 - suc n) % 256 ^ 3 ≡ 2 ^ 24 - suc n = omega arith in
    let over : nat_lt (2 ^ 24 - suc n) (2 ^ 23) ≡ false = grind (arith, nat_tests) in
    let back : pos (2 ^ 24 - suc n) -ℤ pos (2 ^ 24) ≡ negsuc n = omega (arith, ints) in
    rw (low, over) back

-- a number in 3 bytes
pub back3 : (z : ℤ) (rest : List ℕ) → unsigned_abs z < 2 ^ 23 → signed 3 (lowest 3 z ++ rest) ≡ z
back3 z rest small =
    ap (twos_complement 3) (big_from-bytes 3 (cast_unsigned w32 z) rest) ∙ complement3 z small

complement4 : (z : ℤ) → FitsSigned w32 z → twos_complement 4 (cast_unsigned w32 z % 256 ^ 4) ≡ z
complement4 (pos n) small =
    let within : n < 2 ^ 31 = small.sfits in
    let low : n % 256 ^ 4 ≡ n = mod-eq_of_lt (omega arith) in
    let under : nat_lt n (2 ^ 31) ≡ true = grind (arith, nat_tests) in
    rw (low, under) refl
complement4 (negsuc n) small =
    let within : n < 2 ^ 31 = small.sfits in
    let low : (2 ^ 32 - suc n) % 256 ^ 4 ≡ 2 ^ 32 - suc n = omega arith in
    let over : nat_lt (2 ^ 32 - suc n) (2 ^ 31) ≡ false = grind (arith, nat_tests) in
    let back : pos (2 ^ 32 - suc n) -ℤ pos (2 ^ 32) ≡ negsuc n = omega (arith, ints) in
    rw (low, over) back

-- a number in 4 bytes
pub back4 : (z : ℤ) (rest : List ℕ) → FitsSigned w32 z → signed 4 (lowest 4 z ++ rest) ≡ z
back4 z rest small =
    ap (twos_complement 4) (big_from-bytes 4 (cast_unsigned w32 z) rest) ∙ complement4 z small

-- ---- numbers in one and in four bytes

pub one_back : (n : ℕ) (rest : List ℕ) → n < 256 → big_number 1 (one n ++ rest) ≡ n
one_back n rest small = big_from-bytes 1 n rest ∙ mod-eq_of_lt small

pub four_back : (n : ℕ) (rest : List ℕ) → n < 2 ^ 32 → big_number 4 (four n ++ rest) ≡ n
four_back n rest small = big_from-bytes 4 n rest ∙ mod-eq_of_lt small

-- one of the four lengths of a width
pub by_size : (P : ℕ → Type 0) (z : ℤ) → (unsigned_abs z < 2 ^ 7 → P 1) → (unsigned_abs z < 2 ^ 15 → P 2) →
    (unsigned_abs z < 2 ^ 23 → P 3) → P 4 → P (bytes_for z)
by_size P z one two three four =
    cond_both (nat_lt (unsigned_abs z) (2 ^ 7)) 1 (cond (nat_lt (unsigned_abs z) (2 ^ 15)) 2 (cond (nat_lt (unsigned_abs z) (2 ^ 23)) 3 4))
    P (λ e. one (ltb-true (unsigned_abs z) (2 ^ 7) e))
    (λ _. cond_both (nat_lt (unsigned_abs z) (2 ^ 15)) 2 (cond (nat_lt (unsigned_abs z) (2 ^ 23)) 3 4)
    P (λ e. two (ltb-true (unsigned_abs z) (2 ^ 15) e))
    (λ _. cond_both (nat_lt (unsigned_abs z) (2 ^ 23)) 3 4 P (λ e. three (ltb-true (unsigned_abs z) (2 ^ 23) e)) (λ _. four)))
