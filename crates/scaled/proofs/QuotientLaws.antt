-- The truncated quotient leaves what it should, and the nearest whole number is nearest, and the only one.
use Rattle.std.proofs.Common.{◌≡◌, ℕ, zero, suc, ◌+◌, ◌*◌, ◌/◌, ◌<◌, ◌≤◌, ◌⊎◌, inl, inr, ℤ, pos, negsuc, ◌-ℤ◌, ◌*ℤ◌, neg_ℤ, unsigned_abs, int_div, int_rem, Option, Some, None, IfSome, is_some, option_and_then, int_le, nat_lt, ◌^◌, ◌<ℤ◌, ◌≤ℤ◌, ◌↔◌, false, to_z, of_z, w32, w64, refl, sym, ap, ◌∙◌, subst, arith}
use Rattle.std.proofs.lemmas.Int.{ints, quot-rem, rem_below, unsigned_abs-mul}
use Rattle.std.proofs.lemmas.Nat.{div-add-mod', mod_below, le-div}
use Rattle.std.proofs.Math.IntN.{zero-*ℤ, *ℤ-negsuc}
use lib.Signed.{clash_ℤ}
use Rattle.std.specs.Ordering.{int_eq}
use Rattle.std.proofs.lemmas.Bool.{cases_Bool, cond-true, cond-false, false≢true, lt-ltb, le-ltb}
use Rattle.std.proofs.lemmas.Bool.Decides.{Decides-int_eq}
use Rattle.scaled.specs.ArithmeticQuotients.{IsTruncated, IsNearest, nearest_whole, nearest_of, nearest_quotient, within, fraction_of, multiple_of}

-- ---- truncated

inward_of : (n : ℤ) (d : ℕ) → unsigned_abs (int_div n (pos d)) * d ≤ unsigned_abs n
inward_of (pos n) d = omega (arith, div-add-mod' n d)
inward_of (negsuc n) d =
    let e : unsigned_abs (neg_ℤ (pos (suc n / d))) ≡ suc n / d = omega (arith, ints) in
    rw e (omega (arith, div-add-mod' (suc n) d))

-- the truncated quotient and its rest are such a pair
pub IsTruncated-int_div : (n : ℤ) (d : ℕ) → 0 < d → IsTruncated n d (int_div n (pos d)) (int_rem n (pos d))
IsTruncated-int_div n d h = record {
  exact = quot-rem n (pos d);
  rest = rem_below n (pos d) h;
  inward = inward_of n d;
}

-- ---- nearest

-- the absolute value of the program's answer
abs-nearest_of : (n d : ℤ) → unsigned_abs (nearest_of n d) ≡ nearest_whole (unsigned_abs n) (unsigned_abs d)
abs-nearest_of (pos n) (pos d) = refl
abs-nearest_of (pos n) (negsuc d) = omega (arith, ints)
abs-nearest_of (negsuc n) (pos d) = omega (arith, ints)
abs-nearest_of (negsuc n) (negsuc d) = refl

-- twice the multiple of d, in absolute value
abs_double : (d q : ℤ) → unsigned_abs (pos 2 *ℤ d *ℤ q) ≡ 2 * unsigned_abs d * unsigned_abs q
abs_double d q = unsigned_abs-mul (pos 2 *ℤ d) q ∙ ap (λ k. k * unsigned_abs q) (unsigned_abs-mul (pos 2) d)

triangle : (x y : ℤ) → unsigned_abs y ≤ unsigned_abs x + unsigned_abs (x -ℤ y)
triangle x y = omega (arith, ints)

-- whatever is near is no longer than the program's answer
outward_of : (n d p : ℤ) → 0 < unsigned_abs d → unsigned_abs (pos 2 *ℤ n -ℤ pos 2 *ℤ d *ℤ p) ≤ unsigned_abs d → unsigned_abs p ≤ nearest_whole (unsigned_abs n) (unsigned_abs d)
outward_of n d p h near =
    le-div (unsigned_abs p) (2 * unsigned_abs n + unsigned_abs d) (2 * unsigned_abs d) (omega arith)
    (omega (arith, triangle (pos 2 *ℤ n) (pos 2 *ℤ d *ℤ p), abs_double d p, unsigned_abs-mul (pos 2) n))

-- the program's answer is near: for numbers without a sign, with m their nearest
near_whole : (n d m : ℕ) → 0 < d → m ≡ nearest_whole n d → unsigned_abs (pos (2 * n) -ℤ pos (2 * d * m)) ≤ d
near_whole n d m h e = omega (arith, ints, ap (λ k. 2 * d * k) e, div-add-mod' (2 * n + d) (2 * d), mod_below (2 * n + d) (2 * d) (omega arith))

-- products of numbers with and without a sign
neg-*ℤ-neg : (a b : ℕ) → neg_ℤ (pos a) *ℤ neg_ℤ (pos b) ≡ pos (a * b)
neg-*ℤ-neg zero b = zero-*ℤ (neg_ℤ (pos b)) ∙ omega (arith, ints)
neg-*ℤ-neg (suc a) zero = omega (arith, ints)
neg-*ℤ-neg (suc a) (suc b) = refl

pos-*ℤ-neg : (a b : ℕ) → pos a *ℤ neg_ℤ (pos b) ≡ neg_ℤ (pos (a * b))
pos-*ℤ-neg a zero = omega (arith, ints)
pos-*ℤ-neg a (suc b) = refl

neg-*ℤ-pos : (a b : ℕ) → neg_ℤ (pos a) *ℤ pos b ≡ neg_ℤ (pos (a * b))
neg-*ℤ-pos zero b = omega (arith, ints)
neg-*ℤ-pos (suc a) b = refl

abs_both : (x y : ℤ) → unsigned_abs (neg_ℤ x -ℤ neg_ℤ y) ≡ unsigned_abs (x -ℤ y)
abs_both x y = omega (arith, ints)

near_of : (n d : ℤ) → 0 < unsigned_abs d → unsigned_abs (pos 2 *ℤ n -ℤ pos 2 *ℤ d *ℤ nearest_of n d) ≤ unsigned_abs d
near_of (pos n) (pos d) h = near_whole n d (nearest_whole n d) h refl
near_of (pos n) (negsuc d) h =
    let m = nearest_whole n (suc d) in
    rw (neg-*ℤ-neg (2 * suc d) m) (near_whole n (suc d) m h refl)
near_of (negsuc n) (pos d) h =
    let m = nearest_whole (suc n) d in
    rw (pos-*ℤ-neg (2 * d) m, abs_both (pos (2 * suc n)) (pos (2 * d * m))) (near_whole (suc n) d m h refl)
near_of (negsuc n) (negsuc d) h =
    let m = nearest_whole (suc n) (suc d) in
    rw (neg-*ℤ-pos (2 * suc d) m, abs_both (pos (2 * suc n)) (pos (2 * suc d * m))) (near_whole (suc n) (suc d) m h refl)

-- the program's answer is nearest
pub IsNearest-nearest_of : (n d : ℤ) → 0 < unsigned_abs d → IsNearest n d (nearest_of n d)
IsNearest-nearest_of n d h = record {
  near = near_of n d h;
  outward = λ p near. rw abs-nearest_of (outward_of n d p h near);
}

-- two opposite multiples aren't both near
opposite : (x y : ℤ) (b : ℕ) → unsigned_abs (x -ℤ y) ≤ b → unsigned_abs (x -ℤ neg_ℤ y) ≤ b → unsigned_abs y ≤ b
opposite x y b p q = omega (arith, ints)

apart : (n d : ℤ) (b : ℕ) → 0 < unsigned_abs d → unsigned_abs (pos 2 *ℤ n -ℤ pos 2 *ℤ d *ℤ pos (suc b)) ≤ unsigned_abs d → unsigned_abs (pos 2 *ℤ n -ℤ pos 2 *ℤ d *ℤ negsuc b) ≤ unsigned_abs d → ⊥
apart n d b h p q =
    let q' = subst (λ (y : ℤ). unsigned_abs (pos 2 *ℤ n -ℤ y) ≤ unsigned_abs d) (*ℤ-negsuc (pos 2 *ℤ d) b) q in
    let close = opposite (pos 2 *ℤ n) (pos 2 *ℤ d *ℤ pos (suc b)) (unsigned_abs d) p q' in
    absurd (omega (arith, close, abs_double d (pos (suc b)), h))

same_near : (n d p q : ℤ) → 0 < unsigned_abs d → unsigned_abs p ≡ unsigned_abs q → unsigned_abs (pos 2 *ℤ n -ℤ pos 2 *ℤ d *ℤ p) ≤ unsigned_abs d → unsigned_abs (pos 2 *ℤ n -ℤ pos 2 *ℤ d *ℤ q) ≤ unsigned_abs d → p ≡ q
same_near n d (pos a) (pos b) h e p q = ap pos e
same_near n d (pos a) (negsuc b) h e p q =
    absurd (apart n d b h (subst (λ (k : ℕ). unsigned_abs (pos 2 *ℤ n -ℤ pos 2 *ℤ d *ℤ pos k) ≤ unsigned_abs d) e p) q)
same_near n d (negsuc a) (pos b) h e p q =
    absurd (apart n d a h (subst (λ (k : ℕ). unsigned_abs (pos 2 *ℤ n -ℤ pos 2 *ℤ d *ℤ pos k) ≤ unsigned_abs d) (sym e) q) p)
same_near n d (negsuc a) (negsuc b) h e p q = omega (arith, ints, e)

-- and nothing else is
pub IsNearest-unique : (n d p q : ℤ) → 0 < unsigned_abs d → IsNearest n d p → IsNearest n d q → p ≡ q
IsNearest-unique n d p q h near_p near_q =
    same_near n d p q h (omega (arith, near_p.outward q near_q.near, near_q.outward p near_p.near)) near_p.near near_q.near

-- ---- the program's answer, or nothing at a divisor of 0

abs_positive : (d : ℤ) → (d ≡ pos 0 → ⊥) → 0 < unsigned_abs d
abs_positive (pos zero) h = absurd (h refl)
abs_positive (pos (suc d)) h = omega arith
abs_positive (negsuc d) h = omega arith

pub nearest_cases : (n d : ℤ) → ((d ≡ pos 0) × (nearest_quotient n d ≡ None)) ⊎ ((d ≡ pos 0 → ⊥) × (nearest_quotient n d ≡ Some (nearest_of n d)))
nearest_cases n d =
    elim (cases_Bool (int_eq d (pos 0))) [
      | inl is_zero ↦ inl ((Decides-int_eq d (pos 0)).0 is_zero, cond-true (int_eq d (pos 0)) None (Some (nearest_of n d)) is_zero)
      | inr not_zero ↦ inr (λ e. absurd (false≢true (sym not_zero ∙ (Decides-int_eq d (pos 0)).1 e)), cond-false (int_eq d (pos 0)) None (Some (nearest_of n d)) not_zero)
    ]

-- what a call that answers the program's answer has answered
pub IsNearest-from_value : (n d q : ℤ) → Some q ≡ nearest_quotient n d → IsNearest n d q
IsNearest-from_value n d q e =
    elim (nearest_cases n d) [
      | inl zero_is ↦ (let clash : Some q ≡ None = e ∙ zero_is.1 in cc)
      | inr other ↦ (let same : q ≡ nearest_of n d = cc in subst (IsNearest n d) (sym same) (IsNearest-nearest_of n d (abs_positive d other.0)))
    ]

pub alone_from_value : (n d q : ℤ) → Some q ≡ nearest_quotient n d → (p : ℤ) → IsNearest n d p → p ≡ q
alone_from_value n d q e p near =
    elim (nearest_cases n d) [
      | inl zero_is ↦ (let clash : Some q ≡ None = e ∙ zero_is.1 in cc)
      | inr other ↦ IsNearest-unique n d p q (abs_positive d other.0) near (IsNearest-from_value n d q e)
    ]

-- ---- fractions

pub fraction_of-some : (x y z bound q : ℤ) (r : Option ℤ) → Some q ≡ nearest_quotient (x *ℤ y) z → r ≡ within bound q → r ≡ fraction_of x y z bound
fraction_of-some x y z bound q r e h = h ∙ ap (option_and_then (within bound)) e

within_cases : (bound q : ℤ) → ((bound <ℤ pos (unsigned_abs q)) × (within bound q ≡ None)) ⊎ ((pos (unsigned_abs q) ≤ℤ bound) × (within bound q ≡ Some q))
within_cases bound q =
    elim (cases_Bool (int_le (pos (unsigned_abs q)) bound)) [
      | inl fits ↦ inr (omega (arith, ints, fits), cond-true (int_le (pos (unsigned_abs q)) bound) (Some q) None fits)
      | inr beyond ↦ inl (omega (arith, ints, beyond), cond-false (int_le (pos (unsigned_abs q)) bound) (Some q) None beyond)
    ]

pub fraction_of-none : (x y z bound : ℤ) (r : Option ℤ) → r ≡ fraction_of x y z bound → (is_some r ≡ false) ↔ ((z ≡ pos 0) ⊎ (bound <ℤ pos (unsigned_abs (nearest_of (x *ℤ y) z))))
fraction_of-none x y z bound r e =
    let n = x *ℤ y in
    elim (nearest_cases n z) [
      | inl zero_is ↦ (let none : r ≡ None = e ∙ ap (option_and_then (within bound)) zero_is.1 in (λ _. inl zero_is.0, λ _. ap is_some none))
      | inr other ↦
          (let at : r ≡ within bound (nearest_of n z) = e ∙ ap (option_and_then (within bound)) other.1 in
          elim (within_cases bound (nearest_of n z)) [
            | inl beyond ↦ (λ _. inr beyond.0, λ _. ap is_some (at ∙ beyond.1))
            | inr fits ↦ (
              λ none. absurd (false≢true (sym none ∙ ap is_some (at ∙ fits.1))),
              λ either. elim either [ inl zero_is ↦ absurd (other.0 zero_is) | inr beyond ↦ clash_ℤ beyond fits.0 ],
            )
          ])
    ]

pub IsNearest-fraction_of : (x y z bound : ℤ) (r : Option ℤ) → r ≡ fraction_of x y z bound → IfSome r (λ q. IsNearest (x *ℤ y) z q)
IsNearest-fraction_of x y z bound None e = tt
IsNearest-fraction_of x y z bound (Some q) e =
    let n = x *ℤ y in
    elim (nearest_cases n z) [
      | inl zero_is ↦ (let none : Some q ≡ None = e ∙ ap (option_and_then (within bound)) zero_is.1 in cc)
      | inr other ↦
          (let at : Some q ≡ within bound (nearest_of n z) = e ∙ ap (option_and_then (within bound)) other.1 in
          elim (within_cases bound (nearest_of n z)) [
            | inl beyond ↦ (let none : Some q ≡ None = at ∙ beyond.1 in cc)
            | inr fits ↦ (let same : q ≡ nearest_of n z = cc in subst (IsNearest n z) (sym same) (IsNearest-nearest_of n z (abs_positive z other.0)))
          ])
    ]

-- ---- multiples

pub multiple_of-some : (x : ℤ) (n d : ℕ) (q r : ℤ) → q ≡ int_div (x *ℤ pos n) (pos d) → r ≡ int_rem (x *ℤ pos n) (pos d) → unsigned_abs q < 2 ^ 30 → Some (q, r) ≡ multiple_of x n d
multiple_of-some x n d q r e f h =
    rw (e, f) (sym (cond-true (nat_lt (unsigned_abs (int_div (x *ℤ pos n) (pos d))) (2 ^ 30)) (Some (int_div (x *ℤ pos n) (pos d), int_rem (x *ℤ pos n) (pos d))) None (lt-ltb _ _ (rw e at h))))

pub multiple_of-none : (x : ℤ) (n d : ℕ) (q : ℤ) → q ≡ int_div (x *ℤ pos n) (pos d) → 2 ^ 30 ≤ unsigned_abs q → None ≡ multiple_of x n d
multiple_of-none x n d q e h =
    sym (cond-false (nat_lt (unsigned_abs (int_div (x *ℤ pos n) (pos d))) (2 ^ 30)) (Some (int_div (x *ℤ pos n) (pos d), int_rem (x *ℤ pos n) (pos d))) None (le-ltb _ _ (rw e at h)))

-- a number below 2^31 keeps its value through the casts
pub narrowed : (z : ℤ) → unsigned_abs z < 2 ^ 31 → to_z w32 (of_z w32 (to_z w64 (of_z w64 z))) ≡ z
narrowed z h = omega (arith, ints)

-- a pair that is the quotient and its rest is truncated
pub IsTruncated-pair : (n : ℤ) (d : ℕ) (q r : ℤ) → 1 ≤ d → q ≡ int_div n (pos d) → r ≡ int_rem n (pos d) → IsTruncated n d q r
IsTruncated-pair n d q r h e f = rw (e, f) (IsTruncated-int_div n d h)
