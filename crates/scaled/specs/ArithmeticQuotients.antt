-- Quotients of whole numbers, truncated and rounded.
-- From: tex.web, sections 105 to 107 (multiples and fractions of dimensions); the e-TeX manual, on
-- expressions (a quotient is rounded to the nearest, a product that is divided is rounded once).
use Rattle.std.specs.Prelude.{◌≡◌, ℕ, suc, ◌+◌, ◌*◌, ◌/◌, ◌^◌, ◌<◌, ◌≤◌, ℤ, pos, negsuc, ◌+ℤ◌, ◌-ℤ◌, ◌*ℤ◌, neg_ℤ, unsigned_abs, int_div, int_rem, int_le, nat_lt, Option, Some, None, option_and_then, if◌then◌else◌}
use Rattle.std.specs.Ordering.{int_eq}

-- ---- truncated

-- q and r are the quotient of n by d, rounded toward 0, and what it leaves: they make up n, the rest is
-- smaller than d, and the quotient's multiple is no longer than n, so the rest has n's sign
pub record IsTruncated (n : ℤ) (d : ℕ) (q r : ℤ) : Type 0 where
  pub exact : q *ℤ pos d +ℤ r ≡ n
  pub rest : unsigned_abs r < d
  pub inward : unsigned_abs q * d ≤ unsigned_abs n

-- x times n divided by d, rounded toward 0, with what that leaves; nothing where the quotient is no
-- dimension, that is where it is 2^30 or more in absolute value
abbrev pub multiple_of : ℤ → ℕ → ℕ → Option (ℤ × ℤ)
multiple_of x n d =
    let quotient = int_div (x *ℤ pos n) (pos d) in
    if nat_lt (unsigned_abs quotient) (2 ^ 30)
    then Some (quotient, int_rem (x *ℤ pos n) (pos d))
    else None

-- ---- rounded to the nearest

-- q is nearest to n / d: no farther from it than a half, that is |2n - 2dq| ≤ |d|; and where two whole
-- numbers are so near, as at a half, it is the one farther from 0
pub record IsNearest (n d q : ℤ) : Type 0 where
  pub near : unsigned_abs (pos 2 *ℤ n -ℤ pos 2 *ℤ d *ℤ q) ≤ unsigned_abs d
  pub outward : (p : ℤ) → unsigned_abs (pos 2 *ℤ n -ℤ pos 2 *ℤ d *ℤ p) ≤ unsigned_abs d → unsigned_abs p ≤ unsigned_abs q

-- a program for it, for numbers without a sign: the quotient with a half added, rounded down
abbrev pub nearest_whole : ℕ → ℕ → ℕ
nearest_whole n d = (2 * n + d) / (2 * d)

-- and with their signs
abbrev pub nearest_of : ℤ → ℤ → ℤ
nearest_of (pos n) (pos d) = pos (nearest_whole n d)
nearest_of (pos n) (negsuc d) = neg_ℤ (pos (nearest_whole n (suc d)))
nearest_of (negsuc n) (pos d) = neg_ℤ (pos (nearest_whole (suc n) d))
nearest_of (negsuc n) (negsuc d) = pos (nearest_whole (suc n) (suc d))

-- nothing is nearest to a quotient by 0
abbrev pub nearest_quotient : ℤ → ℤ → Option ℤ
nearest_quotient n d = if int_eq d (pos 0) then None else Some (nearest_of n d)

-- a number, or nothing where it is beyond the bound in absolute value
abbrev pub within : ℤ → ℤ → Option ℤ
within bound q = if int_le (pos (unsigned_abs q)) bound then Some q else None

-- x times y divided by z, rounded once, from the exact product
abbrev pub fraction_of : ℤ → ℤ → ℤ → ℤ → Option ℤ
fraction_of x y z bound = option_and_then (within bound) (nearest_quotient (x *ℤ y) z)
