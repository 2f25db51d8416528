-- How bad it is to stretch or shrink glue by more or less than it offers.
-- From: tex.web, section 108; The TeXbook, chapter 14 (about 100 times the cube of the ratio).
use Rattle.std.specs.Prelude.{ℕ, zero, suc, ◌+◌, ◌*◌, ◌/◌, ℤ, pos, nat_lt, nat_le, if◌then◌else◌}

-- about 297 times the ratio of t to s, where s isn't 0: the cube of 297 is close to 100 times 2^18.
-- Up to 7230584, 297 t is below 2^31; above it the quotient of the two is taken the other way round,
-- and a small s makes any ratio there too large to matter
abbrev pub ratio_of : ℕ → ℕ → ℕ
ratio_of t s =
    if nat_le t 7230584 then 297 * t / s else (if nat_le 1663497 s then t / (s / 297) else t)

-- the cube of that ratio by 2^18, rounded to the nearest, and 10000 from a ratio of 1291 on
abbrev pub badness_of_ratio : ℕ → ℕ
badness_of_ratio r = if nat_lt 1290 r then 10000 else (r * r * r + 131072) / 262144

-- the badness of glue that gives t where it offers s, in sp: 0 where nothing is asked for, and 10000,
-- which stands for infinitely bad, where something is asked for and nothing offered
abbrev pub badness_of : ℤ → ℤ → ℕ
badness_of (pos zero) s = 0
badness_of (pos (suc t)) (pos (suc s)) = badness_of_ratio (ratio_of (suc t) (suc s))
badness_of _ _ = 10000
