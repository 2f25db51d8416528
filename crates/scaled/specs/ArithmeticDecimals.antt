-- Decimal fractions of a point: how their digits are read, and which digits are printed.
-- From: The TeXbook, chapters 10 and 24; tex.web, sections 102 (reading) and 103 (printing).
use Rattle.std.specs.Prelude.{◌≡◌, ℕ, zero, suc, ◌+◌, ◌-◌, ◌*◌, ◌/◌, ◌%◌, ◌^◌, ◌<◌, ◌≤◌, Bool, ◌==◌, if◌then◌else◌, List, [], ◌∷◌, ◌++◌, map, length, All, ℤ, pos, neg_ℤ, int_lt, unsigned_abs, decimal}
use Rattle.std.specs.List.{before_first, after_first}
use Rattle.std.specs.Str.Parse.{digits_value}
use Rattle.scaled.specs.ArithmeticQuotients.{nearest_whole}

-- ---- digits and numbers

-- each is a digit, as a value and not as a character
abbrev pub AllAreDigits : List ℕ → Type 0
AllAreDigits ds = All (λ d. d ≤ 9) ds

-- the whole number that digits stand for
abbrev pub number_of : List ℕ → ℕ
number_of [] = 0
number_of (d ∷ ds) = d * 10 ^ length ds + number_of ds

-- the last k digits of a number, with zeros in front where it has fewer
abbrev pub last_digits : ℕ → ℕ → List ℕ
last_digits zero n = []
last_digits (suc k) n = last_digits k (n / 10) ++ n % 10 ∷ []

-- the characters of digits
abbrev pub glyphs : List ℕ → List ℕ
glyphs ds = map (λ d. 48 + d) ds

-- ---- reading

-- twice the fraction that the digits after the point stand for, in 65536ths: from the last digit to the
-- first, a becomes (a + 131072 d) div 10
abbrev pub doubled_fraction : List ℕ → ℕ
doubled_fraction [] = 0
doubled_fraction (d ∷ ds) = (doubled_fraction ds + 131072 * d) / 10

-- the fraction in 65536ths of a point, that is in sp
abbrev pub fraction_of_digits : List ℕ → ℕ
fraction_of_digits ds = (doubled_fraction ds + 1) / 2

-- ---- printing

-- how far the decimal fraction of these digits is from f 65536ths, in units of the last digit, times 65536
abbrev pub distance : ℕ → List ℕ → ℕ
distance f ds =
    let exact = f * 10 ^ length ds in
    let printed = 65536 * number_of ds in
    (exact - printed) + (printed - exact)

-- ds are the digits that are printed for f 65536ths: one to five digits that are read back as f, no
-- digits that are fewer are read back as f, and none that are as many are nearer to f, or as near and
-- greater
pub record IsPrintedFraction (f : ℕ) (ds : List ℕ) : Type 0 where
  pub digits : AllAreDigits ds
  pub some : 0 < length ds
  pub few : length ds ≤ 5
  pub read_back : fraction_of_digits ds ≡ f
  pub shortest : (es : List ℕ) → AllAreDigits es → 0 < length es → fraction_of_digits es ≡ f → length ds ≤ length es
  pub nearest : (es : List ℕ) → AllAreDigits es → length es ≡ length ds → fraction_of_digits es ≡ f → distance f ds ≤ distance f es
  pub greatest : (es : List ℕ) → AllAreDigits es → length es ≡ length ds → fraction_of_digits es ≡ f → distance f es ≡ distance f ds → number_of es ≤ number_of ds

-- a program for them: the whole number of 10^k-ths that is nearest to f 65536ths,
abbrev pub nearest_decimal : ℕ → ℕ → ℕ
nearest_decimal f k = nearest_whole (f * 10 ^ k) 65536

-- whether f is the whole number of 65536ths that is nearest to that again,
abbrev pub is_read_back : ℕ → ℕ → Bool
is_read_back f k = nearest_whole (65536 * nearest_decimal f k) (10 ^ k) == f

-- and the least number of digits for which it is, at most five
unfoldable pub printed_places : ℕ → ℕ
printed_places f =
    if is_read_back f 1 then 1
    else (if is_read_back f 2 then 2
    else (if is_read_back f 3 then 3
    else (if is_read_back f 4 then 4
    else 5)))

unfoldable pub printed_fraction : ℕ → List ℕ
printed_fraction f = last_digits (printed_places f) (nearest_decimal f (printed_places f))

-- a dimension as it is printed, in points: a sign where it is negative, the whole points, a point, and
-- the digits of what is left
abbrev pub points_text : ℤ → List ℕ
points_text s =
    (if int_lt s (pos 0) then 45 ∷ [] else [])
    ++ decimal (unsigned_abs s / 65536)
    ++ 46 ∷ []
    ++ glyphs (printed_fraction (unsigned_abs s % 65536))

-- ---- reading such a text

abbrev pub is_point : ℕ → Bool
is_point b = b == 46

-- the values of the digits behind the point
abbrev pub digits_after_point : List ℕ → List ℕ
digits_after_point text = map (λ b. b - 48) (after_first is_point text)

-- a text of digits, a point and digits, in sp
abbrev pub magnitude_of_text : List ℕ → ℕ
magnitude_of_text text = 65536 * digits_value 10 (before_first is_point text) + fraction_of_digits (digits_after_point text)

-- the same with a sign in front, if there is one
abbrev pub dimension_of_text : List ℕ → ℤ
dimension_of_text [] = pos 0
dimension_of_text (b ∷ text) = if b == 45 then neg_ℤ (pos (magnitude_of_text text)) else pos (magnitude_of_text (b ∷ text))
