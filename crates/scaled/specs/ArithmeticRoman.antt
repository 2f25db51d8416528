-- Roman numerals.
-- From: The TeXbook, chapter 20 (\romannumeral); tex.web, section 69.
use Rattle.std.specs.Prelude.{ℕ, zero, suc, ◌/◌, ◌%◌, List, [], ◌∷◌, ◌++◌, ℤ, pos, negsuc, codes}

-- the values that have a numeral of their own, from the greatest to the least, with its letters
abbrev pub numerals : List (ℕ × List ℕ)
numerals =
    (1000, codes "m") ∷ (900, codes "cm") ∷ (500, codes "d") ∷ (400, codes "cd")
    ∷ (100, codes "c") ∷ (90, codes "xc") ∷ (50, codes "l") ∷ (40, codes "xl")
    ∷ (10, codes "x") ∷ (9, codes "ix") ∷ (5, codes "v") ∷ (4, codes "iv") ∷ (1, codes "i") ∷ []

-- letters, so many times
abbrev pub repeated : ℕ → List ℕ → List ℕ
repeated zero letters = []
repeated (suc k) letters = letters ++ repeated k letters

-- a number by a table of numerals: each in turn as often as its value fits into what is left
abbrev pub by_numerals : List (ℕ × List ℕ) → ℕ → List ℕ
by_numerals [] n = []
by_numerals ((value, letters) ∷ rest) n = repeated (n / value) letters ++ by_numerals rest (n % value)

-- the roman numeral of a number, which has no letters where the number isn't positive
abbrev pub roman_of : ℤ → List ℕ
roman_of (pos n) = by_numerals numerals n
roman_of (negsuc n) = []
