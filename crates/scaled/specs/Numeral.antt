-- A row of the code's table of numerals, as the definitions have it.
use Rattle.std.specs.Prelude.{ℕ, Option, Some, None, List, [], ◌∷◌}
use Rattle.scaled.specs.declared.numerals.Numeral.{Numeral}

-- the letters: the one that is taken away, if there is one, and the one that it is taken from
abbrev pub letters : Option ℕ → ℕ → List ℕ
letters None letter = letter ∷ []
letters (Some before) letter = before ∷ letter ∷ []

abbrev pub letters_of : Numeral → List ℕ
letters_of n = letters n.before n.letter

abbrev pub value_of : Numeral → ℕ
value_of n = n.value

abbrev pub entry_of : Numeral → ℕ × List ℕ
entry_of n = (value_of n, letters_of n)
