-- What is read off the environment that is in force while tokens are taken and texts are printed (The TeXbook, chapter
-- 24: parameters; chapter 7: categories).
use Rattle.std.specs.Prelude.{ℕ, ℤ, pos, negsuc, List, map}
use Rattle.std.specs.List.{range_with_len}
use Rattle.tokens.specs.Parameters.{endlinechar_place, newlinechar_place, escapechar_place}
use Rattle.save_groups.specs.declared.key.Key.{Key}
use Rattle.save_groups.specs.declared.key.Key.TheVariants as key
use Rattle.save_groups.specs.declared.value.Value.{Value}
use Rattle.save_groups.specs.declared.value.Value.TheVariants as value
use Rattle.save_groups.specs.Environments.{Copies}

-- the number that a value is; no other value is one
abbrev pub number_of : Value → ℤ
number_of (value.Number n) = n
number_of (value.Glue g) = pos 0
number_of (value.Tokens list) = pos 0
number_of (value.Meaning m) = pos 0
number_of (value.Boxed b) = pos 0
number_of (value.Table ns) = pos 0

-- the number that an entry has now
abbrev pub number_at : Copies → Key → ℤ
number_at c k = number_of (c.last k).value

abbrev pub parameter : Copies → ℕ → ℤ
parameter c place = number_at c (key.Parameter place)

-- \endlinechar, \newlinechar and \escapechar
abbrev pub end_line : Copies → ℤ
end_line c = parameter c endlinechar_place

abbrev pub new_line : Copies → ℤ
new_line c = parameter c newlinechar_place

abbrev pub escape : Copies → ℤ
escape c = parameter c escapechar_place

-- a category as a number without sign
abbrev pub magnitude : ℤ → ℕ
magnitude (pos n) = n
magnitude (negsuc n) = 0

-- the categories of all bytes
unfoldable pub categories : Copies → List ℕ
categories c = map (λ byte. magnitude (number_at c (key.Code 0 byte))) (range_with_len 0 256)
