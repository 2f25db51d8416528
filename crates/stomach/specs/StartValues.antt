-- The values with which a run begins (The TeXbook, page 345; tex.web 240).
use Rattle.std.specs.Prelude.{ℤ, pos}

-- the character that stands in front of a name where one is shown, \escapechar
abbrev pub escape_character : ℤ
escape_character = pos 92

-- the character at the end of each line, \endlinechar
abbrev pub end_line_character : ℤ
end_line_character = pos 13

-- the character that ends a line where it is printed, \newlinechar
abbrev pub new_line_character : ℤ
new_line_character = pos 0
