-- The lines of a text, and what becomes of a line when it is taken: it loses the blanks at its end, and
-- the character `\endlinechar` is put there (The TeXbook, chapter 8; tex.web 31, 360 and 362).
use Rattle.std.specs.Prelude.{ℕ, ℤ, pos, negsuc, Bool, true, false, ◌==◌, ◌||◌, nat_lt, if◌then◌else◌, Option, Some, None, List, [], ◌∷◌, ◌++◌}

-- the byte that an integer parameter names, where it lies in 0 to 255
abbrev pub byte_named : ℤ → Option ℕ
byte_named (pos n) = if nat_lt n 256 then Some n else None
byte_named (negsuc n) = None

-- whether a byte is the mark that ends lines; without a mark none is
abbrev pub is_mark : Option ℕ → ℕ → Bool
is_mark None byte = false
is_mark (Some mark) byte = byte == mark

-- a byte put in front of the first of some lines, or alone where there is none
abbrev pub onto_first : ℕ → List (List ℕ) → List (List ℕ)
onto_first byte [] = (byte ∷ []) ∷ []
onto_first byte (line ∷ lines) = (byte ∷ line) ∷ lines

-- the lines with one more byte in front: a mark ends an empty line, any other byte begins the first
abbrev pub with_byte : Bool → ℕ → List (List ℕ) → List (List ℕ)
with_byte true byte lines = [] ∷ lines
with_byte false byte lines = onto_first byte lines

-- the lines of a text, each ended by the mark, which isn't in it. A last part without the mark is a
-- line if it has bytes.
abbrev pub lines : Option ℕ → List ℕ → List (List ℕ)
lines mark [] = []
lines mark (byte ∷ bytes) = with_byte (is_mark mark byte) byte (lines mark bytes)

-- the lines of a source: where asked for, one of no bytes counts as one empty line
abbrev pub source_lines : ℤ → Bool → List ℕ → List (List ℕ)
source_lines mark true [] = [] ∷ []
source_lines mark false [] = []
source_lines mark one_if_empty (byte ∷ bytes) = lines (byte_named mark) (byte ∷ bytes)

-- the lines of what is left of a source, in front of which one empty line may be left
abbrev pub unread_lines : Option ℕ → Bool → List ℕ → List (List ℕ)
unread_lines mark true bytes = [] ∷ lines mark bytes
unread_lines mark false bytes = lines mark bytes

-- whether a byte is dropped at a line's end: a space or a carriage return
abbrev pub is_blank : ℕ → Bool
is_blank byte = byte == 32 || byte == 13

-- a byte in front of a rest that has lost its blanks
abbrev pub onto_trimmed : ℕ → List ℕ → List ℕ
onto_trimmed byte [] = if is_blank byte then [] else byte ∷ []
onto_trimmed byte (next ∷ rest) = byte ∷ next ∷ rest

-- a line without the blanks at its end
abbrev pub trimmed : List ℕ → List ℕ
trimmed [] = []
trimmed (byte ∷ rest) = onto_trimmed byte (trimmed rest)

-- the byte that is put at a line's end, if there is one
abbrev pub end_bytes : Option ℕ → List ℕ
end_bytes None = []
end_bytes (Some byte) = byte ∷ []

-- what the eye sees of a line that was taken while `\endlinechar` was `endline`
abbrev pub taken : ℤ → List ℕ → List ℕ
taken endline line = trimmed line ++ end_bytes (byte_named endline)
