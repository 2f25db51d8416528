-- Printed text as lines: the column of a strip is the number of bytes on its last line, and no line
-- has more than 79 bytes, its end not counted.
use Rattle.std.specs.Prelude.{◌≡◌, ℕ, ℤ, ◌+◌, ◌<◌, ◌≤◌, ◌==◌, if◌then◌else◌, List, [], ◌∷◌}
use Rattle.world.specs.Printed.{Strip, line_feed, printed}

-- the column after one byte more
abbrev pub column_after_byte : ℕ → ℕ → ℕ
column_after_byte byte column = (if byte == line_feed then 0 else column + 1)

-- the column after bytes: how many stand behind the last line feed
abbrev pub column_of : List ℕ → ℕ → ℕ
column_of [] column = column
column_of (byte ∷ rest) column = column_of rest (column_after_byte byte column)

-- no line has more than 79 bytes
abbrev pub LinesFit : List ℕ → ℕ → Type 0
LinesFit [] column = column ≤ 79
LinesFit (byte ∷ rest) column = (column ≤ 79) × LinesFit rest (column_after_byte byte column)

-- the strip's column is that of its bytes, and its lines fit
pub record IsLaidOut (strip : Strip) (column : ℕ) : Type 0 where
  pub column_is : strip.column ≡ column_of strip.bytes column
  pub within : strip.column < 79
  pub lines : LinesFit strip.bytes column

-- whatever is printed is laid out so
abbrev pub PrintsLines : Type 0
PrintsLines = (newline : ℤ) (bytes : List ℕ) (column : ℕ) → column < 79 → IsLaidOut (printed newline bytes column) column
