-- The numbers that stand at places of a TFM file, highest byte first (tex.web sections 540 and 564;
-- The TeXbook, appendix F). A byte past the end is 0, so that each function has a value at every place.
use Rattle.std.specs.Prelude.{ℕ, ◌+◌, ◌*◌, List, slice_index}
use Rattle.tfm.specs.declared.quarters.Quarters.{Quarters}

-- the byte at a place
abbrev pub byte_at : List ℕ → ℕ → ℕ
byte_at bytes place = slice_index bytes place

-- the number in the two bytes at a place
abbrev pub half_at : List ℕ → ℕ → ℕ
half_at bytes place = 256 * byte_at bytes place + byte_at bytes (place + 1)

-- the word at a place, as its four bytes
unfoldable pub quarters_at : List ℕ → ℕ → Quarters
quarters_at bytes place =
    record { b0 = byte_at bytes place; b1 = byte_at bytes (place + 1); b2 = byte_at bytes (place + 2); b3 = byte_at bytes (place + 3) }

-- the number in the four bytes of a word
abbrev pub word_of : Quarters → ℕ
word_of word = ((word.b0 * 256 + word.b1) * 256 + word.b2) * 256 + word.b3

-- the number in the last two bytes of a word
abbrev pub low_half_of : Quarters → ℕ
low_half_of word = 256 * word.b2 + word.b3
