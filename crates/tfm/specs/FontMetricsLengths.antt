-- The lengths that begin a TFM file, what must hold between them, and where each table begins
-- (tex.web sections 540 and 565; The TeXbook, appendix F).
use Rattle.std.specs.Prelude.{ℕ, ◌+◌, ◌-◌, ◌*◌, Bool, ◌&&◌, ◌==◌, nat_lt, nat_le, List, [], ◌∷◌, take}
use Rattle.std.specs.List.{list_all}
use Rattle.tfm.specs.declared.lengths.Lengths.{Lengths}
use Rattle.tfm.specs.FontMetricsBytes.{half_at}

-- the twelve numbers of two bytes at the file's start
unfoldable pub lengths_of : List ℕ → Lengths
lengths_of bytes =
    record {
      file = half_at bytes 0;
      header = half_at bytes 2;
      first = half_at bytes 4;
      last = half_at bytes 6;
      widths = half_at bytes 8;
      heights = half_at bytes 10;
      depths = half_at bytes 12;
      italics = half_at bytes 14;
      instructions = half_at bytes 16;
      kerns = half_at bytes 18;
      extensibles = half_at bytes 20;
      parameters = half_at bytes 22;
    }

-- the file: as many words as it says. What stands after them counts for nothing
unfoldable pub file_of : List ℕ → List ℕ
file_of bytes = take (4 * (lengths_of bytes).file) bytes

-- how many characters have a word in the character table: none where the last is just before the first
abbrev pub character_count : Lengths → ℕ
character_count l = l.last + 1 - l.first

-- no number is 2^15 or more
abbrev pub all_small : Lengths → Bool
all_small l =
    list_all (λ n. nat_lt n 32768)
    (l.file ∷ (l.header ∷ (l.first ∷ (l.last ∷ (l.widths ∷ (l.heights ∷ (l.depths ∷ (l.italics ∷ (l.instructions ∷ (l.kerns ∷ (l.extensibles ∷ (l.parameters ∷ []))))))))))))

-- the header has its two first words, and the characters run from the first to the last, at most 255
abbrev pub has_range : Lengths → Bool
has_range l = (nat_le 2 l.header && nat_le l.last 255) && nat_le l.first (l.last + 1)

-- the tables of widths, heights, depths and italic corrections each have their first entry
abbrev pub has_first_entries : Lengths → Bool
has_first_entries l = ((nat_lt 0 l.widths && nat_lt 0 l.heights) && nat_lt 0 l.depths) && nat_lt 0 l.italics

-- the words of the lengths themselves, the header and all tables
abbrev pub words_of : Lengths → ℕ
words_of l =
    6 + l.header + character_count l + l.widths + l.heights + l.depths + l.italics + l.instructions + l.kerns + l.extensibles + l.parameters

-- the lengths agree with one another
abbrev pub agree : Lengths → Bool
agree l = ((all_small l && has_range l) && has_first_entries l) && (l.file == words_of l)

-- where each table begins, in bytes from the file's start; the tables stand in this order
abbrev pub characters_at : Lengths → ℕ
characters_at l = 24 + 4 * l.header

abbrev pub widths_at : Lengths → ℕ
widths_at l = characters_at l + 4 * character_count l

abbrev pub heights_at : Lengths → ℕ
heights_at l = widths_at l + 4 * l.widths

abbrev pub depths_at : Lengths → ℕ
depths_at l = heights_at l + 4 * l.heights

abbrev pub italics_at : Lengths → ℕ
italics_at l = depths_at l + 4 * l.depths

abbrev pub instructions_at : Lengths → ℕ
instructions_at l = italics_at l + 4 * l.italics

abbrev pub kerns_at : Lengths → ℕ
kerns_at l = instructions_at l + 4 * l.instructions

abbrev pub extensibles_at : Lengths → ℕ
extensibles_at l = kerns_at l + 4 * l.kerns

abbrev pub parameters_at : Lengths → ℕ
parameters_at l = extensibles_at l + 4 * l.extensibles
