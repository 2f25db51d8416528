-- The metrics that the bytes of a TFM file stand for, at a size: each is the number at its place in the tables
-- (tex.web sections 539 to 582; The TeXbook, appendix F).
use Rattle.std.specs.Prelude.{ℕ, ◌+◌, ◌-◌, ◌*◌, max, true, false, ◌&&◌, ◌==◌, nat_lt, nat_le, if◌then◌else◌, ℤ, pos, List, map, slice_index_or, Option, Some, None, ◌<◌, ◌≡◌}
use Rattle.std.specs.List.{range_with_len}
use Rattle.tfm.specs.declared.quarters.Quarters.{Quarters}
use Rattle.tfm.specs.declared.lengths.Lengths.{Lengths}
use Rattle.tfm.specs.declared.character.Character.{Character}
use Rattle.tfm.specs.declared.size.Size.{Size}
use Rattle.tfm.specs.FontMetricsBytes.{quarters_at, word_of, low_half_of}
use Rattle.tfm.specs.FontMetricsLengths.{lengths_of, file_of, widths_at, heights_at, depths_at, italics_at, kerns_at, parameters_at}
use Rattle.tfm.specs.FontMetricsFixwords.{asked_size, fixword_at, slant_of}
use Rattle.tfm.specs.FontMetricsCharacters.{width_index, height_index, depth_index, italic_index, tag_of, remainder_of, character_word, exists_at}
use Rattle.tfm.specs.FontMetricsFaults.{instruction_at, boundary_of, design_size, fault_of}

-- the metrics of a font
pub record FontMetrics : Type 0 where
  -- the checksum that stands in the file
  pub checksum : ℕ
  -- the design size and the size that the font is loaded at, in sp
  pub design : ℤ
  pub size : ℤ
  -- the measures of the characters 0 to 255, in sp
  pub characters : List Character
  -- the words of the program of ligatures and kerns
  pub instructions : List Quarters
  -- the kerns, in sp
  pub kerns : List ℤ
  -- the parameters from the first on, in sp but for the slant
  pub parameters : List ℤ
  -- the boundary character, and the first instruction for the boundary before a word
  pub boundary : Option ℕ
  pub boundary_program : Option ℕ

-- the entry of a table of numbers
abbrev pub number_at : List ℕ → ℕ → ℕ → ℕ → ℤ
number_at bytes size table i = fixword_at size (quarters_at bytes (table + 4 * i))

-- a program begins at an instruction, or, where its first byte is above 128, at the one that its last two bytes name
unfoldable pub start_at : List ℕ → Lengths → ℕ → ℕ
start_at bytes l i =
    if nat_lt 128 (instruction_at bytes l i).b0 then low_half_of (instruction_at bytes l i) else i

-- where the program of a character with this word begins
abbrev pub program_of : List ℕ → Lengths → Quarters → Option ℕ
program_of bytes l word = if tag_of word == 1 then Some (start_at bytes l (remainder_of word)) else None

-- a character that doesn't exist
abbrev pub no_character : Character
no_character =
    record { exists = false; width = pos 0; height = pos 0; depth = pos 0; italic = pos 0; program = None }

-- a character with this word
abbrev pub character_of : List ℕ → Lengths → ℕ → Quarters → Character
character_of bytes l size word =
    record {
      exists = true;
      width = number_at bytes size (widths_at l) (width_index word);
      height = number_at bytes size (heights_at l) (height_index word);
      depth = number_at bytes size (depths_at l) (depth_index word);
      italic = number_at bytes size (italics_at l) (italic_index word);
      program = program_of bytes l word;
    }

unfoldable pub character_at : List ℕ → Lengths → ℕ → ℕ → Character
character_at bytes l size character =
    if exists_at bytes l character then character_of bytes l size (character_word bytes l character) else no_character

-- the first n characters
unfoldable pub characters_below : List ℕ → Lengths → ℕ → ℕ → List Character
characters_below bytes l size n = map (character_at bytes l size) (range_with_len 0 n)

unfoldable pub instructions_of : List ℕ → Lengths → List Quarters
instructions_of bytes l = map (instruction_at bytes l) (range_with_len 0 l.instructions)

unfoldable pub kerns_of : List ℕ → Lengths → ℕ → List ℤ
kerns_of bytes l size = map (number_at bytes size (kerns_at l)) (range_with_len 0 l.kerns)

-- the parameter at a place from 0 on: the slant, a number, or, past the table's end, 0
unfoldable pub parameter_at : List ℕ → Lengths → ℕ → ℕ → ℤ
parameter_at bytes l size i =
    if nat_le l.parameters i then pos 0
    else (if i == 0 then slant_of (quarters_at bytes (parameters_at l)) else number_at bytes size (parameters_at l) i)

-- a font has at least seven parameters
unfoldable pub parameters_of : List ℕ → Lengths → ℕ → List ℤ
parameters_of bytes l size = map (parameter_at bytes l size) (range_with_len 0 (max l.parameters 7))

-- the boundary's program is named by the table's last word, where its first byte is 255
unfoldable pub boundary_program_of : List ℕ → Lengths → Option ℕ
boundary_program_of bytes l =
    if nat_lt 0 l.instructions && ((instruction_at bytes l (l.instructions - 1)).b0 == 255)
    then Some (low_half_of (instruction_at bytes l (l.instructions - 1)))
    else None

-- the metrics at a size in sp
unfoldable pub metrics_at : List ℕ → Lengths → ℕ → FontMetrics
metrics_at bytes l size =
    record {
      checksum = word_of (quarters_at bytes 24);
      design = pos (design_size bytes);
      size = pos size;
      characters = characters_below bytes l size 256;
      instructions = instructions_of bytes l;
      kerns = kerns_of bytes l size;
      parameters = parameters_of bytes l size;
      boundary = boundary_of bytes l;
      boundary_program = boundary_program_of bytes l;
    }

-- the size in sp of a font that is asked for at a size
abbrev pub size_of : List ℕ → Size → ℕ
size_of bytes size = asked_size (design_size (file_of bytes)) size

-- the metrics of a font that is asked for at a size
unfoldable pub metrics_of : List ℕ → Size → FontMetrics
metrics_of bytes size = metrics_at (file_of bytes) (lengths_of bytes) (size_of bytes size)

-- the character of a font that is asked for at a size
abbrev pub character_of_font : List ℕ → Size → ℕ → Character
character_of_font bytes size code = character_at (file_of bytes) (lengths_of bytes) (size_of bytes size) code

-- a file's bytes and a size stand for these metrics
abbrev pub StandsFor : List ℕ → Size → FontMetrics → Type 0
StandsFor bytes size metrics = (fault_of bytes size ≡ None) × (metrics ≡ metrics_of bytes size)

-- ---- what a font's metrics say of characters and parameters

abbrev pub character_in : FontMetrics → ℕ → Character
character_in metrics character = slice_index_or metrics.characters character no_character

-- parameters are counted from 1; outside there is 0
abbrev pub parameter_in : FontMetrics → ℕ → ℤ
parameter_in metrics n = if n == 0 then pos 0 else slice_index_or metrics.parameters (n - 1) (pos 0)

-- each character is the one that the file has at its place
abbrev pub HasCharactersOf : List ℕ → Size → FontMetrics → Type 0
HasCharactersOf bytes size metrics =
    (code : ℕ) → code < 256 → character_in metrics code ≡ character_of_font bytes size code
