-- The checks of a TFM file, in their order, and the first that fails (tex.web sections 562 to 575). Within a check the
-- least place at fault counts.
use Rattle.std.specs.Prelude.{ℕ, ◌+◌, ◌-◌, ◌*◌, ◌^◌, Bool, false, not, ◌&&◌, ◌||◌, ◌==◌, nat_lt, nat_le, if◌then◌else◌, List, length, Option, Some, None, MatchResult, Result, ◌≡◌}
use Rattle.std.specs.List.{find, range_with_len}
use Rattle.tfm.specs.declared.quarters.Quarters.{Quarters}
use Rattle.tfm.specs.declared.lengths.Lengths.{Lengths}
use Rattle.tfm.specs.declared.size.Size.{Size}
use Rattle.tfm.specs.declared.error.TfmError.{TfmError}
use Rattle.tfm.specs.declared.error.TfmError.TheVariants.{TooShort, LengthsDisagree, BadIndex, BadFixword, BadSize, Loop, OutOfMemory}
use Rattle.tfm.specs.FontMetricsBytes.{quarters_at, low_half_of}
use Rattle.tfm.specs.FontMetricsLengths.{lengths_of, file_of, agree, character_count, characters_at, widths_at, heights_at, depths_at, italics_at, instructions_at, kerns_at, extensibles_at, parameters_at}
use Rattle.tfm.specs.FontMetricsFixwords.{points_of, asked_size}
use Rattle.tfm.specs.FontMetricsCharacters.{width_index, height_index, depth_index, italic_index, tag_of, remainder_of, in_range, exists_at, comes_back}

-- the first fault of two checks, of which `first` is made before `second`
abbrev pub first_of : Option TfmError → Option TfmError → Option TfmError
first_of None second = second
first_of (Some fault) second = Some fault

-- the least entry of a table of n words at which a test fails
abbrev pub least : (ℕ → Bool) → ℕ → Option ℕ
least fails n = find fails (range_with_len 0 n)

-- the fault at the place of this entry of a table that begins at `table`
abbrev pub fault_at : (ℕ → TfmError) → ℕ → Option ℕ → Option TfmError
fault_at fault table None = None
fault_at fault table (Some i) = Some (fault (table + 4 * i))

-- ---- the file's length and its lengths

-- the file has the words of its lengths, these agree, and it has the words that they say
abbrev pub lengths_fault : List ℕ → Option TfmError
lengths_fault bytes =
    if nat_lt (length bytes) 24 then Some TooShort
    else (if not (agree (lengths_of bytes)) then Some LengthsDisagree
    else (if nat_lt (length bytes) (4 * (lengths_of bytes).file) then Some TooShort else None))

-- ---- the size

-- the word of the design size, the second of the header
abbrev pub design_word : List ℕ → Quarters
design_word bytes = quarters_at bytes 28

-- the design size, in sp
abbrev pub design_size : List ℕ → ℕ
design_size bytes = points_of (design_word bytes)

-- the design size isn't negative and at least 1pt, and the size asked for is below 2048pt
abbrev pub size_fault : List ℕ → Size → Option TfmError
size_fault bytes size =
    if nat_lt 127 (design_word bytes).b0 then Some BadSize
    else (if nat_lt (design_size bytes) 65536 then Some BadSize
    else (if nat_le (2 ^ 27) (asked_size (design_size bytes) size) then Some BadSize else None))

-- ---- the character table

-- a remainder leaves what its tag says that it is for
abbrev pub bad_remainder : Lengths → Quarters → Bool
bad_remainder l word =
    if tag_of word == 1 then nat_le l.instructions (remainder_of word)
    else (if tag_of word == 2 then not (in_range l (remainder_of word))
    else (if tag_of word == 3 then nat_le l.extensibles (remainder_of word) else false))

-- an index leaves its table
abbrev pub bad_measure_index : Lengths → Quarters → Bool
bad_measure_index l word =
    ((nat_le l.widths (width_index word) || nat_le l.heights (height_index word)) || nat_le l.depths (depth_index word)) || nat_le l.italics (italic_index word)

abbrev pub bad_character : List ℕ → Lengths → ℕ → Bool
bad_character bytes l i =
    let word = quarters_at bytes (characters_at l + 4 * i) in
    bad_measure_index l word || bad_remainder l word

abbrev pub characters_fault : List ℕ → Lengths → Option TfmError
characters_fault bytes l = fault_at BadIndex (characters_at l) (least (bad_character bytes l) (character_count l))

-- a chain of larger characters comes back; the place is that of its highest character
abbrev pub loops_fault : List ℕ → Lengths → Option TfmError
loops_fault bytes l =
    fault_at Loop (characters_at l) (least (λ i. comes_back bytes l (l.first + i)) (character_count l))

-- ---- widths, heights, depths, italic corrections and kerns

-- the first byte of a number is neither 0 nor 255
abbrev pub bad_sign : Quarters → Bool
bad_sign word = not (word.b0 == 0) && not (word.b0 == 255)

-- all four bytes are 0
abbrev pub is_zero : Quarters → Bool
is_zero word = (((word.b0 == 0) && (word.b1 == 0)) && (word.b2 == 0)) && (word.b3 == 0)

-- in the first four of these tables, the first entry is 0
abbrev pub bad_measure : List ℕ → ℕ → ℕ → Bool
bad_measure bytes table i =
    let word = quarters_at bytes (table + 4 * i) in
    bad_sign word || ((i == 0) && not (is_zero word))

abbrev pub measures_fault : List ℕ → ℕ → ℕ → Option TfmError
measures_fault bytes table n = fault_at BadFixword table (least (bad_measure bytes table) n)

abbrev pub bad_kern : List ℕ → ℕ → ℕ → Bool
bad_kern bytes table i = bad_sign (quarters_at bytes (table + 4 * i))

abbrev pub kerns_fault : List ℕ → Lengths → Option TfmError
kerns_fault bytes l = fault_at BadFixword (kerns_at l) (least (bad_kern bytes (kerns_at l)) l.kerns)

abbrev pub numbers_fault : List ℕ → Lengths → Option TfmError
numbers_fault bytes l =
    first_of (measures_fault bytes (widths_at l) l.widths)
    (first_of (measures_fault bytes (heights_at l) l.heights)
    (first_of (measures_fault bytes (depths_at l) l.depths)
    (first_of (measures_fault bytes (italics_at l) l.italics) (kerns_fault bytes l))))

-- ---- the program of ligatures and kerns

-- the word of an instruction
abbrev pub instruction_at : List ℕ → Lengths → ℕ → Quarters
instruction_at bytes l i = quarters_at bytes (instructions_at l + 4 * i)

-- the boundary character: the next character of the first instruction, where its skip byte is 255
unfoldable pub boundary_of : List ℕ → Lengths → Option ℕ
boundary_of bytes l =
    if nat_lt 0 l.instructions && ((instruction_at bytes l 0).b0 == 255) then Some (instruction_at bytes l 0).b1 else None

abbrev pub is_some_of : Option ℕ → ℕ → Bool
is_some_of None n = false
is_some_of (Some m) n = m == n

-- the next character of an instruction is there
abbrev pub has_next : List ℕ → Lengths → ℕ → Bool
has_next bytes l character = is_some_of (boundary_of bytes l) character || exists_at bytes l character

-- what an instruction does names a character or a kern that is there
abbrev pub has_operand : List ℕ → Lengths → Quarters → Bool
has_operand bytes l word =
    if nat_lt word.b2 128 then exists_at bytes l word.b3 else nat_lt (256 * (word.b2 - 128) + word.b3) l.kerns

-- an instruction ends its program, or the one that it goes on with is there
abbrev pub has_following : Lengths → ℕ → Quarters → Bool
has_following l i word = nat_le 128 word.b0 || nat_lt (i + word.b0 + 1) l.instructions

abbrev pub good_instruction : List ℕ → Lengths → ℕ → Quarters → Bool
good_instruction bytes l i word =
    if nat_lt 128 word.b0 then nat_lt (low_half_of word) l.instructions
    else (has_next bytes l word.b1 && has_operand bytes l word) && has_following l i word

abbrev pub bad_instruction : List ℕ → Lengths → ℕ → Bool
bad_instruction bytes l i = not (good_instruction bytes l i (instruction_at bytes l i))

abbrev pub instructions_fault : List ℕ → Lengths → Option TfmError
instructions_fault bytes l = fault_at BadIndex (instructions_at l) (least (bad_instruction bytes l) l.instructions)

-- ---- extensible characters

-- a part of an extensible character is left out or exists
abbrev pub good_part : List ℕ → Lengths → ℕ → Bool
good_part bytes l character = (character == 0) || exists_at bytes l character

abbrev pub good_extensible : List ℕ → Lengths → Quarters → Bool
good_extensible bytes l word =
    ((good_part bytes l word.b0 && good_part bytes l word.b1) && good_part bytes l word.b2) && exists_at bytes l word.b3

abbrev pub bad_extensible : List ℕ → Lengths → ℕ → Bool
bad_extensible bytes l i = not (good_extensible bytes l (quarters_at bytes (extensibles_at l + 4 * i)))

abbrev pub extensibles_fault : List ℕ → Lengths → Option TfmError
extensibles_fault bytes l = fault_at BadIndex (extensibles_at l) (least (bad_extensible bytes l) l.extensibles)

-- ---- parameters

-- the first parameter, the slant, is any word
abbrev pub bad_parameter : List ℕ → Lengths → ℕ → Bool
bad_parameter bytes l i = not (i == 0) && bad_sign (quarters_at bytes (parameters_at l + 4 * i))

abbrev pub parameters_fault : List ℕ → Lengths → Option TfmError
parameters_fault bytes l = fault_at BadFixword (parameters_at l) (least (bad_parameter bytes l) l.parameters)

-- ---- all checks

-- the first fault of the tables
abbrev pub tables_fault : List ℕ → Lengths → Option TfmError
tables_fault bytes l =
    first_of (characters_fault bytes l)
    (first_of (loops_fault bytes l)
    (first_of (numbers_fault bytes l)
    (first_of (instructions_fault bytes l)
    (first_of (extensibles_fault bytes l) (parameters_fault bytes l)))))

-- the first fault of a file whose font is asked for at a size
unfoldable pub fault_of : List ℕ → Size → Option TfmError
fault_of bytes size =
    first_of (lengths_fault bytes)
    (first_of (size_fault (file_of bytes) size) (tables_fault (file_of bytes) (lengths_of bytes)))

-- a check's answer tells its fault
abbrev pub Tells : {A : Type 0} → Result A TfmError → Option TfmError → Type 0
Tells result fault = MatchResult result (λ _. fault ≡ None) (λ error. fault ≡ Some error)

-- a file is refused by its first fault, and a file without a fault for want of memory alone
abbrev pub Refuses : List ℕ → Size → TfmError → Type 0
Refuses bytes size OutOfMemory = fault_of bytes size ≡ None
Refuses bytes size TooShort = fault_of bytes size ≡ Some TooShort
Refuses bytes size LengthsDisagree = fault_of bytes size ≡ Some LengthsDisagree
Refuses bytes size (BadIndex place) = fault_of bytes size ≡ Some (BadIndex place)
Refuses bytes size (BadFixword place) = fault_of bytes size ≡ Some (BadFixword place)
Refuses bytes size BadSize = fault_of bytes size ≡ Some BadSize
Refuses bytes size (Loop place) = fault_of bytes size ≡ Some (Loop place)
