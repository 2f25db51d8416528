-- The bytes of the symbolic commands of a page: movements with the widths that are kept, fonts that are chosen and
-- defined where they are first used.
-- From: tex.web, sections 583 to 590, 602, 607 to 610 and 621.
use Rattle.std.specs.Prelude.{ℕ, ◌+◌, ◌-◌, ◌^◌, Bool, false, ◌||◌, ℤ, unsigned_abs, List, [], ◌∷◌, ◌++◌, length, drop, Option, Some, None, nat_lt, ◌==◌, if◌then◌else◌}
use Rattle.std.specs.Int.{w32, cast_unsigned}
use Rattle.std.specs.List.{fold, find, list_any}
use Rattle.byteorder.specs.Endian.{big_bytes}
use Rattle.dvi_out.specs.declared.command.Command.{Command}
use Rattle.dvi_out.specs.declared.command.Command.TheVariants.{Push, Pop, Right, Down, Character, SetRule, PutRule, Special}
use Rattle.dvi_out.specs.declared.font.FontDef.{FontDef}
use Rattle.dvi_out.specs.declared.movements.Word.{Word}
use Rattle.dvi_out.specs.declared.movements.Word.TheVariants.{First, Second}
use Rattle.dvi_out.specs.declared.movements.Mark.{Mark}
use Rattle.dvi_out.specs.declared.movements.Mark.TheVariants.{Free, FirstOnly, SecondOnly, Fixed, FirstHere, SecondHere}
use Rattle.dvi_out.specs.declared.movements.Movement.{Movement}
use Rattle.dvi_out.specs.SpellingMovements.{Family, no_movements, opened, closed, moved, movement_at}

-- ---- numbers

-- a number in four bytes, the highest first, modulo 2^32
abbrev pub four : ℕ → List ℕ
four n = big_bytes 4 n

abbrev pub signed_four : ℤ → List ℕ
signed_four z = four (cast_unsigned w32 z)

-- one byte, modulo 256
abbrev pub one : ℕ → List ℕ
one n = big_bytes 1 n

-- ---- movements

-- how many bytes a width takes: the fewest k with |width| < 2^(8k-1), at most 4
abbrev pub bytes_for : ℤ → ℕ
bytes_for width =
    if nat_lt (unsigned_abs width) (2 ^ 7) then 1
    else (if nat_lt (unsigned_abs width) (2 ^ 15) then 2 else (if nat_lt (unsigned_abs width) (2 ^ 23) then 3 else 4))

-- the lowest k bytes of a width
abbrev pub lowest : ℕ → ℤ → List ℕ
lowest k width = drop (4 - k) (signed_four width)

-- The commands of a family, each the one that takes a width of one byte: the plain movement, and those that keep the
-- width as the first or the second word. In front of the latter two stand those that repeat the word.
pub record Opcodes : Type 0 where
  pub plain : ℕ
  pub first : ℕ
  pub second : ℕ

-- right1, w1 and x1
abbrev pub horizontal : Opcodes
horizontal = record { plain = 143; first = 148; second = 153 }

-- down1, y1 and z1
abbrev pub vertical : Opcodes
vertical = record { plain = 157; first = 162; second = 167 }

abbrev pub opcode_of : Opcodes → Mark → ℕ
opcode_of codes Free = codes.plain
opcode_of codes FirstOnly = codes.plain
opcode_of codes SecondOnly = codes.plain
opcode_of codes Fixed = codes.plain
opcode_of codes FirstHere = codes.first
opcode_of codes SecondHere = codes.second

abbrev pub repetition_of : Opcodes → Word → ℕ
repetition_of codes First = codes.first - 1
repetition_of codes Second = codes.second - 1

-- a movement that repeats a word is one byte; else it carries its width in the fewest bytes
abbrev pub movement_bytes_by : Opcodes → Movement → Option Word → List ℕ
movement_bytes_by codes movement (Some word) = repetition_of codes word ∷ []
movement_bytes_by codes movement None =
    (opcode_of codes movement.mark + (bytes_for movement.width - 1)) ∷ lowest (bytes_for movement.width) movement.width

unfoldable pub movement_bytes : Opcodes → Movement → List ℕ
movement_bytes codes movement = movement_bytes_by codes movement movement.repeats

-- the families after a command
abbrev pub across : Family → Command → Family
across f Push = opened f
across f Pop = closed f
across f (Right width) = moved width f
across f (Down height) = f
across f (Character font byte) = f
across f (SetRule height width) = f
across f (PutRule height width) = f
across f (Special bytes) = f

abbrev pub down : Family → Command → Family
down f Push = opened f
down f Pop = closed f
down f (Right width) = f
down f (Down height) = moved height f
down f (Character font byte) = f
down f (SetRule height width) = f
down f (PutRule height width) = f
down f (Special bytes) = f

-- the movements of a page, in order, each with its last mark
abbrev pub across_of : List Command → List Movement
across_of commands = (fold across no_movements commands).moves

abbrev pub down_of : List Command → List Movement
down_of commands = (fold down no_movements commands).moves

-- ---- fonts

-- a font's number in the file and its checksum
unfoldable pub font_head : FontDef → List ℕ
font_head f = 243 ∷ (f.number - 1) ∷ four f.checksum

-- with its sizes
unfoldable pub font_numbers : FontDef → List ℕ
font_numbers f = font_head f ++ signed_four f.size ++ signed_four f.design

-- its name, with no area in front
unfoldable pub font_name : List ℕ → List ℕ
font_name name = 0 ∷ one (length name) ++ name

-- the definition of a font
abbrev pub definition : FontDef → List ℕ
definition f = font_numbers f ++ font_name f.name

abbrev pub is_font : ℕ → FontDef → Bool
is_font number f = f.number == number

abbrev pub is_defined : ℕ → List FontDef → Bool
is_defined number fonts = list_any (is_font number) fonts

-- a font is chosen, by its number in the file
abbrev pub choice : ℕ → List ℕ
choice number = if nat_lt number 64 then (171 + number) ∷ [] else 235 ∷ number ∷ []

-- ---- commands

-- The bytes so far, the font that is chosen, the fonts that this page defines, and how many movements of each family
-- have been spelled.
pub record Spelled : Type 0 where
  pub bytes : List ℕ
  pub font : Option ℕ
  pub fresh : List FontDef
  pub rights : ℕ
  pub downs : ℕ

abbrev pub spelled : List ℕ → Option ℕ → List FontDef → ℕ → ℕ → Spelled
spelled bytes font fresh rights downs =
    record { bytes = bytes; font = font; fresh = fresh; rights = rights; downs = downs }

-- what the page is spelled with: its movements, the fonts that the file has defined, and all fonts that may be used
pub record Given : Type 0 where
  pub rights : List Movement
  pub downs : List Movement
  pub defined : List FontDef
  pub fonts : List FontDef

abbrev pub with_bytes : List ℕ → Spelled → Spelled
with_bytes bytes s = spelled (s.bytes ++ bytes) s.font s.fresh s.rights s.downs

-- a font that was found is defined; one that isn't there is not
abbrev pub with_definition : Option FontDef → Spelled → Spelled
with_definition None s = s
with_definition (Some f) s = spelled (s.bytes ++ definition f) s.font (s.fresh ++ f ∷ []) s.rights s.downs

abbrev pub is_chosen : ℕ → Option ℕ → Bool
is_chosen font None = false
is_chosen font (Some chosen) = chosen == font

-- a font is used that isn't chosen: it is defined where it is used first in the file, and chosen
unfoldable pub with_choice : Given → ℕ → Spelled → Spelled
with_choice given font s =
    let defined =
    if is_defined font given.defined || is_defined font s.fresh then s
    else with_definition (find (is_font font) given.fonts) s in
    spelled (defined.bytes ++ choice (font - 1)) (Some font) defined.fresh defined.rights defined.downs

unfoldable pub with_font : Given → ℕ → Spelled → Spelled
with_font given font s = if is_chosen font s.font then s else with_choice given font s

abbrev pub character_bytes : ℕ → List ℕ
character_bytes byte = if nat_lt byte 128 then byte ∷ [] else 128 ∷ byte ∷ []

abbrev pub special_bytes : List ℕ → List ℕ
special_bytes bytes =
    if nat_lt (length bytes) 256 then 239 ∷ one (length bytes) ++ bytes else 242 ∷ four (length bytes) ++ bytes

unfoldable pub with_right : Given → Spelled → Spelled
with_right given s =
    spelled (s.bytes ++ movement_bytes horizontal (movement_at given.rights s.rights)) s.font s.fresh (s.rights + 1) s.downs

unfoldable pub with_down : Given → Spelled → Spelled
with_down given s =
    spelled (s.bytes ++ movement_bytes vertical (movement_at given.downs s.downs)) s.font s.fresh s.rights (s.downs + 1)

-- a command is spelled
abbrev pub spell : Given → Spelled → Command → Spelled
spell given s Push = with_bytes (141 ∷ []) s
spell given s Pop = with_bytes (142 ∷ []) s
spell given s (Right width) = with_right given s
spell given s (Down height) = with_down given s
spell given s (Character font byte) = with_bytes (character_bytes byte) (with_font given font s)
spell given s (SetRule height width) = with_bytes (132 ∷ signed_four height ++ signed_four width) s
spell given s (PutRule height width) = with_bytes (137 ∷ signed_four height ++ signed_four width) s
spell given s (Special bytes) = with_bytes (special_bytes bytes) s

-- the commands of a page, where these fonts are defined in the file and these may be used
abbrev pub given_for : List Command → List FontDef → List FontDef → Given
given_for commands defined fonts =
    record { rights = across_of commands; downs = down_of commands; defined = defined; fonts = fonts }

abbrev pub spell_all : List Command → List FontDef → List FontDef → Spelled
spell_all commands defined fonts =
    fold (spell (given_for commands defined fonts)) (spelled [] None [] 0 0) commands
