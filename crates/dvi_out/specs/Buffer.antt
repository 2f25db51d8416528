-- The bytes of a page as they are written, command by command. A movement is written with its width, and its command is
-- changed in the bytes when a later one repeats the width.
-- From: tex.web, sections 583 to 590, 602, 607 to 615 and 621.
use Rattle.std.specs.Prelude.{ℕ, ◌+◌, ◌-◌, ℤ, List, [], ◌∷◌, ◌++◌, length, Option, Some, None, slice_index, slice_get, slice_set}
use Rattle.std.specs.List.{fold}
use Rattle.dvi_out.specs.declared.command.Command.{Command}
use Rattle.dvi_out.specs.declared.command.Command.TheVariants.{Push, Pop, Right, Down, Character, SetRule, PutRule, Special}
use Rattle.dvi_out.specs.declared.font.FontDef.{FontDef}
use Rattle.dvi_out.specs.declared.movements.Word.{Word}
use Rattle.dvi_out.specs.declared.movements.Movement.{Movement}
use Rattle.dvi_out.specs.SpellingMovements.{Family, no_movements, opened, closed, moved, movement_at, mark_here, search, open_movements, carried, repeated}
use Rattle.dvi_out.specs.SpellingPage.{Opcodes, horizontal, vertical, opcode_of, bytes_for, movement_bytes, Spelled, spelled, spell}

-- the movements of a family, with the place of each one's command in the bytes
pub record Track : Type 0 where
  pub family : Family
  pub places : List ℕ

abbrev pub track : Family → List ℕ → Track
track family places = record { family = family; places = places }

-- the bytes so far, the font that is chosen, the fonts that this page defines, and the movements of both families
pub record Buffer : Type 0 where
  pub bytes : List ℕ
  pub font : Option ℕ
  pub fresh : List FontDef
  pub rights : Track
  pub downs : Track

abbrev pub buffer : List ℕ → Option ℕ → List FontDef → Track → Track → Buffer
buffer bytes font fresh rights downs =
    record { bytes = bytes; font = font; fresh = fresh; rights = rights; downs = downs }

abbrev pub no_bytes : Buffer
no_bytes = buffer [] None [] (track no_movements []) (track no_movements [])

-- ---- movements

-- which movement is open behind so many later ones
abbrev pub index_of : Family → ℕ → ℕ
index_of f passed = slice_index f.open_places (length f.open_places - 1 - passed)

-- a movement that carries its width gets the command that keeps it as the word
abbrev pub recoded : Opcodes → Word → ℤ → Option Word → ℕ → List ℕ → List ℕ
recoded codes word width None place bytes =
    slice_set bytes place (opcode_of codes (mark_here word) + (bytes_for width - 1))
recoded codes word width (Some repeats) place bytes = bytes

abbrev pub recoded_at : Opcodes → Word → Movement → Option ℕ → List ℕ → List ℕ
recoded_at codes word movement None bytes = bytes
recoded_at codes word movement (Some place) bytes = recoded codes word movement.width movement.repeats place bytes

-- the command of the movement whose width a new one repeats is changed
abbrev pub with_kept : Opcodes → Track → ℕ → Word → List ℕ → List ℕ
with_kept codes t passed word bytes =
    recoded_at codes word (movement_at t.family.moves (index_of t.family passed))
    (slice_get t.places (index_of t.family passed)) bytes

-- a movement of the width is written, where the one that it repeats was found
abbrev pub with_movement : Opcodes → ℤ → Track → Option (ℕ × Word) → List ℕ → List ℕ
with_movement codes width t None bytes = bytes ++ movement_bytes codes (carried width)
with_movement codes width t (Some found) bytes =
    with_kept codes t found.0 found.1 bytes ++ movement_bytes codes (repeated width found.1)

abbrev pub found_for : ℤ → Track → Option (ℕ × Word)
found_for width t = search width (open_movements t.family) None

-- a movement comes, whose command stands at a place
abbrev pub moved_at : ℤ → ℕ → Track → Track
moved_at width place t = track (moved width t.family) (t.places ++ place ∷ [])

-- ---- commands

-- what a command that doesn't move adds to the bytes, and the fonts behind it
abbrev pub still : List FontDef → List FontDef → Buffer → Command → Spelled
still defined fonts b command =
    spell (record { rights = []; downs = []; defined = defined; fonts = fonts })
    (spelled b.bytes b.font b.fresh 0 0) command

abbrev pub with_spelled : Spelled → Track → Track → Buffer
with_spelled s rights downs = buffer s.bytes s.font s.fresh rights downs

-- a list begins, and ends
abbrev pub begun_track : Track → Track
begun_track t = track (opened t.family) t.places

abbrev pub ended_track : Track → Track
ended_track t = track (closed t.family) t.places

-- a command is written, where these fonts are defined in the file and these may be used
abbrev pub written : List FontDef → List FontDef → Buffer → Command → Buffer
written defined fonts b Push =
    with_spelled (still defined fonts b Push) (begun_track b.rights) (begun_track b.downs)
written defined fonts b Pop =
    with_spelled (still defined fonts b Pop) (ended_track b.rights) (ended_track b.downs)
written defined fonts b (Right width) =
    buffer (with_movement horizontal width b.rights (found_for width b.rights) b.bytes) b.font b.fresh
    (moved_at width (length b.bytes) b.rights) b.downs
written defined fonts b (Down height) =
    buffer (with_movement vertical height b.downs (found_for height b.downs) b.bytes) b.font b.fresh b.rights
    (moved_at height (length b.bytes) b.downs)
written defined fonts b (Character font byte) =
    with_spelled (still defined fonts b (Character font byte)) b.rights b.downs
written defined fonts b (SetRule height width) =
    with_spelled (still defined fonts b (SetRule height width)) b.rights b.downs
written defined fonts b (PutRule height width) =
    with_spelled (still defined fonts b (PutRule height width)) b.rights b.downs
written defined fonts b (Special bytes) =
    with_spelled (still defined fonts b (Special bytes)) b.rights b.downs

abbrev pub written_all : List FontDef → List FontDef → List Command → Buffer
written_all defined fonts commands = fold (written defined fonts) no_bytes commands
