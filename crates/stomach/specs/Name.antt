-- Reading the name of a file: characters, up to a space or another token (The TeXbook, chapter 25;
-- tex.web 378, 379, 516 and 526).
use Rattle.std.specs.Prelude.{ℕ, Bool, true, false, ◌==◌, ◌&&◌, if◌then◌else◌, List, [], ◌∷◌, ◌++◌, Ok}
use Rattle.tokens.specs.declared.token.Token.{Token}
use Rattle.tokens.specs.declared.token.Token.TheVariants.{Char, Active, Name, Arg, Frozen}
use Rattle.asking.specs.Did.{Did, ◌>>=◌}
use Rattle.stomach.specs.declared.command.Command.{Command}
use Rattle.stomach.specs.declared.command.Command.TheVariants.{Space, Relax, Par, End, Catcode, Message, Input, Undefined, Character}
use Rattle.stomach.specs.declared.state.State.{State}
use Rattle.stomach.specs.Again.{again}
use Rattle.stomach.specs.Command.{command_named}
use Rattle.stomach.specs.Operand.{next_token, put_back, put_behind_relax, undefined}
use Rattle.stomach.specs.Work.{work}

abbrev pub is_empty : List ℕ → Bool
is_empty [] = true
is_empty (byte ∷ rest) = false

-- a character goes into the name, and a space ends it; blanks in front of it are passed
abbrev pub name_character : ℕ → ℕ → List ℕ → State → Did State (Bool × List ℕ)
name_character cat byte name s =
    if byte == 32 then Ok ((cat == 10 && is_empty name, name), s) else Ok ((true, name ++ byte ∷ []), s)

-- another token ends the name and is put back
abbrev pub name_ended : Token → List ℕ → State → Did State (Bool × List ℕ)
name_ended token name s = Ok ((false, name), put_back token s)

-- a name, by its command: without a meaning it ends the run. \input opens no file here; it is put back behind an
-- inserted \relax, which is taken next and ends the name
abbrev pub name_command : Token → List ℕ → State → Command → Did State (Bool × List ℕ)
name_command token name s Space = name_ended token name s
name_command token name s Relax = name_ended token name s
name_command token name s Par = name_ended token name s
name_command token name s End = name_ended token name s
name_command token name s Catcode = name_ended token name s
name_command token name s Message = name_ended token name s
name_command token name s Input = Ok ((true, name), put_behind_relax token s)
name_command token name s Undefined = undefined token s
name_command token name s Character = name_ended token name s

abbrev pub name_by : List ℕ → Token × State → Did State (Bool × List ℕ)
name_by name (Char cat byte, s) = name_character cat byte name s
name_by name (Active byte, s) = undefined (Active byte) s
name_by name (Name id, s) = name_command (Name id) name s (command_named id.0)
name_by name (Arg number, s) = name_ended (Arg number) name s
name_by name (Frozen number, s) = name_ended (Frozen number) name s

unfoldable pub name_turn : List ℕ → State → Did State (Bool × List ℕ)
name_turn name s = next_token s >>= name_by name

-- the name that comes next
unfoldable pub file_name : State → Did State (List ℕ)
file_name s = again work name_turn [] s
