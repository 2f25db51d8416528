-- What a token does when it is executed (The TeXbook, chapter 24; tex.web 1045).
use Rattle.std.specs.Prelude.{ℕ, Bool, true, false, ◌==◌, if◌then◌else◌}
use Rattle.tokens.specs.Codes.{input_code, catcode_code, relax_code, par_code, end_code, message_code}
use Rattle.tokens.specs.declared.token.Token.{Token}
use Rattle.tokens.specs.declared.token.Token.TheVariants.{Char, Active, Name, Arg, Frozen}
use Rattle.stomach.specs.declared.command.Command.{Command}
use Rattle.stomach.specs.declared.command.Command.TheVariants.{Space, Relax, Par, End, Catcode, Message, Input, Undefined, Character}

-- the names that are built, by their codes. The names of the tables stand first in the table of names, so a
-- primitive's place there is its code. Every other name is undefined
unfoldable pub command_named : ℕ → Command
command_named place =
    if place == input_code then Input
    else if place == catcode_code then Catcode
    else if place == relax_code then Relax
    else if place == par_code then Par
    else if place == end_code then End
    else if place == message_code then Message
    else Undefined

-- a character of category 10 is a space
abbrev pub command_of : Token → Command
command_of (Char cat byte) = if cat == 10 then Space else Character
command_of (Active byte) = Undefined
command_of (Name id) = command_named id.0
command_of (Arg number) = Character
command_of (Frozen number) = Relax

-- whether a command is that of a name without a meaning
abbrev pub means_nothing : Command → Bool
means_nothing Space = false
means_nothing Relax = false
means_nothing Par = false
means_nothing End = false
means_nothing Catcode = false
means_nothing Message = false
means_nothing Input = false
means_nothing Undefined = true
means_nothing Character = false

-- whether a name, by its place, has no meaning
abbrev pub is_undefined : ℕ → Bool
is_undefined place = means_nothing (command_named place)

-- whether a command does nothing
abbrev pub does_nothing : Command → Bool
does_nothing Space = false
does_nothing Relax = true
does_nothing Par = false
does_nothing End = false
does_nothing Catcode = false
does_nothing Message = false
does_nothing Input = false
does_nothing Undefined = false
does_nothing Character = false

-- whether a name is \relax
abbrev pub is_relax : ℕ → Bool
is_relax place = does_nothing (command_named place)

-- whether a command opens a file
abbrev pub opens_file : Command → Bool
opens_file Space = false
opens_file Relax = false
opens_file Par = false
opens_file End = false
opens_file Catcode = false
opens_file Message = false
opens_file Input = true
opens_file Undefined = false
opens_file Character = false

-- whether a token is \input
abbrev pub is_input : Token → Bool
is_input token = opens_file (command_of token)
