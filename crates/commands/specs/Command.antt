-- Which command a token begins, by what it means (The TeXbook, chapter 24; tex.web 1045).
use Rattle.std.specs.Prelude.{ℕ, Bool, ◌==◌, ◌&&◌, ◌||◌, if◌then◌else◌}
use Rattle.tokens.specs.Codes.{relax_code, par_code, begingroup_code, endgroup_code, aftergroup_code, ignorespaces_code, uppercase_code, lowercase_code, message_code, errmessage_code, show_code, showthe_code, endcsname_code, end_code, halign_code, leqno_code, middle_code, showifs_code}
use Rattle.tokens.specs.declared.meaning.Meaning.{Meaning}
use Rattle.tokens.specs.declared.meaning.Meaning.TheVariants as meaning
use Rattle.scan_nums.specs.Starts.{is_from_to}
use Rattle.commands.specs.declared.command.Brace.TheVariants as brace
use Rattle.commands.specs.declared.command.Command.{Command}
use Rattle.commands.specs.declared.command.Command.TheVariants as command

-- the names that this program leaves out: \halign to \leqno, and in the extended mode \middle to \showifs
abbrev pub is_left_out : Bool → ℕ → Bool
is_left_out extended code =
    is_from_to halign_code leqno_code code || (extended && is_from_to middle_code showifs_code code)

-- the names of the tables. A name that isn't built yet is undefined
abbrev pub command_of_code : Bool → ℕ → Command
command_of_code extended code =
    if (code == relax_code) || (code == par_code) then command.Nothing
    else if code == begingroup_code then command.BeginGroup brace.Word
    else if code == endgroup_code then command.EndGroup brace.Word
    else if code == aftergroup_code then command.AfterGroup
    else if code == ignorespaces_code then command.IgnoreSpaces
    else if code == uppercase_code then command.Uppercase
    else if code == lowercase_code then command.Lowercase
    else if code == message_code then command.Message
    else if code == errmessage_code then command.ErrorMessage
    else if code == show_code then command.Show
    else if code == showthe_code then command.ShowThe
    else if code == endcsname_code then command.EndName
    else if code == end_code then command.End
    else if is_left_out extended code then command.LeftOut
    else command.Undefined

-- characters: braces, and spaces, which are nothing between paragraphs; any other would begin one
abbrev pub command_of_character : ℕ → Command
command_of_character cat =
    if cat == 1 then command.BeginGroup brace.Brace
    else if cat == 2 then command.EndGroup brace.Brace
    else if cat == 10 then command.Nothing
    else command.Character

abbrev pub command_of : Bool → Meaning → Command
command_of extended meaning.Undefined = command.Undefined
command_of extended (meaning.Primitive code) = command_of_code extended code
command_of extended (meaning.Macro m) = command.Undefined
command_of extended (meaning.Char cat byte) = command_of_character cat
command_of extended (meaning.CharDef byte) = command.Character
command_of extended (meaning.MathCharDef number) = command.Character
command_of extended (meaning.Register kind number) = command.Undefined
command_of extended (meaning.Font font) = command.Undefined
