-- What a command does: one table (The TeXbook, chapter 24; tex.web 1045).
use Rattle.std.specs.Prelude.{◌≡◌, Bool, codes, Result, Ok, Err}
use Rattle.tokens.specs.declared.kind.Kind.TheVariants.{CantUse, LeftOut}
use Rattle.tokens.specs.declared.stop.Stop.{Stop}
use Rattle.tokens.specs.declared.stop.Stop.TheVariants.{Trouble}
use Rattle.tokens.specs.declared.token.Token.{Token}
use Rattle.tokens.specs.TokenText.{token_shown}
use Rattle.asking.specs.Did.{Did, ◌>>=◌}
use Rattle.asking.specs.Meaning.{Meant, still}
use Rattle.asking.specs.Meaning as meant
use Rattle.asking.specs.Seen.{Outside}
use Rattle.gullet.specs.Meanings.{taken_meaning}
use Rattle.gullet.specs.Parameters.{escape}
use Rattle.gullet.specs.State.{State}
use Rattle.gullet.specs.Troubles.{pass_undefined}
use Rattle.commands.specs.declared.command.Command.{Command}
use Rattle.commands.specs.declared.command.Command.TheVariants as command
use Rattle.commands.specs.declared.executing.Next.{Next}
use Rattle.commands.specs.declared.executing.Next.TheVariants as next
use Rattle.commands.specs.declared.letters.LetterCase.TheVariants as case
use Rattle.commands.specs.Command.{command_of}
use Rattle.commands.specs.Groups.{begin_group, end_group, after_group}
use Rattle.commands.specs.Letters.{change_case}
use Rattle.commands.specs.Messages.{message, error_message}
use Rattle.commands.specs.Showing.{show, show_the}
use Rattle.commands.specs.Spaces.{ignore_spaces}

-- the run goes on behind it
abbrev pub goes_on : Unit {0} × State → Did State Next
goes_on (done, s) = Ok (next.GoesOn, s)

-- the same of what may ask for files
abbrev pub behind : Meant State (Unit {0}) → Meant State Next
behind m = meant.◌>>=◌ m (λ r. still (goes_on r))

-- a name that this program leaves out is told as it was called
abbrev pub left_out : Token → State → Did State Next
left_out t s = Err (Trouble (LeftOut (token_shown s.names (escape s.copies) t)), s)

-- a character can't be set yet
abbrev pub left_out_character : State → Did State Next
left_out_character s = Err (Trouble (LeftOut (codes "character")), s)

abbrev pub cant_use_name : Token → State → Did State Next
cant_use_name t s = Err (Trouble (CantUse (token_shown s.names (escape s.copies) t)), s)

abbrev pub execute_by : Outside → Token → Command → State → Meant State Next
execute_by o t command.Nothing s = still (goes_on (tt, s))
execute_by o t (command.BeginGroup how) s = still (begin_group how s >>= goes_on)
execute_by o t (command.EndGroup how) s = still (end_group how s >>= goes_on)
execute_by o t command.AfterGroup s = still (after_group s >>= goes_on)
execute_by o t command.IgnoreSpaces s = behind (ignore_spaces o s)
execute_by o t command.Uppercase s = behind (change_case o case.Upper s)
execute_by o t command.Lowercase s = behind (change_case o case.Lower s)
execute_by o t command.Message s = behind (message o s)
execute_by o t command.ErrorMessage s = behind (error_message o s)
execute_by o t command.Show s = still (show s >>= goes_on)
execute_by o t command.ShowThe s = behind (show_the o s)
execute_by o t command.EndName s = still (cant_use_name t s)
execute_by o t command.End s = still (Ok (next.Ended, s))
execute_by o t command.LeftOut s = still (left_out t s)
execute_by o t command.Character s = still (left_out_character s)
execute_by o t command.Undefined s = still (pass_undefined t s >>= goes_on)

-- a token that isn't expanded is carried out, by what it means to whoever takes it: one that isn't to be expanded is \relax
-- (tex.web 358)
unfoldable pub execute : Outside → Token → Bool → State → Meant State Next
execute o t noexpand s = execute_by o t (command_of s.copies.extended (taken_meaning s.copies t noexpand)) s

-- what a command's answer makes of the run
abbrev pub GoesOn : Result (Unit {0}) Stop → Result Next Stop → Type 0
GoesOn (Ok done) result = result ≡ Ok next.GoesOn
GoesOn (Err stop) result = result ≡ Err stop
