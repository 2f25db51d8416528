-- The tokens of a text, in which no file may end (tex.web 336).
use Rattle.std.specs.Prelude.{Ok, Err}
use Rattle.tokens.specs.declared.kind.Kind.TheVariants.{FileEnded}
use Rattle.tokens.specs.declared.stop.Stop.TheVariants.{Trouble}
use Rattle.tokens.specs.declared.token.Token.{Token}
use Rattle.asking.specs.Did.{Did, ◌>>=◌}
use Rattle.stomach.specs.declared.pending.Event.{Event}
use Rattle.stomach.specs.declared.pending.Event.TheVariants.{Token as TokenEvent, FileEnd}
use Rattle.stomach.specs.declared.state.State.{State}
use Rattle.stomach.specs.Operand.{take, file_passed}

-- a file's end is shown, and ends the run
abbrev pub text_event : Event × State → Did State Token
text_event (TokenEvent token, s) = Ok (token, s)
text_event (FileEnd, s) = Err (Trouble FileEnded, file_passed s)

unfoldable pub text_token : State → Did State Token
text_token s = take s >>= text_event
