-- The tokens of an operand, in front of which \input opens files (The TeXbook, page 215; tex.web 366, 378 and 380).
use Rattle.std.specs.Prelude.{Bool, true, false, if◌then◌else◌, Ok}
use Rattle.tokens.specs.declared.token.Token.{Token}
use Rattle.tokens.specs.declared.token.Token.TheVariants.{Frozen}
use Rattle.asking.specs.Loops.{rounds}
use Rattle.asking.specs.Meaning.{Meant, still, ◌>>=◌}
use Rattle.asking.specs.Seen.{Outside}
use Rattle.stomach.specs.declared.state.State.{State}
use Rattle.stomach.specs.Command.{is_input}
use Rattle.stomach.specs.Input.{input}
use Rattle.stomach.specs.Operand.{next_token}
use Rattle.stomach.specs.Work.{work}

-- \input opens its file, and a token is still wanted
abbrev pub expanded_by : Outside → Token × State → Meant State (Bool × Token)
expanded_by o t = (if is_input t.0 then input o t.1 >>= (λ done. still (Ok ((true, t.0), done.1))) else still (Ok ((false, t.0), t.1)))

unfoldable pub expanded_turn : Outside → Token → State → Meant State (Bool × Token)
expanded_turn o last s = still (next_token s) >>= expanded_by o

-- the next token of an operand
unfoldable pub operand_token : Outside → State → Meant State Token
operand_token o s = rounds work (expanded_turn o) (Frozen 0) s
