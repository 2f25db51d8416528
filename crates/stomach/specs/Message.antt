-- \message (The TeXbook, page 279; tex.web 403, 473 to 479, 1279 and 1280).
use Rattle.std.specs.Prelude.{Bool, true, false, ◌==◌, if◌then◌else◌, List, [], Ok}
use Rattle.tokens.specs.declared.token.Token.{Token}
use Rattle.tokens.specs.declared.token.Token.TheVariants.{Char, Active, Name, Arg, Frozen}
use Rattle.tokens.specs.TokenText.{tokens_text}
use Rattle.asking.specs.Did.{Did}
use Rattle.asking.specs.Loops.{rounds}
use Rattle.asking.specs.Meaning.{Meant, still, ◌>>=◌}
use Rattle.asking.specs.Seen.{Outside}
use Rattle.stomach.specs.declared.state.State.{State}
use Rattle.stomach.specs.Command.{is_input, is_relax}
use Rattle.stomach.specs.Input.{input}
use Rattle.stomach.specs.Gather.{Gathered, gathered, gather_token}
use Rattle.stomach.specs.Operand.{wrong_operand}
use Rattle.stomach.specs.Report.{spaced}
use Rattle.stomach.specs.StartValues.{escape_character}
use Rattle.stomach.specs.TextToken.{text_token}
use Rattle.stomach.specs.Work.{work}

-- ---- the brace in front of the text

-- spaces and \relax are passed, up to a left brace. It tells whether the brace is still wanted
abbrev pub brace_token : Token × State → Did State (Bool × Unit {0})
brace_token (Char cat byte, s) = if cat == 10 then Ok ((true, tt), s) else if cat == 1 then Ok ((false, tt), s) else wrong_operand s
brace_token (Active byte, s) = wrong_operand s
brace_token (Name id, s) = if is_relax id.0 then Ok ((true, tt), s) else wrong_operand s
brace_token (Arg number, s) = wrong_operand s
brace_token (Frozen number, s) = Ok ((true, tt), s)

-- \input opens its file
abbrev pub brace_by : Outside → Token × State → Meant State (Bool × Unit {0})
brace_by o t = (if is_input t.0 then input o t.1 >>= (λ done. still (Ok ((true, tt), done.1))) else still (brace_token t))

unfoldable pub brace_turn : Outside → Unit {0} → State → Meant State (Bool × Unit {0})
brace_turn o none s = still (text_token s) >>= brace_by o

unfoldable pub left_brace : Outside → State → Meant State (Unit {0})
left_brace o s = rounds work (brace_turn o) tt s

-- ---- the text

-- \input opens its file
abbrev pub gather_by : Outside → Gathered → Token × State → Meant State (Bool × Gathered)
gather_by o g t = (if is_input t.0 then input o t.1 >>= (λ done. still (Ok ((true, g), done.1))) else still (gather_token g t))

unfoldable pub text_turn : Outside → Gathered → State → Meant State (Bool × Gathered)
text_turn o g s = still (text_token s) >>= gather_by o g

-- the tokens up to the right brace of the text
unfoldable pub balanced_text : Outside → State → Meant State Gathered
balanced_text o s = rounds work (text_turn o) (gathered [] 0) s

-- ---- the command

-- a text is shown, with room in front of it
unfoldable pub shown_text : List Token → State → Did State (Unit {0})
shown_text text s = Ok (tt, record s { printer = spaced (tokens_text s.names s.categories escape_character text) s.printer })

unfoldable pub message : Outside → State → Meant State (Unit {0})
message o s = do
  brace ← left_brace o s
  text ← balanced_text o brace.1
  still (shown_text text.0.text text.1)
