-- What is taken of all that is still to be read, and tokens that are put back (tex.web 325 and 336).
use Rattle.std.specs.Prelude.{ℕ, Bool, true, false, List, ◌∷◌, Ok, Err, codes}
use Rattle.tokens.specs.declared.kind.Kind.TheVariants.{LeftOut, UndefinedCs}
use Rattle.tokens.specs.declared.stop.Stop.TheVariants.{Trouble}
use Rattle.tokens.specs.declared.token.Token.{Token}
use Rattle.tokens.specs.declared.token.Token.TheVariants.{Frozen}
use Rattle.tokens.specs.TokenText.{token_shown}
use Rattle.asking.specs.Did.{Did, ◌>>=◌}
use Rattle.stomach.specs.declared.pending.Event.{Event}
use Rattle.stomach.specs.declared.pending.Event.TheVariants.{Token as TokenEvent, FileEnd}
use Rattle.stomach.specs.declared.pending.Item.TheVariants.{Back, Inserted}
use Rattle.stomach.specs.declared.state.State.{State}
use Rattle.stomach.specs.Again.{again}
use Rattle.stomach.specs.Pending.{Reading, next_event}
use Rattle.stomach.specs.Report.{file_over}
use Rattle.stomach.specs.StartValues.{end_line_character, escape_character}
use Rattle.stomach.specs.Work.{work}

-- what taking looks at
abbrev pub reading_of : State → Reading
reading_of s = record { pending = s.pending; names = s.names; budget = s.budget }

-- the state after taking
abbrev pub with_reading : State → Reading → State
with_reading s r = record s { pending = r.pending; names = r.names; budget = r.budget }

abbrev pub in_state : {A : Type 0} → State → Did Reading A → Did State A
in_state s (Ok (value, r)) = Ok (value, with_reading s r)
in_state s (Err (stop, r)) = Err (stop, with_reading s r)

-- what comes next, taken: a token, or the end of a file
unfoldable pub take : State → Did State Event
take s = in_state s (next_event s.categories end_line_character (reading_of s))

-- the end of a file is shown
abbrev pub file_passed : State → State
file_passed s = record s { printer = file_over s.printer }

-- a token, or the end of a file, behind which a token is still wanted
abbrev pub token_by : Token → Event × State → Did State (Bool × Token)
token_by last (TokenEvent token, s) = Ok ((false, token), s)
token_by last (FileEnd, s) = Ok ((true, last), file_passed s)

unfoldable pub token_turn : Token → State → Did State (Bool × Token)
token_turn last s = take s >>= token_by last

-- the next token, past the ends of files
unfoldable pub next_token : State → Did State Token
next_token s = again work token_turn (Frozen 0) s

-- a token is put back, to be taken again without a step
abbrev pub put_back : Token → State → State
put_back token s = record s { pending = Back token ∷ s.pending }

-- a token is put back behind an inserted \relax, which takes a step
abbrev pub put_behind_relax : Token → State → State
put_behind_relax token s = record s { pending = Inserted (Frozen 0) ∷ Back token ∷ s.pending }

-- something that this program leaves out
abbrev pub left_out : {A : Type 0} → List ℕ → State → Did State A
left_out what s = Err (Trouble (LeftOut what), s)

-- an operand of another form than those that this program reads
abbrev pub wrong_operand : {A : Type 0} → State → Did State A
wrong_operand s = left_out (codes "operand") s

-- a token without a meaning
abbrev pub undefined : {A : Type 0} → Token → State → Did State A
undefined token s = Err (Trouble (UndefinedCs (token_shown s.names escape_character token)), s)
