-- The first line of a run where it names a file: it is read as if \input stood in front of it (tex.web 1337).
use Rattle.std.specs.Prelude.{Result, Ok, Err}
use Rattle.tokens.specs.Codes.{input_code}
use Rattle.tokens.specs.declared.stop.Stop.{Stop}
use Rattle.tokens.specs.declared.token.NameId.{NameId}
use Rattle.tokens.specs.declared.token.Token.TheVariants as token
use Rattle.asking.specs.Did.{Did, ◌>>=◌}
use Rattle.pending.specs.Pending.{Opening, opening, begun_behind_name}
use Rattle.gullet.specs.Acts.{with_token}
use Rattle.gullet.specs.Parameters.{end_line}
use Rattle.gullet.specs.State.{State}

abbrev pub with_line : State → Result Opening Stop → Did State (Unit {0})
with_line s (Ok o) = Ok (tt, record s { pending = o.pending; budget = o.budget })
with_line s (Err stop) = Err (stop, s)

-- the line is taken, and what is read next of it is what stands behind its first blanks, as behind a name
unfoldable pub begun_line : State → Did State (Unit {0})
begun_line s = with_line s (begun_behind_name (end_line s.copies) (opening s.pending s.budget))

-- \input in front of it takes no step
abbrev pub input_name : NameId
input_name = record { 0 = input_code }

abbrev pub with_input : (Unit {0}) × State → Did State (Unit {0})
with_input (done, s) = Ok (tt, with_token (token.Name input_name) s)

unfoldable pub name_first_line : State → Did State (Unit {0})
name_first_line s = begun_line s >>= with_input
