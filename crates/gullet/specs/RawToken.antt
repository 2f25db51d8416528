-- The next token as it stands, of all that is still to be read (tex.web 341 and 365). Behind the end of a file it goes on, and
-- at the end of all that is to be read there is none.
use Rattle.std.specs.Prelude.{ℕ, ◌+◌, Bool, true, false, if◌then◌else◌, List, [], ◌∷◌, Option, Some, None, Ok, Err}
use Rattle.std.proofs.Common.{zero, suc}
use Rattle.tokens.specs.declared.kind.Kind.TheVariants.{NoEnd}
use Rattle.tokens.specs.declared.stop.Stop.TheVariants.{Trouble}
use Rattle.tokens.specs.declared.token.Token.{Token}
use Rattle.pending.specs.Pending.{Item, Ready, From}
use Rattle.pending.specs.declared.pending.Event.{Event}
use Rattle.pending.specs.declared.pending.Event.TheVariants as event
use Rattle.asking.specs.Did.{Did, ◌>>=◌}
use Rattle.gullet.specs.Events.{take_event}
use Rattle.gullet.specs.State.{State}

-- how many ends are still told: that of a source, and before it that of its last line, unless that was told
abbrev pub ends_of : Item → ℕ
ends_of (Ready waiting) = 0
ends_of (From source) = if source.is_ending then 1 else 2

abbrev pub ends_left : List Item → ℕ
ends_left [] = 0
ends_left (item ∷ items) = ends_of item + ends_left items

-- whether an event is an end, behind which something may be left
abbrev pub is_end : Event → Bool
is_end (event.Token t noexpand) = false
is_end event.Eof = true
is_end (event.SourceEnd printed) = true
is_end event.Empty = false

-- the token that came next with its flag, if one did
abbrev pub raw_of : Event → Option (Token × Bool)
raw_of (event.Token t noexpand) = Some (t, noexpand)
raw_of event.Eof = None
raw_of (event.SourceEnd printed) = None
raw_of event.Empty = None

-- behind an end it goes on
abbrev pub by_raw : (State → Did State (Option (Token × Bool))) → Event × State → Did State (Option (Token × Bool))
by_raw further (e, s) = if is_end e then further s else Ok (raw_of e, s)

-- the next token with its flag, where fewer ends than this stand in front of it
unfoldable pub raw_past : ℕ → State → Did State (Option (Token × Bool))
raw_past zero s = Ok (None, s)
raw_past (suc ends) s = take_event s >>= by_raw (raw_past ends)

-- the next token; behind each end of a source it goes on
unfoldable pub next_raw : State → Did State (Option (Token × Bool))
next_raw s = raw_past (suc (ends_left s.pending)) s

-- in a phrase, where nothing is left the run ends without \end
abbrev pub some_token : Option (Token × Bool) × State → Did State (Token × Bool)
some_token (None, s) = Err (Trouble NoEnd, s)
some_token (Some r, s) = Ok (r, s)

unfoldable pub one_token : State → Did State (Token × Bool)
one_token s = next_raw s >>= some_token
