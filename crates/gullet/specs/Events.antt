-- What comes next of all that is still to be read, with the end of a file shown (tex.web 341 and 362).
use Rattle.std.specs.Prelude.{true, false, Ok, Err}
use Rattle.pending.specs.declared.pending.Event.{Event}
use Rattle.pending.specs.declared.pending.Event.TheVariants as event
use Rattle.pending.specs.Take.{Reading, reading, next_event}
use Rattle.asking.specs.Did.{Did, ◌>>=◌}
use Rattle.gullet.specs.State.{State}
use Rattle.gullet.specs.Parameters.{categories, end_line, new_line}
use Rattle.gullet.specs.Report.{file_over}

-- what reading works on, and the state behind it
abbrev pub reading_of : State → Reading
reading_of s = reading s.pending s.names s.budget

abbrev pub with_reading : State → Reading → State
with_reading s r = record s { pending = r.pending; names = r.names; budget = r.budget }

abbrev pub in_state : State → Did Reading Event → Did State Event
in_state s (Ok (e, r)) = Ok (e, with_reading s r)
in_state s (Err (stop, r)) = Err (stop, with_reading s r)

-- the end of a file is shown
abbrev pub with_end_shown : Event × State → Did State Event
with_end_shown (event.Token token noexpand, s) = Ok (event.Token token noexpand, s)
with_end_shown (event.Eof, s) = Ok (event.Eof, s)
with_end_shown (event.SourceEnd true, s) = Ok (event.SourceEnd true, record s { out = file_over (new_line s.copies) s.out })
with_end_shown (event.SourceEnd false, s) = Ok (event.SourceEnd false, s)
with_end_shown (event.Empty, s) = Ok (event.Empty, s)

unfoldable pub next_event_of : State → Did State Event
next_event_of s = in_state s (next_event (categories s.copies) (end_line s.copies) (reading_of s))

-- what comes next
unfoldable pub take_event : State → Did State Event
take_event s = next_event_of s >>= with_end_shown
