-- What a run says that shows and fetches through a library, by its exit.
use Rattle.std.specs.Prelude.{◌≡◌, ℕ, Bool, false, Result, Ok, Err}
use Rattle.tokens.specs.declared.stop.Stop.{Stop}
use Rattle.asking.specs.Meaning.{Meant}
use Rattle.asking.specs.Seen.{Outside, Seen, Told}
use Rattle.asking.specs.Turns.{turns, DoesTurns}
use Rattle.stomach.specs.declared.ending.Exit.{Exit}
use Rattle.stomach.specs.declared.state.State.{State}
use Rattle.stomach.specs.Ending.{EndsBy}
use Rattle.stomach.specs.Faults.{ReadFaultWhere, WriteFaultWhere}

-- all turns: the last one says that the run is over
abbrev pub over : Result (Unit {0}) Stop → Result Bool Stop
over (Ok done) = Ok false
over (Err stop) = Err stop

abbrev pub DoesAll : Outside → Seen → Seen → Result (Unit {0}) Stop → State → (State → Meant State Bool) → State → Type 0
DoesAll o old new result s once first = DoesTurns o old new (over result) s once first

-- the run: which counts of failed calls rose, and how it ended
pub record Runs (o : Outside) (old new : Seen) (exit : Exit) (steps given : ℕ) (once : State → Meant State Bool) (first : State) : Type 0 where
  pub which : new.which ≡ old.which
  pub reads : ReadFaultWhere o.tells exit old.reads new.reads
  pub writes : WriteFaultWhere o.tells exit old.writes new.writes
  pub ends : Told o ((n : ℕ) × EndsBy exit (turns once n first old.place) given old.place new.place.shown steps new.place.asked old.reads new.reads)
