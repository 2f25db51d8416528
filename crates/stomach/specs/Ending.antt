-- How a run ends, and what is shown then (tex.web 93 to 95, 642 and 1333 to 1335).
use Rattle.std.specs.Prelude.{◌≡◌, ◌<◌, ℕ, min, Option, Some, None, Result, Bool, true, false, List, [], ◌++◌, Ok, Err, codes}
use Rattle.tokens.specs.Cap.{cap_text}
use Rattle.tokens.specs.Kind.{kind_text}
use Rattle.tokens.specs.declared.stop.Stop.{Stop}
use Rattle.tokens.specs.declared.stop.Stop.TheVariants.{Trouble, Capacity, Spent, ReadFault, WriteFault, OutOfMemory}
use Rattle.world.specs.declared.world.WorldError.{WorldError}
use Rattle.world.specs.declared.world.WorldError.TheVariants.{Failed, OutOfMemory as NoMemory}
use Rattle.world.specs.Output.{Output}
use Rattle.asking.specs.Did.{Did}
use Rattle.asking.specs.Meaning.{Place, Meaning, walk, asked_at}
use Rattle.asking.specs.Seen.{is_prefix}
use Rattle.stomach.specs.declared.ending.Exit.{Exit}
use Rattle.stomach.specs.declared.ending.Exit.TheVariants as exits
use Rattle.stomach.specs.declared.state.State.{State}
use Rattle.stomach.specs.Pending.{files_closed}
use Rattle.stomach.specs.Report.{told_why, without_pages}

-- what is told of an early end
abbrev pub reason_of : Stop → List ℕ → List ℕ
reason_of (Trouble kind) asked = kind_text kind
reason_of (Capacity cap) asked = codes "TeX capacity exceeded, sorry [" ++ cap_text cap ++ codes "]"
reason_of Spent asked = codes "Step budget spent"
reason_of ReadFault asked = codes "Read fault: " ++ asked
reason_of WriteFault asked = []
reason_of OutOfMemory asked = []

-- the exit of an early end
abbrev pub exit_of : Stop → Exit
exit_of (Trouble kind) = exits.Trouble
exit_of (Capacity cap) = exits.Capacity
exit_of Spent = exits.Spent
exit_of ReadFault = exits.ReadFault
exit_of WriteFault = exits.WriteFault
exit_of OutOfMemory = exits.OutOfMemory

-- a run ends at \end: the files that are open are closed
abbrev pub ended_well : State → Output
ended_well s = without_pages (files_closed s.pending s.printer)

-- a run ends early: the reason is told
abbrev pub ended_early : Stop → State → Output
ended_early stop s = without_pages (told_why (reason_of stop s.asked) s.printer)

-- how a run ended: its exit, the text that it showed, the steps that it took and the files that it asked for
pub record Outcome : Type 0 where
  pub exit : Exit
  pub text : List ℕ
  pub steps : ℕ
  pub fetches : ℕ

-- the outcome of a run that ends so at a place, with this printed at its end. It was given some steps, and took no more
abbrev pub ending : Exit → Output → ℕ → Place → State → Outcome
ending exit output given place s =
    record { exit = exit; text = place.shown ++ output.unflushed; steps = min s.budget.used given; fetches = place.asked }

-- the outcome of turns, where they are over
abbrev pub outcome_at : ℕ → Place → Did State Bool → Option Outcome
outcome_at given place (Ok (true, s)) = None
outcome_at given place (Ok (false, s)) = Some (ending exits.Done (ended_well s) given place s)
outcome_at given place (Err (stop, s)) = Some (ending (exit_of stop) (ended_early stop s) given place s)

abbrev pub outcome_of : ℕ → Place → Meaning State Bool → Option Outcome
outcome_of given place m = outcome_at given (walk m.asks place) m.ends

-- the outcome of the run whose fetch of this number fails
abbrev pub failed_in : ℕ → Option (State × Place) → Option Outcome
failed_in given None = None
failed_in given (Some (s, place)) = Some (ending exits.ReadFault (ended_early ReadFault s) given place s)

abbrev pub outcome_failing : ℕ → ℕ → Place → Meaning State Bool → Option Outcome
outcome_failing number given place m = failed_in given (asked_at number m.asks place)

-- the text that turns show, with the ending's where they are over
abbrev pub text_at : Place → Did State Bool → List ℕ
text_at place (Ok (true, s)) = place.shown
text_at place (Ok (false, s)) = place.shown ++ (ended_well s).unflushed
text_at place (Err (stop, s)) = place.shown ++ (ended_early stop s).unflushed

abbrev pub text_of : Place → Meaning State Bool → List ℕ
text_of place m = text_at (walk m.asks place) m.ends

-- a run was cut short by a refused write or by want of memory: what was shown is a beginning of the text of the turns,
-- or, where a read had failed, of the text of the run whose fetch of that number fails
pub record IsCutRun (m : Meaning State Bool) (given : ℕ) (start : Place) (text : List ℕ) (fetches reads reads_after : ℕ) : Type 0 where
  pub whole : reads_after ≡ reads → is_prefix text (text_of start m) ≡ true
  pub failed : reads < reads_after → (o : Outcome) × ((outcome_failing fetches given start m ≡ Some o) × (is_prefix text o.text ≡ true))

-- how a run ended that made these turns, by its exit: the text that was shown, the steps that it took and the files
-- that it asked for are those of the outcome
abbrev pub EndsBy : Exit → Meaning State Bool → ℕ → Place → List ℕ → ℕ → ℕ → ℕ → ℕ → Type 0
EndsBy exits.Done m given start text steps fetches reads reads_after =
    outcome_of given start m ≡ Some (record { exit = exits.Done; text = text; steps = steps; fetches = fetches })
EndsBy exits.Trouble m given start text steps fetches reads reads_after =
    outcome_of given start m ≡ Some (record { exit = exits.Trouble; text = text; steps = steps; fetches = fetches })
EndsBy exits.Usage m given start text steps fetches reads reads_after = ⊥
EndsBy exits.Capacity m given start text steps fetches reads reads_after =
    outcome_of given start m ≡ Some (record { exit = exits.Capacity; text = text; steps = steps; fetches = fetches })
EndsBy exits.Spent m given start text steps fetches reads reads_after =
    outcome_of given start m ≡ Some (record { exit = exits.Spent; text = text; steps = steps; fetches = fetches })
EndsBy exits.ReadFault m given start text steps fetches reads reads_after =
    outcome_failing fetches given start m ≡ Some (record { exit = exits.ReadFault; text = text; steps = steps; fetches = fetches })
EndsBy exits.WriteFault m given start text steps fetches reads reads_after = IsCutRun m given start text fetches reads reads_after
EndsBy exits.OutOfMemory m given start text steps fetches reads reads_after = IsCutRun m given start text fetches reads reads_after

-- the exit of a run, and what its printer then holds, by how its turns ended
abbrev pub exit_by : Result (Unit {0}) Stop → Exit
exit_by (Ok done) = exits.Done
exit_by (Err stop) = exit_of stop

abbrev pub output_by : Result (Unit {0}) Stop → State → Output
output_by (Ok done) s = ended_well s
output_by (Err stop) s = ended_early stop s

-- whether the turns ended so that nothing more is shown: a write was refused, or memory ran out
abbrev pub cut_short : Result (Unit {0}) Stop → Option Exit
cut_short (Ok done) = None
cut_short (Err (Trouble kind)) = None
cut_short (Err (Capacity cap)) = None
cut_short (Err Spent) = None
cut_short (Err ReadFault) = None
cut_short (Err WriteFault) = Some exits.WriteFault
cut_short (Err OutOfMemory) = Some exits.OutOfMemory

-- the exit by whether the ending was shown
abbrev pub exit_after : Exit → Result (Unit {0}) WorldError → Exit
exit_after exit (Ok done) = exit
exit_after exit (Err Failed) = exits.WriteFault
exit_after exit (Err NoMemory) = exits.OutOfMemory
