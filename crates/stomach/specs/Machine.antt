-- The whole run: its beginning, turn after turn, and its ending. It is a function of the files outside, of the first
-- line and of the number of turns; it is over where these turns are.
use Rattle.std.specs.Prelude.{◌≡◌, ℕ, negsuc, Bool, true, false, not, ◌==◌, List, [], ◌∷◌, ◌++◌, Option, Some, Result, is_some}
use Rattle.tokens.specs.Budget.{unused}
use Rattle.tokens.specs.Categories.{initial_categories}
use Rattle.tokens.specs.Primitives.{primitive_names}
use Rattle.tokens.specs.declared.stop.Stop.{Stop}
use Rattle.catcode_eye.specs.Lines.{source_lines}
use Rattle.catcode_eye.specs.Outlook.{before_lines}
use Rattle.world.specs.Calls.{WhereTold}
use Rattle.world.specs.Output.{nothing_yet}
use Rattle.world.specs.Told.{Told}
use Rattle.asking.specs.Known.{counted_more, outside_of, seen_of, IsKnown}
use Rattle.asking.specs.Meaning.{Place, Meaning}
use Rattle.asking.specs.Seen.{Outside, DoesBeside}
use Rattle.asking.specs.Turns.{turns, OverLaw, ShownLaw}
use Rattle.stomach.specs.declared.machine.Ended.{Ended}
use Rattle.stomach.specs.declared.pending.Item.TheVariants.{From}
use Rattle.stomach.specs.declared.state.State.{State}
use Rattle.stomach.specs.Ending.{EndsBy}
use Rattle.stomach.specs.Turn.{turn}

-- whether the first line names a file: it isn't empty, and doesn't begin with an escape character
abbrev pub begins_with_name : List ℕ → Bool
begins_with_name [] = false
begins_with_name (byte ∷ rest) = not (byte == 92)

-- the state with which a run begins
unfoldable pub beginning : List ℕ → ℕ → State
beginning line budget = record {
  names = primitive_names;
  categories = initial_categories;
  pending = From (record { eye = before_lines (source_lines (negsuc 0) true line); is_file = false }) ∷ [];
  printer = nothing_yet;
  budget = unused budget;
  names_file = begins_with_name line;
  job = [];
  asked = [];
}

-- a run: the state that it has come to, and the steps that it was given
pub record Run : Type 0 where
  pub state : State
  pub steps : ℕ

-- a run on a first line, before its first turn
abbrev pub new_run : List ℕ → ℕ → Run
new_run line budget = record { state = beginning line budget; steps = budget }

-- nothing was asked for, and nothing shown
abbrev pub at_start : Place
at_start = record { asked = 0; shown = [] }

-- so many turns of a run
abbrev pub run : Outside → ℕ → State → Meaning State Bool
run o n state = turns (turn o) n state at_start

-- the laws of turns: once the run is over, more turns mean the same; and a beginning of what some turns show is one of
-- what more turns show
abbrev pub TurnsLaw : Type 0
TurnsLaw = (o : Outside) → OverLaw (turn o) × ShownLaw (turn o)

-- a run ended so: the terminal shows its text behind what it showed before, so many more files were fetched, no file
-- changed, and for some number of turns its exit, its text, its steps and its fetches are those of the outcome
pub record IsRun (m : ℕ → Meaning State Bool) (given : ℕ) (ended : Ended) (before after : Told) (reads reads_after : ℕ) : Type 0 where
  pub text : List ℕ
  pub terminal : after.terminal ≡ before.terminal ++ text
  pub fetched : after.fetched ≡ counted_more ended.fetches before.fetched
  pub files : after.files ≡ before.files
  pub turns : ℕ
  pub ends : EndsBy ended.exit (m turns) given at_start text ended.steps ended.fetches reads reads_after

-- the run from a state over what a world told
abbrev pub RunsFrom : State → ℕ → Ended → Option Told → Option Told → ℕ → ℕ → Type 0
RunsFrom first given ended old new reads reads_after =
    WhereTold (λ t u. IsRun (λ n. run (outside_of (Some t)) n first) given ended t u reads reads_after) old new

-- one turn from a state over a world that told this before and tells this behind it: so many files were asked for, and
-- nothing was done besides but to show text; and the turn went as its definition means, from a place where nothing was
-- asked for and nothing shown, which says what was shown, which counts of failed calls rose, and which state is left
pub record IsTurn (first : State) (result : Result Bool Stop) (left : State) (before after : Option Told) (reads reads_after writes writes_after : ℕ) : Type 0 where
  pub fetches : ℕ
  pub which : ℕ
  pub known : IsKnown before after fetches
  pub does : DoesBeside (outside_of before) (seen_of before before 0 reads writes which)
      (seen_of before after fetches reads_after writes_after which) result left (turn (outside_of before) first)

-- whether a world tells
abbrev pub tells : Option Told → Bool
tells told = is_some told

-- no file changed
abbrev pub SameFiles : Option Told → Option Told → Type 0
SameFiles old new = WhereTold (λ t u. u.files ≡ t.files) old new
