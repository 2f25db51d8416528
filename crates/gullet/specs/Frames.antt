-- Phrases on a stack (The TeXbook, chapter 20): the innermost one beside those that wait for it, as the code keeps them, and
-- for which unfinished phrases of the recursion they stand.
use Rattle.std.specs.Prelude.{◌≡◌, ℕ, ◌+◌, Bool, true, false, if◌then◌else◌, List, [], ◌∷◌, ◌++◌, Option, Some, None}
use Rattle.asking.specs.Meaning.{Meant}
use Rattle.asking.specs.Seen.{Outside, Seen}
use Rattle.phrases.specs.Phrases.{Waiting}
use Rattle.phrases.specs.Unwinding.{Unwinds}
use Rattle.phrases.specs.Stack.{waiting}
use Rattle.gullet.specs.declared.context.Context.{Context}
use Rattle.gullet.specs.declared.frames.Frame.{Frame}
use Rattle.gullet.specs.declared.progress.Progress.{Progress}
use Rattle.gullet.specs.declared.task.Task.{Task}
use Rattle.gullet.specs.declared.task.Told.{Told}
use Rattle.gullet.specs.declared.task.Want.{Want}
use Rattle.gullet.specs.declared.task.Want.TheVariants.{Raw, Expanded, Character, Act, Inner, Gives, Wrong}
use Rattle.gullet.specs.Expansion.{rules, most_turns}
use Rattle.gullet.specs.Progress.{Stands, WhileOpen, FitsToken, FitsGot, Ready}
use Rattle.gullet.specs.State.{State}
use Rattle.gullet.specs.Wants.{Taken, Got, wants}

-- ---- what is wanted

-- what is wanted again behind a turn that took nothing: a token, in the same way
abbrev pub again_of : Want → Want
again_of Raw = Raw
again_of Expanded = Expanded
again_of Character = Character
again_of (Act act) = Raw
again_of (Inner inner) = Raw
again_of (Gives told back) = Raw
again_of (Wrong kind) = Raw

-- ---- a phrase begins

-- what the phrase wants first, and how far it is
pub record Begins (task : Task) (context : Context) (progress : Progress) (want : Want) : Type 0 where
  pub is : want ≡ wants context task []
  pub stands : WhileOpen want (Stands progress context task [])
  pub ready : Ready want progress

-- ---- a phrase goes on that has waited

-- what it waits for: what the inner phrase tells, or a token
abbrev pub Waits : Bool → Progress → Type 0
Waits true progress = FitsGot progress
Waits false progress = FitsToken progress

abbrev pub AllWait : List Frame → Type 0
AllWait [] = Unit {0}
AllWait (frame ∷ below) = Waits frame.takes frame.progress × AllWait below

-- it takes what the inner phrase told, or wants an expanded token again
abbrev pub taken_then : Bool → Told → List Taken → List Taken
taken_then takes told taken = if takes then taken ++ Got told ∷ [] else taken

abbrev pub WantsAgain : Bool → Context → Task → List Taken → Type 0
WantsAgain true context kind taken = Unit {0}
WantsAgain false context kind taken = wants context kind taken ≡ Expanded

pub record GoesOn (takes : Bool) (before : Progress) (told : Told) (after : Progress) (want : Want) : Type 0 where
  pub is : (context : Context) (kind : Task) (taken : List Taken) → Stands before context kind taken → WantsAgain takes context kind taken
      → want ≡ wants context kind (taken_then takes told taken)
  pub stands : (context : Context) (kind : Task) (taken : List Taken) → Stands before context kind taken
      → WhileOpen want (Stands after context kind (taken_then takes told taken))
  pub ready : Ready want after

-- what was taken off the frames
abbrev pub Popped : List Frame → Option Frame → List Frame → Type 0
Popped before None after = before ≡ []
Popped before (Some frame) after = before ≡ frame ∷ after

-- ---- the stack

-- the phrase for which a frame stands, with the turns that it has left
pub record Unfinished : Type 0 where
  pub turns : ℕ
  pub kind : Task
  pub taken : List Taken

abbrev pub phrase_of : Frame → Unfinished → Waiting Context Task Taken
phrase_of frame phrase = waiting phrase.turns frame.context phrase.kind phrase.taken frame.takes

abbrev pub phrases_of : List Frame → List Unfinished → List (Waiting Context Task Taken)
phrases_of [] phrases = []
phrases_of (frame ∷ below) [] = []
phrases_of (frame ∷ below) (phrase ∷ phrases) = phrase_of frame phrase ∷ phrases_of below phrases

pub record StandsFor (frame : Frame) (phrase : Unfinished) : Type 0 where
  pub stands : Stands frame.progress frame.context phrase.kind phrase.taken
  pub again : WantsAgain frame.takes frame.context phrase.kind phrase.taken

abbrev pub AllStand : List Frame → List Unfinished → Type 0
AllStand [] phrases = Unit {0}
AllStand (frame ∷ below) [] = ⊥
AllStand (frame ∷ below) (phrase ∷ phrases) = StandsFor frame phrase × AllStand below phrases

-- so many turns were made; the innermost phrase stands for one of the recursion, and the frames for those around it
pub record Reads (o : Outside) (old now : Seen) (whole : Meant State Told) (made : ℕ) (below : List Frame) (context : Context) (progress : Progress) (want : Want) (s : State) : Type 0 where
  pub ready : Ready want progress
  pub below_wait : AllWait below
  pub kind : Task
  pub taken : List Taken
  pub is : want ≡ wants context kind taken
  pub stands : WhileOpen want (Stands progress context kind taken)
  pub left : ℕ
  pub counted : left + made ≡ most_turns
  pub turns : ℕ
  pub phrases : List Unfinished
  pub below_stand : AllStand below phrases
  pub unwinds : Unwinds (rules o) o old now whole left (phrases_of below phrases) turns context kind taken s
