-- What the words of a command line ask for, and how a run on them ends.
use Rattle.std.specs.Prelude.{◌≡◌, ℕ, ◌==◌, if◌then◌else◌, List, [], ◌∷◌, ◌++◌, take, Option, Some, None, codes}
use Rattle.world.specs.Calls.{WhereTold}
use Rattle.world.specs.Told.{Told, with_shown}
use Rattle.stomach.specs.declared.ending.Exit.{Exit}
use Rattle.stomach.specs.declared.ending.Exit.TheVariants.{Done, Trouble, Usage, Capacity, Spent, ReadFault, WriteFault, OutOfMemory}
use Rattle.stomach.specs.declared.machine.Ended.{Ended}
use Rattle.stomach.specs.Machine.{beginning, RunsFrom}

-- the first line: a word without the asterisk in front of it, byte 42
abbrev pub line_of : List ℕ → List ℕ
line_of [] = []
line_of (first ∷ rest) = (if first == 42 then rest else first ∷ rest)

-- one word is the first line, and no other number of words has one
abbrev pub first_line : List (List ℕ) → Option (List ℕ)
first_line [] = None
first_line (word ∷ []) = Some (line_of word)
first_line (word ∷ next ∷ rest) = None

-- how the program is called
abbrev pub usage : List ℕ
usage = codes "usage: etex_cli [--steps N] [--stamp YYYYMMDDHHMM] [--generate N] [WORD ...]" ++ 10 ∷ []

-- words that are no first line are answered by how the program is called, without a fetch. Where that could not be
-- shown, the terminal shows a beginning of it
abbrev pub ShowsUsage : Exit → Option Told → Option Told → Type 0
ShowsUsage Done old new = ⊥
ShowsUsage Trouble old new = ⊥
ShowsUsage Usage old new = WhereTold (λ t u. u ≡ with_shown usage t) old new
ShowsUsage Capacity old new = ⊥
ShowsUsage Spent old new = ⊥
ShowsUsage ReadFault old new = ⊥
ShowsUsage WriteFault old new = WhereTold (λ t u. (n : ℕ) × (u ≡ with_shown (take n usage) t)) old new
ShowsUsage OutOfMemory old new = WhereTold (λ t u. (n : ℕ) × (u ≡ with_shown (take n usage) t)) old new

-- how a run of so many steps on a first line ended
abbrev pub Runs : List ℕ → ℕ → Ended → Option Told → Option Told → ℕ → ℕ → Type 0
Runs line steps ended old new reads reads_after = RunsFrom (beginning line steps) steps ended old new reads reads_after

-- the program on what may be a first line: a run of 1,000,000,000 steps with this exit, or how the program is called
abbrev pub RunsOn : Option (List ℕ) → Exit → Option Told → Option Told → ℕ → ℕ → Type 0
RunsOn None exit old new reads reads_after = (reads_after ≡ reads) × ShowsUsage exit old new
RunsOn (Some line) exit old new reads reads_after = (ended : Ended) × ((ended.exit ≡ exit) × Runs line 1000000000 ended old new reads reads_after)
