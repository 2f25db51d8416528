-- The automaton for dimensions: what it waits for, what it stands for, and what it says.
use Rattle.std.specs.Prelude.{◌≡◌, true, false, List}
use Rattle.scan_nums.specs.declared.number.Number.{Number}
use Rattle.scan_nums.specs.declared.verdict.Verdict.{Verdict}
use Rattle.scan_nums.specs.declared.verdict.Verdict.TheVariants.{Need, Ask, Sub, Done, DoneBefore, Trouble, Pass}
use Rattle.scan_nums.specs.declared.dimen_state.DimenKind.{DimenKind}
use Rattle.scan_nums.specs.declared.dimen_state.DimenStep.{DimenStep}
use Rattle.scan_nums.specs.declared.dimen_state.DimenStep.TheVariants.{Going, Finished}
use Rattle.scan_nums.specs.declared.number.Number.TheVariants as number
use Rattle.scan_nums.specs.declared.dimen_scan.DimenScan.{DimenScan}
use Rattle.scan_nums.specs.Awaited.{Awaited}
use Rattle.scan_nums.specs.Taken.{Taken}
use Rattle.scan_nums.specs.Number.{first_number}
use Rattle.scan_nums.specs.Dimension.{dimension, stretching, stretching_dimension}
use Rattle.scan_nums.specs.DimenStanding.{state_awaits, StateStands}

abbrev pub awaits : DimenScan → Awaited
awaits scan = state_awaits scan.state

-- what the phrase may be, as it was said when the automaton was made
abbrev pub kind_of : DimenScan → DimenKind
kind_of scan = scan.kind

-- the automaton is one to which just this was handed, the earliest first
abbrev pub Stands : DimenScan → List Taken → Type 0
Stands scan taken = StateStands scan.kind.mu scan.kind.orders scan.state taken

-- what the grammar says of a list
abbrev pub phrase : DimenKind → List Taken → Verdict
phrase kind taken = dimension kind.mu kind.orders taken

-- a dimension as a stretch of the automaton's order
abbrev pub stretching_of : Number → DimenScan → Number
stretching_of n scan = stretching (first_number n) scan.order

-- where the dimension has ended: its order is the grammar's
abbrev pub OrderIs : DimenScan → DimenKind → Verdict → List Taken → Type 0
OrderIs scan kind Need taken = Unit {0}
OrderIs scan kind (Ask q) taken = Unit {0}
OrderIs scan kind (Sub p) taken = Unit {0}
OrderIs scan kind (Done n) taken = stretching_dimension kind.mu kind.orders taken ≡ Done (stretching_of n scan)
OrderIs scan kind (DoneBefore n back) taken = stretching_dimension kind.mu kind.orders taken ≡ DoneBefore (stretching_of n scan) back
OrderIs scan kind (Trouble k) taken = Unit {0}
OrderIs scan kind (Pass k back) taken = Unit {0}

-- where a step leads: to its state with its verdict, or to the end with its value and order
abbrev pub IsFollowed : DimenStep → DimenScan → Verdict → Type 0
IsFollowed (Going after verdict) scan result = (scan.state ≡ after) × (result ≡ verdict)
IsFollowed (Finished v o false) scan result = (scan.order ≡ o) × (result ≡ Done (number.Dimen v))
IsFollowed (Finished v o true) scan result = (scan.order ≡ o) × (result ≡ DoneBefore (number.Dimen v) 1)
