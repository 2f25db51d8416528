-- The automaton for whole numbers: what it waits for, and what it stands for.
use Rattle.std.specs.Prelude.{List}
use Rattle.scan_nums.specs.declared.int_scan.IntScan.{IntScan}
use Rattle.scan_nums.specs.Awaited.{Awaited}
use Rattle.scan_nums.specs.Taken.{Taken}
use Rattle.scan_nums.specs.IntStanding.{state_awaits, StateStands}

abbrev pub awaits : IntScan → Awaited
awaits scan = state_awaits scan.state

-- the automaton is one to which just this was handed, the earliest first
abbrev pub Stands : IntScan → List Taken → Type 0
Stands scan taken = StateStands scan.state taken
