-- The numbers of the ways in which a call can end a run.
use Rattle.std.specs.Prelude.{ℕ}
use Rattle.tokens.specs.declared.stop.Stop.{Stop}
use Rattle.tokens.specs.declared.stop.Stop.TheVariants.{Trouble, Capacity, Spent, ReadFault, WriteFault, OutOfMemory}

-- the place among the six, counted from 1
abbrev pub stop_number : Stop → ℕ
stop_number (Trouble _) = 1
stop_number (Capacity _) = 2
stop_number Spent = 3
stop_number ReadFault = 4
stop_number WriteFault = 5
stop_number OutOfMemory = 6
