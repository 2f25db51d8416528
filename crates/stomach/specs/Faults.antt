-- Which counts of failed calls rise in a run, by its exit.
use Rattle.std.specs.Prelude.{◌≡◌, ℕ, ◌≤◌, Bool}
use Rattle.asking.specs.Seen.{Rose}
use Rattle.stomach.specs.declared.ending.Exit.{Exit}
use Rattle.stomach.specs.declared.ending.Exit.TheVariants.{Done, Trouble, Usage, Capacity, Spent, ReadFault, WriteFault, OutOfMemory}

-- the exit is ReadFault exactly where the count of failed reads rose, no write failed and memory didn't run out. Before
-- a write failed, or memory ran out, a read may have failed too
abbrev pub ReadFaultWhere : Bool → Exit → ℕ → ℕ → Type 0
ReadFaultWhere tells Done reads reads_after = reads_after ≡ reads
ReadFaultWhere tells Trouble reads reads_after = reads_after ≡ reads
ReadFaultWhere tells Usage reads reads_after = reads_after ≡ reads
ReadFaultWhere tells Capacity reads reads_after = reads_after ≡ reads
ReadFaultWhere tells Spent reads reads_after = reads_after ≡ reads
ReadFaultWhere tells ReadFault reads reads_after = Rose tells reads reads_after
ReadFaultWhere tells WriteFault reads reads_after = reads ≤ reads_after
ReadFaultWhere tells OutOfMemory reads reads_after = reads ≤ reads_after

-- the exit is WriteFault exactly where the count of failed writes rose
abbrev pub WriteFaultWhere : Bool → Exit → ℕ → ℕ → Type 0
WriteFaultWhere tells Done writes writes_after = writes_after ≡ writes
WriteFaultWhere tells Trouble writes writes_after = writes_after ≡ writes
WriteFaultWhere tells Usage writes writes_after = writes_after ≡ writes
WriteFaultWhere tells Capacity writes writes_after = writes_after ≡ writes
WriteFaultWhere tells Spent writes writes_after = writes_after ≡ writes
WriteFaultWhere tells ReadFault writes writes_after = writes_after ≡ writes
WriteFaultWhere tells WriteFault writes writes_after = Rose tells writes writes_after
WriteFaultWhere tells OutOfMemory writes writes_after = writes_after ≡ writes
