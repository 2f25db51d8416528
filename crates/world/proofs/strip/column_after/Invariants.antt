use Rattle.std.proofs.Common.{◌≡◌, ◌<◌, drop}
use Rattle.world.specs.Printed.{printed}
use Rattle.world.proofs.strip.column_after.Given as goal

-- the column after what is left to print is the column after the whole
abbrev pub invariant-loop-byte : goal.invariant-loop-byte
invariant-loop-byte l =
    (l.column < 79)
    × ((printed l.newline (drop l.byte-index l.bytes) l.column).column ≡ (printed l.newline l.bytes l.initial.column).column)
