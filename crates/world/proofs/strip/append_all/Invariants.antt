use Rattle.std.proofs.Common.{◌≡◌, ◌<◌, ◌++◌, length}
use Rattle.std.specs.Io.{StartsWith}
use Rattle.world.specs.Printed.{printed}
use Rattle.world.proofs.strip.append_all.Given as goal

-- what is written, followed by what is left to print, is the whole
abbrev pub invariant-loop-rest : goal.invariant-loop-rest
invariant-loop-rest l =
    (l.column < 79)
    × (l.out.items ++ (printed l.newline l.rest l.column).bytes ≡ l.initial.out.items ++ (printed l.newline l.bytes l.initial.column).bytes)
    × ((printed l.newline l.rest l.column).column ≡ (printed l.newline l.bytes l.initial.column).column)
    × StartsWith l.out.items l.initial.out.items

abbrev pub decreases-loop-rest : goal.decreases-loop-rest
decreases-loop-rest l = length l.rest
