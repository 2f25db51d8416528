use Rattle.std.proofs.Common.{◌≡◌, ◌<◌, ◌++◌, drop}
use Rattle.std.specs.Io.{StartsWith}
use Rattle.world.specs.Printed.{bytes_put}
use Rattle.world.proofs.strip.put_bytes.Given as goal

-- what is written, followed by what is left to write, is the whole
abbrev pub invariant-loop-byte : goal.invariant-loop-byte
invariant-loop-byte l =
    (l.column < 79)
    × (l.out.items ++ (bytes_put (drop l.byte-index l.bytes) l.column).bytes ≡ l.initial.out.items ++ (bytes_put l.bytes l.initial.column).bytes)
    × ((bytes_put (drop l.byte-index l.bytes) l.column).column ≡ (bytes_put l.bytes l.initial.column).column)
    × StartsWith l.out.items l.initial.out.items
