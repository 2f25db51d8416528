use Rattle.std.proofs.Common.{◌≡◌, length}
use Rattle.std.specs.Io.KnownBytes.{Consumes}
use Rattle.world.proofs.Turns.{HasRead}
use Rattle.world.proofs.whole.read_to_end.Given as goal

-- the bytes are those that the file has given, in as many reads as there were turns
abbrev pub invariant-loop : goal.invariant-loop
invariant-loop g l =
    (length l.chunk ≡ 8192)
    × Consumes (g.D.Disk.remaining l.initial.file) (g.D.Disk.remaining l.file) l.bytes.items
    × HasRead g.D.Disk.did l.initial.disk l.initial.file l.counter l.bytes.items l.disk l.file
