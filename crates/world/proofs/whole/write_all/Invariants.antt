use Rattle.std.proofs.Common.{◌≡◌, ℕ, List, ◌++◌}
use Rattle.std.specs.Io.KnownBytes.{Appends}
use Rattle.world.proofs.Turns.{HasWritten}
use Rattle.world.specs.Trace.{contents_of}
use Rattle.world.proofs.whole.write_all.Given as goal

-- the outlet has taken all before the rest, in as many writes as there were turns
abbrev pub invariant-loop : goal.invariant-loop
invariant-loop g l =
    ((done : List ℕ) × (l.bytes ≡ done ++ l.rest) × Appends (contents_of g.D.Disk.contents l.initial.outlet) (contents_of g.D.Disk.contents l.outlet) done)
    × HasWritten g.D.Disk.did l.initial.disk l.initial.outlet l.bytes l.counter l.rest l.disk l.outlet
