use Rattle.std.proofs.Common.{◌≡◌, min, take}
use Rattle.nodes.specs.PackingMeasure.{nesting_of, count_of}
use Rattle.nodes.proofs.measuring.+measuring.Given as goal

abbrev pub invariant-measure-loop-i : goal.invariant-measure-loop-i
invariant-measure-loop-i l =
    (l.measured.0 ≡ nesting_of (take l.i l.list))
    × (l.measured.1 ≡ min 4294967295 (count_of (take l.i l.list)))
