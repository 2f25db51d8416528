use Rattle.std.proofs.Common.{◌≡◌, ◌*◌, take}
use Rattle.box_pack.specs.MeasureSums.{list_measure}
use Rattle.box_pack.specs.VerticalSizes.{AreWithin, vertical_sizes}
use Rattle.box_pack.proofs.vertical.sums_of.Given as goal

abbrev pub invariant-loop-node : goal.invariant-loop-node
invariant-loop-node l =
    (l.measure ≡ list_measure (take l.node-index l.list))
    × (l.sizes ≡ vertical_sizes (take l.node-index l.list))
    × AreWithin (l.node-index * 4294967296) l.sizes
