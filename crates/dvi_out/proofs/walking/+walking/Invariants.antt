use Rattle.std.proofs.Common.{◌≡◌, ◌+◌, ◌*◌, map, take}
use Rattle.dvi_out.specs.SpellingWalk.{each_printed, printed_node, times, with_copy, box_printed, sizes_of}
use Rattle.dvi_out.specs.WalkOf.{walk_of}
use Rattle.dvi_out.specs.FrameOf.{frame}
use Rattle.nodes.specs.Inside.{box_map}
use Rattle.dvi_out.proofs.walking.+walking.Given as goal

abbrev pub invariant-walk_nodes-nodes : goal.invariant-walk_nodes-nodes
invariant-walk_nodes-nodes l =
    walk_of l.walker ≡ each_printed (frame l.around) (walk_of l.initial.walker) (map printed_node (take l.i l.list))

abbrev pub invariant-walk_leader-copies : goal.invariant-walk_leader-copies
invariant-walk_leader-copies l =
    walk_of l.walker
    ≡ times l._copy (with_copy (frame l.around) (sizes_of l.boxed) (box_printed (box_map printed_node l.boxed)) l.spread.between)
    (walk_of l.initial.walker)

-- a list takes a level off; within a level, nodes call leaders, and both call lists
abbrev pub decreases-walk_nodes : goal.decreases-walk_nodes
decreases-walk_nodes l = 4 * l.levels

abbrev pub decreases-walk_node : goal.decreases-walk_node
decreases-walk_node l = 4 * l.levels + 3

abbrev pub decreases-walk_box : goal.decreases-walk_box
decreases-walk_box l = 4 * l.levels + 1

abbrev pub decreases-walk_leaders : goal.decreases-walk_leaders
decreases-walk_leaders l = 4 * l.levels + 2

abbrev pub decreases-walk_leader : goal.decreases-walk_leader
decreases-walk_leader l = 4 * l.levels + 1
