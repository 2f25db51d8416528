-- The walk that a value of `Walker` holds, and leaders with what their item does in its place.
use Rattle.std.specs.Prelude.{Option, Some, None}
use Rattle.nodes.specs.declared.node.Node.{Node}
use Rattle.nodes.specs.declared.spacing.Leaders.{Leaders}
use Rattle.dvi_out.specs.declared.walker.Walker.{Walker}
use Rattle.dvi_out.specs.SpellingWalk.{Walk, walk, Printed, printed_node}

abbrev pub walk_of : Walker → Walk
walk_of walker =
    walk walker.h walker.v walker.reader_h walker.reader_v walker.sum walker.grown walker.depth walker.deepest
    walker.commands.items

abbrev pub leaders_printed : Option (Leaders Node) → Option (Leaders Printed)
leaders_printed None = None
leaders_printed (Some leaders) = Some (record { how = leaders.how; item = printed_node leaders.item })
