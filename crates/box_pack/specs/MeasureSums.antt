-- How nesting and count of a list are kept while it is gone along, and what one more node makes of them.
-- From: the limits `box nesting` and `list items`, which are rules of this program.
use Rattle.std.specs.Prelude.{◌+◌, min, max, nat_lt, List, Result, Ok, Err, if◌then◌else◌}
use Rattle.tokens.specs.declared.cap.Cap.TheVariants.{BoxNesting, Items}
use Rattle.tokens.specs.declared.stop.Stop.{Stop}
use Rattle.tokens.specs.declared.stop.Stop.TheVariants.{Capacity}
use Rattle.nodes.specs.declared.node.Node.{Node}
use Rattle.nodes.specs.PackingMeasure.{node_nesting, node_count, nesting_of, count_of}
use Rattle.box_pack.specs.declared.measuring.Measure.{Measure}

-- nesting and count of a list; 4294967295 also stands for more nodes
abbrev pub list_measure : List Node → Measure
list_measure list = record { nesting = nesting_of list; count = min 4294967295 (count_of list) }

-- with one more node
abbrev pub with_measured : Node → Measure → Measure
with_measured node measure = record {
  nesting = max measure.nesting (node_nesting node);
  count = min 4294967295 (measure.count + node_count node);
}

-- what a box over a list with this measure tells of itself, or the limit that is passed
abbrev pub box_measured : Measure → Result Measure Stop
box_measured measure =
    if nat_lt 500 (1 + measure.nesting) then Err (Capacity BoxNesting) else
    (if nat_lt 16777215 measure.count then Err (Capacity Items) else
    Ok (record { nesting = 1 + measure.nesting; count = measure.count }))
