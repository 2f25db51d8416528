-- How the sizes of an hbox are kept while its list is gone along, and what one more node makes of them.
-- From: tex.web, sections 650 to 656.
use Rattle.std.specs.Prelude.{ℕ, ℤ, pos, ◌+ℤ◌, ◌≤ℤ◌, List, Result}
use Rattle.std.specs.Int.{int_max}
use Rattle.nodes.specs.declared.node.Node.{Node}
use Rattle.tokens.specs.declared.stop.Stop.{Stop}
use Rattle.box_pack.specs.declared.goal.Goal.{Goal}
use Rattle.box_pack.specs.declared.horizontal.Sizes.{Sizes}
use Rattle.box_pack.specs.declared.horizontal.Sums.{Sums}
use Rattle.box_pack.specs.declared.limits.Plan.{Plan}
use Rattle.box_pack.specs.PackingLimits.{if_measured, box_measure, plan_for}
use Rattle.box_pack.specs.PackingBoxes.{size_for}
use Rattle.box_pack.specs.PackingHorizontal.{Reach, reach_of, natural_width, natural_height, natural_depth}
use Rattle.box_pack.specs.PackingFlexibility.{glue_of}
use Rattle.box_pack.specs.GlueSums.{IsWithin, BothWithin, glue_totals, glue_with}

-- with something more that reaches so far
abbrev pub with_reach : Reach → Sizes → Sizes
with_reach reach sizes = record {
  width = sizes.width +ℤ reach.width;
  height = int_max sizes.height reach.height;
  depth = int_max sizes.depth reach.depth;
  glue = sizes.glue;
}

-- with one more node
abbrev pub with_node : Node → Sizes → Sizes
with_node node sizes = record (with_reach (reach_of node) sizes) { glue = glue_with (glue_of node) sizes.glue }

-- the sizes of a list
abbrev pub horizontal_sizes : List Node → Sizes
horizontal_sizes list = record {
  width = natural_width list;
  height = natural_height list;
  depth = natural_depth list;
  glue = glue_totals list;
}

-- what is summed up over a list that is neither too deep nor too long
abbrev pub horizontal_sums : List Node → Result Sums Stop
horizontal_sums list = if_measured list (record { measure = box_measure list; sizes = horizontal_sizes list })

-- sums haven't gone beyond a bound, and maxima aren't negative
pub record AreWithin (bound : ℕ) (sizes : Sizes) : Type 0 where
  pub width : IsWithin bound sizes.width
  pub high : pos 0 ≤ℤ sizes.height
  pub deep : pos 0 ≤ℤ sizes.depth
  pub glue : BothWithin bound sizes.glue

-- what an hbox with these natural sizes is to be
abbrev pub horizontal_plan : Goal → Sizes → Result Plan Stop
horizontal_plan goal sizes =
    let width = size_for goal sizes.width in
    plan_for sizes.width width (record { width = width; height = sizes.height; depth = sizes.depth })
