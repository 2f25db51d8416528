-- How the sizes of a vbox are kept while its list is gone along, and what one more node makes of them.
-- From: tex.web, sections 668 to 671.
use Rattle.std.specs.Prelude.{ℕ, ℤ, pos, ◌+ℤ◌, ◌-ℤ◌, ◌≤ℤ◌, List, Result, unwrap_or}
use Rattle.std.specs.Int.{int_max, int_min}
use Rattle.nodes.specs.declared.node.Node.{Node}
use Rattle.tokens.specs.declared.stop.Stop.{Stop}
use Rattle.box_pack.specs.declared.goal.Goal.{Goal}
use Rattle.box_pack.specs.declared.limits.Plan.{Plan}
use Rattle.box_pack.specs.declared.vertical.Sizes.{Sizes}
use Rattle.box_pack.specs.declared.vertical.Sums.{Sums}
use Rattle.box_pack.specs.PackingLimits.{if_measured, box_measure, plan_for}
use Rattle.box_pack.specs.PackingBoxes.{size_for}
use Rattle.box_pack.specs.PackingVertical.{Drop, drop_of, length_of, width_of, hanging_of}
use Rattle.box_pack.specs.PackingFlexibility.{glue_of}
use Rattle.box_pack.specs.GlueSums.{IsWithin, BothWithin, glue_totals, glue_with}

-- with something more below
abbrev pub with_drop : Drop → Sizes → Sizes
with_drop drop sizes = record {
  length = sizes.length +ℤ drop.length;
  width = int_max sizes.width drop.width;
  hanging = unwrap_or drop.hanging sizes.hanging;
  glue = sizes.glue;
}

-- with one more node
abbrev pub with_node : Node → Sizes → Sizes
with_node node sizes = record (with_drop (drop_of node) sizes) { glue = glue_with (glue_of node) sizes.glue }

-- the sizes of a list
abbrev pub vertical_sizes : List Node → Sizes
vertical_sizes list = record {
  length = length_of list;
  width = width_of list;
  hanging = hanging_of list;
  glue = glue_totals list;
}

-- what is summed up over a list that is neither too deep nor too long
abbrev pub vertical_sums : List Node → Result Sums Stop
vertical_sums list = if_measured list (record { measure = box_measure list; sizes = vertical_sizes list })

-- sums haven't gone beyond a bound, what hangs is a number of 32 bits, and the width isn't negative
pub record AreWithin (bound : ℕ) (sizes : Sizes) : Type 0 where
  pub length : IsWithin bound sizes.length
  pub wide : pos 0 ≤ℤ sizes.width
  pub hanging : IsWithin 2147483648 sizes.hanging
  pub glue : BothWithin bound sizes.glue

-- what a vbox with these natural sizes is to be, whose depth has this bound
abbrev pub vertical_plan : Goal → ℤ → Sizes → Result Plan Stop
vertical_plan goal bound sizes =
    let depth = int_min sizes.hanging bound in
    let natural = sizes.length -ℤ depth in
    let height = size_for goal natural in
    plan_for natural height (record { width = sizes.width; height = height; depth = depth })
