-- The boxes that a list is packed to, and when it isn't.
-- From: The TeXbook, chapter 12; tex.web, sections 644 to 649, 657, 668, 672 and 1087. The three limits are rules of this
-- program, and so is their order.
use Rattle.std.specs.Prelude.{◌+◌, Bool, true, false, ◌||◌, ℤ, pos, ◌+ℤ◌, ◌-ℤ◌, List, [], ◌∷◌, Result, Ok, Err, if◌then◌else◌}
use Rattle.tokens.specs.declared.cap.Cap.TheVariants.{BoxNesting, Items, BoxSize}
use Rattle.tokens.specs.declared.stop.Stop.{Stop}
use Rattle.tokens.specs.declared.stop.Stop.TheVariants.{Capacity}
use Rattle.nodes.specs.declared.node.Node.{Node}
use Rattle.nodes.specs.PackingMeasure.{nesting_of, count_of}
use Rattle.box_pack.specs.declared.extent.Extent.{Extent}
use Rattle.box_pack.specs.declared.goal.Goal.{Goal}
use Rattle.box_pack.specs.declared.goal.Goal.TheVariants.{Natural, To, Spread}
use Rattle.box_pack.specs.declared.packed.Packed.{Packed}
use Rattle.box_pack.specs.PackingHorizontal.{natural_width, natural_height, natural_depth}
use Rattle.box_pack.specs.PackingVertical.{width_of, depth_within, height_within, top_height}
use Rattle.box_pack.specs.PackingFlexibility.{stretches, shrinks}
use Rattle.box_pack.specs.PackingSetting.{Setting, setting_of, glue_set_of}
use Rattle.box_pack.specs.PackingReports.{badness_by, report_by}
use Rattle.box_pack.specs.PackingLimits.{is_too_deep, is_too_long, is_too_large, is_large}

-- the size that a box is to have whose natural size is this
abbrev pub size_for : Goal → ℤ → ℤ
size_for Natural natural = natural
size_for (To size) natural = size
size_for (Spread more) natural = natural +ℤ more

abbrev pub is_empty : List Node → Bool
is_empty [] = true
is_empty (node ∷ rest) = false

-- how the glue of a list is set to make up for this excess
abbrev pub setting : List Node → ℤ → Setting
setting list excess = setting_of (is_empty list) excess (stretches list) (shrinks list)

-- A box with these sizes, which isn't shifted, over a list whose glue makes up for this excess. Nesting and count are by
-- what the nodes tell of themselves.
abbrev pub packed_over : List Node → Bool → Extent → ℤ → Packed
packed_over list vertical extent excess = record {
  boxed = record {
    vertical = vertical;
    width = extent.width;
    height = extent.height;
    depth = extent.depth;
    shift = pos 0;
    list = list;
    set = glue_set_of excess (setting list excess);
    nesting = 1 + nesting_of list;
    count = count_of list;
  };
  report = report_by excess (setting list excess);
  badness = badness_by excess (setting list excess);
}

-- Of several limits that are passed the first is told: nesting, nodes, sizes. Natural and final sizes are limited.
abbrev pub within_limits : List Node → ℤ → Extent → Packed → Result Packed Stop
within_limits list natural extent packed =
    if is_too_deep list then Err (Capacity BoxNesting) else
    (if is_too_long list then Err (Capacity Items) else
    (if is_too_large natural || is_large extent then Err (Capacity BoxSize) else Ok packed))

-- ---- hboxes

abbrev pub hbox_extent : List Node → Goal → Extent
hbox_extent list goal = record {
  width = size_for goal (natural_width list);
  height = natural_height list;
  depth = natural_depth list;
}

abbrev pub hbox : List Node → Goal → Packed
hbox list goal =
    packed_over list false (hbox_extent list goal) (size_for goal (natural_width list) -ℤ natural_width list)

abbrev pub hpacked : List Node → Goal → Result Packed Stop
hpacked list goal = within_limits list (natural_width list) (hbox_extent list goal) (hbox list goal)

-- ---- vboxes

abbrev pub vbox_extent : List Node → Goal → ℤ → Extent
vbox_extent list goal bound = record {
  width = width_of list;
  height = size_for goal (height_within bound list);
  depth = depth_within bound list;
}

abbrev pub vbox : List Node → Goal → ℤ → Packed
vbox list goal bound =
    packed_over list true (vbox_extent list goal bound) (size_for goal (height_within bound list) -ℤ height_within bound list)

abbrev pub vpacked : List Node → Goal → ℤ → Result Packed Stop
vpacked list goal bound =
    within_limits list (height_within bound list) (vbox_extent list goal bound) (vbox list goal bound)

-- the sizes of a box whose reference point is so far below its top: what isn't height is depth
abbrev pub moved_extent : ℤ → Packed → Extent
moved_extent height packed = record {
  width = packed.boxed.width;
  height = height;
  depth = (packed.boxed.height +ℤ packed.boxed.depth) -ℤ height;
}

abbrev pub with_extent : Extent → Packed → Packed
with_extent extent packed = record packed {
  boxed = record packed.boxed { width = extent.width; height = extent.height; depth = extent.depth };
}

-- these sizes are limited too
abbrev pub moved_to : ℤ → Packed → Result Packed Stop
moved_to height packed =
    if is_large (moved_extent height packed) then Err (Capacity BoxSize)
    else Ok (with_extent (moved_extent height packed) packed)

abbrev pub moved_down : ℤ → Result Packed Stop → Result Packed Stop
moved_down height (Ok packed) = moved_to height packed
moved_down height (Err stop) = Err stop

-- a \vtop is a vbox, within the limits, whose reference point is then moved to its first item
abbrev pub vtopped : List Node → Goal → ℤ → Result Packed Stop
vtopped list goal bound = moved_down (top_height list) (vpacked list goal bound)
