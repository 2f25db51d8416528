-- What each node of a horizontal list adds to the size of its hbox.
-- From: The TeXbook, chapters 12 and 21; tex.web, sections 651 to 656.
use Rattle.std.specs.Prelude.{ℤ, pos, ◌+ℤ◌, ◌-ℤ◌, List}
use Rattle.nodes.specs.declared.node.Node.{Node}
use Rattle.nodes.specs.declared.node.Node.TheOpen.{Node-F}
use Rattle.nodes.specs.declared.node.Node.TheViews.{out-Node}
use Rattle.box_pack.specs.declared.extent.Extent.{Extent}
use Rattle.box_pack.specs.PackingExtents.{rule_extent, leaders_extent}
use Rattle.box_pack.specs.PackingSums.{total, greatest}

-- how wide something is, and how far it reaches above and below the baseline
pub record Reach : Type 0 where
  pub width : ℤ
  pub height : ℤ
  pub depth : ℤ

abbrev pub reaching : ℤ → ℤ → ℤ → Reach
reaching width height depth = record { width = width; height = height; depth = depth }

-- something that needs no room above and below
abbrev pub only_wide : ℤ → Reach
only_wide width = reaching width (pos 0) (pos 0)

-- what has no effect on the sizes
abbrev pub no_reach : Reach
no_reach = only_wide (pos 0)

-- so wide, with room for something above and below
abbrev pub wide_as : ℤ → Extent → Reach
wide_as width extent = reaching width extent.height extent.depth

abbrev pub rule_reach : Extent → Reach
rule_reach extent = reaching extent.width extent.height extent.depth

-- A character adds its width, and no italic correction. A box is moved down by its shift. A discretionary adds nothing: what
-- it would replace stands in the list. Marks, insertions and adjustments stay in the list here, and add nothing.
abbrev pub reach_in : Node-F Node → Reach
reach_in (Node-F.Char font byte width height depth italic) = reaching width height depth
reach_in (Node-F.Lig lig) = reaching lig.width lig.height lig.depth
reach_in (Node-F.Boxed b) = reaching b.width (b.height -ℤ b.shift) (b.depth +ℤ b.shift)
reach_in (Node-F.Rule width height depth) = rule_reach (rule_extent width height depth)
reach_in (Node-F.Skip skip) = wide_as skip.glue.width (leaders_extent skip.leaders)
reach_in (Node-F.Kern width how) = only_wide width
reach_in (Node-F.Penalty penalty) = no_reach
reach_in (Node-F.Disc disc) = no_reach
reach_in (Node-F.Mark mark) = no_reach
reach_in (Node-F.Insert insert) = no_reach
reach_in (Node-F.Adjust list) = no_reach
reach_in (Node-F.Whatsit whatsit) = no_reach

abbrev pub reach_of : Node → Reach
reach_of node = reach_in (out-Node node)

-- the natural sizes of an hbox: its width is a sum; height and depth are maxima, which aren't negative
abbrev pub natural_width : List Node → ℤ
natural_width list = total (λ node. (reach_of node).width) list

abbrev pub natural_height : List Node → ℤ
natural_height list = greatest (λ node. (reach_of node).height) list

abbrev pub natural_depth : List Node → ℤ
natural_depth list = greatest (λ node. (reach_of node).depth) list
