-- What each node of a vertical list adds to the size of its vbox.
-- From: The TeXbook, chapters 12 and 21; tex.web, sections 668 to 671 and 1087.
use Rattle.std.specs.Prelude.{ℤ, pos, ◌+ℤ◌, ◌-ℤ◌, List, [], ◌∷◌, Option, Some, None}
use Rattle.std.specs.Int.{int_min}
use Rattle.nodes.specs.declared.node.Node.{Node}
use Rattle.nodes.specs.declared.node.Node.TheOpen.{Node-F}
use Rattle.nodes.specs.declared.node.Node.TheViews.{out-Node}
use Rattle.box_pack.specs.declared.extent.Extent.{Extent}
use Rattle.box_pack.specs.PackingExtents.{rule_extent, leaders_extent, extent_in}
use Rattle.box_pack.specs.PackingSums.{total, greatest, last_number}

-- How much of the vertical list something takes from its top to its bottom, how far it reaches to the right of the
-- reference point, and how much of it would hang below the baseline of a box that ends there. Without that last number it
-- makes no difference to what hangs there.
pub record Drop : Type 0 where
  pub length : ℤ
  pub width : ℤ
  pub hanging : Option ℤ

abbrev pub dropping : ℤ → ℤ → Option ℤ → Drop
dropping length width hanging = record { length = length; width = width; hanging = hanging }

-- a box or a rule, which is so high, so deep and so wide
abbrev pub standing : ℤ → ℤ → ℤ → Drop
standing height depth width = dropping (height +ℤ depth) width (Some depth)

-- glue or a kern: what stands in front of it doesn't hang below the baseline
abbrev pub spaced : ℤ → ℤ → Drop
spaced length width = dropping length width (Some (pos 0))

-- what has no effect on the sizes
abbrev pub no_drop : Drop
no_drop = dropping (pos 0) (pos 0) None

abbrev pub rule_drop : Extent → Drop
rule_drop extent = standing extent.height extent.depth extent.width

-- A box is moved to the right by its shift. Leaders need the width of one item. Characters, ligatures and discretionaries
-- have no place in a vertical list, and add nothing there.
abbrev pub drop_in : Node-F Node → Drop
drop_in (Node-F.Char font byte width height depth italic) = no_drop
drop_in (Node-F.Lig lig) = no_drop
drop_in (Node-F.Boxed b) = standing b.height b.depth (b.width +ℤ b.shift)
drop_in (Node-F.Rule width height depth) = rule_drop (rule_extent width height depth)
drop_in (Node-F.Skip skip) = spaced skip.glue.width (leaders_extent skip.leaders).width
drop_in (Node-F.Kern width how) = spaced width (pos 0)
drop_in (Node-F.Penalty penalty) = no_drop
drop_in (Node-F.Disc disc) = no_drop
drop_in (Node-F.Mark mark) = no_drop
drop_in (Node-F.Insert insert) = no_drop
drop_in (Node-F.Adjust list) = no_drop
drop_in (Node-F.Whatsit whatsit) = no_drop

abbrev pub drop_of : Node → Drop
drop_of node = drop_in (out-Node node)

-- from the top of a vertical list to its bottom
abbrev pub length_of : List Node → ℤ
length_of list = total (λ node. (drop_of node).length) list

-- the width of a vbox, which isn't negative
abbrev pub width_of : List Node → ℤ
width_of list = greatest (λ node. (drop_of node).width) list

-- what of the last item hangs below the baseline
abbrev pub hanging_of : List Node → ℤ
hanging_of list = last_number (λ node. (drop_of node).hanging) list

-- the depth of a vbox has a bound, and what is above the bound belongs to the height
abbrev pub depth_within : ℤ → List Node → ℤ
depth_within bound list = int_min (hanging_of list) bound

abbrev pub height_within : ℤ → List Node → ℤ
height_within bound list = length_of list -ℤ depth_within bound list

-- the height of a \vtop: that of its first item, where that is a box or a rule, else 0
abbrev pub top_height : List Node → ℤ
top_height [] = pos 0
top_height (node ∷ rest) = (extent_in (out-Node node)).height
