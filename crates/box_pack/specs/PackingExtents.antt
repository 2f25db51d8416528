-- The sizes of boxes and rules as they are, wherever they are shifted.
-- From: The TeXbook, chapters 12 and 21; tex.web, sections 138, 656 and 671.
use Rattle.std.specs.Prelude.{ℤ, pos, Option, Some, None, unwrap_or}
use Rattle.nodes.specs.declared.node.Node.{Node}
use Rattle.nodes.specs.declared.node.Node.TheOpen.{Node-F}
use Rattle.nodes.specs.declared.node.Node.TheViews.{out-Node}
use Rattle.nodes.specs.declared.spacing.Leaders.{Leaders}
use Rattle.box_pack.specs.declared.extent.Extent.{Extent}

-- without any size
abbrev pub nowhere : Extent
nowhere = record { width = pos 0; height = pos 0; depth = pos 0 }

-- A size of a rule. One that is missing will be that of the box around the rule, to which it adds nothing.
abbrev pub given : Option ℤ → ℤ
given size = unwrap_or size (pos 0)

abbrev pub rule_extent : Option ℤ → Option ℤ → Option ℤ → Extent
rule_extent width height depth = record { width = given width; height = given height; depth = given depth }

-- of a box or a rule; another node counts for nothing here
abbrev pub extent_in : {A : Type 0} → Node-F A → Extent
extent_in (Node-F.Char font byte width height depth italic) = nowhere
extent_in (Node-F.Lig lig) = nowhere
extent_in (Node-F.Boxed b) = record { width = b.width; height = b.height; depth = b.depth }
extent_in (Node-F.Rule width height depth) = rule_extent width height depth
extent_in (Node-F.Skip skip) = nowhere
extent_in (Node-F.Kern width how) = nowhere
extent_in (Node-F.Penalty penalty) = nowhere
extent_in (Node-F.Disc disc) = nowhere
extent_in (Node-F.Mark mark) = nowhere
extent_in (Node-F.Insert insert) = nowhere
extent_in (Node-F.Adjust list) = nowhere
extent_in (Node-F.Whatsit whatsit) = nowhere

-- of one item of leaders: leaders of something else than a box or a rule are plain glue
abbrev pub leaders_extent : Option (Leaders Node) → Extent
leaders_extent None = nowhere
leaders_extent (Some leaders) = extent_in (out-Node leaders.item)
