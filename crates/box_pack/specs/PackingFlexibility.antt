-- By how much the glue of a list can stretch and shrink, summed for each order of infinity.
-- From: The TeXbook, chapter 12; tex.web, sections 646, 656, 659, 665 and 671.
use Rattle.std.specs.Prelude.{ℤ, pos, List, Option, Some, None, if◌then◌else◌}
use Rattle.std.specs.Ordering.{int_eq}
use Rattle.scaled.specs.declared.spacing.Order.{Order}
use Rattle.scaled.specs.declared.spacing.Order.TheVariants.{Normal, Fil, Fill, Filll}
use Rattle.scaled.specs.declared.spacing.Glue.{Glue}
use Rattle.scaled.specs.Glue.{same_order}
use Rattle.nodes.specs.declared.node.Node.{Node}
use Rattle.nodes.specs.declared.node.Node.TheOpen.{Node-F}
use Rattle.nodes.specs.declared.node.Node.TheViews.{out-Node}
use Rattle.box_pack.specs.declared.flexibility.Flexibility.{Flexibility}
use Rattle.box_pack.specs.PackingSums.{total}

-- the glue that a node is, if it is one
abbrev pub glue_in : {A : Type 0} → Node-F A → Option Glue
glue_in (Node-F.Char font byte width height depth italic) = None
glue_in (Node-F.Lig lig) = None
glue_in (Node-F.Boxed b) = None
glue_in (Node-F.Rule width height depth) = None
glue_in (Node-F.Skip skip) = Some skip.glue
glue_in (Node-F.Kern width how) = None
glue_in (Node-F.Penalty penalty) = None
glue_in (Node-F.Disc disc) = None
glue_in (Node-F.Mark mark) = None
glue_in (Node-F.Insert insert) = None
glue_in (Node-F.Adjust list) = None
glue_in (Node-F.Whatsit whatsit) = None

abbrev pub glue_of : Node → Option Glue
glue_of node = glue_in (out-Node node)

-- what a glue adds to the stretch of an order, and to the shrink
abbrev pub stretch_for : Order → Option Glue → ℤ
stretch_for order None = pos 0
stretch_for order (Some glue) = if same_order glue.stretch_order order then glue.stretch else pos 0

abbrev pub shrink_for : Order → Option Glue → ℤ
shrink_for order None = pos 0
shrink_for order (Some glue) = if same_order glue.shrink_order order then glue.shrink else pos 0

-- the stretch of an order in a list, and the shrink
abbrev pub stretch_in : Order → List Node → ℤ
stretch_in order list = total (λ node. stretch_for order (glue_of node)) list

abbrev pub shrink_in : Order → List Node → ℤ
shrink_in order list = total (λ node. shrink_for order (glue_of node)) list

-- a number for each order
abbrev pub by_order : (Order → ℤ) → Flexibility
by_order amount = record { normal = amount Normal; fil = amount Fil; fill = amount Fill; filll = amount Filll }

abbrev pub stretches : List Node → Flexibility
stretches list = by_order (λ order. stretch_in order list)

abbrev pub shrinks : List Node → Flexibility
shrinks list = by_order (λ order. shrink_in order list)

abbrev pub at_order : Flexibility → Order → ℤ
at_order flexibility Normal = flexibility.normal
at_order flexibility Fil = flexibility.fil
at_order flexibility Fill = flexibility.fill
at_order flexibility Filll = flexibility.filll

-- the highest order whose sum isn't 0, and the finite one where all are 0
abbrev pub highest : Flexibility → Order
highest flexibility =
    if int_eq flexibility.filll (pos 0) then
    (if int_eq flexibility.fill (pos 0) then
    (if int_eq flexibility.fil (pos 0) then Normal else Fil)
    else Fill)
    else Filll
