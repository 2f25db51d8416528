-- How the sums of a list's glue are kept, and what one more glue makes of them.
-- From: tex.web, sections 646, 656 and 671.
use Rattle.std.specs.Prelude.{ℕ, ℤ, pos, ◌+ℤ◌, neg_ℤ, ◌≤ℤ◌, List, Option, Some, None}
use Rattle.scaled.specs.declared.spacing.Order.{Order}
use Rattle.scaled.specs.declared.spacing.Glue.{Glue}
use Rattle.scaled.specs.declared.spacing.Order.TheVariants.{Normal, Fil, Fill, Filll}
use Rattle.nodes.specs.declared.node.Node.{Node}
use Rattle.box_pack.specs.declared.flexibility.Flexibility.{Flexibility}
use Rattle.box_pack.specs.declared.flexibility.GlueTotals.{GlueTotals}
use Rattle.box_pack.specs.PackingFlexibility.{stretches, shrinks}

-- with this amount more of an order
abbrev pub with_more : ℤ → Order → Flexibility → Flexibility
with_more amount Normal flexibility = record flexibility { normal = flexibility.normal +ℤ amount }
with_more amount Fil flexibility = record flexibility { fil = flexibility.fil +ℤ amount }
with_more amount Fill flexibility = record flexibility { fill = flexibility.fill +ℤ amount }
with_more amount Filll flexibility = record flexibility { filll = flexibility.filll +ℤ amount }

-- with one more glue, where there is one
abbrev pub stretched_by : Option Glue → Flexibility → Flexibility
stretched_by None flexibility = flexibility
stretched_by (Some glue) flexibility = with_more glue.stretch glue.stretch_order flexibility

abbrev pub shrunk_by : Option Glue → Flexibility → Flexibility
shrunk_by None flexibility = flexibility
shrunk_by (Some glue) flexibility = with_more glue.shrink glue.shrink_order flexibility

abbrev pub glue_with : Option Glue → GlueTotals → GlueTotals
glue_with glue totals = record { stretch = stretched_by glue totals.stretch; shrink = shrunk_by glue totals.shrink }

-- the sums of a list's glue
abbrev pub glue_totals : List Node → GlueTotals
glue_totals list = record { stretch = stretches list; shrink = shrinks list }

-- ---- how far sums have gone

pub record IsWithin (bound : ℕ) (z : ℤ) : Type 0 where
  pub low : neg_ℤ (pos bound) ≤ℤ z
  pub high : z ≤ℤ pos bound

pub record EachWithin (bound : ℕ) (flexibility : Flexibility) : Type 0 where
  pub normal : IsWithin bound flexibility.normal
  pub fil : IsWithin bound flexibility.fil
  pub fill : IsWithin bound flexibility.fill
  pub filll : IsWithin bound flexibility.filll

pub record BothWithin (bound : ℕ) (totals : GlueTotals) : Type 0 where
  pub stretch : EachWithin bound totals.stretch
  pub shrink : EachWithin bound totals.shrink
