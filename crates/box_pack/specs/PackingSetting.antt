-- How the glue of a box is set, so that the box has the size that it is to have.
-- From: The TeXbook, chapter 12; tex.web, sections 657 to 659, 664, 665, 672, 673 and 676. There a glue set is a floating
-- number; here it is a fraction, with its numerator and its denominator.
use Rattle.std.specs.Prelude.{Bool, ℤ, pos, negsuc, neg_ℤ, int_lt, if◌then◌else◌}
use Rattle.std.specs.Ordering.{int_eq}
use Rattle.scaled.specs.declared.spacing.Order.{Order}
use Rattle.scaled.specs.declared.spacing.Order.TheVariants.{Normal, Fil, Fill, Filll}
use Rattle.nodes.specs.declared.boxes.GlueSet.{GlueSet}
use Rattle.box_pack.specs.declared.flexibility.Flexibility.{Flexibility}
use Rattle.box_pack.specs.PackingFlexibility.{at_order, highest}

-- What is done to the glue of a box: nothing; what can stretch, or shrink, with this order and this total makes up for the
-- excess; or all finite shrink, of this total, is used up, and the box is overfull.
pub data Setting : Type 0 where
  AsItIs : Setting
  Stretched : Order → ℤ → Setting
  Shrunk : Order → ℤ → Setting
  Overfull : ℤ → Setting

-- the glue of the highest order stretches
abbrev pub stretched_setting : Flexibility → Setting
stretched_setting stretch = Stretched (highest stretch) (at_order stretch (highest stretch))

-- finite shrink, which doesn't go beyond its total
abbrev pub finite_setting : ℤ → ℤ → Setting
finite_setting excess total = if int_lt total (neg_ℤ excess) then Overfull total else Shrunk Normal total

-- shrink of an order, which goes as far as it must where it is infinite
abbrev pub shrunk_by : ℤ → Order → ℤ → Setting
shrunk_by excess Normal total = finite_setting excess total
shrunk_by excess Fil total = Shrunk Fil total
shrunk_by excess Fill total = Shrunk Fill total
shrunk_by excess Filll total = Shrunk Filll total

-- the glue of the highest order shrinks
abbrev pub shrunk_setting : ℤ → Flexibility → Setting
shrunk_setting excess shrink = shrunk_by excess (highest shrink) (at_order shrink (highest shrink))

-- By the excess, which is the size that the box is to have less the natural size, and what the glue offers. Nothing is done
-- in an empty box.
abbrev pub setting_of : Bool → ℤ → Flexibility → Flexibility → Setting
setting_of empty excess stretch shrink =
    if empty then AsItIs else
    (if int_lt (pos 0) excess then stretched_setting stretch else
    (if int_lt excess (pos 0) then shrunk_setting excess shrink
    else AsItIs))

-- all glue has its natural size
abbrev pub unset : GlueSet
unset = record { sign = pos 0; order = Normal; excess = pos 0; total = pos 0 }

-- the fraction excess / total; where there is nothing that could stretch or shrink, none is used
abbrev pub set_by : ℤ → Order → ℤ → ℤ → GlueSet
set_by sign order excess total =
    if int_eq total (pos 0) then unset else record { sign = sign; order = order; excess = excess; total = total }

-- an overfull box has the fraction 1: all its glue shrinks by all its shrink
abbrev pub glue_set_of : ℤ → Setting → GlueSet
glue_set_of excess AsItIs = unset
glue_set_of excess (Stretched order total) = set_by (pos 1) order excess total
glue_set_of excess (Shrunk order total) = set_by (negsuc 0) order excess total
glue_set_of excess (Overfull total) = set_by (negsuc 0) Normal (neg_ℤ total) total
