-- The arithmetic of expressions, on whole numbers: sp for a dimension and for each part of a glue. A number
-- or a dimension counts as a glue that neither stretches nor shrinks, so that each rule is said once.
-- From: the e-TeX manual, section 3.5; etex.ch, sections on "add_or_sub", "quotient" and "fract"; tex.web 104
-- and 107 (bounds).
use Rattle.std.specs.Prelude.{◌≡◌, ℕ, Bool, true, false, ◌&&◌, ℤ, pos, ◌+ℤ◌, ◌*ℤ◌, neg_ℤ, Option, Some, None, option_and_then, if◌then◌else◌}
use Rattle.std.specs.Option.{option_map, is_some}
use Rattle.std.specs.Ordering.{int_eq}
use Rattle.scaled.specs.declared.spacing.Order.{Order}
use Rattle.scaled.specs.declared.spacing.Order.TheVariants.{Normal, Fil, Fill, Filll}
use Rattle.scaled.specs.declared.spacing.Glue.{Glue}
use Rattle.scaled.specs.ArithmeticQuotients.{within, nearest_quotient, fraction_of}
use Rattle.scan_nums.specs.declared.number.Number.{Number}
use Rattle.scan_nums.specs.declared.number.Number.TheVariants as number
use Rattle.scan_nums.specs.declared.verdict.Phrase.{Phrase}
use Rattle.scan_nums.specs.declared.verdict.Phrase.TheVariants as phrase
use Rattle.etex_exprs.specs.declared.sort.Sort.{Sort}
use Rattle.etex_exprs.specs.declared.sort.Sort.TheVariants.{Whole, Length, Spread, MuSpread}

-- ---- the sorts of expressions: \numexpr, \dimexpr, \glueexpr, \muexpr

-- the phrase that an operand of this sort is
abbrev pub phrase_of : Sort → Phrase
phrase_of Whole = phrase.Int
phrase_of Length = phrase.Dimen
phrase_of Spread = phrase.Glue
phrase_of MuSpread = phrase.MuGlue

-- the bound of numbers, and that of dimensions and of each part of a glue
abbrev pub bound_of : Sort → ℤ
bound_of Whole = pos 2147483647
bound_of Length = pos 1073741823
bound_of Spread = pos 1073741823
bound_of MuSpread = pos 1073741823

-- ---- numbers as glue

abbrev pub rigid : ℤ → Glue
rigid n = record { width = n; stretch = pos 0; stretch_order = Normal; shrink = pos 0; shrink_order = Normal }

abbrev pub parts_of : Number → Glue
parts_of (number.Int n) = rigid n
parts_of (number.Dimen n) = rigid n
parts_of (number.Glue g) = g
parts_of (number.MuGlue g) = g

abbrev pub number_of : Sort → Glue → Number
number_of Whole g = number.Int g.width
number_of Length g = number.Dimen g.width
number_of Spread g = number.Glue g
number_of MuSpread g = number.MuGlue g

-- ---- each operation has its bound

-- a zero stretch or shrink has no order of infinity
abbrev pub order_of : ℤ → Order → Order
order_of n order = if int_eq n (pos 0) then Normal else order

abbrev pub glue_of : ℤ → ℤ → Order → ℤ → Order → Glue
glue_of width stretch stretch_order shrink shrink_order = record {
  width = width;
  stretch = stretch;
  stretch_order = order_of stretch stretch_order;
  shrink = shrink;
  shrink_order = order_of shrink shrink_order;
}

-- the glue of these parts, with another's orders, where each part is there
unfoldable pub with_parts : Glue → Option ℤ → Option ℤ → Option ℤ → Option Glue
with_parts g widths stretches shrinks =
    option_and_then (λ width. option_and_then (λ stretch. option_map (λ shrink.
    glue_of width stretch g.stretch_order shrink g.shrink_order) shrinks) stretches) widths

-- an operation on each part of a glue; nothing where it has no answer for one of them
abbrev pub on_parts : (ℤ → Option ℤ) → Glue → Option Glue
on_parts f g = with_parts g (f g.width) (f g.stretch) (f g.shrink)

-- the product of a glue and a whole number
unfoldable pub multiplied : ℤ → Glue → ℤ → Option Glue
multiplied bound g n = on_parts (λ x. within bound (x *ℤ n)) g

-- the quotient of a part
unfoldable pub quotient_of : ℤ → ℤ → ℤ → Option ℤ
quotient_of bound x n = option_and_then (within bound) (nearest_quotient x n)

-- the quotient, rounded to the nearest, halves away from zero; nothing where the divisor is 0
unfoldable pub divided : ℤ → Glue → ℤ → Option Glue
divided bound g n = on_parts (λ x. quotient_of bound x n) g

-- the product of a glue and n divided by d, rounded once
unfoldable pub scaled_by : ℤ → Glue → ℤ → ℤ → Option Glue
scaled_by bound g n d = on_parts (λ x. fraction_of x n d bound) g

-- the negative of a glue
unfoldable pub negated : ℤ → Glue → Option Glue
negated bound g = on_parts (λ x. within bound (neg_ℤ x)) g

-- an order's rank
abbrev pub is_below : Order → Order → Bool
is_below Normal Normal = false
is_below Normal Fil = true
is_below Normal Fill = true
is_below Normal Filll = true
is_below Fil Normal = false
is_below Fil Fil = false
is_below Fil Fill = true
is_below Fil Filll = true
is_below Fill Normal = false
is_below Fill Fil = false
is_below Fill Fill = false
is_below Fill Filll = true
is_below Filll Normal = false
is_below Filll Fil = false
is_below Filll Fill = false
is_below Filll Filll = false

-- a stretch or a shrink with its order
abbrev pub Part : Type 0
Part = ℤ × Order

-- the sum of two: where their orders differ, the higher one stays alone
unfoldable pub part_sum : ℤ → ℤ → Order → ℤ → Order → Option Part
part_sum bound x order y other =
    if is_below (order_of x order) (order_of y other) then Some (y, order_of y other)
    else (if is_below (order_of y other) (order_of x order) then Some (x, order_of x order)
    else option_map (λ n. (n, order_of n (order_of x order))) (within bound (x +ℤ y)))

-- the glue of a width, a stretch and a shrink, where each is there
unfoldable pub of_parts : Option ℤ → Option Part → Option Part → Option Glue
of_parts widths stretches shrinks =
    option_and_then (λ width. option_and_then (λ stretch. option_map (λ shrink.
    record { width = width; stretch = stretch.0; stretch_order = stretch.1; shrink = shrink.0; shrink_order = shrink.1 })
    shrinks) stretches) widths

-- the sum of two glues
unfoldable pub glue_sum : ℤ → Glue → Glue → Option Glue
glue_sum bound g h =
    of_parts (within bound (g.width +ℤ h.width))
    (part_sum bound g.stretch g.stretch_order h.stretch h.stretch_order)
    (part_sum bound g.shrink g.shrink_order h.shrink h.shrink_order)

-- the difference is the sum with the negative of the second
unfoldable pub glue_difference : ℤ → Glue → Glue → Option Glue
glue_difference bound g h = option_and_then (glue_sum bound g) (negated bound h)

-- a value each part of which lies within the bound, whatever the orders
unfoldable pub checked : ℤ → Glue → Option Glue
checked bound g =
    if is_some (within bound g.width) && (is_some (within bound g.stretch) && is_some (within bound g.shrink))
    then Some g
    else None

-- ---- answers

-- whether an answer has mu units where others are wanted, or the other way round
abbrev pub is_mu_glue : Number → Bool
is_mu_glue (number.Int n) = false
is_mu_glue (number.Dimen n) = false
is_mu_glue (number.Glue g) = false
is_mu_glue (number.MuGlue g) = true

abbrev pub is_plain_glue : Number → Bool
is_plain_glue (number.Int n) = false
is_plain_glue (number.Dimen n) = false
is_plain_glue (number.Glue g) = true
is_plain_glue (number.MuGlue g) = false

abbrev pub is_mixed : Phrase → Number → Bool
is_mixed phrase.Int n = false
is_mixed phrase.Dimen n = false
is_mixed phrase.Mu n = false
is_mixed phrase.Glue n = is_mu_glue n
is_mixed phrase.MuGlue n = is_plain_glue n
is_mixed (phrase.Expr k) n = false
