-- Units of measure, and how large a dimension is (The TeXbook, chapters 10 and 24; tex.web 448 and 453 to 458). A factor
-- is so many whole units and a fraction of one in 65536ths.
use Rattle.std.specs.Prelude.{ℕ, ◌+◌, ◌*◌, ◌/◌, ◌%◌, Bool, true, false, not, ◌==◌, ◌&&◌, nat_lt, ℤ, pos, ◌+ℤ◌, ◌*ℤ◌, unsigned_abs, int_lt, int_le, int_div, Option, Some, None, if◌then◌else◌}
use Rattle.scan_nums.specs.declared.number.Number.{Number}
use Rattle.scan_nums.specs.declared.number.Number.TheVariants as number
use Rattle.scan_nums.specs.declared.unit.PhysicalUnit.{PhysicalUnit}
use Rattle.scan_nums.specs.declared.unit.PhysicalUnit.TheVariants.{Point, Inch, Pica, Centimeter, Millimeter, BigPoint, DidotPoint, Cicero, ScaledPoint}
use Rattle.scan_nums.specs.declared.unit.Extent.{Extent}
use Rattle.scan_nums.specs.declared.unit.Extent.TheVariants.{Within, Beyond}
use Rattle.scan_nums.specs.WholeNumber.{with_sign}

-- ---- units of a fixed size

-- in 65536ths of a unit
unfoldable pub in_units : ℕ → ℕ → ℕ
in_units whole fraction = whole * 65536 + fraction

-- a unit is so many points, a fraction. The whole units give whole points and a rest, and the rest counts with
-- the fraction: both quotients are truncated
abbrev pub converted : ℕ → ℕ → ℕ → ℕ → ℕ
converted numerator denominator whole fraction =
    ((whole * numerator) / denominator) * 65536
    + (fraction * numerator + 65536 * ((whole * numerator) % denominator)) / denominator

-- in sp. Of scaled points, the fraction doesn't count
unfoldable pub physical_size : PhysicalUnit → ℕ → ℕ → ℕ
physical_size Point whole fraction = in_units whole fraction
physical_size Inch whole fraction = converted 7227 100 whole fraction
physical_size Pica whole fraction = converted 12 1 whole fraction
physical_size Centimeter whole fraction = converted 7227 254 whole fraction
physical_size Millimeter whole fraction = converted 7227 2540 whole fraction
physical_size BigPoint whole fraction = converted 7227 7200 whole fraction
physical_size DidotPoint whole fraction = converted 1238 1157 whole fraction
physical_size Cicero whole fraction = converted 14856 1157 whole fraction
physical_size ScaledPoint whole fraction = whole

-- ---- true units

-- the magnification: what \mag is, or 1000 where that is none
unfoldable pub magnification_of : ℤ → ℕ
magnification_of mag = if int_le (pos 1) mag && int_le mag (pos 32768) then unsigned_abs mag else 1000

-- a factor of true units is 1000 times so large, divided by the magnification. The whole units among the new
-- fraction count as such
abbrev pub true_part : ℕ → ℕ → ℕ → ℕ
true_part mag whole fraction = (fraction * 1000 + 65536 * ((whole * 1000) % mag)) / mag

unfoldable pub true_whole : ℕ → ℕ → ℕ → ℕ
true_whole mag whole fraction =
    if mag == 1000 then whole else (whole * 1000) / mag + true_part mag whole fraction / 65536

unfoldable pub true_fraction : ℕ → ℕ → ℕ → ℕ
true_fraction mag whole fraction = if mag == 1000 then fraction else true_part mag whole fraction % 65536

-- ---- units that are quantities

-- a factor times a quantity; the product with the fraction is truncated
unfoldable pub multiple : ℕ → ℕ → ℤ → ℤ
multiple whole fraction v = (pos whole *ℤ v) +ℤ int_div (v *ℤ pos fraction) (pos 65536)

-- a quantity's value as a dimension: a whole number in sp, glue by its width. Where the unit is mu it has to be
-- glue in mu, and else it must not be
abbrev pub width_in : Bool → Number → Option ℤ
width_in false (number.Int n) = Some n
width_in false (number.Dimen n) = Some n
width_in false (number.Glue g) = Some g.width
width_in false (number.MuGlue g) = None
width_in true (number.Int n) = None
width_in true (number.Dimen n) = None
width_in true (number.Glue g) = None
width_in true (number.MuGlue g) = Some g.width

-- a negative whole number as a factor changes the sign
abbrev pub flipped : Bool → ℤ → Bool
flipped negative n = if int_lt n (pos 0) then not negative else negative

-- ---- the bound

-- a dimension with its sign, or that it is too large: 2^30 or more
unfoldable pub extent : Bool → ℤ → Extent
extent negative v = if nat_lt (unsigned_abs v) 1073741824 then Within (with_sign negative v) else Beyond negative
