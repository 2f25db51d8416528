-- A dimension (The TeXbook, chapter 24: dimen, normal dimen, coerced dimen, factor, decimal constant, unit of measure, fil
-- dimen; tex.web 448 to 460). The list is the whole of what was taken, the earliest first; the function says what
-- is to be done then. At the end of the dimension its size, its order of infinity and what stands behind it are
-- handed to the function that goes on.
use Rattle.std.specs.Prelude.{ℕ, ◌+◌, Bool, true, false, not, ◌==◌, ◌&&◌, ◌||◌, ℤ, pos, unsigned_abs, Option, Some, None, is_some, List, [], ◌∷◌, ◌++◌, take, if◌then◌else◌}
use Rattle.std.specs.Option.{unwrap_or}
use Rattle.scaled.specs.declared.spacing.Order.{Order}
use Rattle.scaled.specs.declared.spacing.Order.TheVariants as order
use Rattle.scaled.specs.ArithmeticDecimals.{fraction_of_digits}
use Rattle.tokens.specs.Codes.{mag_code, fontdimen_code}
use Rattle.tokens.specs.declared.token.Token.{Token}
use Rattle.tokens.specs.declared.kind.Kind.{Kind}
use Rattle.tokens.specs.declared.kind.Kind.TheVariants.{DimensionTooLarge, BadUnit, IncompatibleGlue}
use Rattle.scan_nums.specs.declared.number.Number.{Number}
use Rattle.scan_nums.specs.declared.number.Number.TheVariants as number
use Rattle.scan_nums.specs.declared.verdict.Verdict.{Verdict}
use Rattle.scan_nums.specs.declared.verdict.Verdict.TheVariants.{Need, Ask, Sub, Done, DoneBefore, Trouble, Pass}
use Rattle.scan_nums.specs.declared.verdict.Phrase.TheVariants.{Expr}
use Rattle.scan_nums.specs.declared.constant.Radix.{Radix}
use Rattle.scan_nums.specs.declared.constant.Radix.TheVariants.{Base8, Base10, Base16}
use Rattle.scan_nums.specs.declared.start.Start.{Start}
use Rattle.scan_nums.specs.declared.start.Start.TheVariants.{Space, Plus, Minus, Accent, Octal, Hexadecimal, Given, Wanted, Expression, Other}
use Rattle.scan_nums.specs.declared.unit.Extent.{Extent}
use Rattle.scan_nums.specs.declared.unit.Extent.TheVariants.{Within, Beyond}
use Rattle.scan_nums.specs.declared.keyword.UnitName.{UnitName}
use Rattle.scan_nums.specs.declared.keyword.UnitName.TheVariants.{Em, Ex, True, Fil, Mu, Physical}
use Rattle.scan_nums.specs.Number.{first_number}
use Rattle.scan_nums.specs.Taken.{Taken, Seen, Told, Resumed}
use Rattle.scan_nums.specs.Starts.{other_byte, quantity}
use Rattle.scan_nums.specs.Constants.{stretch, behind, taken_space, is_leading, is_negative, digit_of, constant, character}
use Rattle.scan_nums.specs.WholeNumber.{with_sign, taken_start}
use Rattle.scan_nums.specs.Keywords.{taken_letter, keyword}
use Rattle.scan_nums.specs.Units.{in_units, physical_size, magnification_of, true_whole, true_fraction, multiple, width_in, flipped, extent}
use Rattle.scan_nums.specs.UnitWords.{unit_words, physical_words}

-- what goes on behind a dimension
abbrev pub Next : Type 0
Next = ℤ → Order → List Taken → Verdict

-- ---- troubles and values

-- a trouble that is passed over, with which so many tokens are given back
abbrev pub passed : Kind → ℕ → (List Taken → Verdict) → List Taken → Verdict
passed kind back next [] = Pass kind back
passed kind back next (x ∷ rest) = next rest

-- a value that was asked for
abbrev pub told : (Number → List Taken → Verdict) → Taken → List Taken → Verdict
told next (Seen t m) rest = Need
told next (Told n) rest = next n rest
told next Resumed rest = Need

abbrev pub asked : Verdict → (Number → List Taken → Verdict) → List Taken → Verdict
asked asking next [] = asking
asked asking next (x ∷ rest) = told next x rest

-- ---- the end of a dimension

-- what stands for a dimension that is too large, with the sign that was read
abbrev pub greatest : Bool → ℤ
greatest negative = with_sign negative (pos 1073741823)

-- it has ended with what was taken last
abbrev pub ends : Extent → Order → Next → List Taken → Verdict
ends (Within v) o next rest = next v o rest
ends (Beyond negative) o next rest = passed DimensionTooLarge 0 (next (greatest negative) o) rest

-- a token was taken that isn't part of it
abbrev pub ends_before : Extent → Order → Next → Taken → List Taken → Verdict
ends_before (Within v) o next x rest = next v o (x ∷ rest)
ends_before (Beyond negative) o next x rest = passed DimensionTooLarge 1 (next (greatest negative) o) rest

-- one space may stand at its end
abbrev pub space_ends : Extent → Order → Next → List Taken → Verdict
space_ends e o next [] = Need
space_ends e o next (x ∷ rest) = if taken_space x then ends e o next rest else ends_before e o next x rest

-- ---- units that are words

-- no unit: the tokens so far are read again, and pt or mu stands for it
abbrev pub no_unit : Bool → ℕ → ℕ → Next → ℕ → List Taken → Verdict
no_unit negative whole fraction next read rest =
    passed BadUnit read (ends (extent negative (pos (in_units whole fraction))) order.Normal next) rest

-- further letters l behind fil, each of which may have spaces in front
abbrev pub is_l : Option ℕ → Bool
is_l None = false
is_l (Some letter) = letter == 108

abbrev pub can_rise : Order → Bool
can_rise order.Normal = true
can_rise order.Fil = true
can_rise order.Fill = true
can_rise order.Filll = false

abbrev pub risen : Order → Order
risen order.Normal = order.Fil
risen order.Fil = order.Fill
risen order.Fill = order.Filll
risen order.Filll = order.Filll

abbrev pub fil : Extent → Order → Next → List Taken → Verdict
fil e o next [] = Need
fil e o next (x ∷ rest) =
    if taken_space x then fil e o next rest
    else if is_l (taken_letter x) && can_rise o then fil e (risen o) next rest
    else ends_before e o next x rest

-- behind true: a unit of a fixed size
abbrev pub physical_found : Bool → ℕ → ℕ → Next → UnitName → List Taken → Verdict
physical_found negative whole fraction next Em rest = no_unit negative whole fraction next 2 rest
physical_found negative whole fraction next Ex rest = no_unit negative whole fraction next 2 rest
physical_found negative whole fraction next True rest = no_unit negative whole fraction next 4 rest
physical_found negative whole fraction next Fil rest = no_unit negative whole fraction next 3 rest
physical_found negative whole fraction next Mu rest = no_unit negative whole fraction next 2 rest
physical_found negative whole fraction next (Physical u) rest =
    space_ends (extent negative (pos (physical_size u whole fraction))) order.Normal next rest

abbrev pub physical_unit : Bool → ℕ → ℕ → Next → List Taken → Verdict
physical_unit negative whole fraction next list =
    keyword physical_words 0 (physical_found negative whole fraction next) (no_unit negative whole fraction next) (behind taken_space list)

abbrev pub true_unit : Bool → ℕ → ℕ → Next → Number → List Taken → Verdict
true_unit negative whole fraction next mag rest =
    physical_unit negative (true_whole (magnification_of (first_number mag)) whole fraction)
    (true_fraction (magnification_of (first_number mag)) whole fraction) next rest

-- em and ex are the current font's
abbrev pub font_unit : Bool → ℕ → ℕ → Next → Number → List Taken → Verdict
font_unit negative whole fraction next size rest =
    space_ends (extent negative (multiple whole fraction (first_number size))) order.Normal next rest

abbrev pub unit_found : Bool → ℕ → ℕ → Next → UnitName → List Taken → Verdict
unit_found negative whole fraction next Em rest =
    asked (Ask (quantity fontdimen_code (Some 6))) (font_unit negative whole fraction next) rest
unit_found negative whole fraction next Ex rest =
    asked (Ask (quantity fontdimen_code (Some 5))) (font_unit negative whole fraction next) rest
unit_found negative whole fraction next True rest =
    asked (Ask (quantity mag_code (Some 0))) (true_unit negative whole fraction next) rest
unit_found negative whole fraction next Fil rest =
    fil (extent negative (pos (in_units whole fraction))) order.Fil next rest
unit_found negative whole fraction next Mu rest =
    space_ends (extent negative (pos (in_units whole fraction))) order.Normal next rest
unit_found negative whole fraction next (Physical u) rest =
    space_ends (extent negative (pos (physical_size u whole fraction))) order.Normal next rest

-- ---- units that are quantities, and all units

-- a dimension that is a multiple of a quantity, where the quantity has a width
abbrev pub multiple_ends : Bool → ℕ → ℕ → Next → Option ℤ → List Taken → Verdict
multiple_ends negative whole fraction next None rest = Trouble IncompatibleGlue
multiple_ends negative whole fraction next (Some v) rest =
    ends (extent negative (multiple whole fraction v)) order.Normal next rest

abbrev pub quantity_unit : Bool → Bool → ℕ → ℕ → Next → Number → List Taken → Verdict
quantity_unit mu negative whole fraction next n rest =
    multiple_ends negative whole fraction next (width_in mu n) rest

abbrev pub word_unit : Bool → Bool → Bool → ℕ → ℕ → Next → List Taken → Verdict
word_unit mu orders negative whole fraction next list =
    keyword (unit_words mu orders) 0 (unit_found negative whole fraction next) (no_unit negative whole fraction next) list

abbrev pub unit_from : Start → Bool → Bool → Bool → ℕ → ℕ → Next → Taken → List Taken → Verdict
unit_from Space mu orders negative whole fraction next x rest = word_unit mu orders negative whole fraction next (x ∷ rest)
unit_from Plus mu orders negative whole fraction next x rest = word_unit mu orders negative whole fraction next (x ∷ rest)
unit_from Minus mu orders negative whole fraction next x rest = word_unit mu orders negative whole fraction next (x ∷ rest)
unit_from Accent mu orders negative whole fraction next x rest = word_unit mu orders negative whole fraction next (x ∷ rest)
unit_from Octal mu orders negative whole fraction next x rest = word_unit mu orders negative whole fraction next (x ∷ rest)
unit_from Hexadecimal mu orders negative whole fraction next x rest = word_unit mu orders negative whole fraction next (x ∷ rest)
unit_from (Given n) mu orders negative whole fraction next x rest =
    quantity_unit mu negative whole fraction next (number.Int (pos n)) rest
unit_from (Wanted q) mu orders negative whole fraction next x rest =
    asked (Ask q) (quantity_unit mu negative whole fraction next) rest
unit_from (Expression k) mu orders negative whole fraction next x rest =
    asked (Sub (Expr k)) (quantity_unit mu negative whole fraction next) rest
unit_from Other mu orders negative whole fraction next x rest = word_unit mu orders negative whole fraction next (x ∷ rest)

abbrev pub unit_at : Bool → Bool → Bool → ℕ → ℕ → Next → List Taken → Verdict
unit_at mu orders negative whole fraction next [] = Need
unit_at mu orders negative whole fraction next (x ∷ rest) =
    unit_from (taken_start x) mu orders negative whole fraction next x rest

-- a unit of measure, in front of which spaces may stand
abbrev pub unit : Bool → Bool → Bool → ℕ → ℕ → Next → List Taken → Verdict
unit mu orders negative whole fraction next list =
    unit_at mu orders negative whole fraction next (behind taken_space list)

-- ---- factors

-- a point or a comma
abbrev pub is_point_byte : Option ℕ → Bool
is_point_byte None = false
is_point_byte (Some byte) = (byte == 46) || (byte == 44)

unfoldable pub is_point : Token → Bool
is_point t = is_point_byte (other_byte t)

abbrev pub taken_point : Taken → Bool
taken_point (Seen t m) = is_point t
taken_point (Told n) = false
taken_point Resumed = false

-- the digits behind a point
abbrev pub is_figure : Taken → Bool
is_figure (Seen t m) = is_some (digit_of Base10 t)
is_figure (Told n) = false
is_figure Resumed = false

abbrev pub figure : Taken → ℕ
figure (Seen t m) = unwrap_or (digit_of Base10 t) 0
figure (Told n) = 0
figure Resumed = 0

abbrev pub figures : List Taken → List ℕ
figures [] = []
figures (x ∷ xs) = figure x ∷ figures xs

-- the fraction for which they stand; the first 17 count
abbrev pub decimal_fraction : List ℕ → ℕ
decimal_fraction digits = fraction_of_digits (take 17 digits)

abbrev pub fraction_by : Bool → Bool → Bool → ℕ → List ℕ → Next → List Taken → Verdict
fraction_by mu orders negative whole digits next [] = Need
fraction_by mu orders negative whole digits next (x ∷ rest) =
    unit mu orders negative whole (decimal_fraction digits) next (x ∷ rest)

-- behind the point, and some digits behind it
abbrev pub fraction : Bool → Bool → Bool → ℕ → List ℕ → Next → List Taken → Verdict
fraction mu orders negative whole digits next list =
    fraction_by mu orders negative whole (digits ++ figures (stretch is_figure list)) next (behind is_figure list)

-- behind a whole number: the unit. The one space that may stand there is one of those in front of the unit.
-- Where there was no number, the factor is 0
abbrev pub integer_end : Bool → Bool → Bool → Next → Option ℕ → List Taken → Verdict
integer_end mu orders negative next None rest = unit mu orders negative 0 0 next rest
integer_end mu orders negative next (Some n) rest = unit mu orders negative n 0 next rest

-- behind the digits of a decimal constant a point may stand
abbrev pub decimal_end : Bool → Bool → Bool → Next → Option ℕ → List Taken → Verdict
decimal_end mu orders negative next None rest = unit mu orders negative 0 0 next rest
decimal_end mu orders negative next (Some n) [] = Need
decimal_end mu orders negative next (Some n) (x ∷ rest) =
    if taken_point x then fraction mu orders negative n [] next rest else unit mu orders negative n 0 next (x ∷ rest)

abbrev pub behind_constant : Radix → Bool → Bool → Bool → Next → Option ℕ → List Taken → Verdict
behind_constant Base8 mu orders negative next n rest = integer_end mu orders negative next n rest
behind_constant Base10 mu orders negative next n rest = decimal_end mu orders negative next n rest
behind_constant Base16 mu orders negative next n rest = integer_end mu orders negative next n rest

abbrev pub decimal : Bool → Bool → Bool → Next → Taken → List Taken → Verdict
decimal mu orders negative next x rest =
    if taken_point x then fraction mu orders negative 0 [] next rest
    else constant Base10 (behind_constant Base10 mu orders negative next) (x ∷ rest)

-- ---- dimensions

-- a quantity's value where a dimension begins: a whole number is a factor, all else is the dimension
abbrev pub value_ends : Bool → Next → Option ℤ → List Taken → Verdict
value_ends negative next None rest = Trouble IncompatibleGlue
value_ends negative next (Some v) rest = ends (extent negative v) order.Normal next rest

abbrev pub begins_with : Bool → Bool → Bool → Next → Number → List Taken → Verdict
begins_with mu orders negative next (number.Int n) rest =
    unit mu orders (flipped negative n) (unsigned_abs n) 0 next rest
begins_with mu orders negative next (number.Dimen n) rest = value_ends negative next (width_in mu (number.Dimen n)) rest
begins_with mu orders negative next (number.Glue g) rest = value_ends negative next (width_in mu (number.Glue g)) rest
begins_with mu orders negative next (number.MuGlue g) rest = value_ends negative next (width_in mu (number.MuGlue g)) rest

-- a dimension without its signs, by what it begins with
abbrev pub dimension_from : Start → Bool → Bool → Bool → Next → Taken → List Taken → Verdict
dimension_from Space mu orders negative next x rest = Need
dimension_from Plus mu orders negative next x rest = Need
dimension_from Minus mu orders negative next x rest = Need
dimension_from Accent mu orders negative next x rest = character (integer_end mu orders negative next) rest
dimension_from Octal mu orders negative next x rest = constant Base8 (behind_constant Base8 mu orders negative next) rest
dimension_from Hexadecimal mu orders negative next x rest = constant Base16 (behind_constant Base16 mu orders negative next) rest
dimension_from (Given n) mu orders negative next x rest = unit mu orders negative n 0 next rest
dimension_from (Wanted q) mu orders negative next x rest = asked (Ask q) (begins_with mu orders negative next) rest
dimension_from (Expression k) mu orders negative next x rest = asked (Sub (Expr k)) (begins_with mu orders negative next) rest
dimension_from Other mu orders negative next x rest = decimal mu orders negative next x rest

abbrev pub unsigned_dimension : Bool → Bool → Bool → Next → List Taken → Verdict
unsigned_dimension mu orders negative next [] = Need
unsigned_dimension mu orders negative next (x ∷ rest) = dimension_from (taken_start x) mu orders negative next x rest

abbrev pub signed_dimension : Bool → Bool → Bool → Next → List Taken → Verdict
signed_dimension mu orders negative next list =
    unsigned_dimension mu orders (is_negative negative (stretch is_leading list)) next (behind is_leading list)

-- a dimension: whether its unit is mu, whether it may be infinite
abbrev pub dimension_then : Bool → Bool → Next → List Taken → Verdict
dimension_then mu orders next list = signed_dimension mu orders false next list

-- ---- a dimension by itself

-- a token behind it isn't part of it
abbrev pub dimension_end : Next
dimension_end v o [] = Done (number.Dimen v)
dimension_end v o (x ∷ rest) = DoneBefore (number.Dimen v) 1

abbrev pub dimension : Bool → Bool → List Taken → Verdict
dimension mu orders list = dimension_then mu orders dimension_end list

-- the same as a stretch, which shows its order too
abbrev pub stretching : ℤ → Order → Number
stretching v o =
    number.Glue (record { width = pos 0; stretch = v; stretch_order = o; shrink = pos 0; shrink_order = order.Normal })

abbrev pub stretch_end : Next
stretch_end v o [] = Done (stretching v o)
stretch_end v o (x ∷ rest) = DoneBefore (stretching v o) 1

abbrev pub stretching_dimension : Bool → Bool → List Taken → Verdict
stretching_dimension mu orders list = dimension_then mu orders stretch_end list
