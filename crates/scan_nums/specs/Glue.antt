-- A glue (The TeXbook, chapter 24: glue, stretch, shrink, mu glue; tex.web 461 and 462). The list is the whole of what was
-- taken, the earliest first; the function says what is to be done then, up to the end of the glue.
use Rattle.std.specs.Prelude.{ℕ, Bool, true, false, ℤ, pos, List, [], ◌∷◌, codes}
use Rattle.scaled.specs.declared.spacing.Order.{Order}
use Rattle.scaled.specs.declared.spacing.Order.TheVariants as order
use Rattle.scaled.specs.declared.spacing.Glue.{Glue}
use Rattle.tokens.specs.declared.kind.Kind.TheVariants.{IncompatibleGlue}
use Rattle.scan_nums.specs.declared.number.Number.{Number}
use Rattle.scan_nums.specs.declared.number.Number.TheVariants as number
use Rattle.scan_nums.specs.declared.verdict.Verdict.{Verdict}
use Rattle.scan_nums.specs.declared.verdict.Verdict.TheVariants.{Need, Ask, Sub, Done, DoneBefore, Trouble}
use Rattle.scan_nums.specs.declared.verdict.Phrase.TheVariants.{Expr}
use Rattle.scan_nums.specs.declared.start.Start.{Start}
use Rattle.scan_nums.specs.declared.start.Start.TheVariants.{Space, Plus, Minus, Accent, Octal, Hexadecimal, Given, Wanted, Expression, Other}
use Rattle.scan_nums.specs.Taken.{Taken}
use Rattle.scan_nums.specs.Constants.{stretch, behind, taken_space, is_leading, is_negative}
use Rattle.scan_nums.specs.WholeNumber.{with_sign, taken_start}
use Rattle.scan_nums.specs.Keywords.{Words, words_of, keyword}
use Rattle.scan_nums.specs.Dimension.{Next, asked, begins_with, dimension_from, dimension_then}

-- ---- the value

-- by whether its unit is mu
abbrev pub in_unit : Bool → Glue → Number
in_unit false g = number.Glue g
in_unit true g = number.MuGlue g

abbrev pub glue_of : Bool → ℤ → ℤ → Order → ℤ → Order → Number
glue_of mu w s so k ko = in_unit mu (record { width = w; stretch = s; stretch_order = so; shrink = k; shrink_order = ko })

-- each part with a sign
abbrev pub glue_with_sign : Bool → Glue → Glue
glue_with_sign negative g =
    record { width = with_sign negative g.width; stretch = with_sign negative g.stretch; stretch_order = g.stretch_order; shrink = with_sign negative g.shrink; shrink_order = g.shrink_order }

-- ---- stretch and shrink

-- what stands for a part of the glue and all behind it
abbrev pub Behind : Type 0
Behind = List Taken → Verdict

-- a token behind the last part isn't part of it
abbrev pub glue_end : Number → List Taken → Verdict
glue_end n [] = Done n
glue_end n (x ∷ rest) = DoneBefore n 1

-- a keyword in front of which spaces may stand, with what follows it, or the end of the glue: the token with which no keyword
-- goes on and the letters in front of it are read again
abbrev pub keyword_or_end : Words Behind → Number → List Taken → Verdict
keyword_or_end words n list = keyword words 0 (λ part rest. part rest) (λ read rest. DoneBefore n read) (behind taken_space list)

abbrev pub behind_shrink : Bool → ℤ → ℤ → Order → Next
behind_shrink mu w s so k ko rest = glue_end (glue_of mu w s so k ko) rest

-- behind `minus`
abbrev pub shrink_part : Bool → ℤ → ℤ → Order → List Taken → Verdict
shrink_part mu w s so list = dimension_then mu true (behind_shrink mu w s so) list

abbrev pub behind_stretch : Bool → ℤ → Next
behind_stretch mu w s so rest =
    keyword_or_end (words_of ((codes "minus", shrink_part mu w s so) ∷ [])) (glue_of mu w s so (pos 0) order.Normal) rest

-- behind `plus`
abbrev pub stretch_part : Bool → ℤ → List Taken → Verdict
stretch_part mu w list = dimension_then mu true (behind_stretch mu w) list

abbrev pub behind_width : Bool → Next
behind_width mu w o rest =
    keyword_or_end (words_of ((codes "plus", stretch_part mu w) ∷ (codes "minus", shrink_part mu w (pos 0) order.Normal) ∷ []))
    (glue_of mu w (pos 0) order.Normal (pos 0) order.Normal) rest

-- ---- glue

-- the value of a quantity with which it begins: a glue is the whole phrase, each part with the sign; a dimension is the width;
-- a whole number is a factor of it
abbrev pub glue_begins_with : Bool → Bool → Number → List Taken → Verdict
glue_begins_with mu negative (number.Int n) rest = begins_with mu false negative (behind_width mu) (number.Int n) rest
glue_begins_with mu negative (number.Dimen n) rest = begins_with mu false negative (behind_width mu) (number.Dimen n) rest
glue_begins_with false negative (number.Glue g) rest = Done (number.Glue (glue_with_sign negative g))
glue_begins_with true negative (number.Glue g) rest = Trouble IncompatibleGlue
glue_begins_with false negative (number.MuGlue g) rest = Trouble IncompatibleGlue
glue_begins_with true negative (number.MuGlue g) rest = Done (number.MuGlue (glue_with_sign negative g))

-- a glue without its signs, by what it begins with
abbrev pub glue_from : Start → Bool → Bool → Taken → List Taken → Verdict
glue_from Space mu negative x rest = Need
glue_from Plus mu negative x rest = Need
glue_from Minus mu negative x rest = Need
glue_from Accent mu negative x rest = dimension_from Accent mu false negative (behind_width mu) x rest
glue_from Octal mu negative x rest = dimension_from Octal mu false negative (behind_width mu) x rest
glue_from Hexadecimal mu negative x rest = dimension_from Hexadecimal mu false negative (behind_width mu) x rest
glue_from (Given n) mu negative x rest = dimension_from (Given n) mu false negative (behind_width mu) x rest
glue_from (Wanted q) mu negative x rest = asked (Ask q) (glue_begins_with mu negative) rest
glue_from (Expression k) mu negative x rest = asked (Sub (Expr k)) (glue_begins_with mu negative) rest
glue_from Other mu negative x rest = dimension_from Other mu false negative (behind_width mu) x rest

abbrev pub unsigned_glue : Bool → Bool → List Taken → Verdict
unsigned_glue mu negative [] = Need
unsigned_glue mu negative (x ∷ rest) = glue_from (taken_start x) mu negative x rest

abbrev pub signed_glue : Bool → Bool → List Taken → Verdict
signed_glue mu negative list =
    unsigned_glue mu (is_negative negative (stretch is_leading list)) (behind is_leading list)

-- a glue: whether its unit is mu. The signs in front hold for the width, or for all parts of a quantity
abbrev pub glue : Bool → List Taken → Verdict
glue mu list = signed_glue mu false list
