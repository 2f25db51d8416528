-- Values of quantities (The TeXbook, chapter 24: "coercion" of glue to dimension to number).
use Rattle.std.specs.Prelude.{Bool, true, false, ◌==◌, ℤ, negsuc, ◌≤ℤ◌}
use Rattle.scaled.specs.declared.spacing.Glue as glue
use Rattle.scan_nums.specs.declared.number.Number as number
use Rattle.scan_nums.specs.declared.number.Number.TheVariants as number_variants
use Rattle.scan_nums.specs.declared.verdict.Phrase as phrase
use Rattle.scan_nums.specs.declared.verdict.Phrase.TheVariants as phrase_variants

-- the number or dimension itself, or the width of a glue
abbrev pub first_number : number.Number → ℤ
first_number (number_variants.Int n) = n
first_number (number_variants.Dimen n) = n
first_number (number_variants.Glue g) = g.width
first_number (number_variants.MuGlue g) = g.width

-- it is above -2147483648, so that its negative is a number too
abbrev pub IsAboveLowest : ℤ → Type 0
IsAboveLowest n = negsuc 2147483646 ≤ℤ n

abbrev pub IsNegatableGlue : glue.Glue → Type 0
IsNegatableGlue g = IsAboveLowest g.width × IsAboveLowest g.stretch × IsAboveLowest g.shrink

-- each number in it is above -2147483648
abbrev pub IsNegatable : number.Number → Type 0
IsNegatable (number_variants.Int n) = IsAboveLowest n
IsNegatable (number_variants.Dimen n) = IsAboveLowest n
IsNegatable (number_variants.Glue g) = IsNegatableGlue g
IsNegatable (number_variants.MuGlue g) = IsNegatableGlue g

-- whether a number is of the kind that a phrase gives; the four expressions are counted \numexpr 0,
-- \dimexpr 1, \glueexpr 2 and \muexpr 3
abbrev pub is_of_phrase : phrase.Phrase → number.Number → Bool
is_of_phrase phrase_variants.Int (number_variants.Int _) = true
is_of_phrase phrase_variants.Int (number_variants.Dimen _) = false
is_of_phrase phrase_variants.Int (number_variants.Glue _) = false
is_of_phrase phrase_variants.Int (number_variants.MuGlue _) = false
is_of_phrase phrase_variants.Dimen (number_variants.Int _) = false
is_of_phrase phrase_variants.Dimen (number_variants.Dimen _) = true
is_of_phrase phrase_variants.Dimen (number_variants.Glue _) = false
is_of_phrase phrase_variants.Dimen (number_variants.MuGlue _) = false
is_of_phrase phrase_variants.Mu (number_variants.Int _) = false
is_of_phrase phrase_variants.Mu (number_variants.Dimen _) = true
is_of_phrase phrase_variants.Mu (number_variants.Glue _) = false
is_of_phrase phrase_variants.Mu (number_variants.MuGlue _) = false
is_of_phrase phrase_variants.Glue (number_variants.Int _) = false
is_of_phrase phrase_variants.Glue (number_variants.Dimen _) = false
is_of_phrase phrase_variants.Glue (number_variants.Glue _) = true
is_of_phrase phrase_variants.Glue (number_variants.MuGlue _) = false
is_of_phrase phrase_variants.MuGlue (number_variants.Int _) = false
is_of_phrase phrase_variants.MuGlue (number_variants.Dimen _) = false
is_of_phrase phrase_variants.MuGlue (number_variants.Glue _) = false
is_of_phrase phrase_variants.MuGlue (number_variants.MuGlue _) = true
is_of_phrase (phrase_variants.Expr k) (number_variants.Int _) = k == 0
is_of_phrase (phrase_variants.Expr k) (number_variants.Dimen _) = k == 1
is_of_phrase (phrase_variants.Expr k) (number_variants.Glue _) = k == 2
is_of_phrase (phrase_variants.Expr k) (number_variants.MuGlue _) = k == 3
