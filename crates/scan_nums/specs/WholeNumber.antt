-- A whole number (The TeXbook, chapter 24: number; tex.web 440 to 446). The list is the whole of what was
-- taken, the earliest first; the function says what is to be done then, up to the end of the number.
use Rattle.std.specs.Prelude.{ℕ, Bool, true, false, ◌&&◌, ℤ, pos, neg_ℤ, Option, Some, None, List, [], ◌∷◌, if◌then◌else◌}
use Rattle.tokens.specs.declared.kind.Kind.TheVariants.{IncompatibleGlue}
use Rattle.scan_nums.specs.declared.number.Number.{Number}
use Rattle.scan_nums.specs.declared.number.Number.TheVariants as number
use Rattle.scan_nums.specs.declared.verdict.Verdict.{Verdict}
use Rattle.scan_nums.specs.declared.verdict.Verdict.TheVariants.{Need, Ask, Sub, Done, Trouble}
use Rattle.scan_nums.specs.declared.verdict.Phrase.TheVariants.{Expr}
use Rattle.scan_nums.specs.declared.constant.Radix.TheVariants.{Base8, Base10, Base16}
use Rattle.scan_nums.specs.declared.start.Start.{Start}
use Rattle.scan_nums.specs.declared.start.Start.TheVariants.{Space, Plus, Minus, Accent, Octal, Hexadecimal, Given, Wanted, Expression, Other}
use Rattle.scan_nums.specs.Taken.{Taken, Seen, Told, Resumed}
use Rattle.scan_nums.specs.Starts.{start_of}
use Rattle.scan_nums.specs.Constants.{stretch, behind, is_leading, is_negative, signed, constant, character, optional_space}

-- a number with its sign
abbrev pub with_sign : Bool → ℤ → ℤ
with_sign negative n = if negative then neg_ℤ n else n

-- a quantity's value as a whole number: a dimension in sp, a glue by its width; glue in mu has none
abbrev pub whole_of : Bool → Number → Verdict
whole_of negative (number.Int n) = Done (number.Int (with_sign negative n))
whole_of negative (number.Dimen n) = Done (number.Int (with_sign negative n))
whole_of negative (number.Glue g) = Done (number.Int (with_sign negative g.width))
whole_of negative (number.MuGlue g) = Trouble IncompatibleGlue

-- a quantity: it is asked for, and its value ends the number
abbrev pub value_taken : Bool → Taken → Verdict
value_taken negative (Seen t m) = Need
value_taken negative (Told n) = whole_of negative n
value_taken negative Resumed = Need

abbrev pub value_asked : Verdict → Bool → List Taken → Verdict
value_asked asking negative [] = asking
value_asked asking negative (x ∷ rest) = value_taken negative x

-- behind a constant: with one space it ends, and without digits it is 0
abbrev pub constant_end : Bool → Option ℕ → List Taken → Verdict
constant_end negative None rest = Done (number.Int (pos 0))
constant_end negative (Some n) rest = optional_space (number.Int (signed negative n)) rest

-- a number without its signs, by what it begins with
abbrev pub number_from : Start → Bool → Taken → List Taken → Verdict
number_from Space negative x rest = Need
number_from Plus negative x rest = Need
number_from Minus negative x rest = Need
number_from Accent negative x rest = character (constant_end negative) rest
number_from Octal negative x rest = constant Base8 (constant_end negative) rest
number_from Hexadecimal negative x rest = constant Base16 (constant_end negative) rest
number_from (Given n) negative x rest = Done (number.Int (signed negative n))
number_from (Wanted q) negative x rest = value_asked (Ask q) negative rest
number_from (Expression k) negative x rest = value_asked (Sub (Expr k)) negative rest
number_from Other negative x rest = constant Base10 (constant_end negative) (x ∷ rest)

abbrev pub taken_start : Taken → Start
taken_start (Seen t m) = start_of t m
taken_start (Told n) = Other
taken_start Resumed = Other

abbrev pub unsigned_number : Bool → List Taken → Verdict
unsigned_number negative [] = Need
unsigned_number negative (x ∷ rest) = number_from (taken_start x) negative x rest

-- spaces and signs, and the number without them
abbrev pub signed_number : Bool → List Taken → Verdict
signed_number negative taken =
    unsigned_number (is_negative negative (stretch is_leading taken)) (behind is_leading taken)

-- a whole number
abbrev pub whole_number : List Taken → Verdict
whole_number taken = signed_number false taken

-- ---- where a token is taken without expansion

-- whether there are signs and spaces alone
abbrev pub are_leading : List Taken → Bool
are_leading [] = true
are_leading (x ∷ xs) = is_leading x && are_leading xs

abbrev pub is_accent_start : Start → Bool
is_accent_start Space = false
is_accent_start Plus = false
is_accent_start Minus = false
is_accent_start Accent = true
is_accent_start Octal = false
is_accent_start Hexadecimal = false
is_accent_start (Given n) = false
is_accent_start (Wanted q) = false
is_accent_start (Expression k) = false
is_accent_start Other = false

abbrev pub is_accent : Taken → Bool
is_accent x = is_accent_start (taken_start x)

-- whether the next token is that of a character constant, which isn't expanded (tex.web 442): the mark of
-- the constant is the last token, and signs and spaces stand in front of it
abbrev pub wants_character : List Taken → Bool
wants_character [] = false
wants_character (x ∷ []) = is_accent x
wants_character (x ∷ y ∷ ys) = is_leading x && wants_character (y ∷ ys)
