-- The grammar of dimensions, computed on texts, with the values that TeX gives. The characters have the categories that
-- INITEX gives them. Behind a byte that stands for a quantity its value is told: `@` is \count9, `$` \dimen9, `&`
-- \skip9 and `!` \muskip9; `^` is the value 2000 of \mag, and `%` one of em or ex. `~` is \relax.
use Rattle.std.proofs.Common.{◌≡◌, ◌==◌, ℕ, true, false, List, [], ◌∷◌, ◌++◌, refl}
use Rattle.std.specs.Prelude.{codes, map, ℤ, pos, negsuc, Some, if◌then◌else◌}
use Rattle.scaled.specs.declared.spacing.Order.TheVariants as order
use Rattle.tokens.specs.Categories.{initial_category}
use Rattle.tokens.specs.Codes.{relax_code, mag_code, fontdimen_code}
use Rattle.tokens.specs.declared.kind.Kind.TheVariants.{MissingNumber, DimensionTooLarge, BadUnit, NumberTooBig, IncompatibleGlue}
use Rattle.tokens.specs.declared.token.Token.TheVariants as token
use Rattle.tokens.specs.declared.meaning.Meaning.TheVariants as meaning
use Rattle.tokens.specs.declared.meaning.RegKind.{RegKind}
use Rattle.tokens.specs.declared.meaning.RegKind.TheVariants as kind
use Rattle.scan_nums.specs.declared.number.Number.{Number}
use Rattle.scan_nums.specs.declared.number.Number.TheVariants as number
use Rattle.scan_nums.specs.declared.verdict.Verdict.{Verdict}
use Rattle.scan_nums.specs.declared.verdict.Verdict.TheVariants.{Need, Ask, Done, DoneBefore, Pass, Trouble}
use Rattle.scan_nums.specs.Taken.{Taken, Seen, Told, Resumed}
use Rattle.scan_nums.specs.Starts.{start_of, is_space, byte_of, quantity}
use Rattle.scan_nums.specs.Constants.{digit_of}
use Rattle.scan_nums.specs.Keywords.{letter_of}
use Rattle.scan_nums.specs.UnitWords.{unit_words, physical_words}
use Rattle.scan_nums.specs.Units.{in_units, physical_size, magnification_of, true_whole, true_fraction, multiple, extent}
use Rattle.scan_nums.specs.Dimension.{dimension, stretching, stretching_dimension, is_point}

abbrev pub named : RegKind → Number → List Taken
named k value = Seen (token.Name (record { 0 = 9 })) (meaning.Register k 9) ∷ Told value ∷ []

abbrev pub taken_by : ℕ → List Taken
taken_by byte =
    if byte == 64 then named kind.Count (number.Int (pos 1234))
    else if byte == 36 then named kind.Dimen (number.Dimen (pos 819200))
    else if byte == 38 then named kind.Skip (number.Glue (record { width = pos 212992; stretch = pos 98304; stretch_order = order.Normal; shrink = pos 131072; shrink_order = order.Fil }))
    else if byte == 33 then named kind.Muskip (number.MuGlue (record { width = pos 262144; stretch = pos 65536; stretch_order = order.Fil; shrink = pos 65536; shrink_order = order.Normal }))
    else if byte == 94 then Told (number.Int (pos 2000)) ∷ []
    else if byte == 37 then Told (number.Dimen (pos 655361)) ∷ []
    else if byte == 35 then Resumed ∷ []
    else if byte == 126 then Seen (token.Name (record { 0 = 1 })) (meaning.Primitive relax_code) ∷ []
    else Seen (token.Char (initial_category byte) byte) (meaning.Char (initial_category byte) byte) ∷ []

abbrev pub text_taken : List ℕ → List Taken
text_taken [] = []
text_taken (byte ∷ text) = taken_by byte ++ text_taken text

abbrev dimension_of : List ℕ → Verdict
dimension_of text = dimension false false (text_taken text)

abbrev ending : ℤ → Verdict
ending size = DoneBefore (number.Dimen size) 1

abbrev whole : ℤ → Verdict
whole size = Done (number.Dimen size)

with_units_1 : map dimension_of (
    codes "1pt~" ∷ codes "-1.5pt~" ∷ codes "1in~" ∷ codes "1.5in~" ∷ codes "2,5cm~" ∷ codes "1mm~"
    ∷ codes "1bp~" ∷ codes "1dd~" ∷ codes "1cc~" ∷ codes "1pc~" ∷ codes "65536sp~" ∷ [])
    ≡
    ending (pos 65536) ∷ ending (negsuc 98303) ∷ ending (pos 4736286) ∷ ending (pos 7104430)
    ∷ ending (pos 4661699) ∷ ending (pos 186467) ∷ ending (pos 65781) ∷ ending (pos 70124)
    ∷ ending (pos 841489) ∷ ending (pos 786432) ∷ ending (pos 65536) ∷ []
unfolding start_of is_space byte_of digit_of letter_of is_point unit_words physical_words in_units physical_size magnification_of true_whole true_fraction multiple extent
with_units_1 = refl

with_units_2 : map dimension_of (
    codes "1sp~" ∷ codes "1.00001pt~" ∷ codes "0.99999pt~" ∷ codes ".5pt~" ∷ codes "-.5in~"
    ∷ codes "16383.99999pt~" ∷ codes "1true^pt~" ∷ codes "1.5true^in~" ∷ codes "@pt~"
    ∷ codes "- -3pt~" ∷ [])
    ≡
    ending (pos 1) ∷ ending (pos 65537) ∷ ending (pos 65535) ∷ ending (pos 32768) ∷ ending (negsuc 2368142)
    ∷ ending (pos 1073741823) ∷ ending (pos 32768) ∷ ending (pos 3552215)
    ∷ ending (pos 80871424) ∷ ending (pos 196608) ∷ []
unfolding start_of is_space byte_of digit_of letter_of is_point unit_words physical_words in_units physical_size magnification_of true_whole true_fraction multiple extent
with_units_2 = refl

with_units_3 : map dimension_of (
    codes "1PT~" ∷ codes "1.5tRuE^iN~" ∷ codes "1.99999999999999999999pt~" ∷ codes "0.1cm~" ∷ codes "7.3mm~"
    ∷ codes "123.456bp~" ∷ codes "0.00001in~" ∷ codes "1.23456dd~" ∷ codes "9.87654cc~" ∷ codes "5.4321pc~"
    ∷ codes "1.0sp~" ∷ codes "1.9sp~" ∷ codes "16383pt~" ∷ [])
    ≡
    ending (pos 65536) ∷ ending (pos 3552215) ∷ ending (pos 131072) ∷ ending (pos 186479)
    ∷ ending (pos 1361216) ∷ ending (pos 8121152) ∷ ending (pos 72) ∷ ending (pos 86572)
    ∷ ending (pos 8311001) ∷ ending (pos 4271976) ∷ ending (pos 1) ∷ ending (pos 1) ∷ ending (pos 1073676288)
    ∷ []
unfolding start_of is_space byte_of digit_of letter_of is_point unit_words physical_words in_units physical_size magnification_of true_whole true_fraction multiple extent
with_units_3 = refl

ending_in_quantities : map dimension_of (
    codes "3@" ∷ codes "2$" ∷ codes "-2.5$" ∷ codes "1.5$" ∷ codes "$" ∷ codes "-$" ∷ codes "&" ∷ codes "0.5&" ∷ [])
    ≡
    whole (pos 3702) ∷ whole (pos 1638400) ∷ whole (negsuc 2047999) ∷ whole (pos 1228800) ∷ whole (pos 819200)
    ∷ whole (negsuc 819199) ∷ whole (pos 212992) ∷ whole (pos 106496) ∷ []
unfolding start_of is_space byte_of digit_of letter_of is_point unit_words physical_words in_units physical_size magnification_of true_whole true_fraction multiple extent
ending_in_quantities = refl

no_unit_asked : dimension_of (codes "1.5") ≡ Need
unfolding start_of is_space byte_of digit_of letter_of is_point unit_words physical_words in_units physical_size magnification_of true_whole true_fraction multiple extent
no_unit_asked = refl

quad_asked : dimension_of (codes "1em") ≡ Ask (quantity fontdimen_code (Some 6))
unfolding start_of is_space byte_of digit_of letter_of is_point unit_words physical_words in_units physical_size magnification_of true_whole true_fraction multiple extent
quad_asked = refl

x_heights : dimension_of (codes "-1.5ex% ") ≡ whole (negsuc 983040)
unfolding start_of is_space byte_of digit_of letter_of is_point unit_words physical_words in_units physical_size magnification_of true_whole true_fraction multiple extent
x_heights = refl

magnification_asked : dimension_of (codes "1true") ≡ Ask (quantity mag_code (Some 0))
unfolding start_of is_space byte_of digit_of letter_of is_point unit_words physical_words in_units physical_size magnification_of true_whole true_fraction multiple extent
magnification_asked = refl

too_large : dimension_of (codes "-16384pt~") ≡ Pass DimensionTooLarge 1
unfolding start_of is_space byte_of digit_of letter_of is_point unit_words physical_words in_units physical_size magnification_of true_whole true_fraction multiple extent
too_large = refl

too_large_resumed : dimension_of (codes "-16384pt~#") ≡ whole (negsuc 1073741822)
unfolding start_of is_space byte_of digit_of letter_of is_point unit_words physical_words in_units physical_size magnification_of true_whole true_fraction multiple extent
too_large_resumed = refl

no_unit_found : dimension_of (codes "-2  trua") ≡ Pass BadUnit 4
unfolding start_of is_space byte_of digit_of letter_of is_point unit_words physical_words in_units physical_size magnification_of true_whole true_fraction multiple extent
no_unit_found = refl

no_unit_found_resumed : dimension_of (codes "-2  trua#") ≡ whole (negsuc 131071)
unfolding start_of is_space byte_of digit_of letter_of is_point unit_words physical_words in_units physical_size magnification_of true_whole true_fraction multiple extent
no_unit_found_resumed = refl

no_number : dimension_of (codes "p") ≡ Pass MissingNumber 1
unfolding start_of is_space byte_of digit_of letter_of is_point unit_words physical_words in_units physical_size magnification_of true_whole true_fraction multiple extent
no_number = refl

no_number_resumed : dimension_of (codes "p#pt~") ≡ ending (pos 0)
unfolding start_of is_space byte_of digit_of letter_of is_point unit_words physical_words in_units physical_size magnification_of true_whole true_fraction multiple extent
no_number_resumed = refl

no_octal_digit : dimension_of (codes "'8#8") ≡ Pass BadUnit 1
unfolding start_of is_space byte_of digit_of letter_of is_point unit_words physical_words in_units physical_size magnification_of true_whole true_fraction multiple extent
no_octal_digit = refl

too_big : dimension_of (codes "2147483648#00.5sp~") ≡ Pass DimensionTooLarge 1
unfolding start_of is_space byte_of digit_of letter_of is_point unit_words physical_words in_units physical_size magnification_of true_whole true_fraction multiple extent
too_big = refl

glue_in_mu : dimension_of (codes "2!") ≡ Trouble IncompatibleGlue
unfolding start_of is_space byte_of digit_of letter_of is_point unit_words physical_words in_units physical_size magnification_of true_whole true_fraction multiple extent
glue_in_mu = refl

mu : dimension true false (text_taken (codes "-2.5mu ")) ≡ whole (negsuc 163839)
unfolding start_of is_space byte_of digit_of letter_of is_point unit_words physical_words in_units physical_size magnification_of true_whole true_fraction multiple extent
mu = refl

mu_of_glue : dimension true false (text_taken (codes "2!")) ≡ whole (pos 524288)
unfolding start_of is_space byte_of digit_of letter_of is_point unit_words physical_words in_units physical_size magnification_of true_whole true_fraction multiple extent
mu_of_glue = refl

points_for_mu : dimension true false (text_taken (codes "1p")) ≡ Pass BadUnit 1
unfolding start_of is_space byte_of digit_of letter_of is_point unit_words physical_words in_units physical_size magnification_of true_whole true_fraction multiple extent
points_for_mu = refl

fils : stretching_dimension false true (text_taken (codes "1.5FiL lL l")) ≡ DoneBefore (stretching (pos 98304) order.Filll) 1
unfolding start_of is_space byte_of digit_of letter_of is_point unit_words physical_words in_units physical_size magnification_of true_whole true_fraction multiple extent
fils = refl

fil_with_a_space : stretching_dimension false true (text_taken (codes "1fil l x")) ≡ DoneBefore (stretching (pos 65536) order.Fill) 1
unfolding start_of is_space byte_of digit_of letter_of is_point unit_words physical_words in_units physical_size magnification_of true_whole true_fraction multiple extent
fil_with_a_space = refl
