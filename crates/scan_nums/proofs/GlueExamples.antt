-- The grammar of glue, computed on texts, with the values that TeX gives; the texts are those of the examples of dimensions.
use Rattle.std.proofs.Common.{◌≡◌, ℕ, true, false, List, [], ◌∷◌, refl}
use Rattle.std.specs.Prelude.{codes, map, ℤ, pos, negsuc}
use Rattle.scaled.specs.declared.spacing.Order.{Order}
use Rattle.scaled.specs.declared.spacing.Order.TheVariants as order
use Rattle.tokens.specs.declared.kind.Kind.TheVariants.{BadUnit, IncompatibleGlue}
use Rattle.scan_nums.specs.declared.verdict.Verdict.{Verdict}
use Rattle.scan_nums.specs.declared.verdict.Verdict.TheVariants.{Need, Done, DoneBefore, Pass, Trouble}
use Rattle.scan_nums.specs.Starts.{start_of, is_space, byte_of}
use Rattle.scan_nums.specs.Constants.{digit_of}
use Rattle.scan_nums.specs.Keywords.{letter_of}
use Rattle.scan_nums.specs.UnitWords.{unit_words, physical_words}
use Rattle.scan_nums.specs.Units.{in_units, physical_size, magnification_of, true_whole, true_fraction, multiple, extent}
use Rattle.scan_nums.specs.Dimension.{is_point}
use Rattle.scan_nums.specs.Glue.{glue, glue_of}
use Rattle.scan_nums.proofs.DimenExamples.{text_taken}

abbrev glue_in : List ℕ → Verdict
glue_in text = glue false (text_taken text)

abbrev mu_glue_in : List ℕ → Verdict
mu_glue_in text = glue true (text_taken text)

abbrev ending : ℤ → ℤ → Order → ℤ → Order → Verdict
ending w s so k ko = DoneBefore (glue_of false w s so k ko) 1

abbrev mu_ending : ℤ → ℤ → Order → ℤ → Order → Verdict
mu_ending w s so k ko = DoneBefore (glue_of true w s so k ko) 1

glues : map glue_in (
    codes "1pt plus 2pt minus 3pt~" ∷ codes "1ptplus2ptminus3pt~" ∷ codes "2$ plus 1fil~" ∷ codes "0pt plus 1fill minus 2filll~"
    ∷ codes "3pt minus 1fil~" ∷ codes "1pt plus -1.5FiLL~" ∷ codes "1pt plus 2fil lminus 1pt~" ∷ codes "$ plus .5$~"
    ∷ codes "-1pt plus 2pt~" ∷ codes "- 1pt plus - 2pt~" ∷ codes "1pt plus 1.5 fil~" ∷ [])
    ≡
    ending (pos 65536) (pos 131072) order.Normal (pos 196608) order.Normal ∷ ending (pos 65536) (pos 131072) order.Normal (pos 196608) order.Normal
    ∷ ending (pos 1638400) (pos 65536) order.Fil (pos 0) order.Normal ∷ ending (pos 0) (pos 65536) order.Fill (pos 131072) order.Filll
    ∷ ending (pos 196608) (pos 0) order.Normal (pos 65536) order.Fil ∷ ending (pos 65536) (negsuc 98303) order.Fill (pos 0) order.Normal
    ∷ ending (pos 65536) (pos 131072) order.Fill (pos 65536) order.Normal ∷ ending (pos 819200) (pos 409600) order.Normal (pos 0) order.Normal
    ∷ ending (negsuc 65535) (pos 131072) order.Normal (pos 0) order.Normal ∷ ending (negsuc 65535) (negsuc 131071) order.Normal (pos 0) order.Normal
    ∷ ending (pos 65536) (pos 98304) order.Fil (pos 0) order.Normal ∷ []
unfolding start_of is_space byte_of digit_of letter_of is_point unit_words physical_words in_units physical_size magnification_of true_whole true_fraction multiple extent
glues = refl

quantities : map glue_in (codes "&" ∷ codes "-&" ∷ codes "!" ∷ [])
    ≡
    Done (glue_of false (pos 212992) (pos 98304) order.Normal (pos 131072) order.Fil)
    ∷ Done (glue_of false (negsuc 212991) (negsuc 98303) order.Normal (negsuc 131071) order.Fil) ∷ Trouble IncompatibleGlue ∷ []
unfolding start_of is_space byte_of digit_of letter_of is_point unit_words physical_words in_units physical_size magnification_of true_whole true_fraction multiple extent
quantities = refl

mu_glues : map mu_glue_in (codes "1mu~" ∷ codes "-2.5mu plus 1mu~" ∷ codes "3mu plus 1fil minus 2mu~" ∷ codes "2!~" ∷ [])
    ≡
    mu_ending (pos 65536) (pos 0) order.Normal (pos 0) order.Normal ∷ mu_ending (negsuc 163839) (pos 65536) order.Normal (pos 0) order.Normal
    ∷ mu_ending (pos 196608) (pos 65536) order.Fil (pos 131072) order.Normal ∷ mu_ending (pos 524288) (pos 0) order.Normal (pos 0) order.Normal ∷ []
unfolding start_of is_space byte_of digit_of letter_of is_point unit_words physical_words in_units physical_size magnification_of true_whole true_fraction multiple extent
mu_glues = refl

mu_quantities : map mu_glue_in (codes "!" ∷ codes "-!" ∷ codes "&" ∷ codes "$" ∷ codes "1p" ∷ [])
    ≡
    Done (glue_of true (pos 262144) (pos 65536) order.Fil (pos 65536) order.Normal)
    ∷ Done (glue_of true (negsuc 262143) (negsuc 65535) order.Fil (negsuc 65535) order.Normal)
    ∷ Trouble IncompatibleGlue ∷ Trouble IncompatibleGlue ∷ Pass BadUnit 1 ∷ []
unfolding start_of is_space byte_of digit_of letter_of is_point unit_words physical_words in_units physical_size magnification_of true_whole true_fraction multiple extent
mu_quantities = refl

given_back : map glue_in (codes "1pt plu~" ∷ codes "1pt   Minu~" ∷ codes "1pt" ∷ codes "1pt plu" ∷ codes "1pt p m" ∷ [])
    ≡
    DoneBefore (glue_of false (pos 65536) (pos 0) order.Normal (pos 0) order.Normal) 4
    ∷ DoneBefore (glue_of false (pos 65536) (pos 0) order.Normal (pos 0) order.Normal) 5 ∷ Need ∷ Need
    ∷ DoneBefore (glue_of false (pos 65536) (pos 0) order.Normal (pos 0) order.Normal) 2 ∷ []
unfolding start_of is_space byte_of digit_of letter_of is_point unit_words physical_words in_units physical_size magnification_of true_whole true_fraction multiple extent
given_back = refl
