-- Where a reader of glue waits for the token of a character constant: the letter a is taken there, and a name isn't.
use Rattle.std.proofs.Common.{◌≡◌, ℕ, Bool, true, false, ◌&&◌, ℤ, List, [], ◌∷◌, ◌++◌, refl, sym, ◌∙◌, ap}
use Rattle.scaled.specs.declared.spacing.Order.{Order}
use Rattle.scan_nums.specs.declared.constant.Radix.{Radix}
use Rattle.scan_nums.specs.declared.constant.Radix.TheVariants.{Base8, Base10, Base16}
use Rattle.scan_nums.specs.declared.keyword.UnitName.{UnitName}
use Rattle.scan_nums.specs.declared.keyword.Letters.{Letters}
use Rattle.scan_nums.specs.declared.keyword.Letters.TheVariants as letters
use Rattle.scan_nums.specs.declared.unit.Extent.TheVariants.{Within, Beyond}
use Rattle.scan_nums.specs.declared.verdict.Verdict.{Verdict}
use Rattle.scan_nums.specs.declared.verdict.Verdict.TheVariants.{Need, Ask, Sub, Done, DoneBefore, Trouble, Pass}
use Rattle.scan_nums.specs.declared.dimen_state.DimenState.{DimenState}
use Rattle.scan_nums.specs.declared.dimen_state.DimenState.TheVariants as dimen
use Rattle.scan_nums.specs.declared.glue_state.GluePart.{GluePart}
use Rattle.scan_nums.specs.declared.glue_state.GluePart.TheVariants as part
use Rattle.scan_nums.specs.declared.glue_state.PartLetters.{PartLetters}
use Rattle.scan_nums.specs.declared.glue_state.PartLetters.TheVariants as of_part
use Rattle.scan_nums.specs.declared.glue_state.GlueState.{GlueState}
use Rattle.scan_nums.specs.declared.glue_state.GlueState.TheVariants as state
use Rattle.scan_nums.specs.Taken.{Taken}
use Rattle.scan_nums.specs.Starts.{start_of, is_space, byte_of}
use Rattle.scan_nums.specs.Constants.{digit_of, rest_of_constant}
use Rattle.scan_nums.specs.Keywords.{keyword, letter_of}
use Rattle.scan_nums.specs.UnitWords.{unit_words, physical_words, words_behind, letters_read}
use Rattle.scan_nums.specs.Dimension.{Next, is_point, no_unit, physical_found, unit, unit_found, fraction, behind_constant}
use Rattle.scan_nums.specs.DimenStanding.{is_at_character, state_rest}
use Rattle.scan_nums.specs.GlueStanding.{GlueStands, glue_at_character, glue_rest, next_of, orders_of}
use Rattle.scan_nums.specs.Glue.{glue}
use Rattle.scan_nums.specs.GlueScan.{a_letter, a_name, is_need, is_passed, wants_character}

and_same : (v : Verdict) → (is_need v && is_passed v) ≡ false
and_same Need = refl
and_same (Ask q) = refl
and_same (Sub p) = refl
and_same (Done n) = refl
and_same (DoneBefore n back) = refl
and_same (Trouble k) = refl
and_same (Pass k back) = refl

and_no : (a b : Bool) → a ≡ false → (a && b) ≡ false
and_no a b h = let F : Bool → Bool = λ c. c && b in ap F h

unit_letter : (mu orders negative : Bool) (whole part : ℕ) (next : Next) → is_need (unit mu orders negative whole part next (a_letter ∷ [])) ≡ false
unfolding start_of is_space letter_of unit_words
unit_letter true true negative whole part next = refl
unit_letter true false negative whole part next = refl
unit_letter false true negative whole part next = refl
unit_letter false false negative whole part next = refl

digits_letter : (radix : Radix) (any : Bool) (n : ℕ) (mu orders negative : Bool) (next : Next)
    → is_need (rest_of_constant radix any n (behind_constant radix mu orders negative next) (a_letter ∷ [])) ≡ false
unfolding digit_of is_point
digits_letter Base8 true n mu orders negative next = unit_letter mu orders negative _ 0 next
digits_letter Base10 true n mu orders negative next = unit_letter mu orders negative _ 0 next
digits_letter Base16 true n mu orders negative next = unit_letter mu orders negative _ 0 next
digits_letter Base8 false n mu orders negative next = refl
digits_letter Base10 false n mu orders negative next = refl
digits_letter Base16 false n mu orders negative next = refl

figures_letter : (mu orders negative : Bool) (whole : ℕ) (ds : List ℕ) (next : Next) → is_need (fraction mu orders negative whole ds next (a_letter ∷ [])) ≡ false
unfolding digit_of
figures_letter mu orders negative whole ds next = unit_letter mu orders negative whole _ next

word_letter : (ls : Letters) (negative : Bool) (whole part : ℕ) (next : Next) (found : UnitName → List Taken → Verdict)
    → is_need (keyword (words_behind ls) (letters_read ls) found (no_unit negative whole part next) (a_letter ∷ [])) ≡ false
unfolding words_behind letter_of
word_letter letters.B negative whole part next found = refl
word_letter letters.C negative whole part next found = refl
word_letter letters.D negative whole part next found = refl
word_letter letters.E negative whole part next found = refl
word_letter letters.F negative whole part next found = refl
word_letter letters.Fi negative whole part next found = refl
word_letter letters.I negative whole part next found = refl
word_letter letters.M negative whole part next found = refl
word_letter letters.MOfMu negative whole part next found = refl
word_letter letters.P negative whole part next found = refl
word_letter letters.S negative whole part next found = refl
word_letter letters.T negative whole part next found = refl
word_letter letters.Tr negative whole part next found = refl
word_letter letters.Tru negative whole part next found = refl

part_letter : (mu orders : Bool) (at : DimenState) (next : Next) → ((v : ℤ) (o : Order) → is_need (next v o (a_letter ∷ [])) ≡ false)
    → (is_need (state_rest mu orders at next a_letter []) && is_passed (state_rest mu orders at next a_name [])) ≡ is_at_character at
unfolding start_of is_space byte_of digit_of letter_of is_point physical_words
part_letter mu orders (dimen.Signs negative) next h = refl
part_letter mu orders (dimen.Character negative) next h = refl
part_letter mu orders (dimen.Digits negative constant) next h = and_no _ _ (digits_letter constant.radix constant.has_digit constant.value mu orders negative next)
part_letter mu orders (dimen.TooBig negative radix) next h = and_no _ _ (digits_letter radix true 2147483648 mu orders negative next)
part_letter mu orders (dimen.Missing negative) next h = refl
part_letter mu orders (dimen.Fraction negative whole decimals) next h = and_no _ _ (figures_letter mu orders negative whole _ next)
part_letter mu orders (dimen.Asked negative) next h = refl
part_letter mu orders (dimen.AtUnit negative factor) next h = and_no _ _ (unit_letter mu orders negative factor.whole factor.fraction next)
part_letter mu orders (dimen.Word negative factor ls) next h =
    and_no _ (is_passed (state_rest mu orders (dimen.Word negative factor ls) next a_name [])) (word_letter ls negative factor.whole factor.fraction next (unit_found negative factor.whole factor.fraction next))
part_letter mu orders (dimen.UnitAsked negative factor) next h = refl
part_letter mu orders (dimen.FontAsked negative factor) next h = refl
part_letter mu orders (dimen.MagAsked negative factor) next h = refl
part_letter mu orders (dimen.Physical negative factor) next h = refl
part_letter mu orders (dimen.PhysicalWord negative factor ls) next h =
    and_no _ (is_passed (state_rest mu orders (dimen.PhysicalWord negative factor ls) next a_name [])) (word_letter ls negative factor.whole factor.fraction next (physical_found negative factor.whole factor.fraction next))
part_letter mu orders (dimen.Fil (Within v) o) next h = and_no _ _ (h v o)
part_letter mu orders (dimen.Fil (Beyond negative) o) next h = refl
part_letter mu orders (dimen.Space (Within v) o) next h = and_no _ _ (h v o)
part_letter mu orders (dimen.Space (Beyond negative) o) next h = refl
part_letter mu orders (dimen.NoUnit (Within v)) next h = and_same _
part_letter mu orders (dimen.NoUnit (Beyond negative)) next h = refl
part_letter mu orders (dimen.TooLarge negative o) next h = and_same _
part_letter mu orders dimen.Ended next h = refl

next_letter : (mu : Bool) (p : GluePart) (v : ℤ) (o : Order) → is_need (next_of mu p v o (a_letter ∷ [])) ≡ false
unfolding is_space letter_of
next_letter mu part.Width v o = refl
next_letter mu (part.Stretch w) v o = refl
next_letter mu (part.Shrink w s so) v o = refl

state_letter : (mu : Bool) (at : GlueState) → (is_need (glue_rest mu at a_letter []) && is_passed (glue_rest mu at a_name [])) ≡ glue_at_character at
unfolding start_of is_space digit_of letter_of is_point
state_letter mu (state.Signs negative) = refl
state_letter mu (state.Asked negative) = refl
state_letter mu (state.Part p at) = part_letter mu (orders_of p) at (next_of mu p) (next_letter mu p)
state_letter mu (state.BehindWidth w) = refl
state_letter mu (state.BehindStretch w s so) = refl
state_letter mu (state.Word p of_part.P) = refl
state_letter mu (state.Word p of_part.Pl) = refl
state_letter mu (state.Word p of_part.Plu) = refl
state_letter mu (state.Word p of_part.M) = refl
state_letter mu (state.Word p of_part.Mi) = refl
state_letter mu (state.Word p of_part.Min) = refl
state_letter mu (state.Word p of_part.Minu) = refl
state_letter mu state.Ended = refl

pub character_wanted : (mu : Bool) (at : GlueState) (taken : List Taken) → GlueStands mu at taken → glue_at_character at ≡ wants_character mu taken
character_wanted mu at taken stands =
    let F : Verdict → Bool = λ v. is_need v && is_passed (glue_rest mu at a_name []) in
    let G : Verdict → Bool = λ v. is_need (glue mu (taken ++ a_letter ∷ [])) && is_passed v in
    sym (state_letter mu at) ∙ ap F (sym (stands a_letter [])) ∙ ap G (sym (stands a_name []))
