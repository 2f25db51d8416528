-- The grammar of whole numbers, computed on texts. The characters have the categories that INITEX gives them.
use Rattle.std.proofs.Common.{◌≡◌, ℕ, true, List, ◌∷◌, ◌++◌, refl}
use Rattle.std.specs.Prelude.{codes, map, pos, negsuc}
use Rattle.tokens.specs.Categories.{initial_category}
use Rattle.tokens.specs.declared.kind.Kind.TheVariants.{MissingNumber, NumberTooBig}
use Rattle.tokens.specs.declared.token.Token.TheVariants as token
use Rattle.tokens.specs.declared.meaning.Meaning.TheVariants as meaning
use Rattle.scan_nums.specs.declared.number.Number.TheVariants as number
use Rattle.scan_nums.specs.declared.verdict.Verdict.TheVariants.{Need, Done, DoneBefore, Pass}
use Rattle.scan_nums.specs.Taken.{Taken, Seen, Resumed}
use Rattle.scan_nums.specs.Starts.{start_of, is_space, byte_of}
use Rattle.scan_nums.specs.Constants.{digit_of}
use Rattle.scan_nums.specs.WholeNumber.{whole_number, wants_character}

abbrev character_taken : ℕ → Taken
character_taken byte = Seen (token.Char (initial_category byte) byte) (meaning.Char (initial_category byte) byte)

abbrev text_taken : List ℕ → List Taken
text_taken text = map character_taken text

ends_at_a_letter : whole_number (text_taken (codes "- +-12a")) ≡ DoneBefore (number.Int (pos 12)) 1
unfolding start_of is_space byte_of digit_of
ends_at_a_letter = refl

ends_with_a_space : whole_number (text_taken (codes "-\"AB ")) ≡ Done (number.Int (negsuc 170))
unfolding start_of is_space byte_of digit_of
ends_with_a_space = refl

goes_on : whole_number (text_taken (codes "'17")) ≡ Need
unfolding start_of is_space byte_of digit_of
goes_on = refl

character_awaited : wants_character (text_taken (codes "- `")) ≡ true
unfolding start_of is_space byte_of digit_of
character_awaited = refl

octal_eight : whole_number (text_taken (codes "'8")) ≡ Pass MissingNumber 1
unfolding start_of is_space byte_of digit_of
octal_eight = refl

too_big : whole_number (text_taken (codes "2147483648")) ≡ Pass NumberTooBig 0
unfolding start_of is_space byte_of digit_of
too_big = refl

too_big_behind : whole_number (text_taken (codes "-2147483648") ++ Resumed ∷ text_taken (codes "77=")) ≡ DoneBefore (number.Int (negsuc 2147483646)) 1
unfolding start_of is_space byte_of digit_of
too_big_behind = refl
