-- No special is longer than the page that it is on.
use Rattle.std.proofs.Common.{◌≡◌, ℕ, ◌-◌, ◌^◌, ◌<◌, ◌≤◌, Bool, true, false, ◌||◌, nat_lt, Option, Some, None, Result, Ok, Err, List, [], ◌∷◌, ◌++◌, length, refl, arith, if◌then◌else◌}
use Rattle.std.specs.List.{fold, find, flat_map, AllByRecursion}
use Rattle.std.proofs.lemmas.Bool.{ltb-false}
use Rattle.std.proofs.lemmas.List.{length-append}
use Rattle.tokens.specs.declared.stop.Stop.{Stop}
use Rattle.dvi_out.specs.declared.command.Command.{Command}
use Rattle.dvi_out.specs.declared.command.Command.TheVariants.{Push, Pop, Right, Down, Character, SetRule, PutRule, Special}
use Rattle.dvi_out.specs.declared.font.FontDef.{FontDef}
use Rattle.dvi_out.specs.SpellingPage.{Spelled, Given, signed_four, one, four, horizontal, vertical, movement_bytes, is_font, is_defined, is_chosen, definition, choice, character_bytes, special_bytes, with_definition, with_choice, with_font, with_right, with_down, spell}
use Rattle.dvi_out.specs.SpellingMovements.{movement_at}
use Rattle.dvi_out.specs.SpellingFile.{DviFile, ShippedPage, page_walk, page_spelled, page_bytes, with_page, pointer, check_answer, after_check, if_short, page_answer}
use Rattle.dvi_out.specs.Obeying.{CanBeSpelled}
use Rattle.dvi_out.specs.WalksSet.{SizesFit}

module _ (given : Given) where
  more : (s : Spelled) (bytes : List ℕ) → length s.bytes ≤ length (s.bytes ++ bytes)
  more s bytes = omega (arith, length-append s.bytes bytes)

  defined_longer : (s : Spelled) (known : Bool) (o : Option FontDef) → length s.bytes ≤ length (if known then s else with_definition o s).bytes
  defined_longer s true o = omega arith
  defined_longer s false None = omega arith
  defined_longer s false (Some f) = more s (definition f)

  choice_longer : (font : ℕ) (s : Spelled) → length s.bytes ≤ length (with_choice given font s).bytes
  unfolding with_choice
  choice_longer font s =
      let known = is_defined font given.defined || is_defined font s.fresh in
      let first = defined_longer s known (find (is_font font) given.fonts) in
      let second = more (if known then s else with_definition (find (is_font font) given.fonts) s) (choice (font - 1)) in
      omega (arith, first, second)

  font_by : (font : ℕ) (s : Spelled) (chosen : Bool) → length s.bytes ≤ length (if chosen then s else with_choice given font s).bytes
  font_by font s true = omega arith
  font_by font s false = choice_longer font s

  font_longer : (font : ℕ) (s : Spelled) → length s.bytes ≤ length (with_font given font s).bytes
  unfolding with_font
  font_longer font s = font_by font s (is_chosen font s.font)

  one_longer : (s : Spelled) (c : Command) → length s.bytes ≤ length (spell given s c).bytes
  unfolding with_right with_down
  one_longer s Push = more s (141 ∷ [])
  one_longer s Pop = more s (142 ∷ [])
  one_longer s (Right width) = more s (movement_bytes horizontal (movement_at given.rights s.rights))
  one_longer s (Down height) = more s (movement_bytes vertical (movement_at given.downs s.downs))
  one_longer s (Character font byte) =
      let first = font_longer font s in
      let second = more (with_font given font s) (character_bytes byte) in
      omega (arith, first, second)
  one_longer s (SetRule height width) = more s (132 ∷ signed_four height ++ signed_four width)
  one_longer s (PutRule height width) = more s (137 ∷ signed_four height ++ signed_four width)
  one_longer s (Special bytes) = more s (special_bytes bytes)

  all_longer : (cs : List Command) (s : Spelled) → length s.bytes ≤ length (fold (spell given) s cs).bytes
  all_longer [] s = omega arith
  all_longer (c ∷ cs) s =
      let first = one_longer s c in
      let rest = all_longer cs (spell given s c) in
      omega (arith, first, rest)

  special_by : (bytes : List ℕ) (short : Bool) →
      length bytes ≤ length (if short then 239 ∷ one (length bytes) ++ bytes else 242 ∷ four (length bytes) ++ bytes)
  special_by bytes true = omega (arith, length-append (239 ∷ one (length bytes)) bytes)
  special_by bytes false = omega (arith, length-append (242 ∷ four (length bytes)) bytes)

  special_within : (s : Spelled) (bytes : List ℕ) → length bytes ≤ length (spell given s (Special bytes)).bytes
  special_within s bytes =
      let text = special_by bytes (nat_lt (length bytes) 256) in
      omega (arith, text, length-append s.bytes (special_bytes bytes))

  one_can : (s : Spelled) (c : Command) → length (spell given s c).bytes < 2 ^ 32 → SizesFit c → CanBeSpelled c
  one_can s Push short fits = tt
  one_can s Pop short fits = tt
  one_can s (Right width) short fits = fits
  one_can s (Down height) short fits = fits
  one_can s (Character font byte) short fits = tt
  one_can s (SetRule height width) short fits = fits
  one_can s (PutRule height width) short fits = fits
  one_can s (Special bytes) short fits = let text = special_within s bytes in omega (arith, text)

  pub all_can : (cs : List Command) (s : Spelled) → length (fold (spell given) s cs).bytes < 2 ^ 32 → AllByRecursion SizesFit cs →
      AllByRecursion CanBeSpelled cs
  all_can [] s short fits = tt
  all_can (c ∷ cs) s short fits =
      let rest = all_longer cs (spell given s c) in
      (one_can s c (omega (arith, rest)) fits.0, all_can cs (spell given s c) short fits.1)

-- ---- a page that is taken has few bytes

size_by : (size : ℕ) (file after : DviFile) (long : Bool) (stop : Stop) → nat_lt 16777215 size ≡ long →
    (if long then Err stop else Ok file) ≡ Ok after → size ≤ 16777215
size_by size file after true stop is answers = cc
size_by size file after false stop is answers = ltb-false 16777215 size is

size_of : (check : Result (Unit {0}) Stop) (size : ℕ) (file after : DviFile) → after_check check (if_short size file) ≡ Ok after → size ≤ 16777215
size_of (Ok done) size file after is = size_by size file after (nat_lt 16777215 size) _ refl is
size_of (Err stop) size file after is = cc

pub taken_short : (file after : DviFile) (page : ShippedPage) → page_answer file page ≡ Ok after →
    length (page_spelled file page (page_walk page)).bytes < 2 ^ 32
unfolding page_bytes
taken_short file after page is =
    let whole = size_of (check_answer file.pages page.shipped page.offset_h page.offset_v) (length (page_bytes file page (page_walk page))) (with_page file page) after is in
    let head = 139 ∷ (flat_map signed_four page.counts ++ pointer file.last) in
    let bytes = (page_spelled file page (page_walk page)).bytes in
    omega (arith, whole, length-append (head ++ bytes) (140 ∷ []), length-append head bytes)
