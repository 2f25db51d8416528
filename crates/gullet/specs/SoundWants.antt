-- What phrases want of what is sound, is sound.
use Rattle.std.specs.Prelude.{◌≡◌, ◌≤◌, ℕ, pos, ◌==◌, nat_le, ◌+◌, ◌-◌, ◌++◌, ◌&&◌, Bool, true, false, if◌then◌else◌, List, [], ◌∷◌, map, length, Option, Some, None}
use Rattle.std.proofs.Common.{zero, suc, refl, sym, ap, ◌∙◌, subst, arith}
use Rattle.std.proofs.lemmas.Bool.{leb-true, eqb-true}
use Rattle.std.specs.List.{AllByRecursion}
use Rattle.tokens.specs.Codes.{input_code, the_code, expandafter_code, toks_code, csname_code, number_code, romannumeral_code, else_code, or_code, fi_code}
use Rattle.tokens.specs.declared.kind.Kind.TheVariants.{MissingEndcsname, MissingLeftBrace, BadParameter}
use Rattle.tokens.specs.declared.token.Token.{Token}
use Rattle.tokens.specs.declared.token.Token.TheVariants as token
use Rattle.tokens.specs.declared.meaning.Macro.{Macro}
use Rattle.tokens.specs.declared.meaning.Meaning.{Meaning}
use Rattle.tokens.specs.declared.meaning.Meaning.TheVariants as meaning
use Rattle.tokens.specs.declared.meaning.RegKind.{RegKind}
use Rattle.tokens.specs.declared.meaning.RegKind.TheVariants.{Count, Dimen, Skip, Muskip, Box, Toks}
use Rattle.tokens.specs.Codes.{count_code, dimen_code, skip_code, muskip_code}
use Rattle.scan_nums.specs.declared.number.Number.{Number}
use Rattle.scan_nums.specs.declared.number.Number.TheVariants as number
use Rattle.scan_nums.specs.declared.number.Quantity.{Quantity}
use Rattle.scan_nums.specs.declared.verdict.Verdict.{Verdict}
use Rattle.scan_nums.specs.declared.verdict.Verdict.TheVariants as verdict
use Rattle.scan_nums.specs.Number.{first_number}
use Rattle.scan_nums.specs.Starts.{is_space, is_from_to}
use Rattle.scan_nums.specs.WholeNumber.{whole_number, wants_character}
use Rattle.macro_args.specs.BraceCount.{is_left, is_right}
use Rattle.macro_args.specs.ParameterText.{parts_of}
use Rattle.macro_args.specs.Arguments.{Use, Open, Complete, Unfit, use_of}
use Rattle.conditionals.specs.Branches.{Stopping, stop_of}
use Rattle.gullet.specs.declared.context.Context.{Context}
use Rattle.gullet.specs.declared.in_text.Purpose.{Purpose}
use Rattle.gullet.specs.declared.in_text.Purpose.TheVariants.{Alone, Body}
use Rattle.gullet.specs.declared.task.Task.{Task}
use Rattle.gullet.specs.declared.task.Task.TheVariants as task
use Rattle.gullet.specs.declared.task.Test.{Test}
use Rattle.gullet.specs.declared.task.Test.TheVariants as test
use Rattle.gullet.specs.declared.task.Simple.{Simple}
use Rattle.gullet.specs.declared.task.Numerals.{Numerals}
use Rattle.gullet.specs.declared.task.Numerals.TheVariants.{Decimal}
use Rattle.gullet.specs.declared.task.Part.{Part}
use Rattle.gullet.specs.declared.task.Glyph.{Glyph}
use Rattle.gullet.specs.declared.task.Told.{Told}
use Rattle.gullet.specs.declared.task.Told.TheVariants as told
use Rattle.gullet.specs.declared.task.Act.{Act}
use Rattle.gullet.specs.declared.task.Act.TheVariants as act
use Rattle.gullet.specs.declared.task.Want.{Want}
use Rattle.gullet.specs.declared.task.Want.TheVariants as want
use Rattle.gullet.specs.declared.task.BranchWord.{BranchWord}
use Rattle.gullet.specs.Meanings.{is_looked_at, expansion, expansion_of_code, as_task, test_of, simple_of}
use Rattle.gullet.specs.Wants
use Rattle.gullet.specs.Wants.{Taken, Tok, Got, Was, Place, Ahead, Behind, BehindSign, done, scanned, last_token, given_back, number_want, told_of, goes_on, word_told, token_of, byte_of, letter_of, only, relation_of, tokens_in, was_done, matching, wants}
use Rattle.gullet.specs.Sound.{Known, IsSoundBeside, IsParameter, IsSoundToken, AreSoundTokens, IsSoundSome, IsSoundMacro, IsSoundMeaning}
use Rattle.gullet.specs.SoundPhrases.{IsSoundTask, IsSoundSomeTask, IsSoundTold, IsSoundTaken, AreSoundTaken, IsSoundWant, as_macro}
use Rattle.gullet.specs.SoundKept.{either, each_map, each_two}
use Rattle.gullet.specs.SoundArguments.{UseHolds, use_holds}

both_hold : (a b : Bool) → (a && b) ≡ true → (a ≡ true) × (b ≡ true)
both_hold true b e = (refl, e)
both_hold false b e = (e, cc)

module _ (k : Known) where
  -- ---- what was taken

  last_sound : (taken : List Taken) → AreSoundTaken k taken → IsSoundSome k (last_token taken)
  unfolding last_token
  last_sound [] h = tt
  last_sound (Tok t m ∷ []) h = h.0.0
  last_sound (Got tells ∷ []) h = tt
  last_sound (Was tells ∷ []) h = tt
  last_sound (Tok t m ∷ y ∷ rest) h = last_sound (y ∷ rest) h.1
  last_sound (Got tells ∷ y ∷ rest) h = last_sound (y ∷ rest) h.1
  last_sound (Was tells ∷ y ∷ rest) h = last_sound (y ∷ rest) h.1

  token_of_sound : (x : Taken) → IsSoundTaken k x → IsSoundToken k (token_of x)
  token_of_sound (Tok t m) h = h.0
  token_of_sound (Got tells) h = tt
  token_of_sound (Was tells) h = tt

  meaning_of_sound : (x : Taken) → IsSoundTaken k x → IsSoundMeaning k (Wants.meaning_of x)
  meaning_of_sound (Tok t m) h = h.1
  meaning_of_sound (Got tells) h = tt
  meaning_of_sound (Was tells) h = tt

  told_of_sound : (x : Taken) → IsSoundTaken k x → IsSoundTold k (told_of x)
  told_of_sound (Tok t m) h = tt
  told_of_sound (Got tells) h = h
  told_of_sound (Was tells) h = h

  in_sound : (taken : List Taken) → AreSoundTaken k taken → AreSoundTokens k (tokens_in taken)
  in_sound [] h = tt
  in_sound (Tok t m ∷ taken) h = (h.0.0, in_sound taken h.1)
  in_sound (Got tells ∷ taken) h = in_sound taken h.1
  in_sound (Was tells ∷ taken) h = in_sound taken h.1

  -- ---- expansions

  as_task_sound : (asks : Option Test) (thing : Option Simple) → IsSoundSomeTask k (as_task asks thing)
  as_task_sound (Some asks) thing = tt
  as_task_sound None None = tt
  as_task_sound None (Some thing) = tt

  code_sound : (t : Token) (code : ℕ) → IsSoundToken k t → IsSoundSomeTask k (expansion_of_code t code)
  code_sound t code h =
      either (IsSoundSomeTask k) (code == input_code) _ _ h
      (either (IsSoundSomeTask k) (code == the_code) _ _ tt
      (either (IsSoundSomeTask k) (code == expandafter_code) _ _ tt
      (either (IsSoundSomeTask k) (code == csname_code) _ _ tt
      (either (IsSoundSomeTask k) (code == number_code) _ _ tt
      (either (IsSoundSomeTask k) (code == romannumeral_code) _ _ tt
      (either (IsSoundSomeTask k) (code == else_code) _ _ h
      (either (IsSoundSomeTask k) (code == or_code) _ _ h
      (either (IsSoundSomeTask k) (code == fi_code) _ _ h (as_task_sound (test_of code) (simple_of code))))))))))

  pub expansion_sound : (t : Token) (m : Meaning) → IsSoundToken k t → IsSoundMeaning k m → IsSoundSomeTask k (expansion t m)
  expansion_sound t meaning.Undefined h g = h
  expansion_sound t (meaning.Primitive code) h g = code_sound t code h
  expansion_sound t (meaning.Macro m) h g = (h, g)
  expansion_sound t (meaning.Char cat byte) h g = tt
  expansion_sound t (meaning.CharDef byte) h g = tt
  expansion_sound t (meaning.MathCharDef number) h g = tt
  expansion_sound t (meaning.Register kind number) h g = tt
  expansion_sound t (meaning.Font font) h g = tt

  -- ---- numbers and quantities

  given_sound : (back : ℕ) (last : Option Token) → IsSoundSome k last → IsSoundSome k (given_back back last)
  given_sound back last h = either (IsSoundSome k) (back == 0) None last tt h

  number_sound : (v : Verdict) (is_character : Bool) (last : Option Token) → IsSoundSome k last → IsSoundWant k (number_want v is_character last)
  number_sound verdict.Need true last h = tt
  number_sound verdict.Need false last h = tt
  number_sound (verdict.Ask q) is_character last h = tt
  number_sound (verdict.Sub phrase) is_character last h = tt
  number_sound (verdict.Done n) is_character last h = (tt, tt)
  number_sound (verdict.DoneBefore n back) is_character last h = (tt, given_sound back last h)
  number_sound (verdict.Trouble kind) is_character last h = tt
  number_sound (verdict.Pass kind back) is_character last h = given_sound back last h

  only_sound : (w : Want) (taken : List Taken) → IsSoundWant k w → IsSoundWant k (only w taken)
  only_sound w [] h = h
  only_sound w (x ∷ rest) h = (tt, tt)

  telling_sound : (w : Want) (taken : List Taken) → IsSoundWant k w → AreSoundTaken k taken → IsSoundWant k (Wants.telling w taken)
  telling_sound w [] h g = h
  telling_sound w (x ∷ rest) h g = (told_of_sound x g.0, tt)

  numbered_sound : (code : ℕ) (number : Told) (taken : List Taken) → AreSoundTaken k taken → IsSoundWant k (Wants.register_numbered code number taken)
  numbered_sound code number [] h = tt
  numbered_sound code number (x ∷ rest) h = (told_of_sound x h.0, tt)

  register_sound : (code : ℕ) (taken : List Taken) → AreSoundTaken k taken → IsSoundWant k (Wants.register_want code taken)
  register_sound code [] h = tt
  register_sound code (x ∷ rest) h = numbered_sound code (told_of x) rest h.1

  looked_sound : (q : Quantity) (taken : List Taken) → AreSoundTaken k taken → IsSoundWant k (Wants.looked_up q taken)
  looked_sound q [] h = tt
  looked_sound q (x ∷ rest) h = (told_of_sound x h.0, tt)

  quantity_sound : (q : Quantity) (place : Option ℕ) (taken : List Taken) → AreSoundTaken k taken → IsSoundWant k (Wants.quantity_by q place taken)
  quantity_sound q None taken h =
      either (IsSoundWant k) (Wants.takes_number q.code) (Wants.register_want q.code taken) (Wants.looked_up q taken) (register_sound q.code taken h) (looked_sound q taken h)
  quantity_sound q (Some place) taken h = looked_sound q taken h

  -- ---- \expandafter and \number

  second_sound : (second : Token) (inner : Option Task) → IsSoundToken k second → IsSoundSomeTask k inner → IsSoundWant k (Wants.expand_second second inner)
  second_sound second None h g = h
  second_sound second (Some inner) h g = g

  behind_second_sound : (first : Token) (w : Want) (taken : List Taken) → IsSoundToken k first → IsSoundWant k w → IsSoundWant k (Wants.behind_second first w taken)
  behind_second_sound first w [] h g = g
  behind_second_sound first w (x ∷ rest) h g = (tt, h)

  behind_first_sound : (first : Token) (taken : List Taken) → IsSoundToken k first → AreSoundTaken k taken → IsSoundWant k (Wants.behind_first first taken)
  behind_first_sound first [] h g = tt
  behind_first_sound first (x ∷ rest) h g =
      behind_second_sound first (Wants.second_want (token_of x) (Wants.meaning_of x)) rest h
      (second_sound (token_of x) (expansion (token_of x) (Wants.meaning_of x)) (token_of_sound x g.0)
      (expansion_sound (token_of x) (Wants.meaning_of x) (token_of_sound x g.0) (meaning_of_sound x g.0)))

  expand_after_sound : (taken : List Taken) → AreSoundTaken k taken → IsSoundWant k (Wants.expand_after_want taken)
  expand_after_sound [] h = tt
  expand_after_sound (x ∷ rest) h = behind_first_sound (token_of x) rest (token_of_sound x h.0) h.1

  number_text_sound : (numerals : Numerals) (taken : List Taken) → IsSoundWant k (Wants.number_text_want numerals taken)
  number_text_sound numerals [] = tt
  number_text_sound numerals (x ∷ rest) = only_sound (want.Act (act.Digits numerals (Wants.number_told (told_of x)))) rest tt

  shown_sound : (q : Quantity) (taken : List Taken) → IsSoundWant k (Wants.shown_want q taken)
  shown_sound q [] = tt
  shown_sound q (x ∷ rest) = only_sound (want.Act (act.Digits Decimal (Wants.number_told (told_of x)))) rest tt

  register_list_sound : (straight : Bool) (n : Number) (taken : List Taken) → AreSoundTaken k taken → IsSoundWant k (Wants.register_list_want straight n taken)
  register_list_sound true n taken h = telling_sound (want.Act (act.TellRegister n)) taken tt h
  register_list_sound false n taken h = only_sound (want.Act (act.PutRegister n)) taken tt

  parameter_list_sound : (straight : Bool) (code : ℕ) (taken : List Taken) → AreSoundTaken k taken → IsSoundWant k (Wants.parameter_list_want straight code taken)
  parameter_list_sound true code taken h = telling_sound (want.Act (act.TellParameter code)) taken tt h
  parameter_list_sound false code taken h = only_sound (want.Act (act.PutParameter code)) taken tt

  toks_sound : (straight : Bool) (taken : List Taken) → AreSoundTaken k taken → IsSoundWant k (Wants.toks_want straight taken)
  toks_sound straight [] h = tt
  toks_sound straight (x ∷ rest) h = register_list_sound straight (Wants.number_told (told_of x)) rest h.1

  the_primitive_sound : (straight : Bool) (t : Token) (code : ℕ) (taken : List Taken) → IsSoundToken k t → AreSoundTaken k taken
      → IsSoundWant k (Wants.the_primitive straight t code taken)
  the_primitive_sound straight t code taken h g =
      either (IsSoundWant k) (is_looked_at code) _ _ (shown_sound (Wants.quantity code None) taken)
      (either (IsSoundWant k) (code == toks_code) _ _ (toks_sound straight taken g)
      (either (IsSoundWant k) (Wants.is_token_parameter_code code) _ _ (parameter_list_sound straight code taken g)
      (only_sound (want.Act (act.CantUse t)) taken h)))

  the_register_sound : (straight : Bool) (t : Token) (kind : RegKind) (place : ℕ) (taken : List Taken) → IsSoundToken k t → AreSoundTaken k taken
      → IsSoundWant k (Wants.the_register straight t kind place taken)
  the_register_sound straight t Count place taken h g = shown_sound (Wants.quantity count_code (Some place)) taken
  the_register_sound straight t Dimen place taken h g = shown_sound (Wants.quantity dimen_code (Some place)) taken
  the_register_sound straight t Skip place taken h g = shown_sound (Wants.quantity skip_code (Some place)) taken
  the_register_sound straight t Muskip place taken h g = shown_sound (Wants.quantity muskip_code (Some place)) taken
  the_register_sound straight t Box place taken h g = only_sound (want.Act (act.CantUse t)) taken h
  the_register_sound straight t Toks place taken h g = register_list_sound straight (number.Int (pos place)) taken g

  the_sound : (straight : Bool) (t : Token) (m : Meaning) (taken : List Taken) → IsSoundToken k t → AreSoundTaken k taken → IsSoundWant k (Wants.the_value straight t m taken)
  the_sound straight t meaning.Undefined taken h g = only_sound (want.Act (act.CantUse t)) taken h
  the_sound straight t (meaning.Primitive code) taken h g = the_primitive_sound straight t code taken h g
  the_sound straight t (meaning.Macro m) taken h g = only_sound (want.Act (act.CantUse t)) taken h
  the_sound straight t (meaning.Char cat byte) taken h g = only_sound (want.Act (act.CantUse t)) taken h
  the_sound straight t (meaning.CharDef byte) taken h g = only_sound (want.Act (act.Digits Decimal (number.Int (pos byte)))) taken tt
  the_sound straight t (meaning.MathCharDef n) taken h g = only_sound (want.Act (act.Digits Decimal (number.Int (pos n)))) taken tt
  the_sound straight t (meaning.Register kind place) taken h g = the_register_sound straight t kind place taken h g
  the_sound straight t (meaning.Font font) taken h g = only_sound (want.Act (act.CantUse t)) taken h

  the_want_sound : (straight : Bool) (taken : List Taken) → AreSoundTaken k taken → IsSoundWant k (Wants.the_want straight taken)
  the_want_sound straight [] h = tt
  the_want_sound straight (x ∷ rest) h = the_sound straight (token_of x) (Wants.meaning_of x) rest (token_of_sound x h.0) h.1

  -- ---- conditions

  pass_over_sound : (stop : Option Stopping) → IsSoundWant k (Wants.pass_over_by stop)
  pass_over_sound None = tt
  pass_over_sound (Some stop) = (tt, tt)

  false_sound : (level : ℕ) (taken : List Taken) → IsSoundWant k (Wants.false_want level taken)
  false_sound level [] = tt
  false_sound level (x ∷ []) = tt
  false_sound level (x ∷ y ∷ rest) = either (IsSoundWant k) (goes_on (told_of y)) (Wants.false_want level rest) done (false_sound level rest) (tt, tt)

  decided_sound : (b : Bool) (level : ℕ) (taken : List Taken) → IsSoundWant k (Wants.decided b level taken)
  decided_sound true level taken = only_sound (want.Act (act.Choose level)) taken tt
  decided_sound false level taken = false_sound level taken

  compared_sound : (level relation : ℕ) (a : Number) (taken : List Taken) → IsSoundWant k (Wants.compared level relation a taken)
  compared_sound level relation a [] = tt
  compared_sound level relation a (x ∷ rest) = decided_sound (Wants.holds relation (first_number a) (first_number (Wants.number_told (told_of x)))) level rest

  by_relation_sound : (level : ℕ) (a : Number) (relation : Option ℕ) (taken : List Taken) → IsSoundWant k (Wants.by_relation level a relation taken)
  by_relation_sound level a None taken = tt
  by_relation_sound level a (Some relation) taken = compared_sound level relation a taken

  relation_sound : (level : ℕ) (a : Number) (taken : List Taken) → IsSoundWant k (Wants.relation_want level a taken)
  relation_sound level a [] = tt
  relation_sound level a (x ∷ rest) =
      either (IsSoundWant k) (is_space (Wants.meaning_of x)) (Wants.relation_want level a rest) (Wants.by_relation level a (relation_of (token_of x)) rest)
      (relation_sound level a rest) (by_relation_sound level a (relation_of (token_of x)) rest)

  first_number_sound : (level : ℕ) (taken : List Taken) → IsSoundWant k (Wants.first_number_want level taken)
  first_number_sound level [] = tt
  first_number_sound level (x ∷ rest) = relation_sound level (Wants.number_told (told_of x)) rest

  odd_sound : (level : ℕ) (taken : List Taken) → IsSoundWant k (Wants.odd_want level taken)
  odd_sound level [] = tt
  odd_sound level (x ∷ rest) = decided_sound (Wants.is_odd (first_number (Wants.number_told (told_of x)))) level rest

  asked_sound : (question : Act) (level : ℕ) (taken : List Taken) → IsSoundWant k (want.Act question) → IsSoundWant k (Wants.asked_want question level taken)
  asked_sound question level [] h = h
  asked_sound question level (x ∷ rest) h = decided_sound (Wants.holds_told (told_of x)) level rest

  second_asked_sound : (p : Part) (level : ℕ) (a : Option Glyph) (t : Token) (taken : List Taken) → IsSoundToken k t → IsSoundWant k (Wants.second_asked p level a t taken)
  second_asked_sound p level a t [] h = h
  second_asked_sound p level a t (x ∷ rest) h = decided_sound (Wants.alike p a (Wants.glyph_if (Wants.holds_told (told_of x)) t)) level rest

  glyph_sound : (p : Part) (level : ℕ) (a : Option Glyph) (taken : List Taken) → AreSoundTaken k taken → IsSoundWant k (Wants.second_want_of p level a taken)
  glyph_sound p level a [] h = tt
  glyph_sound p level a (x ∷ rest) h =
      either (IsSoundWant k) (Wants.may_be_marked (token_of x) (Wants.meaning_of x)) _ _
      (second_asked_sound p level a (token_of x) rest (token_of_sound x h.0))
      (decided_sound (Wants.alike p a (Wants.glyph_of (Wants.meaning_of x))) level rest)

  first_asked_sound : (p : Part) (level : ℕ) (t : Token) (taken : List Taken) → IsSoundToken k t → AreSoundTaken k taken → IsSoundWant k (Wants.first_asked p level t taken)
  first_asked_sound p level t [] h g = h
  first_asked_sound p level t (x ∷ rest) h g = glyph_sound p level (Wants.glyph_if (Wants.holds_told (told_of x)) t) rest g.1

  alike_sound : (p : Part) (level : ℕ) (taken : List Taken) → AreSoundTaken k taken → IsSoundWant k (Wants.alike_want p level taken)
  alike_sound p level [] h = tt
  alike_sound p level (x ∷ rest) h =
      either (IsSoundWant k) (Wants.may_be_marked (token_of x) (Wants.meaning_of x)) _ _
      (first_asked_sound p level (token_of x) rest (token_of_sound x h.0) h.1)
      (glyph_sound p level (Wants.glyph_of (Wants.meaning_of x)) rest h.1)

  cases_by_sound : (further : Option ℕ → Want) (again : Want) (level : ℕ) (left : Option ℕ) (tells : Told) (taken : List Taken)
      → ((fewer : Option ℕ) → IsSoundWant k (further fewer)) → IsSoundWant k again → IsSoundWant k (Wants.cases_by further again level left tells taken)
  cases_by_sound further again level left tells taken h g =
      either (IsSoundWant k) (goes_on tells) _ _ g
      (either (IsSoundWant k) (word_told tells == 2) _ _
      (either (IsSoundWant k) (Wants.is_reached (Wants.one_less left)) _ _ (only_sound (want.Act (act.Choose level)) taken tt) (h (Wants.one_less left))) (tt, tt))

  cases_sound : (level : ℕ) (left : Option ℕ) (taken : List Taken) → IsSoundWant k (Wants.cases_want level left taken)
  cases_sound level left [] = tt
  cases_sound level left (x ∷ []) = tt
  cases_sound level left (x ∷ y ∷ rest) =
      cases_by_sound (λ fewer. Wants.cases_want level fewer rest) (Wants.cases_want level left rest) level left (told_of y) rest (λ fewer. cases_sound level fewer rest)
      (cases_sound level left rest)

  case_sound : (level : ℕ) (taken : List Taken) → IsSoundWant k (Wants.case_want level taken)
  case_sound level [] = tt
  case_sound level (x ∷ rest) =
      let left : Option ℕ = Wants.cases_before (first_number (Wants.number_told (told_of x))) in
      either (IsSoundWant k) (Wants.is_reached left) _ _ (only_sound (want.Act (act.Choose level)) rest tt) (cases_sound level left rest)

  test_sound : (asks : Test) (level : ℕ) (taken : List Taken) → AreSoundTaken k taken → IsSoundWant k (Wants.test_want asks level taken)
  test_sound (test.Alike p) level taken h = alike_sound p level taken h
  test_sound test.Number level taken h = first_number_sound level taken
  test_sound test.Odd level taken h = odd_sound level taken
  test_sound (test.Mode m) level taken h = asked_sound (act.AskMode m) level taken tt
  test_sound test.SameMeaning level taken h = asked_sound act.AskSame level taken tt
  test_sound (test.Always b) level taken h = decided_sound b level taken
  test_sound test.Case level taken h = case_sound level taken

  if_sound : (asks : Test) (taken : List Taken) → AreSoundTaken k taken → IsSoundWant k (Wants.if_want asks taken)
  if_sound asks [] h = tt
  if_sound asks (x ∷ rest) h = test_sound asks (Wants.level_told (told_of x)) rest h.1

  to_fi_sound : (taken : List Taken) → IsSoundWant k (Wants.to_fi_want taken)
  to_fi_sound [] = tt
  to_fi_sound (x ∷ rest) =
      either (IsSoundWant k) (word_told (told_of x) == 0) (only (want.Act act.Close) rest) (Wants.to_fi_want rest) (only_sound (want.Act act.Close) rest tt) (to_fi_sound rest)

  branch_end_sound : (t : Token) (word : BranchWord) (taken : List Taken) → IsSoundToken k t → IsSoundWant k (Wants.branch_end_want t word taken)
  branch_end_sound t word [] h = h
  branch_end_sound t word (x ∷ rest) h = either (IsSoundWant k) (goes_on (told_of x)) (Wants.to_fi_want rest) done (to_fi_sound rest) (tt, tt)

  -- ---- names and files

  name_ended_sound : (text : List ℕ) (m : Meaning) (taken : List Taken) → IsSoundWant k (Wants.name_ended text m taken)
  name_ended_sound text m taken =
      either (IsSoundWant k) (Wants.is_end_of_name m) (only (want.Act (act.MakeName text)) taken) (want.Wrong MissingEndcsname) (only_sound (want.Act (act.MakeName text)) taken tt) tt

  name_by_sound : (further : List ℕ → Want) (text : List ℕ) (byte : Option ℕ) (m : Meaning) (taken : List Taken)
      → ((longer : List ℕ) → IsSoundWant k (further longer)) → IsSoundWant k (Wants.name_by further text byte m taken)
  name_by_sound further text None m taken h = name_ended_sound text m taken
  name_by_sound further text (Some byte) m taken h = h (text ++ byte ∷ [])

  name_sound : (text : List ℕ) (taken : List Taken) → IsSoundWant k (Wants.name_from text taken)
  name_sound text [] = tt
  name_sound text (x ∷ rest) =
      name_by_sound (λ longer. Wants.name_from longer rest) text (byte_of (token_of x)) (Wants.meaning_of x) rest (λ longer. name_sound longer rest)

  file_by_sound : (further : List ℕ → Want) (text : List ℕ) (byte : Option ℕ) (t : Token) → IsSoundToken k t
      → ((longer : List ℕ) → IsSoundWant k (further longer)) → IsSoundWant k (Wants.file_by further text byte t)
  file_by_sound further text None t h g = (tt, h)
  file_by_sound further text (Some byte) t h g =
      either (IsSoundWant k) (byte == 32) (want.Gives (told.Text text) None) (further (text ++ byte ∷ [])) (tt, tt) (g (text ++ byte ∷ []))

  file_from_sound : (text : List ℕ) (taken : List Taken) → AreSoundTaken k taken → IsSoundWant k (Wants.file_from text taken)
  file_from_sound text [] h = tt
  file_from_sound text (x ∷ rest) h =
      file_by_sound (λ longer. Wants.file_from longer rest) text (letter_of (Wants.meaning_of x)) (token_of x) (token_of_sound x h.0) (λ longer. file_from_sound longer rest h.1)

  file_sound : (taken : List Taken) → AreSoundTaken k taken → IsSoundWant k (Wants.file_want taken)
  file_sound [] h = tt
  file_sound (x ∷ rest) h =
      either (IsSoundWant k) (is_space (Wants.meaning_of x)) (Wants.file_want rest) (Wants.file_from [] (x ∷ rest)) (file_sound rest h.1) (file_from_sound [] (x ∷ rest) h)

  input_sound : (t : Token) (naming : Bool) (taken : List Taken) → IsSoundToken k t → IsSoundWant k (Wants.input_by t naming taken)
  input_sound t true taken h = only_sound (want.Act (act.InsertRelax t)) taken h
  input_sound t false [] h = tt
  input_sound t false (x ∷ rest) h = only_sound (want.Act (act.ReadFile (Wants.text_told (told_of x)))) rest tt

  -- ---- texts

  longer_holds : (P : Token → Type 0) (further : List Token → Want) (tokens more : List Token) (taken : List Taken) → AllByRecursion P tokens → AllByRecursion P more
      → ((all : List Token) → AllByRecursion P all → IsSoundWant k (further all)) → IsSoundWant k (Wants.longer further tokens more taken)
  longer_holds P further tokens more taken h g f =
      either (IsSoundWant k) (Wants.fits (length tokens) (length more)) (further (tokens ++ more)) (only (want.Act act.Full) taken)
      (f (tokens ++ more) (each_two P tokens more h g)) (only_sound (want.Act act.Full) taken tt)

  tokens_told_sound : (tells : Told) → IsSoundTold k tells → AreSoundTokens k (Wants.tokens_told tells)
  tokens_told_sound told.Done h = tt
  tokens_told_sound (told.Number n) h = tt
  tokens_told_sound (told.Word word) h = tt
  tokens_told_sound (told.Level level) h = tt
  tokens_told_sound told.GoOn h = tt
  tokens_told_sound (told.Text text) h = tt
  tokens_told_sound (told.Holds b) h = tt
  tokens_told_sound (told.Tokens tokens) h = h
  tokens_told_sound (told.Definition parameters body) h = tt

  opened_sound : (inside : Want) (m : Meaning) → IsSoundWant k inside → IsSoundWant k (Wants.text_opened inside m)
  opened_sound inside m h = either (IsSoundWant k) (Wants.is_left_brace m) inside (want.Wrong MissingLeftBrace) h tt

  text_want_sound : (inside : List Taken → Want) (taken : List Taken) → AreSoundTaken k taken
      → ((rest : List Taken) → AreSoundTaken k rest → IsSoundWant k (inside rest)) → IsSoundWant k (Wants.text_want inside taken)
  text_want_sound inside [] h f = tt
  text_want_sound inside (x ∷ rest) h f =
      either (IsSoundWant k) (Wants.is_filler (Wants.meaning_of x)) (Wants.text_want inside rest) (Wants.text_opened (inside rest) (Wants.meaning_of x))
      (text_want_sound inside rest h.1 f) (opened_sound (inside rest) (Wants.meaning_of x) (f rest h.1))

  text_expansion_sound : (t : Token) (m : Meaning) → IsSoundToken k t → IsSoundMeaning k m → IsSoundSomeTask k (Wants.text_expansion t m)
  text_expansion_sound t meaning.Undefined h g = expansion_sound t meaning.Undefined h g
  text_expansion_sound t (meaning.Primitive code) h g =
      either (IsSoundSomeTask k) (code == the_code) (Some (task.The true)) (expansion t (meaning.Primitive code)) tt (expansion_sound t (meaning.Primitive code) h g)
  text_expansion_sound t (meaning.Macro m) h g =
      either (IsSoundSomeTask k) m.guarded None (expansion t (meaning.Macro m)) tt (expansion_sound t (meaning.Macro m) h g)
  text_expansion_sound t (meaning.Char cat byte) h g = tt
  text_expansion_sound t (meaning.CharDef byte) h g = tt
  text_expansion_sound t (meaning.MathCharDef number) h g = tt
  text_expansion_sound t (meaning.Register kind number) h g = tt
  text_expansion_sound t (meaning.Font font) h g = tt

  expansion_in_sound : (expanded : Bool) (t : Token) (m : Meaning) → IsSoundToken k t → IsSoundMeaning k m → IsSoundSomeTask k (Wants.expansion_in expanded t m)
  expansion_in_sound true t m h g = text_expansion_sound t m h g
  expansion_in_sound false t m h g = tt

  -- the arguments that a text may have: those of the macro's parameters, and none where it is no macro's
  abbrev IsArgument : Purpose → ℕ → Type 0
  IsArgument Alone number = ⊥
  IsArgument (Body parameters count brace) number = (1 ≤ number) × (number ≤ count)

  abbrev IsSoundIn : Purpose → Token → Type 0
  IsSoundIn purpose t = IsSoundBeside (IsArgument purpose) k t

  -- a token that is no argument may stand anywhere
  beside : (P : ℕ → Type 0) (t : Token) → IsSoundToken k t → IsSoundBeside P k t
  beside P (token.Char cat byte) h = h
  beside P (token.Active byte) h = h
  beside P (token.Name id) h = h
  beside P (token.Arg number) h = absurd h
  beside P (token.Frozen number) h = h

  all_beside : (P : ℕ → Type 0) (tokens : List Token) → AreSoundTokens k tokens → AllByRecursion (IsSoundBeside P k) tokens
  all_beside P tokens h = each_map (IsSoundToken k) (IsSoundBeside P k) (beside P) tokens h

  -- a text without arguments has only tokens that may stand anywhere
  alone : (t : Token) → IsSoundIn Alone t → IsSoundToken k t
  alone (token.Char cat byte) h = h
  alone (token.Active byte) h = h
  alone (token.Name id) h = h
  alone (token.Arg number) h = h
  alone (token.Frozen number) h = h

  -- a parameter text: as many arguments stand in it as there are parameters
  abbrev IsParameterText : List Token → ℕ → Type 0
  IsParameterText tokens count = AllByRecursion (IsSoundBeside (λ number. Unit {0}) k) tokens × (count ≡ length (parts_of tokens).delimiters)

  abbrev IsSoundPurpose : Purpose → Type 0
  IsSoundPurpose Alone = Unit {0}
  IsSoundPurpose (Body parameters count brace) = IsParameterText parameters count × IsSoundSome k brace

  body_counted : (parameters : List Token) (count : ℕ) (t : Token) → count ≡ length (parts_of parameters).delimiters → IsSoundBeside (λ number. (1 ≤ number) × (number ≤ count)) k t
      → IsSoundBeside (IsParameter (as_macro parameters [])) k t
  body_counted parameters count (token.Char cat byte) e h = h
  body_counted parameters count (token.Active byte) e h = h
  body_counted parameters count (token.Name id) e h = h
  body_counted parameters count (token.Arg number) e h = (h.0, subst (λ most. number ≤ most) e h.1)
  body_counted parameters count (token.Frozen number) e h = h

  definition_sound : (parameters : List Token) (count : ℕ) (brace : Option Token) (body : List Token) → IsParameterText parameters count
      → AllByRecursion (IsSoundIn (Body parameters count brace)) body → IsSoundTold k (told.Definition parameters body)
  definition_sound parameters count brace body p h = record {
    params = p.0;
    body = each_map (IsSoundIn (Body parameters count brace)) (IsSoundBeside (IsParameter (as_macro parameters [])) k) (λ t a. body_counted parameters count t p.1 a) body h;
  }

  body_ended_sound : (parameters : List Token) (count : ℕ) (brace : Option Token) (tokens : List Token) (taken : List Taken) → IsParameterText parameters count
      → IsSoundSome k brace → AllByRecursion (IsSoundIn (Body parameters count brace)) tokens → IsSoundWant k (Wants.body_ended parameters brace tokens taken)
  body_ended_sound parameters count None tokens taken p b h = (definition_sound parameters count None tokens p h, tt)
  body_ended_sound parameters count (Some brace) tokens taken p b h =
      longer_holds (IsSoundIn (Body parameters count (Some brace))) (λ all. want.Gives (told.Definition parameters all) None) tokens (brace ∷ []) taken h
      (beside (IsArgument (Body parameters count (Some brace))) brace b, tt) (λ all a. (definition_sound parameters count (Some brace) all p a, tt))

  text_ended_sound : (purpose : Purpose) (tokens : List Token) (taken : List Taken) → IsSoundPurpose purpose → AllByRecursion (IsSoundIn purpose) tokens
      → IsSoundWant k (Wants.text_ended purpose tokens taken)
  text_ended_sound Alone tokens taken p h = (each_map (IsSoundIn Alone) (IsSoundToken k) alone tokens h, tt)
  text_ended_sound (Body parameters count brace) tokens taken p h = body_ended_sound parameters count brace tokens taken p.0 p.1 h

  -- an expansion in front of which a text is
  abbrev IsSoundPlace : Place → Type 0
  IsSoundPlace Ahead = Unit {0}
  IsSoundPlace (Behind inner) = IsSoundTask k inner
  IsSoundPlace BehindSign = Unit {0}

  abbrev FurtherSound : Purpose → (Place → ℕ → List Token → Want) → Type 0
  FurtherSound purpose further =
      (place : Place) (inside : ℕ) (all : List Token) → IsSoundPlace place → AllByRecursion (IsSoundIn purpose) all → IsSoundWant k (further place inside all)

  other_by_sound : (purpose : Purpose) (further : Place → ℕ → List Token → Want) (depth : ℕ) (is_sign : Bool) (tokens : List Token) (t : Token) (taken : List Taken)
      → FurtherSound purpose further → AllByRecursion (IsSoundIn purpose) tokens → IsSoundToken k t
      → IsSoundWant k (Wants.other_by (λ place more. further place depth more) is_sign tokens t taken)
  other_by_sound purpose further depth true tokens t taken f h g = f BehindSign depth tokens tt h
  other_by_sound purpose further depth false tokens t taken f h g =
      longer_holds (IsSoundIn purpose) (further Ahead depth) tokens (t ∷ []) taken h (beside (IsArgument purpose) t g, tt) (λ all a. f Ahead depth all tt a)

  text_by_sound : (further : Place → ℕ → List Token → Want) (purpose : Purpose) (tokens : List Token) (depth : ℕ) (t : Token) (m : Meaning) (taken : List Taken)
      → IsSoundPurpose purpose → AllByRecursion (IsSoundIn purpose) tokens → IsSoundToken k t → FurtherSound purpose further
      → IsSoundWant k (Wants.text_by further purpose tokens depth t m taken)
  text_by_sound further purpose tokens depth t m taken p h g f =
      either (IsSoundWant k) (is_left t) _ _ (one (depth + 1))
      (either (IsSoundWant k) (is_right t) _ _
      (either (IsSoundWant k) (depth == 0) (Wants.text_ended purpose tokens taken) _ (text_ended_sound purpose tokens taken p h) (one (depth - 1)))
      (other_by_sound purpose further depth (Wants.has_signs purpose && Wants.is_sign m) tokens t taken f h g))
    where
      one : (inside : ℕ) → IsSoundWant k (Wants.longer (further Ahead inside) tokens (t ∷ []) taken)
      one inside = longer_holds (IsSoundIn purpose) (further Ahead inside) tokens (t ∷ []) taken h (beside (IsArgument purpose) t g, tt) (λ all a. f Ahead inside all tt a)

  gathered_by_sound : (further : Place → ℕ → List Token → Want) (purpose : Purpose) (tokens : List Token) (depth : ℕ) (t : Token) (m : Meaning) (inner : Option Task)
      (taken : List Taken) → IsSoundPurpose purpose → AllByRecursion (IsSoundIn purpose) tokens → IsSoundToken k t → IsSoundSomeTask k inner
      → FurtherSound purpose further → IsSoundWant k (Wants.gathered_by further purpose tokens depth t m inner taken)
  gathered_by_sound further purpose tokens depth t m None taken p h g i f = text_by_sound further purpose tokens depth t m taken p h g f
  gathered_by_sound further purpose tokens depth t m (Some inner) taken p h g i f = f (Behind inner) depth tokens i h

  -- the digit behind a sign is that of a parameter
  argument_sound : (purpose : Purpose) (number : ℕ) → is_from_to 1 (Wants.parameter_count purpose) number ≡ true → IsSoundIn purpose (token.Arg number)
  argument_sound Alone number e =
      let holds = both_hold (nat_le 1 number) (nat_le number 0) e in
      let first : 1 ≤ number = leb-true 1 number holds.0 in
      let last : number ≤ 0 = leb-true number 0 holds.1 in
      absurd (omega (arith, first, last))
  argument_sound (Body parameters count brace) number e =
      let holds = both_hold (nat_le 1 number) (nat_le number count) e in
      (leb-true 1 number holds.0, leb-true number count holds.1)

  signed_by_sound : (purpose : Purpose) (further : List Token → Want) (tokens : List Token) (t : Token) (m : Meaning) (taken : List Taken)
      → AllByRecursion (IsSoundIn purpose) tokens → IsSoundToken k t → ((all : List Token) → AllByRecursion (IsSoundIn purpose) all → IsSoundWant k (further all))
      → IsSoundWant k (Wants.signed_by further (Wants.parameter_count purpose) tokens t m taken)
  signed_by_sound purpose further tokens t m taken h g f =
      either (IsSoundWant k) (Wants.is_sign m) _ _
      (longer_holds (IsSoundIn purpose) further tokens (t ∷ []) taken h (beside (IsArgument purpose) t g, tt) f)
      (numbered (is_from_to 1 (Wants.parameter_count purpose) (Wants.digit t)) refl)
    where
      numbered : (b : Bool) → is_from_to 1 (Wants.parameter_count purpose) (Wants.digit t) ≡ b
          → IsSoundWant k (if b then Wants.longer further tokens (token.Arg (Wants.digit t) ∷ []) taken else want.Wrong BadParameter)
      numbered true e = longer_holds (IsSoundIn purpose) further tokens (token.Arg (Wants.digit t) ∷ []) taken h (argument_sound purpose (Wants.digit t) e, tt) f
      numbered false e = tt

  behind_sign_sound : (expanded : Bool) → IsSoundWant k (Wants.behind_sign expanded)
  behind_sign_sound true = tt
  behind_sign_sound false = tt

  gathered_sound : (purpose : Purpose) (expanded : Bool) (place : Place) (depth : ℕ) (tokens : List Token) (taken : List Taken) → IsSoundPurpose purpose
      → IsSoundPlace place → AllByRecursion (IsSoundIn purpose) tokens → AreSoundTaken k taken → IsSoundWant k (Wants.gathered purpose expanded place depth tokens taken)
  gathered_sound purpose expanded Ahead depth tokens [] p q h g = tt
  gathered_sound purpose expanded (Behind inner) depth tokens [] p q h g = q
  gathered_sound purpose expanded BehindSign depth tokens [] p q h g = behind_sign_sound expanded
  gathered_sound purpose expanded Ahead depth tokens (x ∷ rest) p q h g =
      gathered_by_sound (λ place inside more. Wants.gathered purpose expanded place inside more rest) purpose tokens depth (token_of x) (Wants.meaning_of x)
      (Wants.expansion_in expanded (token_of x) (Wants.meaning_of x)) rest p h (token_of_sound x g.0)
      (expansion_in_sound expanded (token_of x) (Wants.meaning_of x) (token_of_sound x g.0) (meaning_of_sound x g.0))
      (λ place inside more r a. gathered_sound purpose expanded place inside more rest p r a g.1)
  gathered_sound purpose expanded (Behind inner) depth tokens (x ∷ rest) p q h g =
      longer_holds (IsSoundIn purpose) (λ more. Wants.gathered purpose expanded Ahead depth more rest) tokens (Wants.tokens_told (told_of x)) rest h
      (all_beside (IsArgument purpose) (Wants.tokens_told (told_of x)) (tokens_told_sound (told_of x) (told_of_sound x g.0)))
      (λ more a. gathered_sound purpose expanded Ahead depth more rest p tt a g.1)
  gathered_sound purpose expanded BehindSign depth tokens (x ∷ rest) p q h g =
      signed_by_sound purpose (λ more. Wants.gathered purpose expanded Ahead depth more rest) tokens (token_of x) (Wants.meaning_of x) rest h (token_of_sound x g.0)
      (λ more a. gathered_sound purpose expanded Ahead depth more rest p tt a g.1)

  -- ---- parameter texts

  -- one token more in a parameter text, with the parameters that it is
  abbrev more_parameters : Token → ℕ
  more_parameters (token.Char cat byte) = 0
  more_parameters (token.Active byte) = 0
  more_parameters (token.Name id) = 0
  more_parameters (token.Arg number) = 1
  more_parameters (token.Frozen number) = 0

  counted_on : (t : Token) (tokens : List Token) → length (parts_of (t ∷ tokens)).delimiters ≡ more_parameters t + length (parts_of tokens).delimiters
  counted_on (token.Char cat byte) tokens = omega arith
  counted_on (token.Active byte) tokens = omega arith
  counted_on (token.Name id) tokens = omega arith
  counted_on (token.Arg number) tokens = omega arith
  counted_on (token.Frozen number) tokens = omega arith

  counted_behind : (tokens : List Token) (t : Token) → length (parts_of (tokens ++ t ∷ [])).delimiters ≡ length (parts_of tokens).delimiters + more_parameters t
  counted_behind [] t = rw (counted_on t []) (omega arith)
  counted_behind (x ∷ tokens) t =
      rw (counted_on x (tokens ++ t ∷ [])) (rw (counted_on x tokens) (rw (counted_behind tokens t) (omega arith)))

  one_no_argument : (t : Token) → IsSoundToken k t → more_parameters t ≡ 0
  one_no_argument (token.Char cat byte) h = refl
  one_no_argument (token.Active byte) h = refl
  one_no_argument (token.Name id) h = refl
  one_no_argument (token.Arg number) h = absurd h
  one_no_argument (token.Frozen number) h = refl

  -- a token behind a parameter text
  with_one : (tokens : List Token) (count : ℕ) (t : Token) → IsParameterText tokens count → IsSoundToken k t → IsParameterText (tokens ++ t ∷ []) count
  with_one tokens count t p h = (
    each_two (IsSoundBeside (λ number. Unit {0}) k) tokens (t ∷ []) p.0 (beside (λ number. Unit {0}) t h, tt),
    p.1 ∙ sym (counted_behind tokens t ∙ rw (one_no_argument t h) (omega arith)),
  )

  is_next_sound : (count number : ℕ) → Wants.is_next count number ≡ true → number ≡ count + 1
  is_next_sound count number e =
      let holds = both_hold (nat_le 1 number) (number - 1 == count) e in
      let first : 1 ≤ number = leb-true 1 number holds.0 in
      let same : number - 1 ≡ count = eqb-true (number - 1) count holds.1 in
      omega (arith, first, same)

  -- the next parameter behind a parameter text
  with_next : (tokens : List Token) (count number : ℕ) → IsParameterText tokens count → Wants.is_next count number ≡ true
      → IsParameterText (tokens ++ token.Arg number ∷ []) number
  with_next tokens count number p e = (
    each_two (IsSoundBeside (λ number. Unit {0}) k) tokens (token.Arg number ∷ []) p.0 (tt, tt),
    is_next_sound count number e ∙ ap (λ n. n + 1) p.1 ∙ sym (counted_behind tokens (token.Arg number)),
  )

  -- a parameter text that gets longer
  longer_front : (count : ℕ) (further : List Token → Want) (tokens : List Token) (t : Token) (taken : List Taken) → IsParameterText (tokens ++ t ∷ []) count
      → ((all : List Token) → IsParameterText all count → IsSoundWant k (further all)) → IsSoundWant k (Wants.longer further tokens (t ∷ []) taken)
  longer_front count further tokens t taken p f =
      either (IsSoundWant k) (Wants.fits (length tokens) 1) (further (tokens ++ t ∷ [])) (only (want.Act act.Full) taken)
      (f (tokens ++ t ∷ []) p) (only_sound (want.Act act.Full) taken tt)

  body_opened_sound : (expanded : Bool) (count : ℕ) (brace : Option Token) (taken : List Taken) (parameters : List Token) → IsParameterText parameters count
      → IsSoundSome k brace → AreSoundTaken k taken → IsSoundWant k (Wants.body_opened expanded count brace taken parameters)
  body_opened_sound expanded count brace taken parameters p b g =
      gathered_sound (Body parameters count brace) expanded Ahead 0 [] taken (p, b) tt tt g

  front_by_sound : (count : ℕ) (further : List Token → Want) (opened signed : Want) (tokens : List Token) (t : Token) (m : Meaning) (taken : List Taken)
      → IsParameterText tokens count → IsSoundToken k t → ((all : List Token) → IsParameterText all count → IsSoundWant k (further all))
      → IsSoundWant k opened → IsSoundWant k signed → IsSoundWant k (Wants.front_by further opened signed tokens t m taken)
  front_by_sound count further opened signed tokens t m taken p h f o s =
      either (IsSoundWant k) (is_left t) _ _ o
      (either (IsSoundWant k) (is_right t) _ _ tt
      (either (IsSoundWant k) (Wants.is_sign m) _ _ s (longer_front count further tokens t taken (with_one tokens count t p h) f)))

  parameter_by_sound : (opened : List Token → Want) (numbered : ℕ → List Token → Want) (count : ℕ) (tokens : List Token) (t : Token) (m : Meaning) (taken : List Taken)
      → IsParameterText tokens count → IsSoundToken k t → ((all : List Token) → IsParameterText all count → IsSoundWant k (opened all))
      → ((number : ℕ) (all : List Token) → IsParameterText all number → IsSoundWant k (numbered number all))
      → IsSoundWant k (Wants.parameter_by opened numbered count tokens t m taken)
  parameter_by_sound opened numbered count tokens t m taken p h o n =
      either (IsSoundWant k) (Wants.is_left_brace m) _ _ (longer_front count opened tokens t taken (with_one tokens count t p h) o)
      (by_digit (Wants.is_next count (Wants.digit t)) refl)
    where
      by_digit : (b : Bool) → Wants.is_next count (Wants.digit t) ≡ b
          → IsSoundWant k (if b then Wants.longer (numbered (Wants.digit t)) tokens (token.Arg (Wants.digit t) ∷ []) taken else want.Wrong BadParameter)
      by_digit true e =
          longer_front (Wants.digit t) (numbered (Wants.digit t)) tokens (token.Arg (Wants.digit t)) taken (with_next tokens count (Wants.digit t) p e) (n (Wants.digit t))
      by_digit false e = tt

  front_sound : (expanded signed : Bool) (count : ℕ) (tokens : List Token) (taken : List Taken) → IsParameterText tokens count → AreSoundTaken k taken
      → IsSoundWant k (Wants.front expanded signed count tokens taken)
  front_sound expanded false count tokens [] p g = tt
  front_sound expanded true count tokens [] p g = tt
  front_sound expanded false count tokens (x ∷ rest) p g =
      front_by_sound count (λ more. Wants.front expanded false count more rest) (Wants.body_opened expanded count None rest tokens)
      (Wants.front expanded true count tokens rest) tokens (token_of x) (Wants.meaning_of x) rest p (token_of_sound x g.0)
      (λ more a. front_sound expanded false count more rest a g.1) (body_opened_sound expanded count None rest tokens p tt g.1)
      (front_sound expanded true count tokens rest p g.1)
  front_sound expanded true count tokens (x ∷ rest) p g =
      parameter_by_sound (Wants.body_opened expanded count (Some (token_of x)) rest) (λ number more. Wants.front expanded false number more rest) count tokens
      (token_of x) (Wants.meaning_of x) rest p (token_of_sound x g.0)
      (λ more a. body_opened_sound expanded count (Some (token_of x)) rest more a (token_of_sound x g.0) g.1)
      (λ number more a. front_sound expanded false number more rest a g.1)

  -- ---- macro calls

  behind_use_sound : (w : Want) (is_done : Bool) (behind : List Token) → IsSoundWant k w → IsSoundWant k (Wants.behind_use w is_done behind)
  behind_use_sound w true behind h = (tt, tt)
  behind_use_sound w false [] h = h
  behind_use_sound w false (t ∷ behind) h = (tt, tt)

  body_sound : (called : Macro) → IsSoundMacro k called → AllByRecursion (IsSoundBeside (λ number. Unit {0}) k) called.body
  body_sound called h = each_map (IsSoundBeside (IsParameter called) k) (IsSoundBeside (λ number. Unit {0}) k) weaker called.body h.body
    where
      weaker : (t : Token) → IsSoundBeside (IsParameter called) k t → IsSoundBeside (λ number. Unit {0}) k t
      weaker (token.Char cat byte) h = h
      weaker (token.Active byte) h = h
      weaker (token.Name id) h = h
      weaker (token.Arg number) h = tt
      weaker (token.Frozen number) h = h

  used_sound : (name : Token) (called : Macro) (is_done : Bool) (used : Use) → IsSoundToken k name → IsSoundMacro k called → UseHolds (IsSoundToken k) used
      → IsSoundWant k (Wants.used_by name called is_done used)
  used_sound name called is_done Open h g u = tt
  used_sound name called is_done (Complete arguments behind) h g u =
      behind_use_sound (want.Act (act.Text called.body arguments)) is_done behind (body_sound called g, u)
  used_sound name called is_done (Unfit refusal behind) h g u = behind_use_sound (want.Act (act.Refuse name refusal)) is_done behind h

  -- ---- all kinds

  pub wants_sound : (c : Context) (kind : Task) (taken : List Taken) → IsSoundTask k kind → AreSoundTaken k taken → IsSoundWant k (wants c kind taken)
  unfolding wants
  wants_sound c task.WholeNumber taken h g =
      number_sound (whole_number (map scanned taken)) (wants_character (map scanned taken)) (last_token taken) (last_sound taken g)
  wants_sound c (task.QuantityValue q) taken h g = quantity_sound q q.index taken g
  wants_sound c (task.Undefined t) taken h g = only_sound (want.Act (act.PassUndefined t)) taken h
  wants_sound c (task.Call name called) taken h g =
      used_sound name called (was_done taken) (use_of (matching called) called.params (tokens_in taken)) h.0 h.1
      (use_holds (IsSoundToken k) (matching called) called.params (tokens_in taken) (in_sound taken g))
  wants_sound c task.ExpandAfter taken h g = expand_after_sound taken g
  wants_sound c (task.The straight) taken h g = the_want_sound straight taken g
  wants_sound c (task.NumberText numerals) taken h g = number_text_sound numerals taken
  wants_sound c (task.If asks) taken h g = if_sound asks taken g
  wants_sound c (task.PassOver sought) taken h g = pass_over_sound (stop_of sought (map Wants.meaning_of taken))
  wants_sound c (task.BranchEnd t word) taken h g = branch_end_sound t word taken h
  wants_sound c task.NameText taken h g = name_sound [] taken
  wants_sound c (task.Input t) taken h g = input_sound t c.naming taken h
  wants_sound c task.FileName taken h g = file_sound taken g
  wants_sound c (task.Text expanded) taken h g =
      text_want_sound (Wants.gathered Alone expanded Ahead 0 []) taken g (λ rest a. gathered_sound Alone expanded Ahead 0 [] rest tt tt tt a)
  wants_sound c (task.Definition expanded) taken h g = front_sound expanded false 0 [] taken (tt, refl) g
  wants_sound c (task.Simple thing) taken h g = only_sound (want.Act (act.Simple thing)) taken tt
