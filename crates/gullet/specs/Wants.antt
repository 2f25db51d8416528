-- What a phrase wants next, by its kind and what it has taken, the earliest first (The TeXbook, chapters 20 and 24).
use Rattle.std.specs.Prelude.{ℕ, ℤ, pos, negsuc, ◌==◌, ◌+◌, ◌-◌, ◌%◌, unsigned_abs, nat_lt, nat_le, int_lt, int_le, ◌&&◌, ◌||◌, Bool, true, false, if◌then◌else◌, List, [], ◌∷◌, ◌++◌, map, length, Option, Some, None, codes}
use Rattle.tokens.specs.Codes.{endcsname_code, par_code, relax_code}
use Rattle.tokens.specs.Cap.{cap_limit}
use Rattle.tokens.specs.declared.cap.Cap.TheVariants.{Items}
use Rattle.tokens.specs.declared.kind.Kind.TheVariants.{MissingRelation, MissingEndcsname, MissingLeftBrace, BadParameter, LeftOut}
use Rattle.tokens.specs.declared.token.Token.{Token}
use Rattle.tokens.specs.declared.token.Token.TheVariants as token
use Rattle.tokens.specs.declared.meaning.Macro.{Macro}
use Rattle.tokens.specs.declared.meaning.Meaning.{Meaning}
use Rattle.tokens.specs.declared.meaning.Meaning.TheVariants as meaning
use Rattle.tokens.specs.declared.meaning.RegKind.{RegKind}
use Rattle.tokens.specs.declared.meaning.RegKind.TheVariants.{Count, Dimen, Skip, Muskip, Box, Toks}
use Rattle.scaled.specs.declared.spacing.Glue.{Glue}
use Rattle.scan_nums.specs.Number.{first_number}
use Rattle.scan_nums.specs.declared.number.Number.{Number}
use Rattle.scan_nums.specs.declared.number.Number.TheVariants as number
use Rattle.scan_nums.specs.declared.number.Quantity.{Quantity}
use Rattle.scan_nums.specs.declared.verdict.Verdict.{Verdict}
use Rattle.scan_nums.specs.declared.verdict.Verdict.TheVariants as verdict
use Rattle.scan_nums.specs.Taken.{Seen as SeenToken, Told as ToldNumber, Resumed}
use Rattle.scan_nums.specs.Taken as scan
use Rattle.scan_nums.specs.Starts.{is_space, is_from_to}
use Rattle.scan_nums.specs.WholeNumber.{whole_number, wants_character}
use Rattle.macro_args.specs.declared.rules.Rules.{Rules}
use Rattle.macro_args.specs.BraceCount.{is_left, is_right}
use Rattle.macro_args.specs.Arguments.{Use, Open, Complete, Unfit, use_of}
use Rattle.conditionals.specs.Branches.{Stopping, stop_of}
use Rattle.gullet.specs.declared.context.Context.{Context}
use Rattle.gullet.specs.declared.in_text.Purpose.{Purpose}
use Rattle.gullet.specs.declared.in_text.Purpose.TheVariants.{Alone, Body}
use Rattle.gullet.specs.declared.task.Task.{Task}
use Rattle.gullet.specs.declared.task.Task.TheVariants as task
use Rattle.gullet.specs.declared.task.Test.{Test}
use Rattle.gullet.specs.declared.task.Test.TheVariants as test
use Rattle.gullet.specs.declared.task.ModeTest.{ModeTest}
use Rattle.gullet.specs.declared.task.ModeTest.TheVariants as mode
use Rattle.gullet.specs.declared.task.Numerals.{Numerals}
use Rattle.gullet.specs.declared.task.Numerals.TheVariants.{Decimal}
use Rattle.gullet.specs.declared.task.Part.{Part}
use Rattle.gullet.specs.declared.task.Part.TheVariants as part
use Rattle.gullet.specs.declared.task.Glyph.{Glyph}
use Rattle.gullet.specs.declared.task.Told.{Told}
use Rattle.gullet.specs.declared.task.Told.TheVariants as told
use Rattle.gullet.specs.declared.task.Act.{Act as Deed}
use Rattle.gullet.specs.declared.task.Act.TheVariants as act
use Rattle.gullet.specs.declared.task.Want.{Want}
use Rattle.gullet.specs.declared.task.Want.TheVariants.{Raw, Expanded, Character, Act, Inner, Gives, Wrong}
use Rattle.gullet.specs.declared.task.BranchWord.{BranchWord}
use Rattle.gullet.specs.Meanings.{expansion, is_looked_at}
use Rattle.tokens.specs.Codes.{the_code, count_code, dimen_code, skip_code, muskip_code, toks_code, catcode_code, delcode_code, output_code, errhelp_code}

-- what a phrase has taken: a token with the meaning that it had then, what an inner phrase told, or what was told by
-- something that was done
pub data Taken : Type 0 where
  Tok : Token → Meaning → Taken
  Got : Told → Taken
  Was : Told → Taken

abbrev pub done : Want
done = Gives told.Done None

-- ---- whole numbers (The TeXbook, chapter 24)

-- what was taken, as the grammar of numbers reads it
-- a number that has no negative counts as 0
abbrev pub if_negatable : Bool → Number → Number
if_negatable b n = if b then n else number.Int (pos 0)

abbrev pub is_above_lowest : ℤ → Bool
is_above_lowest n = int_le (negsuc 2147483646) n

abbrev pub are_above_lowest : Glue → Bool
are_above_lowest g = is_above_lowest g.width && is_above_lowest g.stretch && is_above_lowest g.shrink

abbrev pub negatable : Number → Number
negatable (number.Int n) = if_negatable (is_above_lowest n) (number.Int n)
negatable (number.Dimen n) = if_negatable (is_above_lowest n) (number.Dimen n)
negatable (number.Glue g) = if_negatable (are_above_lowest g) (number.Glue g)
negatable (number.MuGlue g) = if_negatable (are_above_lowest g) (number.MuGlue g)

abbrev pub number_told : Told → Number
number_told told.Done = number.Int (pos 0)
number_told (told.Number n) = n
number_told (told.Word word) = number.Int (pos 0)
number_told (told.Level level) = number.Int (pos 0)
number_told told.GoOn = number.Int (pos 0)
number_told (told.Text text) = number.Int (pos 0)
number_told (told.Holds b) = number.Int (pos 0)
number_told (told.Tokens tokens) = number.Int (pos 0)
number_told (told.Definition parameters body) = number.Int (pos 0)

-- an inner phrase answers what was asked for; behind a trouble that was passed over the number goes on
abbrev pub scanned : Taken → scan.Taken
scanned (Tok t m) = SeenToken t m
scanned (Got tells) = ToldNumber (negatable (number_told tells))
scanned (Was tells) = Resumed

-- the last token
unfoldable pub last_token : List Taken → Option Token
last_token [] = None
last_token (Tok t m ∷ []) = Some t
last_token (Got tells ∷ []) = None
last_token (Was tells ∷ []) = None
last_token (x ∷ y ∷ rest) = last_token (y ∷ rest)

-- the last token, where one is given back
abbrev pub given_back : ℕ → Option Token → Option Token
given_back back last = if back == 0 then None else last

-- by the verdict of the grammar, whether a character constant is read, and the last token
abbrev pub number_want : Verdict → Bool → Option Token → Want
number_want verdict.Need true last = Character
number_want verdict.Need false last = Expanded
number_want (verdict.Ask q) is_character last = Inner (task.QuantityValue q)
number_want (verdict.Sub phrase) is_character last = Wrong (LeftOut (codes "expression"))
number_want (verdict.Done n) is_character last = Gives (told.Number n) None
number_want (verdict.DoneBefore n back) is_character last = Gives (told.Number n) (given_back back last)
number_want (verdict.Trouble kind) is_character last = Wrong kind
number_want (verdict.Pass kind back) is_character last = Act (act.Pass kind (given_back back last))

abbrev pub whole_number_want : List Taken → Want
whole_number_want taken =
    number_want (whole_number (map scanned taken)) (wants_character (map scanned taken)) (last_token taken)

-- ---- quantities: behind \count and its mates stands the number of a register, and behind \catcode and its mates a character

abbrev pub told_of : Taken → Told
told_of (Tok t m) = told.Done
told_of (Got tells) = tells
told_of (Was tells) = tells

abbrev pub takes_number : ℕ → Bool
takes_number code = is_from_to count_code muskip_code code || is_from_to catcode_code delcode_code code

abbrev pub register_numbered : ℕ → Told → List Taken → Want
register_numbered code number [] = Act (act.LookNumbered code (number_told number))
register_numbered code number (x ∷ rest) = Gives (told_of x) None

abbrev pub register_want : ℕ → List Taken → Want
register_want code [] = Inner task.WholeNumber
register_want code (x ∷ rest) = register_numbered code (told_of x) rest

abbrev pub looked_up : Quantity → List Taken → Want
looked_up q [] = Act (act.Look q)
looked_up q (x ∷ rest) = Gives (told_of x) None

abbrev pub quantity_by : Quantity → Option ℕ → List Taken → Want
quantity_by q None taken = if takes_number q.code then register_want q.code taken else looked_up q taken
quantity_by q (Some place) taken = looked_up q taken

-- ---- expansions

-- something is done, and that is all
abbrev pub only : Want → List Taken → Want
only want [] = want
only want (x ∷ rest) = done

-- \expandafter: a token, and the expansion of the one behind it (tex.web 367). Both are put back
abbrev pub expand_second : Token → Option Task → Want
expand_second second None = Act (act.Return second)
expand_second second (Some inner) = Inner inner

abbrev pub second_want : Token → Meaning → Want
second_want second m = expand_second second (expansion second m)

abbrev pub token_of : Taken → Token
token_of (Tok t m) = t
token_of (Got tells) = token.Frozen 0
token_of (Was tells) = token.Frozen 0

abbrev pub meaning_of : Taken → Meaning
meaning_of (Tok t m) = m
meaning_of (Got tells) = meaning.Undefined
meaning_of (Was tells) = meaning.Undefined

abbrev pub behind_second : Token → Want → List Taken → Want
behind_second first want [] = want
behind_second first want (x ∷ rest) = Gives told.Done (Some first)

abbrev pub behind_first : Token → List Taken → Want
behind_first first [] = Raw
behind_first first (x ∷ rest) = behind_second first (second_want (token_of x) (meaning_of x)) rest

abbrev pub expand_after_want : List Taken → Want
expand_after_want [] = Raw
expand_after_want (x ∷ rest) = behind_first (token_of x) rest

-- \number and \romannumeral: a number, and its digits or numerals (tex.web 471 and 472)
abbrev pub digits_want : Numerals → Told → List Taken → Want
digits_want numerals number taken = only (Act (act.Digits numerals (number_told number))) taken

abbrev pub number_text_want : Numerals → List Taken → Want
number_text_want numerals [] = Inner task.WholeNumber
number_text_want numerals (x ∷ rest) = digits_want numerals (told_of x) rest

-- what is told of something that is done is told of the phrase
abbrev pub telling : Want → List Taken → Want
telling want [] = want
telling want (x ∷ rest) = Gives (told_of x) None

-- \the: a quantity and its digits, the number that a name stands for, or the list of a token register or parameter as it
-- stands (The TeXbook, pages 214 to 216; tex.web 413 to 419 and 465), which is put in front, or told where it goes straight
-- into a text (tex.web 478). Nothing else may stand there (tex.web 428)
abbrev pub shown_want : Quantity → List Taken → Want
shown_want q [] = Inner (task.QuantityValue q)
shown_want q (x ∷ rest) = digits_want Decimal (told_of x) rest

abbrev pub register_list_want : Bool → Number → List Taken → Want
register_list_want true n taken = telling (Act (act.TellRegister n)) taken
register_list_want false n taken = only (Act (act.PutRegister n)) taken

abbrev pub parameter_list_want : Bool → ℕ → List Taken → Want
parameter_list_want true code taken = telling (Act (act.TellParameter code)) taken
parameter_list_want false code taken = only (Act (act.PutParameter code)) taken

abbrev pub toks_want : Bool → List Taken → Want
toks_want straight [] = Inner task.WholeNumber
toks_want straight (x ∷ rest) = register_list_want straight (number_told (told_of x)) rest

abbrev pub is_token_parameter_code : ℕ → Bool
is_token_parameter_code code = is_from_to output_code errhelp_code code

abbrev pub quantity : ℕ → Option ℕ → Quantity
quantity code index = record { code = code; index = index }

abbrev pub the_primitive : Bool → Token → ℕ → List Taken → Want
the_primitive straight t code taken =
    if is_looked_at code then shown_want (quantity code None) taken
    else if code == toks_code then toks_want straight taken
    else if is_token_parameter_code code then parameter_list_want straight code taken
    else only (Act (act.CantUse t)) taken

abbrev pub the_register : Bool → Token → RegKind → ℕ → List Taken → Want
the_register straight t Count place taken = shown_want (quantity count_code (Some place)) taken
the_register straight t Dimen place taken = shown_want (quantity dimen_code (Some place)) taken
the_register straight t Skip place taken = shown_want (quantity skip_code (Some place)) taken
the_register straight t Muskip place taken = shown_want (quantity muskip_code (Some place)) taken
the_register straight t Box place taken = only (Act (act.CantUse t)) taken
the_register straight t Toks place taken = register_list_want straight (number.Int (pos place)) taken

abbrev pub the_value : Bool → Token → Meaning → List Taken → Want
the_value straight t meaning.Undefined taken = only (Act (act.CantUse t)) taken
the_value straight t (meaning.Primitive code) taken = the_primitive straight t code taken
the_value straight t (meaning.Macro m) taken = only (Act (act.CantUse t)) taken
the_value straight t (meaning.Char cat byte) taken = only (Act (act.CantUse t)) taken
the_value straight t (meaning.CharDef byte) taken = only (Act (act.Digits Decimal (number.Int (pos byte)))) taken
the_value straight t (meaning.MathCharDef n) taken = only (Act (act.Digits Decimal (number.Int (pos n)))) taken
the_value straight t (meaning.Register kind place) taken = the_register straight t kind place taken
the_value straight t (meaning.Font font) taken = only (Act (act.CantUse t)) taken

abbrev pub the_want : Bool → List Taken → Want
the_want straight [] = Expanded
the_want straight (x ∷ rest) = the_value straight (token_of x) (meaning_of x) rest

-- ---- conditions

-- a text is passed over until \else or \fi of its own level, or the \or that is sought (tex.web 494)
abbrev pub pass_over_by : Option Stopping → Want
pass_over_by None = Raw
pass_over_by (Some stop) = Gives (told.Word stop.word) None

abbrev pub pass_over_want : ℕ → List Taken → Want
pass_over_want sought taken = pass_over_by (stop_of sought (map meaning_of taken))

abbrev pub word_told : Told → ℕ
word_told told.Done = 0
word_told (told.Number n) = 0
word_told (told.Word word) = word
word_told (told.Level level) = 0
word_told told.GoOn = 0
word_told (told.Text text) = 0
word_told (told.Holds b) = 0
word_told (told.Tokens tokens) = 0
word_told (told.Definition parameters body) = 0

abbrev pub level_told : Told → ℕ
level_told told.Done = 0
level_told (told.Number n) = 0
level_told (told.Word word) = 0
level_told (told.Level level) = level
level_told told.GoOn = 0
level_told (told.Text text) = 0
level_told (told.Holds b) = 0
level_told (told.Tokens tokens) = 0
level_told (told.Definition parameters body) = 0

abbrev pub goes_on : Told → Bool
goes_on told.Done = false
goes_on (told.Number n) = false
goes_on (told.Word word) = false
goes_on (told.Level level) = false
goes_on told.GoOn = true
goes_on (told.Text text) = false
goes_on (told.Holds b) = false
goes_on (told.Tokens tokens) = false
goes_on (told.Definition parameters body) = false

abbrev pub holds_told : Told → Bool
holds_told told.Done = false
holds_told (told.Number n) = false
holds_told (told.Word word) = false
holds_told (told.Level level) = false
holds_told told.GoOn = false
holds_told (told.Text text) = false
holds_told (told.Holds b) = b
holds_told (told.Tokens tokens) = false
holds_told (told.Definition parameters body) = false

-- the branch in front of \else is passed over, up to the condition's own \else or \fi
abbrev pub false_want : ℕ → List Taken → Want
false_want level [] = Inner (task.PassOver 0)
false_want level (x ∷ []) = Act (act.Leave (word_told (told_of x)) level)
false_want level (x ∷ y ∷ rest) = if goes_on (told_of y) then false_want level rest else done

abbrev pub left_want : Told → ℕ → List Taken → Want
left_want word level [] = Act (act.Leave (word_told word) level)
left_want word level (y ∷ rest) = if goes_on (told_of y) then false_want level rest else done

abbrev pub decided : Bool → ℕ → List Taken → Want
decided true level taken = only (Act (act.Choose level)) taken
decided false level taken = false_want level taken

-- the relations `<`, `=` and `>`: bytes 60 to 62 of category 12
abbrev pub relation_of : Token → Option ℕ
relation_of (token.Char cat byte) = if cat == 12 then (if is_from_to 60 62 byte then Some byte else None) else None
relation_of (token.Active byte) = None
relation_of (token.Name id) = None
relation_of (token.Arg n) = None
relation_of (token.Frozen n) = None

abbrev pub holds : ℕ → ℤ → ℤ → Bool
holds relation a b =
    if relation == 60 then int_lt a b
    else if relation == 62 then int_lt b a
    else (if int_lt a b then false else (if int_lt b a then false else true))

abbrev pub compared : ℕ → ℕ → Number → List Taken → Want
compared level relation a [] = Inner task.WholeNumber
compared level relation a (x ∷ rest) = decided (holds relation (first_number a) (first_number (number_told (told_of x)))) level rest

abbrev pub by_relation : ℕ → Number → Option ℕ → List Taken → Want
by_relation level a None rest = Wrong MissingRelation
by_relation level a (Some relation) rest = compared level relation a rest

-- behind the first number spaces are passed, and then the relation stands (tex.web 503 and 404)
abbrev pub relation_want : ℕ → Number → List Taken → Want
relation_want level a [] = Expanded
relation_want level a (x ∷ rest) =
    if is_space (meaning_of x) then relation_want level a rest else by_relation level a (relation_of (token_of x)) rest

abbrev pub first_number_want : ℕ → List Taken → Want
first_number_want level [] = Inner task.WholeNumber
first_number_want level (x ∷ rest) = relation_want level (number_told (told_of x)) rest

-- \ifodd: a number that two doesn't divide (tex.web 504)
abbrev pub is_odd : ℤ → Bool
is_odd n = unsigned_abs n % 2 == 1

abbrev pub odd_want : ℕ → List Taken → Want
odd_want level [] = Inner task.WholeNumber
odd_want level (x ∷ rest) = decided (is_odd (first_number (number_told (told_of x)))) level rest

-- something is asked
abbrev pub asked_want : Deed → ℕ → List Taken → Want
asked_want question level [] = Act question
asked_want question level (x ∷ rest) = decided (holds_told (told_of x)) level rest

-- \if and \ifcat: two tokens that aren't expanded are compared as characters. An active character that isn't to be
-- expanded is itself, with category 13; whether one is, where it means \relax, shows its meaning in the environment. All
-- that is no character is alike (tex.web 506)
abbrev pub is_relax : Meaning → Bool
is_relax meaning.Undefined = false
is_relax (meaning.Primitive code) = code == relax_code
is_relax (meaning.Macro m) = false
is_relax (meaning.Char cat byte) = false
is_relax (meaning.CharDef byte) = false
is_relax (meaning.MathCharDef n) = false
is_relax (meaning.Register kind n) = false
is_relax (meaning.Font font) = false

abbrev pub is_active : Token → Bool
is_active (token.Char cat byte) = false
is_active (token.Active byte) = true
is_active (token.Name id) = false
is_active (token.Arg n) = false
is_active (token.Frozen n) = false

abbrev pub may_be_marked : Token → Meaning → Bool
may_be_marked t m = is_active t && is_relax m

abbrev pub glyph : ℕ → ℕ → Glyph
glyph cat byte = record { cat = cat; byte = byte }

abbrev pub glyph_of : Meaning → Option Glyph
glyph_of meaning.Undefined = None
glyph_of (meaning.Primitive code) = None
glyph_of (meaning.Macro m) = None
glyph_of (meaning.Char cat byte) = Some (glyph cat byte)
glyph_of (meaning.CharDef byte) = None
glyph_of (meaning.MathCharDef n) = None
glyph_of (meaning.Register kind n) = None
glyph_of (meaning.Font font) = None

abbrev pub glyph_of_active : Token → Option Glyph
glyph_of_active (token.Char cat byte) = None
glyph_of_active (token.Active byte) = Some (glyph 13 byte)
glyph_of_active (token.Name id) = None
glyph_of_active (token.Arg n) = None
glyph_of_active (token.Frozen n) = None

abbrev pub glyph_if : Bool → Token → Option Glyph
glyph_if marked t = if marked then glyph_of_active t else None

abbrev pub same_part : Part → Glyph → Glyph → Bool
same_part part.Code a b = a.byte == b.byte
same_part part.Category a b = a.cat == b.cat

abbrev pub alike : Part → Option Glyph → Option Glyph → Bool
alike p None None = true
alike p None (Some b) = false
alike p (Some a) None = false
alike p (Some a) (Some b) = same_part p a b

abbrev pub second_asked : Part → ℕ → Option Glyph → Token → List Taken → Want
second_asked p level a t [] = Act (act.AskMarked t)
second_asked p level a t (x ∷ rest) = decided (alike p a (glyph_if (holds_told (told_of x)) t)) level rest

abbrev pub second_by : Part → ℕ → Option Glyph → Token → Meaning → List Taken → Want
second_by p level a t m rest =
    if may_be_marked t m then second_asked p level a t rest else decided (alike p a (glyph_of m)) level rest

abbrev pub second_want_of : Part → ℕ → Option Glyph → List Taken → Want
second_want_of p level a [] = Expanded
second_want_of p level a (x ∷ rest) = second_by p level a (token_of x) (meaning_of x) rest

abbrev pub first_asked : Part → ℕ → Token → List Taken → Want
first_asked p level t [] = Act (act.AskMarked t)
first_asked p level t (x ∷ rest) = second_want_of p level (glyph_if (holds_told (told_of x)) t) rest

abbrev pub first_by : Part → ℕ → Token → Meaning → List Taken → Want
first_by p level t m rest = if may_be_marked t m then first_asked p level t rest else second_want_of p level (glyph_of m) rest

abbrev pub alike_want : Part → ℕ → List Taken → Want
alike_want p level [] = Expanded
alike_want p level (x ∷ rest) = first_by p level (token_of x) (meaning_of x) rest

-- \ifcase: so many cases are passed over, each up to its \or, and the next one is read. A negative number is that of no
-- case (tex.web 509)
abbrev pub cases_before : ℤ → Option ℕ
cases_before (pos n) = Some n
cases_before (negsuc n) = None

abbrev pub is_reached : Option ℕ → Bool
is_reached None = false
is_reached (Some n) = n == 0

abbrev pub one_less : Option ℕ → Option ℕ
one_less None = None
one_less (Some n) = Some (n - 1)

abbrev pub cases_by : (Option ℕ → Want) → Want → ℕ → Option ℕ → Told → List Taken → Want
cases_by further again level left tells rest =
    if goes_on tells then again
    else if word_told tells == 2 then (if is_reached (one_less left) then only (Act (act.Choose level)) rest else further (one_less left))
    else done

abbrev pub cases_want : ℕ → Option ℕ → List Taken → Want
cases_want level left [] = Inner (task.PassOver 1)
cases_want level left (x ∷ []) = Act (act.Leave (word_told (told_of x)) level)
cases_want level left (x ∷ y ∷ rest) = cases_by (λ fewer. cases_want level fewer rest) (cases_want level left rest) level left (told_of y) rest

abbrev pub cases_left_want : Told → ℕ → Option ℕ → List Taken → Want
cases_left_want word level left [] = Act (act.Leave (word_told word) level)
cases_left_want word level left (y ∷ rest) = cases_by (λ fewer. cases_want level fewer rest) (cases_want level left rest) level left (told_of y) rest

abbrev pub case_of : ℕ → Option ℕ → List Taken → Want
case_of level left taken = if is_reached left then only (Act (act.Choose level)) taken else cases_want level left taken

abbrev pub case_want : ℕ → List Taken → Want
case_want level [] = Inner task.WholeNumber
case_want level (x ∷ rest) = case_of level (cases_before (first_number (number_told (told_of x)))) rest

-- the places of the conditions among all, counted from 1 (tex.web 487; the e-TeX manual, section 3.5)
abbrev pub place_of_mode : ModeTest → ℕ
place_of_mode mode.Vertical = 6
place_of_mode mode.Horizontal = 7
place_of_mode mode.Math = 8
place_of_mode mode.Inner = 9

abbrev pub place_of_test : Test → ℕ
place_of_test (test.Alike part.Code) = 1
place_of_test (test.Alike part.Category) = 2
place_of_test test.Number = 3
place_of_test test.Odd = 5
place_of_test (test.Mode m) = place_of_mode m
place_of_test test.SameMeaning = 13
place_of_test (test.Always true) = 15
place_of_test (test.Always false) = 16
place_of_test test.Case = 17

-- a condition that was opened is decided (tex.web 501)
abbrev pub test_want : Test → ℕ → List Taken → Want
test_want (test.Alike p) level taken = alike_want p level taken
test_want test.Number level taken = first_number_want level taken
test_want test.Odd level taken = odd_want level taken
test_want (test.Mode m) level taken = asked_want (act.AskMode m) level taken
test_want test.SameMeaning level taken = asked_want act.AskSame level taken
test_want (test.Always b) level taken = decided b level taken
test_want test.Case level taken = case_want level taken

abbrev pub if_want : Test → List Taken → Want
if_want asks [] = Act (act.Open (pos (place_of_test asks)))
if_want asks (x ∷ rest) = test_want asks (level_told (told_of x)) rest

-- behind \else or \or of a branch that was read, all is passed over up to \fi (tex.web 510)
abbrev pub to_fi_want : List Taken → Want
to_fi_want [] = Inner (task.PassOver 0)
to_fi_want (x ∷ rest) = if word_told (told_of x) == 0 then only (Act act.Close) rest else to_fi_want rest

abbrev pub branch_end_want : Token → BranchWord → List Taken → Want
branch_end_want t word [] = Act (act.Meet t word)
branch_end_want t word (x ∷ rest) = if goes_on (told_of x) then to_fi_want rest else done

-- ---- names (tex.web 372)

-- the bytes of characters, if all tokens are characters
abbrev pub byte_of : Token → Option ℕ
byte_of (token.Char cat byte) = Some byte
byte_of (token.Active byte) = None
byte_of (token.Name id) = None
byte_of (token.Arg n) = None
byte_of (token.Frozen n) = None

abbrev pub is_end_of_name : Meaning → Bool
is_end_of_name meaning.Undefined = false
is_end_of_name (meaning.Primitive code) = code == endcsname_code
is_end_of_name (meaning.Macro m) = false
is_end_of_name (meaning.Char cat byte) = false
is_end_of_name (meaning.CharDef byte) = false
is_end_of_name (meaning.MathCharDef n) = false
is_end_of_name (meaning.Register kind n) = false
is_end_of_name (meaning.Font font) = false

abbrev pub name_ended : List ℕ → Meaning → List Taken → Want
name_ended text m rest = if is_end_of_name m then only (Act (act.MakeName text)) rest else Wrong MissingEndcsname

abbrev pub name_by : (List ℕ → Want) → List ℕ → Option ℕ → Meaning → List Taken → Want
name_by further text (Some byte) m rest = further (text ++ byte ∷ [])
name_by further text None m rest = name_ended text m rest

-- \csname: characters up to \endcsname
abbrev pub name_from : List ℕ → List Taken → Want
name_from text [] = Expanded
name_from text (x ∷ rest) = name_by (λ longer. name_from longer rest) text (byte_of (token_of x)) (meaning_of x) rest

-- ---- files (tex.web 526)

-- the byte of a character, also of one that a name stands for, but of no active one
abbrev pub letter_of : Meaning → Option ℕ
letter_of meaning.Undefined = None
letter_of (meaning.Primitive code) = None
letter_of (meaning.Macro m) = None
letter_of (meaning.Char cat byte) = if nat_lt 12 cat then None else Some byte
letter_of (meaning.CharDef byte) = None
letter_of (meaning.MathCharDef n) = None
letter_of (meaning.Register kind n) = None
letter_of (meaning.Font font) = None

abbrev pub file_by : (List ℕ → Want) → List ℕ → Option ℕ → Token → Want
file_by further text None t = Gives (told.Text text) (Some t)
file_by further text (Some byte) t = if byte == 32 then Gives (told.Text text) None else further (text ++ byte ∷ [])

-- characters up to a space or another token, which is put back
abbrev pub file_from : List ℕ → List Taken → Want
file_from text [] = Expanded
file_from text (x ∷ rest) = file_by (λ longer. file_from longer rest) text (letter_of (meaning_of x)) (token_of x)

-- spaces in front of a name are passed
abbrev pub file_want : List Taken → Want
file_want [] = Expanded
file_want (x ∷ rest) = if is_space (meaning_of x) then file_want rest else file_from [] (x ∷ rest)

abbrev pub text_told : Told → List ℕ
text_told told.Done = []
text_told (told.Number n) = []
text_told (told.Word word) = []
text_told (told.Level level) = []
text_told told.GoOn = []
text_told (told.Text text) = text
text_told (told.Holds b) = []
text_told (told.Tokens tokens) = []
text_told (told.Definition parameters body) = []

-- \input: a name, and its file. Where the name of a file is being read, \relax is inserted in front of it, which ends
-- that name (tex.web 378)
abbrev pub named_want : Told → List Taken → Want
named_want name taken = only (Act (act.ReadFile (text_told name))) taken

abbrev pub input_by : Token → Bool → List Taken → Want
input_by t true taken = only (Act (act.InsertRelax t)) taken
input_by t false [] = Inner task.FileName
input_by t false (x ∷ rest) = named_want (told_of x) rest

-- ---- texts (The TeXbook, chapter 20, pages 203, 204 and 215, and chapter 24, page 276; tex.web 473 to 479)

-- a list has at most so many tokens
abbrev pub fits : ℕ → ℕ → Bool
fits size more = nat_le (size + more) (cap_limit Items)

abbrev pub longer : (List Token → Want) → List Token → List Token → List Taken → Want
longer further tokens more taken = if fits (length tokens) (length more) then further (tokens ++ more) else only (Act act.Full) taken

abbrev pub tokens_told : Told → List Token
tokens_told told.Done = []
tokens_told (told.Number n) = []
tokens_told (told.Word word) = []
tokens_told (told.Level level) = []
tokens_told told.GoOn = []
tokens_told (told.Text text) = []
tokens_told (told.Holds b) = []
tokens_told (told.Tokens tokens) = tokens
tokens_told (told.Definition parameters body) = []

-- whether it means a character of this category, also where a name stands for that
abbrev pub means_category : ℕ → Meaning → Bool
means_category wanted meaning.Undefined = false
means_category wanted (meaning.Primitive code) = false
means_category wanted (meaning.Macro m) = false
means_category wanted (meaning.Char cat byte) = cat == wanted
means_category wanted (meaning.CharDef byte) = false
means_category wanted (meaning.MathCharDef n) = false
means_category wanted (meaning.Register kind n) = false
means_category wanted (meaning.Font font) = false

abbrev pub is_left_brace : Meaning → Bool
is_left_brace m = means_category 1 m

-- spaces and \relax are passed, and then a left brace stands (tex.web 403 and 404)
abbrev pub is_filler : Meaning → Bool
is_filler m = is_space m || is_relax m

abbrev pub text_opened : Want → Meaning → Want
text_opened inside m = if is_left_brace m then inside else Wrong MissingLeftBrace

abbrev pub text_want : (List Taken → Want) → List Taken → Want
text_want inside [] = Expanded
text_want inside (x ∷ rest) = if is_filler (meaning_of x) then text_want inside rest else text_opened (inside rest) (meaning_of x)

-- what is expanded in an expanded text: the tokens of a list behind \the are told, and a macro with \protected is taken as it
-- stands (tex.web 478; the e-TeX manual, section 3.1)
abbrev pub text_expansion : Token → Meaning → Option Task
text_expansion t meaning.Undefined = expansion t meaning.Undefined
text_expansion t (meaning.Primitive code) = if code == the_code then Some (task.The true) else expansion t (meaning.Primitive code)
text_expansion t (meaning.Macro m) = if m.guarded then None else expansion t (meaning.Macro m)
text_expansion t (meaning.Char cat byte) = None
text_expansion t (meaning.CharDef byte) = None
text_expansion t (meaning.MathCharDef n) = None
text_expansion t (meaning.Register kind n) = None
text_expansion t (meaning.Font font) = None

abbrev pub expansion_in : Bool → Token → Meaning → Option Task
expansion_in true t m = text_expansion t m
expansion_in false t m = None

-- a character of category 6, which is the sign of parameters, also where a name stands for that
abbrev pub is_sign : Meaning → Bool
is_sign m = means_category 6 m

-- only in a macro's text signs are looked for: they are no part of a text that is read for itself
abbrev pub has_signs : Purpose → Bool
has_signs Alone = false
has_signs (Body parameters count brace) = true

-- how many parameters there are
abbrev pub parameter_count : Purpose → ℕ
parameter_count Alone = 0
parameter_count (Body parameters count brace) = count

-- the number that one digit from 1 to 9 writes, as a character of category 12
abbrev pub digit : Token → ℕ
digit (token.Char cat byte) = if (cat == 12) && is_from_to 49 57 byte then byte - 48 else 0
digit (token.Active byte) = 0
digit (token.Name id) = 0
digit (token.Arg number) = 0
digit (token.Frozen number) = 0

-- a macro's text ends: where its parameter text ended in a left brace, that stands at its end, too (tex.web 476)
abbrev pub body_ended : List Token → Option Token → List Token → List Taken → Want
body_ended parameters None tokens taken = Gives (told.Definition parameters tokens) None
body_ended parameters (Some brace) tokens taken = longer (λ all. Gives (told.Definition parameters all) None) tokens (brace ∷ []) taken

abbrev pub text_ended : Purpose → List Token → List Taken → Want
text_ended Alone tokens taken = Gives (told.Tokens tokens) None
text_ended (Body parameters count brace) tokens taken = body_ended parameters brace tokens taken

-- where a text is: in front of its next token, of what an expansion in it tells, or of what stands behind a sign
pub data Place : Type 0 where
  Ahead : Place
  Behind : Task → Place
  BehindSign : Place

-- a token that isn't expanded: characters that are braces are counted, and the right one that has no partner ends the text
-- (tex.web 477). A sign of a macro's text says something of what stands behind it (tex.web 479)
abbrev pub other_by : (Place → List Token → Want) → Bool → List Token → Token → List Taken → Want
other_by further true tokens t taken = further BehindSign tokens
other_by further false tokens t taken = longer (further Ahead) tokens (t ∷ []) taken

abbrev pub text_by : (Place → ℕ → List Token → Want) → Purpose → List Token → ℕ → Token → Meaning → List Taken → Want
text_by further purpose tokens depth t m taken =
    if is_left t then longer (further Ahead (depth + 1)) tokens (t ∷ []) taken
    else if is_right t then (if depth == 0 then text_ended purpose tokens taken else longer (further Ahead (depth - 1)) tokens (t ∷ []) taken)
    else other_by (λ place more. further place depth more) (has_signs purpose && is_sign m) tokens t taken

abbrev pub gathered_by : (Place → ℕ → List Token → Want) → Purpose → List Token → ℕ → Token → Meaning → Option Task → List Taken → Want
gathered_by further purpose tokens depth t m None taken = text_by further purpose tokens depth t m taken
gathered_by further purpose tokens depth t m (Some inner) taken = further (Behind inner) depth tokens

-- behind a sign stands another one, which is the character that is wanted, or the digit of a parameter (tex.web 479)
abbrev pub signed_by : (List Token → Want) → ℕ → List Token → Token → Meaning → List Taken → Want
signed_by further count tokens t m taken =
    if is_sign m then longer further tokens (t ∷ []) taken
    else if is_from_to 1 count (digit t) then longer further tokens (token.Arg (digit t) ∷ []) taken
    else Wrong BadParameter

-- in an expanded text what stands behind a sign is expanded, too, up to a token that isn't
abbrev pub behind_sign : Bool → Want
behind_sign true = Expanded
behind_sign false = Raw

-- behind the left brace: so many braces are open inside, and these are the tokens so far
abbrev pub gathered : Purpose → Bool → Place → ℕ → List Token → List Taken → Want
gathered purpose expanded Ahead depth tokens [] = Raw
gathered purpose expanded (Behind inner) depth tokens [] = Inner inner
gathered purpose expanded BehindSign depth tokens [] = behind_sign expanded
gathered purpose expanded Ahead depth tokens (x ∷ rest) =
    gathered_by (λ place inside more. gathered purpose expanded place inside more rest) purpose tokens depth (token_of x) (meaning_of x)
    (expansion_in expanded (token_of x) (meaning_of x)) rest
gathered purpose expanded (Behind inner) depth tokens (x ∷ rest) =
    longer (λ more. gathered purpose expanded Ahead depth more rest) tokens (tokens_told (told_of x)) rest
gathered purpose expanded BehindSign depth tokens (x ∷ rest) =
    signed_by (λ more. gathered purpose expanded Ahead depth more rest) (parameter_count purpose) tokens (token_of x) (meaning_of x) rest

-- ---- parameter texts (The TeXbook, chapter 20, pages 203 and 204; tex.web 474 to 476)

-- whether this is the number of the next parameter
abbrev pub is_next : ℕ → ℕ → Bool
is_next count number = nat_le 1 number && (number - 1 == count)

-- a token of a parameter text: it ends in front of the left brace of the macro's text
abbrev pub front_by : (List Token → Want) → Want → Want → List Token → Token → Meaning → List Taken → Want
front_by further opened signed tokens t m taken =
    if is_left t then opened
    else if is_right t then Wrong MissingLeftBrace
    else if is_sign m then signed
    else longer further tokens (t ∷ []) taken

-- behind a sign stands the digit of the next parameter, or a left brace, which is its last delimiter and begins the text
abbrev pub parameter_by : (List Token → Want) → (ℕ → List Token → Want) → ℕ → List Token → Token → Meaning → List Taken → Want
parameter_by opened numbered count tokens t m taken =
    if is_left_brace m then longer opened tokens (t ∷ []) taken
    else if is_next count (digit t) then longer (numbered (digit t)) tokens (token.Arg (digit t) ∷ []) taken
    else Wrong BadParameter

-- the macro's text begins, with this parameter text in front of it
abbrev pub body_opened : Bool → ℕ → Option Token → List Taken → List Token → Want
body_opened expanded count brace taken parameters = gathered (Body parameters count brace) expanded Ahead 0 [] taken

-- behind a sign or not, so many parameters are there, and these are the tokens so far
abbrev pub front : Bool → Bool → ℕ → List Token → List Taken → Want
front expanded signed count tokens [] = Raw
front expanded false count tokens (x ∷ rest) =
    front_by (λ more. front expanded false count more rest) (body_opened expanded count None rest tokens) (front expanded true count tokens rest)
    tokens (token_of x) (meaning_of x) rest
front expanded true count tokens (x ∷ rest) =
    parameter_by (body_opened expanded count (Some (token_of x)) rest) (λ number more. front expanded false number more rest)
    count tokens (token_of x) (meaning_of x) rest

-- ---- all kinds

-- a macro's call (The TeXbook, chapter 20; tex.web 389): tokens that match its parameter text, and then its text with
-- the arguments. The token of the name `par` ends a paragraph
abbrev pub matching : Macro → Rules
matching called = record { long = called.long; par = record { 0 = par_code } }

-- all tokens of a list
abbrev pub token_in : Taken → List Token → List Token
token_in (Tok t m) tokens = t ∷ tokens
token_in (Got tells) tokens = tokens
token_in (Was tells) tokens = tokens

abbrev pub tokens_in : List Taken → List Token
tokens_in [] = []
tokens_in (x ∷ taken) = token_in x (tokens_in taken)

-- whether something was done behind the tokens
abbrev pub was_done : List Taken → Bool
was_done [] = false
was_done (Tok t m ∷ taken) = was_done taken
was_done (Got tells ∷ taken) = true
was_done (Was tells ∷ taken) = true

-- where the use of the macro is whole, its text comes in front, and that is all
abbrev pub behind_use : Want → Bool → List Token → Want
behind_use want true behind = done
behind_use want false [] = want
behind_use want false (t ∷ behind) = done

abbrev pub used_by : Token → Macro → Bool → Use → Want
used_by name called is_done Open = Raw
used_by name called is_done (Complete arguments behind) = behind_use (Act (act.Text called.body arguments)) is_done behind
used_by name called is_done (Unfit refusal behind) = behind_use (Act (act.Refuse name refusal)) is_done behind

abbrev pub call_want : Token → Macro → List Taken → Want
call_want name called taken = used_by name called (was_done taken) (use_of (matching called) called.params (tokens_in taken))

unfoldable pub wants : Context → Task → List Taken → Want
wants c task.WholeNumber taken = whole_number_want taken
wants c (task.QuantityValue q) taken = quantity_by q q.index taken
wants c (task.Undefined t) taken = only (Act (act.PassUndefined t)) taken
wants c (task.Call name called) taken = call_want name called taken
wants c task.ExpandAfter taken = expand_after_want taken
wants c (task.The straight) taken = the_want straight taken
wants c (task.NumberText numerals) taken = number_text_want numerals taken
wants c (task.If asks) taken = if_want asks taken
wants c (task.PassOver sought) taken = pass_over_want sought taken
wants c (task.BranchEnd t word) taken = branch_end_want t word taken
wants c task.NameText taken = name_from [] taken
wants c (task.Input t) taken = input_by t c.naming taken
wants c task.FileName taken = file_want taken
wants c (task.Text expanded) taken = text_want (gathered Alone expanded Ahead 0 []) taken
wants c (task.Definition expanded) taken = front expanded false 0 [] taken
wants c (task.Simple simple) taken = only (Act (act.Simple simple)) taken
