-- What is done for phrases (The TeXbook, chapter 20; tex.web, parts 25 to 29). Each tells something, or ends the run.
use Rattle.std.specs.Prelude.{◌≡◌, ◌≤◌, ℕ, ℤ, pos, negsuc, ◌-◌, ◌==◌, ◌&&◌, nat_lt, nat_le, min, Bool, true, false, not, is_some, if◌then◌else◌, List, [], ◌∷◌, ◌++◌, map, length, Option, Some, None, Ok, Err, codes}
use Rattle.std.specs.Fmt.{signed_decimal}
use Rattle.scaled.specs.ArithmeticRoman.{roman_of}
use Rattle.scaled.specs.ArithmeticDecimals.{points_text}
use Rattle.scaled.specs.declared.spacing.Glue.{Glue}
use Rattle.scaled.specs.declared.spacing.Order.{Order}
use Rattle.scaled.specs.declared.spacing.Order.TheVariants.{Normal, Fil, Fill, Filll}
use Rattle.std.specs.Ordering.{int_eq}
use Rattle.tokens.specs.Codes.{pretolerance_code, errorcontextlines_code, output_code, errhelp_code, count_code, dimen_code, skip_code, catcode_code, delcode_code, inputlineno_code, relax_code}
use Rattle.tokens.specs.Names.{Interned, interned}
use Rattle.tokens.specs.declared.kind.Kind.{Kind}
use Rattle.tokens.specs.declared.kind.Kind.TheVariants.{ExtraFi, ExtraElse, ExtraOr, BadRegister, BadCharCode, CantUse, FileNotFound, UseDoesntMatch}
use Rattle.tokens.specs.declared.kind.Kind.TheVariants as kind
use Rattle.tokens.specs.declared.cap.Cap.TheVariants.{Items}
use Rattle.tokens.specs.TokenText.{token_shown, meaning_text}
use Rattle.macro_args.specs.declared.verdict.Refusal.{Refusal}
use Rattle.macro_args.specs.declared.verdict.Refusal.TheVariants.{NoMatch, ExtraBrace, ParagraphEnded, TooLong}
use Rattle.tokens.specs.declared.stop.Stop.{Stop}
use Rattle.tokens.specs.declared.stop.Stop.TheVariants.{Trouble, Capacity, OutOfMemory}
use Rattle.tokens.specs.declared.token.Token.{Token}
use Rattle.tokens.specs.declared.token.Token.TheVariants as token
use Rattle.tokens.specs.declared.meaning.Meaning.{Meaning}
use Rattle.tokens.specs.declared.meaning.Meaning.TheVariants as meaning
use Rattle.tokens.specs.Meaning.{same_meaning}
use Rattle.tokens.specs.declared.meaning.RegKind.{RegKind}
use Rattle.tokens.specs.declared.meaning.RegKind.TheVariants.{Count, Dimen, Skip, Muskip, Toks}
use Rattle.save_groups.specs.declared.key.Key.{Key}
use Rattle.save_groups.specs.declared.key.Key.TheVariants as key
use Rattle.save_groups.specs.declared.key.Scope.TheVariants.{Local}
use Rattle.save_groups.specs.declared.value.Value.{Value}
use Rattle.save_groups.specs.declared.value.Value.TheVariants as value
use Rattle.save_groups.specs.Assignment.{assigned}
use Rattle.save_groups.specs.Environments.{Copies}
use Rattle.save_groups.specs.Keys.{register_limit}
use Rattle.scan_nums.specs.Starts.{is_from_to}
use Rattle.scan_nums.specs.Number.{first_number}
use Rattle.scan_nums.specs.declared.number.Number.{Number}
use Rattle.scan_nums.specs.declared.number.Number.TheVariants as number
use Rattle.conditionals.specs.declared.stack.Branch.{Branch}
use Rattle.conditionals.specs.declared.stack.Branch.TheVariants.{Deciding, BeforeElse, BehindElse}
use Rattle.conditionals.specs.declared.stack.Condition.{Condition}
use Rattle.conditionals.specs.Conditions.{condition_of, without_innermost, with_chosen, with_chosen_at}
use Rattle.pending.specs.Pending.{with_back, with_list, with_macro, line_number, ended, Opening, opening, opened_file}
use Rattle.world.specs.Name.{is_good}
use Rattle.std.specs.Str.{bytes_eq}
use Rattle.asking.specs.Did.{Did, ◌>>=◌}
use Rattle.asking.specs.Library.{fetching}
use Rattle.asking.specs.Meaning.{Meant, still, within}
use Rattle.asking.specs.Meaning as meant
use Rattle.asking.specs.Seen.{Outside}
use Rattle.std.specs.Prelude.{Result}
use Rattle.gullet.specs.declared.task.Act.{Act}
use Rattle.gullet.specs.declared.task.Act.TheVariants as act
use Rattle.gullet.specs.declared.facts.Facts.{Facts}
use Rattle.gullet.specs.declared.facts.Mode.{Mode}
use Rattle.gullet.specs.declared.facts.Mode.TheVariants as mode
use Rattle.gullet.specs.declared.task.ModeTest.{ModeTest}
use Rattle.gullet.specs.declared.task.ModeTest.TheVariants as asked
use Rattle.gullet.specs.declared.task.Numerals.{Numerals}
use Rattle.gullet.specs.declared.task.Numerals.TheVariants.{Decimal, Roman}
use Rattle.gullet.specs.declared.task.Simple.{Simple}
use Rattle.gullet.specs.declared.task.Simple.TheVariants as simple
use Rattle.gullet.specs.declared.task.BranchWord.{BranchWord}
use Rattle.gullet.specs.declared.task.BranchWord.TheVariants.{Fi, Else, Or}
use Rattle.gullet.specs.declared.task.Told.{Told}
use Rattle.gullet.specs.declared.task.Told.TheVariants as told
use Rattle.gullet.specs.FileName.{file_of, job_of, dvi_of}
use Rattle.gullet.specs.FontText.{font_shown}
use Rattle.gullet.specs.Meanings.{meaning_of, taken_meaning, expansion}
use Rattle.gullet.specs.Parameters.{number_at, end_line, new_line, escape, categories}
use Rattle.gullet.specs.RawToken.{one_token}
use Rattle.gullet.specs.Report.{file_begun}
use Rattle.gullet.specs.State.{State}
use Rattle.gullet.specs.Troubles.{pass, pass_undefined}

-- ---- tokens in front

-- a token is put back, and paid
abbrev pub with_token : Token → State → State
with_token t s = record s { pending = with_back t false true s.pending }

abbrev pub with_some : Option Token → State → State
with_some None s = s
with_some (Some t) s = with_token t s

-- a token is put back behind a new \relax (tex.web 379)
abbrev pub behind_relax : Token → State → State
behind_relax t s = record s { pending = with_back (token.Frozen 0) false false (with_back t false true s.pending) }

-- a character of a text that expansion makes: a space has category 10, any other one 12 (tex.web 464)
abbrev pub other : ℕ → Token
other byte = if byte == 32 then token.Char 10 32 else token.Char 12 byte

-- a text in front, as new tokens
abbrev pub with_bytes : List ℕ → State → State
with_bytes text s = record s { pending = with_list (map other text) s.pending }

-- a number in digits, with a sign where it is below 0 (tex.web 65), or in roman numerals (tex.web 69)
abbrev pub numeral : Numerals → ℤ → List ℕ
numeral Decimal n = signed_decimal n
numeral Roman n = roman_of n

-- a glue: its width, and what it stretches and shrinks, where that isn't 0 (tex.web 177 and 178)
abbrev pub unit_text : List ℕ → Order → List ℕ
unit_text unit Normal = unit
unit_text unit Fil = codes "fil"
unit_text unit Fill = codes "fill"
unit_text unit Filll = codes "filll"

abbrev pub flexible_text : List ℕ → List ℕ → ℤ → Order → List ℕ
flexible_text word unit amount order = if int_eq amount (pos 0) then [] else word ++ points_text amount ++ unit_text unit order

abbrev pub glue_text : List ℕ → Glue → List ℕ
glue_text unit g =
    points_text g.width ++ unit ++ flexible_text (codes " plus ") unit g.stretch g.stretch_order
    ++ flexible_text (codes " minus ") unit g.shrink g.shrink_order

-- what has a unit is never written in numerals
abbrev pub digits : Numerals → Number → List ℕ
digits numerals (number.Int n) = numeral numerals n
digits numerals (number.Dimen n) = points_text n ++ codes "pt"
digits numerals (number.Glue g) = glue_text (codes "pt") g
digits numerals (number.MuGlue g) = glue_text (codes "mu") g

abbrev pub with_digits : Numerals → Number → State → State
with_digits numerals n s = with_bytes (digits numerals n) s

-- a macro's text with its arguments
abbrev pub with_text : List Token → List (List Token) → State → State
with_text body arguments s = record s { pending = with_macro body arguments s.pending }

-- tokens that are no use of a macro end the run (tex.web 395, 396 and 398)
abbrev pub refusal_of : List ℕ → Refusal → Stop
refusal_of name NoMatch = Trouble (UseDoesntMatch name)
refusal_of name ExtraBrace = Trouble (kind.ExtraBrace name)
refusal_of name ParagraphEnded = Trouble (kind.ParagraphEnded name)
refusal_of name TooLong = Capacity Items

unfoldable pub refused : Token → Refusal → State → Did State Told
refused name refusal s = Err (refusal_of (token_shown s.names (escape s.copies) name) refusal, s)

-- ---- quantities

-- the kind of a register by the code of \count and its mates
abbrev pub register_kind : ℕ → RegKind
register_kind code =
    if code == count_code then Count
    else if code == dimen_code then Dimen
    else if code == skip_code then Skip
    else Muskip

abbrev pub glue_of : Value → Glue → Glue
glue_of (value.Number n) zero = zero
glue_of (value.Glue g) zero = g
glue_of (value.Tokens list) zero = zero
glue_of (value.Meaning m) zero = zero
glue_of (value.Boxed b) zero = zero
glue_of (value.Table ns) zero = zero

-- an entry as a number with its kind
abbrev pub as_number : RegKind → Value → Number
as_number Count (value.Number n) = number.Int n
as_number Count (value.Glue g) = number.Int (pos 0)
as_number Count (value.Tokens list) = number.Int (pos 0)
as_number Count (value.Meaning m) = number.Int (pos 0)
as_number Count (value.Boxed b) = number.Int (pos 0)
as_number Count (value.Table ns) = number.Int (pos 0)
as_number Dimen (value.Number n) = number.Dimen n
as_number Dimen (value.Glue g) = number.Int (pos 0)
as_number Dimen (value.Tokens list) = number.Int (pos 0)
as_number Dimen (value.Meaning m) = number.Int (pos 0)
as_number Dimen (value.Boxed b) = number.Int (pos 0)
as_number Dimen (value.Table ns) = number.Int (pos 0)
as_number Skip (value.Number n) = number.Int (pos 0)
as_number Skip (value.Glue g) = number.Glue g
as_number Skip (value.Tokens list) = number.Int (pos 0)
as_number Skip (value.Meaning m) = number.Int (pos 0)
as_number Skip (value.Boxed b) = number.Int (pos 0)
as_number Skip (value.Table ns) = number.Int (pos 0)
as_number Muskip (value.Number n) = number.Int (pos 0)
as_number Muskip (value.Glue g) = number.MuGlue g
as_number Muskip (value.Tokens list) = number.Int (pos 0)
as_number Muskip (value.Meaning m) = number.Int (pos 0)
as_number Muskip (value.Boxed b) = number.Int (pos 0)
as_number Muskip (value.Table ns) = number.Int (pos 0)
as_number RegKind.Box v = number.Int (pos 0)
as_number Toks v = number.Int (pos 0)

abbrev pub register_value : Copies → ℕ → ℕ → Number
register_value c code place = as_number (register_kind code) (c.last (key.Register (register_kind code) place)).value

-- whether the mode has a register of this number
abbrev pub is_register : Bool → ℤ → Bool
is_register extended (pos n) = nat_le n (register_limit extended)
is_register extended (negsuc n) = false

-- a register by its number; another number is a trouble, and 0 stands for it
abbrev pub place_of : ℤ → ℕ
place_of (pos n) = n
place_of (negsuc n) = 0

abbrev pub register_at : ℕ → ℕ → State → Did State Told
register_at code place s = Ok (told.Number (register_value s.copies code place), s)

unfoldable pub pass_register : ℤ → State → Did State (Unit {0})
pass_register n s = pass (BadRegister (signed_decimal n)) s

unfoldable pub look_register : ℕ → ℤ → State → Did State Told
look_register code n s =
    if is_register s.copies.extended n then register_at code (place_of n) s
    else pass_register n s >>= (λ r. register_at code 0 r.1)

-- a register that the mode has, by its number
abbrev pub HasRegister : Bool → ℤ → Option ℕ → Type 0
HasRegister extended n None = is_register extended n ≡ false
HasRegister extended n (Some place) = (is_register extended n ≡ true) × (place ≡ place_of n) × (place ≤ register_limit extended)

-- an integer parameter, by the code of its name; no other code is one
abbrev pub parameter_of : Copies → ℕ → ℤ
parameter_of c code =
    if is_from_to pretolerance_code errorcontextlines_code code then number_at c (key.Parameter (code - pretolerance_code)) else pos 0

-- the number of the line that is read, up to the greatest number (tex.web 424)
abbrev pub line_shown : State → ℤ
line_shown s = pos (min (line_number s.pending) 2147483647)

abbrev pub plain_value : ℕ → State → ℤ
plain_value code s = if code == inputlineno_code then line_shown s else parameter_of s.copies code

unfoldable pub look_parameter : ℕ → State → Did State Told
look_parameter code s = Ok (told.Number (number.Int (plain_value code s)), s)

-- a code of a character, by the code of \catcode or of one of its mates. Another number is that of no character (tex.web
-- 414 and 434)
abbrev pub is_character_code : ℕ → Bool
is_character_code code = is_from_to catcode_code delcode_code code

abbrev pub is_byte : ℤ → Bool
is_byte (pos n) = nat_lt n 256
is_byte (negsuc n) = false

abbrev pub code_key : ℕ → ℤ → Key
code_key code n = key.Code (code - catcode_code) (place_of n)

unfoldable pub look_code : ℕ → ℤ → State → Did State Told
look_code code n s =
    if is_byte n then Ok (told.Number (number.Int (number_at s.copies (code_key code n))), s)
    else Err (Trouble (BadCharCode (signed_decimal n)), s)

unfoldable pub look_numbered : ℕ → ℤ → State → Did State Told
look_numbered code n s = if is_character_code code then look_code code n s else look_register code n s

-- the byte of a number, if it is that of a character
abbrev pub HasByte : ℤ → Option ℕ → Type 0
HasByte n None = is_byte n ≡ false
HasByte n (Some byte) = (is_byte n ≡ true) × (byte ≡ place_of n) × (byte ≤ 255)

-- ---- lists

-- the list that a value is; no other value is one
abbrev pub list_of : Value → List Token
list_of (value.Number n) = []
list_of (value.Glue g) = []
list_of (value.Tokens list) = list
list_of (value.Meaning m) = []
list_of (value.Boxed b) = []
list_of (value.Table ns) = []

abbrev pub with_held : Key → State → State
with_held k s = record s { pending = with_list (list_of (s.copies.last k).value) s.pending }

-- the list of a token register. Another number than that of a register is a trouble, and 0 stands for it
unfoldable pub put_register : ℤ → State → Did State Told
put_register n s =
    if is_register s.copies.extended n then Ok (told.Done, with_held (key.Register Toks (place_of n)) s)
    else pass_register n s >>= (λ r. Ok (told.Done, with_held (key.Register Toks 0) r.1))

-- the list of a token parameter, by the code of its name; no other code is one
abbrev pub with_parameter_list : ℕ → State → State
with_parameter_list code s = if is_from_to output_code errhelp_code code then with_held (key.Parameter (code - pretolerance_code)) s else s

-- the same lists told, and not put in front (tex.web 465)
abbrev pub list_at : Copies → Key → List Token
list_at c k = list_of (c.last k).value

unfoldable pub tell_register : ℤ → State → Did State Told
tell_register n s =
    if is_register s.copies.extended n then Ok (told.Tokens (list_at s.copies (key.Register Toks (place_of n))), s)
    else pass_register n s >>= (λ r. Ok (told.Tokens (list_at r.1.copies (key.Register Toks 0)), r.1))

abbrev pub parameter_list : Copies → ℕ → List Token
parameter_list c code = if is_from_to output_code errhelp_code code then list_at c (key.Parameter (code - pretolerance_code)) else []

unfoldable pub tell_parameter : ℕ → State → Did State Told
tell_parameter code s = Ok (told.Tokens (parameter_list s.copies code), s)

-- a token that may not stand behind \the (tex.web 428)
unfoldable pub cant_use : Token → State → Did State Told
cant_use t s = Err (Trouble (CantUse (token_shown s.names (escape s.copies) t)), s)

abbrev pub look_by : ℕ → Option ℕ → State → Did State Told
look_by code None s = look_parameter code s
look_by code (Some place) s = look_register code (pos place) s

-- ---- conditions

-- a condition begins in this line (tex.web 495). How many are open is told
abbrev pub count_open : State → ℕ
count_open s = min (length s.conditions) 4294967295

abbrev pub with_condition : ℤ → State → State
with_condition kind s = record s { conditions = condition_of kind (line_number s.pending) ∷ s.conditions }

unfoldable pub open_condition : ℤ → State → Did State Told
open_condition kind s = (let t : State = with_condition kind s in Ok (told.Level (count_open t), t))

-- its branch in front of \else is read (tex.web 508)
abbrev pub with_first_branch : ℕ → State → State
with_first_branch level s = record s { conditions = with_chosen_at level false s.conditions }

-- the innermost condition ends (tex.web 496)
abbrev pub without_condition : State → State
without_condition s = record s { conditions = without_innermost s.conditions }

abbrev pub behind_else : State → State
behind_else s = record s { conditions = with_chosen true s.conditions }

-- a text was passed over to this word, \fi being 0 and \or 2. Where a condition is open inside the one that was decided,
-- its \fi ends it, and there is more to pass over; else the word is that of the condition itself (tex.web 500 and 509)
abbrev pub leave_own : ℕ → State → Did State Told
leave_own word s =
    if word == 0 then Ok (told.Done, without_condition s)
    else if word == 2 then Ok (told.Word 2, s)
    else Ok (told.Done, behind_else s)

unfoldable pub leave : ℕ → ℕ → State → Did State Told
leave word level s =
    if nat_lt level (count_open s)
    then (if word == 0 then Ok (told.GoOn, without_condition s) else Ok (told.GoOn, s))
    else leave_own word s

abbrev pub done_by : Unit {0} × State → Did State Told
done_by r = Ok (told.Done, r.1)

-- a word without its condition is a trouble (tex.web 510)
abbrev pub extra : BranchWord → Kind
extra Fi = ExtraFi
extra Else = ExtraElse
extra Or = ExtraOr

abbrev pub passed_extra : BranchWord → State → Did State Told
passed_extra word s = pass (extra word) s >>= done_by

abbrev pub ends_condition : BranchWord → State → Did State Told
ends_condition Fi s = Ok (told.Done, without_condition s)
ends_condition Else s = passed_extra Else s
ends_condition Or s = passed_extra Or s

-- \else, \or and \fi end the branch that is read; \or only that of \ifcase, whose kind is 17 or -17
abbrev pub is_case : ℤ → Bool
is_case (pos n) = n == 17
is_case (negsuc n) = n == 16

abbrev pub ends_branch : BranchWord → ℤ → State → Did State Told
ends_branch Fi kind s = Ok (told.Done, without_condition s)
ends_branch Else kind s = Ok (told.GoOn, s)
ends_branch Or kind s = if is_case kind then Ok (told.GoOn, s) else passed_extra Or s

abbrev pub meet_by : Token → BranchWord → Branch → ℤ → State → Did State Told
meet_by t word Deciding kind s = Ok (told.Done, behind_relax t s)
meet_by t word BeforeElse kind s = ends_branch word kind s
meet_by t word BehindElse kind s = ends_condition word s

abbrev pub meet_in : Token → BranchWord → List Condition → State → Did State Told
meet_in t word [] s = passed_extra word s
meet_in t word (condition ∷ outer) s = meet_by t word condition.branch condition.kind s

-- \else, \or or \fi is met (The TeXbook, page 210; tex.web 510). While the innermost condition is still being decided,
-- \relax is inserted in front of it
unfoldable pub meet : Token → BranchWord → State → Did State Told
meet t word s = meet_in t word s.conditions s

-- ---- names

abbrev pub is_undefined : Value → Bool
is_undefined (value.Number n) = false
is_undefined (value.Glue g) = false
is_undefined (value.Tokens list) = false
is_undefined (value.Meaning meaning.Undefined) = true
is_undefined (value.Meaning (meaning.Primitive code)) = false
is_undefined (value.Meaning (meaning.Macro m)) = false
is_undefined (value.Meaning (meaning.Char cat byte)) = false
is_undefined (value.Meaning (meaning.CharDef byte)) = false
is_undefined (value.Meaning (meaning.MathCharDef n)) = false
is_undefined (value.Meaning (meaning.Register kind n)) = false
is_undefined (value.Meaning (meaning.Font font)) = false
is_undefined (value.Boxed b) = false
is_undefined (value.Table ns) = false

-- a name without meaning becomes \relax in this group (tex.web 372)
abbrev pub with_meaning : Key → Copies → Copies
with_meaning k c =
    if is_undefined (c.last k).value then assigned k (value.Meaning (meaning.Primitive relax_code)) Local c else c

abbrev pub with_name : Interned → State → State
with_name e s = record s {
  names = e.names;
  copies = with_meaning (key.Name (record { 0 = e.id })) s.copies;
  pending = with_back (token.Name (record { 0 = e.id })) false false s.pending;
}

unfoldable pub make_name : List ℕ → State → Did State Told
make_name text s = Ok (told.Done, with_name (interned s.names text) s)

-- ---- files

-- the first file that is asked for names the job (tex.web 537)
abbrev pub with_job : List ℕ → State → State
with_job file s = if length s.facts.job == 0 then record s { facts = record s.facts { job = job_of file } } else s

-- whether a file can be read: its name is good, and it isn't the DVI file that is being written
abbrev pub is_no_output : List ℕ → State → Bool
is_no_output file s = not (s.facts.dvi_open && bytes_eq file (dvi_of s.facts.job))

abbrev pub can_be_read : List ℕ → State → Bool
can_be_read file s = is_no_output file s && is_good file

abbrev pub not_found : List ℕ → State → Did State Told
not_found file s = Err (Trouble (FileNotFound file), s)

-- a file's first line is taken at once
abbrev pub with_opened : State → Result Opening Stop → Did State Told
with_opened s (Ok o) = Ok (told.Done, record s { pending = o.pending; budget = o.budget })
with_opened s (Err stop) = Err (stop, s)

unfoldable pub begun : List ℕ → State → Did State Told
begun bytes s = with_opened s (opened_file bytes (end_line s.copies) (opening s.pending s.budget))

-- a file that is there: it is shown that it is opened
unfoldable pub found : List ℕ → List ℕ → State → Did State Told
found file bytes s = begun bytes (record s { out = file_begun file (new_line s.copies) s.out })

abbrev pub by_found : List ℕ → Option (List ℕ) × State → Did State Told
by_found file (None, s) = not_found file s
by_found file (Some bytes, s) = found file bytes s

-- the name of the file that is asked for is kept, for whoever tells that it couldn't be read
abbrev pub with_asked : List ℕ → State → State
with_asked file s = record s { facts = record s.facts { asked = file } }

abbrev pub ask_file : Outside → List ℕ → State → Meant State Told
ask_file o file s = meant.◌>>=◌ (within (λ out. record s { out = out }) (fetching o file s.out)) (λ r. still (by_found file r))

unfoldable pub open_file : Outside → List ℕ → State → Meant State Told
open_file o file s =
    if can_be_read file s
    then ask_file o file (with_asked file s)
    else still (not_found file s)

-- the file that a name asks for is opened (The TeXbook, page 214; tex.web 537 and 538)
unfoldable pub read_file : Outside → List ℕ → State → Meant State Told
read_file o name s = open_file o (file_of name) (with_job (file_of name) s)

-- nothing is told but that it was done
abbrev pub told_done : State → Did State Told
told_done s = Ok (told.Done, s)

-- ---- what is known of the run

-- the mode that \ifvmode and its mates ask for (tex.web 501). While a \write is carried out no mode is in force. There is
-- no math
abbrev pub is_vertical : Mode → Bool
is_vertical mode.Vertical = true
is_vertical mode.InternalVertical = true
is_vertical mode.Horizontal = false
is_vertical mode.RestrictedHorizontal = false

abbrev pub is_inner : Mode → Bool
is_inner mode.Vertical = false
is_inner mode.InternalVertical = true
is_inner mode.Horizontal = false
is_inner mode.RestrictedHorizontal = true

abbrev pub is_in_mode : ModeTest → Mode → Bool
is_in_mode asked.Vertical m = is_vertical m
is_in_mode asked.Horizontal m = not (is_vertical m)
is_in_mode asked.Math m = false
is_in_mode asked.Inner m = is_inner m

abbrev pub mode_holds : ModeTest → Facts → Bool
mode_holds asks f = if f.in_write then false else is_in_mode asks f.mode

-- the job has a name from here on: `texput` where no file gave it one (tex.web 534)
abbrev pub with_any_job : State → State
with_any_job s = if length s.facts.job == 0 then record s { facts = record s.facts { job = codes "texput" } } else s

-- the job's name (tex.web 472)
abbrev pub with_job_name : State → State
with_job_name s = with_bytes s.facts.job s

-- the innermost file or pseudo-file ends behind its line (The TeXbook, page 214; tex.web 378)
abbrev pub with_input_ended : State → State
with_input_ended s = record s { pending = ended s.pending }

-- ---- all of them

-- a call that tells nothing but that it was done
abbrev pub IsDone : {E : Type 0} → Result (Unit {0}) E → Result Told Stop → Type 0
IsDone (Ok done) result = result ≡ Ok told.Done
IsDone (Err e) result = result ≡ Err OutOfMemory

-- a call that tells a list, if there was memory for it
abbrev pub TellsList : {E : Type 0} → Result (List Token) E → Result Told Stop → Type 0
TellsList (Ok list) result = result ≡ Ok (told.Tokens list)
TellsList (Err e) result = result ≡ Err OutOfMemory

abbrev pub passing : Kind → Option Token → State → Did State Told
passing kind back s = pass kind s >>= (λ r. told_done (with_some back r.1))

-- ---- tokens that are taken as they stand

-- \noexpand: the next token is put back, and isn't to be expanded if it is a name or an active character (The TeXbook, page
-- 214; tex.web 369)
abbrev pub is_named : Token → Bool
is_named (token.Char cat byte) = false
is_named (token.Active byte) = true
is_named (token.Name id) = true
is_named (token.Arg n) = false
is_named (token.Frozen n) = false

abbrev pub mark : (Token × Bool) × State → Did State Told
mark (r, s) = Ok (told.Done, record s { pending = with_back r.0 (is_named r.0) true s.pending })

unfoldable pub no_expand : State → Did State Told
no_expand s = one_token s >>= mark

-- \string: a name behind the escape character, and a character as it is (The TeXbook, page 213; tex.web 472)
abbrev pub string_text : List (List ℕ) → ℤ → Token → List ℕ
string_text names escape (token.Char cat byte) = byte ∷ []
string_text names escape (token.Active byte) = byte ∷ []
string_text names escape (token.Name id) = token_shown names escape (token.Name id)
string_text names escape (token.Arg n) = token_shown names escape (token.Arg n)
string_text names escape (token.Frozen n) = token_shown names escape (token.Frozen n)

abbrev pub with_string : (Token × Bool) × State → Did State Told
with_string (r, s) = Ok (told.Done, with_bytes (string_text s.names (escape s.copies) r.0) s)

unfoldable pub show_token : State → Did State Told
show_token s = one_token s >>= with_string

-- \meaning: what the token means (The TeXbook, page 213; tex.web 296 and 472)
abbrev pub text_of_meaning : State → Meaning → List ℕ
text_of_meaning s m = meaning_text s.names (categories s.copies) (escape s.copies) (font_shown m s.facts) m

abbrev pub with_meaning_text : (Token × Bool) × State → Did State Told
with_meaning_text (r, s) = Ok (told.Done, with_bytes (text_of_meaning s (taken_meaning s.copies r.0 r.1)) s)

unfoldable pub show_meaning : State → Did State Told
show_meaning s = one_token s >>= with_meaning_text

-- whether a token that was taken isn't to be expanded, though it would be
abbrev pub is_marked : Copies → Token → Bool → Bool
is_marked c t noexpand = noexpand && is_some (expansion t (meaning_of c t))

-- \ifx: two tokens mean the same where neither is to be expanded, or both are what they are (The TeXbook, page 210;
-- tex.web 507)
abbrev pub same_flag : Bool → Bool → Bool
same_flag true b = b
same_flag false b = not b

abbrev pub mean_same : Copies → Token × Bool → Token × Bool → Bool
mean_same c a b =
    same_flag (is_marked c a.0 a.1) (is_marked c b.0 b.1) && same_meaning (taken_meaning c a.0 a.1) (taken_meaning c b.0 b.1)

abbrev pub with_second : Token × Bool → (Token × Bool) × State → Did State Told
with_second a (b, s) = Ok (told.Holds (mean_same s.copies a b), s)

abbrev pub with_first : (Token × Bool) × State → Did State Told
with_first (a, s) = one_token s >>= with_second a

unfoldable pub compare_meanings : State → Did State Told
compare_meanings s = one_token s >>= with_first

-- the names of which one thing is done
unfoldable pub simply : Simple → State → Did State Told
simply simple.EndInput s = told_done (with_input_ended s)
simply simple.NoExpand s = no_expand s
simply simple.TokenText s = show_token s
simply simple.MeaningText s = show_meaning s
simply simple.JobName s = told_done (with_job_name (with_any_job s))

-- what is done, and what it tells
unfoldable pub perform : Outside → Act → State → Meant State Told
perform o (act.Return t) s = still (told_done (with_token t s))
perform o (act.InsertRelax t) s = still (told_done (behind_relax t s))
perform o (act.Pass kind back) s = still (passing kind back s)
perform o (act.PassUndefined t) s = still (pass_undefined t s >>= done_by)
perform o (act.Look q) s = still (look_by q.code q.index s)
perform o (act.LookNumbered code n) s = still (look_numbered code (first_number n) s)
perform o (act.PutRegister n) s = still (put_register (first_number n) s)
perform o (act.PutParameter code) s = still (Ok (told.Done, with_parameter_list code s))
perform o (act.TellRegister n) s = still (tell_register (first_number n) s)
perform o (act.TellParameter code) s = still (tell_parameter code s)
perform o (act.CantUse t) s = still (cant_use t s)
perform o (act.Digits numerals n) s = still (told_done (with_digits numerals n s))
perform o (act.Text body arguments) s = still (told_done (with_text body arguments s))
perform o (act.Refuse name refusal) s = still (refused name refusal s)
perform o act.Full s = still (Err (Capacity Items, s))
perform o (act.Open kind) s = still (open_condition kind s)
perform o (act.Choose level) s = still (told_done (with_first_branch level s))
perform o (act.Leave word level) s = still (leave word level s)
perform o act.Close s = still (told_done (without_condition s))
perform o (act.Meet t word) s = still (meet t word s)
perform o (act.MakeName text) s = still (make_name text s)
perform o (act.ReadFile name) s = read_file o name s
perform o (act.AskMode asks) s = still (Ok (told.Holds (mode_holds asks s.facts), s))
perform o (act.AskMarked t) s = still (Ok (told.Holds (is_marked s.copies t true), s))
perform o act.AskSame s = still (compare_meanings s)
perform o (act.Simple thing) s = still (simply thing s)
