-- How far a phrase was read, as the code keeps it, and for which lists of what was taken that stands: whatever is taken
-- next, the phrase wants then what is said of the rest.
use Rattle.std.specs.Prelude.{◌≡◌, ◌==◌, Bool, true, false, if◌then◌else◌, List, [], ◌∷◌, ◌++◌, length, map, Some, None}
use Rattle.tokens.specs.declared.token.Token.{Token}
use Rattle.tokens.specs.declared.meaning.Meaning.{Meaning}
use Rattle.scan_nums.specs.Number.{first_number}
use Rattle.scan_nums.specs.Starts.{is_space}
use Rattle.scan_nums.specs.Awaited.{NextToken, Answer, Resumption}
use Rattle.scan_nums.specs.IntScan.{awaits, Stands as NumberStands}
use Rattle.conditionals.specs.Skipping.{StandsFor}
use Rattle.macro_args.specs.Scanning.{StandsFor as ArgumentsStand}
use Rattle.gullet.specs.declared.calling.Parts.{Parts}
use Rattle.gullet.specs.declared.context.Context.{Context}
use Rattle.gullet.specs.declared.in_text.InText.{InText}
use Rattle.gullet.specs.declared.in_text.InText.TheVariants as in_text
use Rattle.gullet.specs.declared.in_text.Purpose.TheVariants.{Alone}
use Rattle.gullet.specs.declared.progress.Progress.{Progress}
use Rattle.gullet.specs.declared.progress.Progress.TheVariants as progress
use Rattle.gullet.specs.declared.task.Task.{Task}
use Rattle.gullet.specs.declared.task.Task.TheVariants as task
use Rattle.gullet.specs.declared.task.Told.{Told}
use Rattle.gullet.specs.declared.task.Told.TheVariants as told
use Rattle.gullet.specs.declared.task.Act.TheVariants as act
use Rattle.gullet.specs.declared.task.Want.{Want}
use Rattle.gullet.specs.declared.task.Want.TheVariants.{Raw, Expanded, Character, Act, Inner, Gives, Wrong}
use Rattle.gullet.specs.Wants.{Taken, wants, done, only, told_of, token_of, meaning_of, number_told, level_told, word_told, goes_on, holds_told, behind_first, behind_second, second_want, the_value, register_list_want, digits_want, register_numbered, test_want, is_odd, first_by, second_by, second_want_of, glyph_if, alike, case_of, cases_before, cases_left_want, cases_by, cases_want, relation_want, false_want, to_fi_want, name_from, file_want, file_from, named_want, left_want, by_relation, relation_of, decided, holds, name_by, byte_of, file_by, letter_of, scanned, matching, tokens_in, was_done, Ahead, text_want, text_opened, is_filler, gathered, gathered_by, expansion_in, longer, tokens_told, parameter_count, signed_by, body_opened, front, front_by, parameter_by}

-- the same of a text, by where in it that is
unfoldable pub text_rest : InText → Token → Meaning → Told → List Taken → Want
text_rest (in_text.Start expanded) t m v xs =
    if is_filler m then text_want (gathered Alone expanded Ahead 0 []) xs else text_opened (gathered Alone expanded Ahead 0 [] xs) m
text_rest (in_text.Front front_text) t m v xs =
    front_by (λ more. front front_text.expanded false front_text.count more xs) (body_opened front_text.expanded front_text.count None xs front_text.tokens.items)
    (front front_text.expanded true front_text.count front_text.tokens.items xs) front_text.tokens.items t m xs
text_rest (in_text.FrontSign front_text) t m v xs =
    parameter_by (body_opened front_text.expanded front_text.count (Some t) xs) (λ number more. front front_text.expanded false number more xs)
    front_text.count front_text.tokens.items t m xs
text_rest (in_text.Inside inside) t m v xs =
    gathered_by (λ place depth more. gathered inside.purpose inside.expanded place depth more xs) inside.purpose inside.tokens.items inside.depth t m
    (expansion_in inside.expanded t m) xs
text_rest (in_text.Sign inside) t m v xs =
    signed_by (λ more. gathered inside.purpose inside.expanded Ahead inside.depth more xs) (parameter_count inside.purpose) inside.tokens.items t m xs
text_rest (in_text.Inserting inside) t m v xs =
    longer (λ more. gathered inside.purpose inside.expanded Ahead inside.depth more xs) inside.tokens.items (tokens_told v) xs

-- what the phrase wants where a token with this meaning is taken next, or this is told, and then these are taken
abbrev pub rest : Progress → Token → Meaning → Told → List Taken → Want
rest (progress.Number scan) t m v xs = Raw
rest (progress.Passing sought scan count) t m v xs = Raw
rest (progress.Call call) t m v xs = Raw
rest (progress.Finishing back) t m v xs = Gives told.Done back
rest progress.Telling t m v xs = Gives v None
rest progress.ExpandFirst t m v xs = behind_first t xs
rest (progress.ExpandSecond first) t m v xs = behind_second first (second_want t m) xs
rest (progress.Value straight) t m v xs = the_value straight t m xs
rest (progress.ListNumber straight) t m v xs = register_list_want straight (number_told v) xs
rest (progress.Digits numerals) t m v xs = digits_want numerals v xs
rest (progress.RegisterNumber code) t m v xs = register_numbered code v xs
rest (progress.Opened asks) t m v xs = test_want asks (level_told v) xs
rest (progress.OddNumber level) t m v xs = decided (is_odd (first_number (number_told v))) level xs
rest (progress.Asked level) t m v xs = decided (holds_told v) level xs
rest (progress.FirstGlyph p level) t m v xs = first_by p level t m xs
rest (progress.FirstActive p level active) t m v xs = second_want_of p level (glyph_if (holds_told v) active) xs
rest (progress.SecondGlyph p level first) t m v xs = second_by p level first t m xs
rest (progress.SecondActive p level first active) t m v xs = decided (alike p first (glyph_if (holds_told v) active)) level xs
rest (progress.CaseNumber level) t m v xs = case_of level (cases_before (first_number (number_told v))) xs
rest (progress.Cases level left) t m v xs = cases_left_want v level left xs
rest (progress.CasesLeft level left) t m v xs = cases_by (λ fewer. cases_want level fewer xs) (cases_want level left xs) level left v xs
rest (progress.FirstNumber level) t m v xs = relation_want level (number_told v) xs
rest (progress.Relation level first) t m v xs =
    if is_space m then relation_want level first xs else by_relation level first (relation_of t) xs
rest (progress.SecondNumber level relation first) t m v xs =
    decided (holds relation (first_number first) (first_number (number_told v))) level xs
rest (progress.PassedOver level) t m v xs = left_want v level xs
rest (progress.Left level) t m v xs = if goes_on v then false_want level xs else done
rest progress.Met t m v xs = if goes_on v then to_fi_want xs else done
rest progress.ToFi t m v xs = if word_told v == 0 then only (Act act.Close) xs else to_fi_want xs
rest (progress.Name text) t m v xs = name_by (λ longer. name_from longer xs) text.items (byte_of t) m xs
rest progress.FileStart t m v xs =
    if is_space m then file_want xs else file_by (λ longer. file_from longer xs) [] (letter_of m) t
rest (progress.File text) t m v xs = file_by (λ longer. file_from longer xs) text.items (letter_of m) t
rest progress.Named t m v xs = named_want v xs
rest (progress.Text text) t m v xs = text_rest text t m v xs

abbrev pub rest_behind : Progress → Taken → List Taken → Want
rest_behind p x xs = rest p (token_of x) (meaning_of x) (told_of x) xs

-- whatever is taken next, the phrase wants then what is said of the rest
abbrev pub Follows : Progress → Context → Task → List Taken → Type 0
Follows p c kind taken = (x : Taken) (xs : List Taken) → wants c kind (taken ++ x ∷ xs) ≡ rest_behind p x xs

-- a phrase was read so far when just this was taken
abbrev pub Stands : Progress → Context → Task → List Taken → Type 0
Stands (progress.Number scan) c kind taken = (kind ≡ task.WholeNumber) × NumberStands scan (map scanned taken)
Stands (progress.Passing sought scan count) c kind taken =
    (kind ≡ task.PassOver sought) × StandsFor sought (map meaning_of taken) scan × (count ≡ length taken)
Stands (progress.Call call) c kind taken =
    (kind ≡ task.Call call.name call.called) × ArgumentsStand (matching call.called) call.called.params (tokens_in taken) call.scan × (was_done taken ≡ false)
Stands (progress.Finishing back) c kind taken = Follows (progress.Finishing back) c kind taken
Stands progress.Telling c kind taken = Follows progress.Telling c kind taken
Stands progress.ExpandFirst c kind taken = Follows progress.ExpandFirst c kind taken
Stands (progress.ExpandSecond first) c kind taken = Follows (progress.ExpandSecond first) c kind taken
Stands (progress.Value straight) c kind taken = Follows (progress.Value straight) c kind taken
Stands (progress.ListNumber straight) c kind taken = Follows (progress.ListNumber straight) c kind taken
Stands (progress.Digits numerals) c kind taken = Follows (progress.Digits numerals) c kind taken
Stands (progress.RegisterNumber code) c kind taken = Follows (progress.RegisterNumber code) c kind taken
Stands (progress.Opened asks) c kind taken = Follows (progress.Opened asks) c kind taken
Stands (progress.OddNumber level) c kind taken = Follows (progress.OddNumber level) c kind taken
Stands (progress.Asked level) c kind taken = Follows (progress.Asked level) c kind taken
Stands (progress.FirstGlyph p level) c kind taken = Follows (progress.FirstGlyph p level) c kind taken
Stands (progress.FirstActive p level active) c kind taken = Follows (progress.FirstActive p level active) c kind taken
Stands (progress.SecondGlyph p level first) c kind taken = Follows (progress.SecondGlyph p level first) c kind taken
Stands (progress.SecondActive p level first active) c kind taken = Follows (progress.SecondActive p level first active) c kind taken
Stands (progress.CaseNumber level) c kind taken = Follows (progress.CaseNumber level) c kind taken
Stands (progress.Cases level left) c kind taken = Follows (progress.Cases level left) c kind taken
Stands (progress.CasesLeft level left) c kind taken = Follows (progress.CasesLeft level left) c kind taken
Stands (progress.FirstNumber level) c kind taken = Follows (progress.FirstNumber level) c kind taken
Stands (progress.Relation level first) c kind taken = Follows (progress.Relation level first) c kind taken
Stands (progress.SecondNumber level relation first) c kind taken = Follows (progress.SecondNumber level relation first) c kind taken
Stands (progress.PassedOver level) c kind taken = Follows (progress.PassedOver level) c kind taken
Stands (progress.Left level) c kind taken = Follows (progress.Left level) c kind taken
Stands progress.Met c kind taken = Follows progress.Met c kind taken
Stands progress.ToFi c kind taken = Follows progress.ToFi c kind taken
Stands (progress.Name text) c kind taken = Follows (progress.Name text) c kind taken
Stands progress.FileStart c kind taken = Follows progress.FileStart c kind taken
Stands (progress.File text) c kind taken = Follows (progress.File text) c kind taken
Stands progress.Named c kind taken = Follows progress.Named c kind taken
Stands (progress.Text text) c kind taken = Follows (progress.Text text) c kind taken

-- a fact that holds unless the phrase is at its end
abbrev pub WhileOpen : Want → Type 0 → Type 0
WhileOpen Raw P = P
WhileOpen Expanded P = P
WhileOpen Character P = P
WhileOpen (Act act) P = P
WhileOpen (Inner inner) P = P
WhileOpen (Gives told back) P = Unit {0}
WhileOpen (Wrong kind) P = Unit {0}

-- ---- what a step waits for

-- a number waits for what its grammar asks for; a text that is passed over and a macro's call take tokens alone; any other
-- step takes what comes
abbrev pub FitsToken : Progress → Type 0
FitsToken (progress.Number scan) = awaits scan ≡ NextToken
FitsToken (progress.Passing sought scan count) = Unit {0}
FitsToken (progress.Call call) = Unit {0}
FitsToken (progress.Finishing back) = Unit {0}
FitsToken progress.Telling = Unit {0}
FitsToken progress.ExpandFirst = Unit {0}
FitsToken (progress.ExpandSecond first) = Unit {0}
FitsToken (progress.Value straight) = Unit {0}
FitsToken (progress.ListNumber straight) = Unit {0}
FitsToken (progress.Digits numerals) = Unit {0}
FitsToken (progress.RegisterNumber code) = Unit {0}
FitsToken (progress.Opened asks) = Unit {0}
FitsToken (progress.OddNumber level) = Unit {0}
FitsToken (progress.Asked level) = Unit {0}
FitsToken (progress.FirstGlyph p level) = Unit {0}
FitsToken (progress.FirstActive p level active) = Unit {0}
FitsToken (progress.SecondGlyph p level first) = Unit {0}
FitsToken (progress.SecondActive p level first active) = Unit {0}
FitsToken (progress.CaseNumber level) = Unit {0}
FitsToken (progress.Cases level left) = Unit {0}
FitsToken (progress.CasesLeft level left) = Unit {0}
FitsToken (progress.FirstNumber level) = Unit {0}
FitsToken (progress.Relation level first) = Unit {0}
FitsToken (progress.SecondNumber level relation first) = Unit {0}
FitsToken (progress.PassedOver level) = Unit {0}
FitsToken (progress.Left level) = Unit {0}
FitsToken progress.Met = Unit {0}
FitsToken progress.ToFi = Unit {0}
FitsToken (progress.Name text) = Unit {0}
FitsToken progress.FileStart = Unit {0}
FitsToken (progress.File text) = Unit {0}
FitsToken progress.Named = Unit {0}
FitsToken (progress.Text text) = Unit {0}

abbrev pub FitsGot : Progress → Type 0
FitsGot (progress.Number scan) = awaits scan ≡ Answer
FitsGot (progress.Passing sought scan count) = ⊥
FitsGot (progress.Call call) = ⊥
FitsGot (progress.Finishing back) = Unit {0}
FitsGot progress.Telling = Unit {0}
FitsGot progress.ExpandFirst = Unit {0}
FitsGot (progress.ExpandSecond first) = Unit {0}
FitsGot (progress.Value straight) = Unit {0}
FitsGot (progress.ListNumber straight) = Unit {0}
FitsGot (progress.Digits numerals) = Unit {0}
FitsGot (progress.RegisterNumber code) = Unit {0}
FitsGot (progress.Opened asks) = Unit {0}
FitsGot (progress.OddNumber level) = Unit {0}
FitsGot (progress.Asked level) = Unit {0}
FitsGot (progress.FirstGlyph p level) = Unit {0}
FitsGot (progress.FirstActive p level active) = Unit {0}
FitsGot (progress.SecondGlyph p level first) = Unit {0}
FitsGot (progress.SecondActive p level first active) = Unit {0}
FitsGot (progress.CaseNumber level) = Unit {0}
FitsGot (progress.Cases level left) = Unit {0}
FitsGot (progress.CasesLeft level left) = Unit {0}
FitsGot (progress.FirstNumber level) = Unit {0}
FitsGot (progress.Relation level first) = Unit {0}
FitsGot (progress.SecondNumber level relation first) = Unit {0}
FitsGot (progress.PassedOver level) = Unit {0}
FitsGot (progress.Left level) = Unit {0}
FitsGot progress.Met = Unit {0}
FitsGot progress.ToFi = Unit {0}
FitsGot (progress.Name text) = Unit {0}
FitsGot progress.FileStart = Unit {0}
FitsGot (progress.File text) = Unit {0}
FitsGot progress.Named = Unit {0}
FitsGot (progress.Text text) = Unit {0}

abbrev pub FitsWas : Progress → Type 0
FitsWas (progress.Number scan) = awaits scan ≡ Resumption
FitsWas (progress.Passing sought scan count) = ⊥
FitsWas (progress.Call call) = ⊥
FitsWas (progress.Finishing back) = Unit {0}
FitsWas progress.Telling = Unit {0}
FitsWas progress.ExpandFirst = Unit {0}
FitsWas (progress.ExpandSecond first) = Unit {0}
FitsWas (progress.Value straight) = Unit {0}
FitsWas (progress.ListNumber straight) = Unit {0}
FitsWas (progress.Digits numerals) = Unit {0}
FitsWas (progress.RegisterNumber code) = Unit {0}
FitsWas (progress.Opened asks) = Unit {0}
FitsWas (progress.OddNumber level) = Unit {0}
FitsWas (progress.Asked level) = Unit {0}
FitsWas (progress.FirstGlyph p level) = Unit {0}
FitsWas (progress.FirstActive p level active) = Unit {0}
FitsWas (progress.SecondGlyph p level first) = Unit {0}
FitsWas (progress.SecondActive p level first active) = Unit {0}
FitsWas (progress.CaseNumber level) = Unit {0}
FitsWas (progress.Cases level left) = Unit {0}
FitsWas (progress.CasesLeft level left) = Unit {0}
FitsWas (progress.FirstNumber level) = Unit {0}
FitsWas (progress.Relation level first) = Unit {0}
FitsWas (progress.SecondNumber level relation first) = Unit {0}
FitsWas (progress.PassedOver level) = Unit {0}
FitsWas (progress.Left level) = Unit {0}
FitsWas progress.Met = Unit {0}
FitsWas progress.ToFi = Unit {0}
FitsWas (progress.Name text) = Unit {0}
FitsWas progress.FileStart = Unit {0}
FitsWas (progress.File text) = Unit {0}
FitsWas progress.Named = Unit {0}
FitsWas (progress.Text text) = Unit {0}

-- a macro's call is read
abbrev pub IsCall : Progress → Type 0
IsCall p = (call : Parts) × (p ≡ progress.Call call)

-- what is taken next is something that the step waits for
abbrev pub Ready : Want → Progress → Type 0
Ready Raw p = FitsToken p
Ready Expanded p = FitsToken p
Ready Character p = FitsToken p
Ready (Act act) p = FitsWas p
Ready (Inner inner) p = FitsGot p
Ready (Gives told back) p = Unit {0}
Ready (Wrong kind) p = Unit {0}

-- a step takes this up: for each list of which the step before is one, what it wants then is what the phrase wants behind
-- the longer list, and the step behind is one of that list; and what is wanted fits it
pub record TakesUp (before : Progress) (x : Taken) (after : Progress) (want : Want) : Type 0 where
  pub wants : (c : Context) (kind : Task) (taken : List Taken) → Stands before c kind taken → want ≡ wants c kind (taken ++ x ∷ [])
  pub stands : (c : Context) (kind : Task) (taken : List Taken) → Stands before c kind taken → WhileOpen want (Stands after c kind (taken ++ x ∷ []))
  pub ready : Ready want after

-- one thing more was taken: what is wanted behind further ones, seen from before, is what is wanted seen from behind it
abbrev pub Steps : Progress → Token → Meaning → Told → Progress → Type 0
Steps before t m v after = (x : Taken) (xs : List Taken) → rest before t m v (x ∷ xs) ≡ rest_behind after x xs

-- a step other than of a number, of a text that is passed over and of a macro's call
abbrev pub is_plain : Progress → Bool
is_plain (progress.Number scan) = false
is_plain (progress.Passing sought scan count) = false
is_plain (progress.Call call) = false
is_plain (progress.Finishing back) = true
is_plain progress.Telling = true
is_plain progress.ExpandFirst = true
is_plain (progress.ExpandSecond first) = true
is_plain (progress.Value straight) = true
is_plain (progress.ListNumber straight) = true
is_plain (progress.Digits numerals) = true
is_plain (progress.RegisterNumber code) = true
is_plain (progress.Opened asks) = true
is_plain (progress.OddNumber level) = true
is_plain (progress.Asked level) = true
is_plain (progress.FirstGlyph p level) = true
is_plain (progress.FirstActive p level active) = true
is_plain (progress.SecondGlyph p level first) = true
is_plain (progress.SecondActive p level first active) = true
is_plain (progress.CaseNumber level) = true
is_plain (progress.Cases level left) = true
is_plain (progress.CasesLeft level left) = true
is_plain (progress.FirstNumber level) = true
is_plain (progress.Relation level first) = true
is_plain (progress.SecondNumber level relation first) = true
is_plain (progress.PassedOver level) = true
is_plain (progress.Left level) = true
is_plain progress.Met = true
is_plain progress.ToFi = true
is_plain (progress.Name text) = true
is_plain progress.FileStart = true
is_plain (progress.File text) = true
is_plain progress.Named = true
is_plain (progress.Text text) = true

-- a condition that is decided, or whose branch is sought
abbrev pub is_deciding : Progress → Bool
is_deciding (progress.Number scan) = false
is_deciding (progress.Passing sought scan count) = false
is_deciding (progress.Call call) = false
is_deciding (progress.Finishing back) = false
is_deciding progress.Telling = false
is_deciding progress.ExpandFirst = false
is_deciding (progress.ExpandSecond first) = false
is_deciding (progress.Value straight) = false
is_deciding (progress.ListNumber straight) = false
is_deciding (progress.Digits numerals) = false
is_deciding (progress.RegisterNumber code) = false
is_deciding (progress.Opened asks) = true
is_deciding (progress.OddNumber level) = true
is_deciding (progress.Asked level) = true
is_deciding (progress.FirstGlyph p level) = true
is_deciding (progress.FirstActive p level active) = true
is_deciding (progress.SecondGlyph p level first) = true
is_deciding (progress.SecondActive p level first active) = true
is_deciding (progress.CaseNumber level) = true
is_deciding (progress.Cases level left) = true
is_deciding (progress.CasesLeft level left) = true
is_deciding (progress.FirstNumber level) = true
is_deciding (progress.Relation level first) = true
is_deciding (progress.SecondNumber level relation first) = true
is_deciding (progress.PassedOver level) = true
is_deciding (progress.Left level) = true
is_deciding progress.Met = false
is_deciding progress.ToFi = false
is_deciding (progress.Name text) = false
is_deciding progress.FileStart = false
is_deciding (progress.File text) = false
is_deciding progress.Named = false
is_deciding (progress.Text text) = false

-- a plain step that follows stands
pub stands-plain : (p : Progress) (c : Context) (kind : Task) (taken : List Taken) → is_plain p ≡ true → Follows p c kind taken → Stands p c kind taken
stands-plain (progress.Number scan) c kind taken h f = cc
stands-plain (progress.Passing sought scan count) c kind taken h f = cc
stands-plain (progress.Call call) c kind taken h f = cc
stands-plain _ c kind taken h f = f

pub follows-plain : (p : Progress) (c : Context) (kind : Task) (taken : List Taken) → is_plain p ≡ true → Stands p c kind taken → Follows p c kind taken
follows-plain (progress.Number scan) c kind taken h f = cc
follows-plain (progress.Passing sought scan count) c kind taken h f = cc
follows-plain (progress.Call call) c kind taken h f = cc
follows-plain _ c kind taken h f = f
