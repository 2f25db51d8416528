-- All that is still to be read, as one flat list (The TeXbook, chapters 8 and 20; tex.web, part 22; the e-TeX
-- manual, section 3.3, on pseudo-files). There is no stack of lists: what is put in front stands in front.
use Rattle.std.specs.Prelude.{◌≡◌, ℕ, ◌+◌, ◌-◌, ◌==◌, ℤ, pos, negsuc, Bool, true, false, List, [], ◌∷◌, ◌++◌, map, nat_le, min, slice_index_or, Option, Some, None, Result, Ok, Err, if◌then◌else◌}
use Rattle.tokens.specs.Budget.{Allowance, is_spent, after_step}
use Rattle.tokens.specs.declared.cap.Cap.TheVariants.{Inputs}
use Rattle.tokens.specs.declared.stop.Stop.{Stop}
use Rattle.tokens.specs.declared.stop.Stop.TheVariants.{Capacity, Spent}
use Rattle.tokens.specs.declared.token.Token.{Token}
use Rattle.tokens.specs.declared.token.Token.TheVariants.{Char, Active, Name, Arg, Frozen}
use Rattle.catcode_eye.specs.Lines.{source_lines}
use Rattle.catcode_eye.specs.Outlook.{Outlook, before_lines, has_line, next_line, behind_word}
use Rattle.pending.specs.declared.source.Origin.{Origin}
use Rattle.pending.specs.declared.source.Origin.TheVariants.{FirstLine, File, Pseudo}
use Rattle.pending.specs.declared.source.Source.{Source}
use Rattle.pending.specs.declared.waiting.Waiting.{Waiting}
use Rattle.pending.specs.Origin.{counted, is_input, is_file, with_line_taken, shown_line}

-- an item: a token with two flags, that it isn't to be expanded and that its step is paid; or a source: its
-- unread lines, the rest of its line and its state, where it comes from, the number of its line, and whether
-- its end was told or \endinput came
pub data Item : Type 0 where
  Ready : Waiting → Item
  From : Source → Item

-- a new token, whose step isn't paid
abbrev pub fresh : Token → Item
fresh token = Ready (record { token = token; noexpand = false; paid = false })

-- a list of new tokens in front
abbrev pub with_list : List Token → List Item → List Item
with_list tokens pending = map fresh tokens ++ pending

-- a macro's argument by its number, counted from 1; a number that is none has no tokens
abbrev pub argument : List (List Token) → ℕ → List Token
argument arguments number = slice_index_or arguments (number - 1) []

-- what stands for a token of a macro's body
abbrev pub filled_token : List (List Token) → Token → List Token
filled_token arguments (Char cat byte) = Char cat byte ∷ []
filled_token arguments (Active byte) = Active byte ∷ []
filled_token arguments (Name id) = Name id ∷ []
filled_token arguments (Arg number) = argument arguments number
filled_token arguments (Frozen number) = Frozen number ∷ []

-- a macro's body with the arguments put in
abbrev pub filled : List (List Token) → List Token → List Token
filled arguments [] = []
filled arguments (token ∷ body) = filled_token arguments token ++ filled arguments body

-- a macro's text in front
abbrev pub with_macro : List Token → List (List Token) → List Item → List Item
with_macro body arguments pending = map fresh (filled arguments body) ++ pending

-- a token that was put back in front
abbrev pub with_back : Token → Bool → Bool → List Item → List Item
with_back token noexpand paid pending =
    Ready (record { token = token; noexpand = noexpand; paid = paid }) ∷ pending

-- a source before its first line
abbrev pub source_of : Origin → List (List ℕ) → Source
source_of origin lines = record { eye = before_lines lines; origin = origin; line = 0; is_ending = false }

-- the first line of a run: one line, whatever its bytes
abbrev pub first_pending : List ℕ → List Item
first_pending line = From (source_of FirstLine (source_lines (negsuc 0) true line)) ∷ []

-- how many sources come from such an origin
abbrev pub sources_of : (Origin → Bool) → List Item → ℕ
sources_of is_counted [] = 0
sources_of is_counted (Ready waiting ∷ pending) = sources_of is_counted pending
sources_of is_counted (From source ∷ pending) = counted (is_counted source.origin) (sources_of is_counted pending)

abbrev pub open_inputs : List Item → ℕ
open_inputs pending = sources_of is_input pending

abbrev pub open_files : List Item → ℕ
open_files pending = sources_of is_file pending

-- what opening changes: what is pending, and the steps
pub record Opening : Type 0 where
  pub pending : List Item
  pub budget : Allowance

abbrev pub with_first_line : Opening → Result (Bool × Outlook) Stop → Result Opening Stop
with_first_line o (Ok (is_taken, eye)) =
    Ok (record { pending = From (with_line_taken eye (source_of File [])) ∷ o.pending; budget = after_step o.budget })
with_first_line o (Err stop) = Err stop

-- a file is opened and its first line taken, with the `\endlinechar` of that moment. Fifteen inputs may be
-- open, and a sixteenth is refused; then a step is wanted, and then the line must not be too long
abbrev pub opened_file : List ℕ → ℤ → Opening → Result Opening Stop
opened_file bytes endline o =
    if nat_le 15 (open_inputs o.pending) then Err (Capacity Inputs)
    else if is_spent o.budget then Err Spent
    else with_first_line o (next_line endline (before_lines (source_lines (pos 10) true bytes)))

-- a pseudo-file is opened: its lines end at the byte of `\newlinechar`, and none is taken yet
abbrev pub opened_pseudo : List ℕ → ℤ → List Item → Result (List Item) Stop
opened_pseudo bytes newline pending =
    if nat_le 15 (open_inputs pending) then Err (Capacity Inputs)
    else Ok (From (source_of Pseudo (source_lines newline false bytes)) ∷ pending)

-- the innermost source
abbrev pub innermost : List Item → Option Source
innermost [] = None
innermost (Ready waiting ∷ pending) = innermost pending
innermost (From source ∷ pending) = Some source

-- another in its place
abbrev pub replaced : Source → List Item → List Item
replaced new [] = []
replaced new (Ready waiting ∷ pending) = Ready waiting ∷ replaced new pending
replaced new (From source ∷ pending) = From new ∷ pending

abbrev pub ended_source : Option Source → Option Source
ended_source None = None
ended_source (Some source) = Some (record source { is_ending = true })

abbrev pub ended_at : Option Source → List Item → List Item
ended_at None pending = pending
ended_at (Some source) pending = replaced (record source { is_ending = true }) pending

-- \endinput: the innermost source takes no further line
abbrev pub ended : List Item → List Item
ended pending = ended_at (innermost pending) pending

-- the number of the line that is read: 0 on the first line of a run, and outside all sources
abbrev pub line_at : Option Source → ℕ
line_at None = 0
line_at (Some source) = shown_line source.origin source.line

abbrev pub line_number : List Item → ℕ
line_number pending = line_at (innermost pending)

abbrev pub begun_line : Source → Allowance → Result (Bool × Outlook) Stop → Result (Source × Allowance) Stop
begun_line source budget (Ok (is_taken, eye)) = Ok (with_line_taken (behind_word eye) source, after_step budget)
begun_line source budget (Err stop) = Err stop

-- a source whose next line is taken, where it has one, and whose blanks are skipped
abbrev pub begun_source : ℤ → Source → Allowance → Result (Source × Allowance) Stop
begun_source endline source budget =
    if has_line source.eye.unread
    then (if is_spent budget then Err Spent else begun_line source budget (next_line endline source.eye))
    else Ok (source, budget)

abbrev pub with_begun : Opening → Result (Source × Allowance) Stop → Result Opening Stop
with_begun o (Ok (source, budget)) = Ok (record { pending = replaced source o.pending; budget = budget })
with_begun o (Err stop) = Err stop

abbrev pub begun_at : Option Source → ℤ → Opening → Result Opening Stop
begun_at None endline o = Ok o
begun_at (Some source) endline o = with_begun o (begun_source endline source o.budget)

-- the next line of the innermost source is taken, where it has one, and blanks are skipped in it as behind a
-- name. The first line of a run is read so where a file's name stands in it: one of blanks alone has then
-- nothing left.
abbrev pub begun_behind_name : ℤ → Opening → Result Opening Stop
begun_behind_name endline o = begun_at (innermost o.pending) endline o

abbrev pub opening : List Item → Allowance → Opening
opening pending budget = record { pending = pending; budget = budget }

-- whether one more input may be open
abbrev pub TestsInputs : Result (Unit {0}) Stop → List Item → Type 0
TestsInputs (Ok none) pending = nat_le 15 (open_inputs pending) ≡ false
TestsInputs (Err stop) pending = (stop ≡ Capacity Inputs) × (nat_le 15 (open_inputs pending) ≡ true)

-- the step of a token is paid, or spent, or wanted where none is left
abbrev pub Pays : Bool → Bool → Allowance → Allowance → Type 0
Pays true is_paid old new = (is_paid ≡ true) × (new ≡ old)
Pays false true old new = (is_spent old ≡ false) × (new ≡ after_step old)
Pays false false old new = (is_spent old ≡ true) × (new ≡ old)
