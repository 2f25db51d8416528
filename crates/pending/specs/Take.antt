-- What comes next of all that is still to be read. A step is spent for each line that is taken and for each
-- token that isn't paid; where one is wanted and none is left, the run ends before anything is taken
-- (tex.web 341 to 363; e-TeX's change file there; the count of steps is this project's own).
use Rattle.std.specs.Prelude.{◌≡◌, ℕ, ℤ, Bool, true, false, List, [], ◌∷◌, length, nat_lt, not, ◌&&◌, Result, Ok, Err, if◌then◌else◌, codes, refl}
use Rattle.std.proofs.Common.{ap, sym, ◌∙◌}
use Rattle.tokens.specs.Budget.{Allowance, is_spent, after_step}
use Rattle.tokens.specs.Names.{Interned, interned}
use Rattle.tokens.specs.declared.stop.Stop.{Stop}
use Rattle.tokens.specs.declared.stop.Stop.TheVariants.{Trouble, Spent, OutOfMemory}
use Rattle.tokens.specs.declared.kind.Kind.TheVariants.{InvalidChar}
use Rattle.tokens.specs.declared.token.Token.{Token}
use Rattle.tokens.specs.declared.token.Token.TheVariants.{Char, Active, Name}
use Rattle.catcode_eye.specs.declared.seen.Seen.{Seen}
use Rattle.catcode_eye.specs.declared.seen.Seen.TheVariants.{Char as SeenChar, Active as SeenActive, Word, Par, LineEnd}
use Rattle.catcode_eye.specs.declared.seen.Glance.{Glance}
use Rattle.catcode_eye.specs.declared.seen.Glance.TheVariants as glances
use Rattle.catcode_eye.specs.declared.seen.State.{State}
use Rattle.catcode_eye.specs.Outlook.{Outlook, next_seen, next_line_of, with_line, with_sight, is_line_finished}
use Rattle.catcode_eye.specs.Seen.{Sight as EyeSight, sight}
use Rattle.pending.specs.declared.source.Origin.{Origin}
use Rattle.pending.specs.declared.source.Origin.TheVariants.{FirstLine, File, Pseudo}
use Rattle.pending.specs.declared.source.Source.{Source}
use Rattle.pending.specs.declared.source.Sight.{Sight}
use Rattle.pending.specs.declared.source.Sight.TheVariants.{Token as TokenSight, Eof as EofSight, End}
use Rattle.pending.specs.declared.waiting.Waiting.{Waiting}
use Rattle.pending.specs.declared.pending.Event.{Event}
use Rattle.pending.specs.declared.pending.Event.TheVariants.{Token as TokenEvent, Eof, SourceEnd, Empty}
use Rattle.pending.specs.Did.{Did}
use Rattle.pending.specs.Origin.{is_file, next_number, with_line_taken}
use Rattle.pending.specs.Pending.{Item, Ready, From}

-- ---- from a source

-- what reading from one source looks at and changes
pub record Looking : Type 0 where
  pub source : Source
  pub names : List (List ℕ)
  pub budget : Allowance

abbrev pub looking : Source → List (List ℕ) → Allowance → Looking
looking source names budget = record { source = source; names = names; budget = budget }

abbrev pub source_with : Outlook → Origin → ℕ → Bool → Source
source_with eye origin line is_ending = record { eye = eye; origin = origin; line = line; is_ending = is_ending }

-- whether no step is left for what is seen next, which isn't the line's end
abbrev pub is_unpaid : List ℕ → Outlook → Allowance → Bool
is_unpaid cats eye budget = is_spent budget && not (is_line_finished cats eye)

abbrev pub with_eye : Outlook → Source → Source
with_eye eye source = record source { eye = eye }

-- a name, by its bytes, as a token
abbrev pub named_by : Interned → Looking → Did Looking Sight
named_by entry r = Ok (TokenSight (Name (record { 0 = entry.id })), looking r.source entry.names r.budget)

abbrev pub named : List ℕ → Looking → Did Looking Sight
named text r = named_by (interned r.names text) r

-- the token that stands for what is seen
abbrev pub as_token : Seen → Looking → Did Looking Sight
as_token (SeenChar cat byte) r = Ok (TokenSight (Char cat byte), r)
as_token (SeenActive byte) r = Ok (TokenSight (Active byte), r)
as_token (Word text) r = named text r
as_token Par r = named (codes "par") r
as_token LineEnd r = Ok (End, r)

-- with one step, and the eye behind what was taken
abbrev pub paid_to : Outlook → Looking → Looking
paid_to eye r = looking (with_eye eye r.source) r.names (after_step r.budget)

-- a token that is seen is taken for a step
abbrev pub taken : Seen → Outlook → Looking → Did Looking Sight
taken seen eye r = if is_spent r.budget then Err (Spent, r) else as_token seen (paid_to eye r)

-- the last line is used up. The end of a file or pseudo-file is told while it is still open, and counts as one
-- line more; the first line of a run ends at once.
abbrev pub used_up : Origin → Looking → Did Looking Sight
used_up FirstLine r = Ok (End, r)
used_up File r =
    Ok (EofSight, looking (record r.source { line = next_number r.source.line; is_ending = true }) r.names r.budget)
used_up Pseudo r =
    Ok (EofSight, looking (record r.source { line = next_number r.source.line; is_ending = true }) r.names r.budget)

abbrev pub with_next : (Looking → Did Looking Sight) → Looking → Result (Bool × Outlook) Stop → Did Looking Sight
with_next further r (Ok (is_taken, eye)) = further (looking (with_line_taken eye r.source) r.names (after_step r.budget))
with_next further r (Err stop) = Err (stop, r)

-- at a line's end, by the lines that are left and whether the source takes no further one: its end was told, or
-- \endinput came. Another line is taken for a step.
abbrev pub at_line_end : ℤ → (Looking → Did Looking Sight) → Looking → List (List ℕ) → Bool → Did Looking Sight
at_line_end endline further r unread true = Ok (End, r)
at_line_end endline further r [] false = used_up r.source.origin r
at_line_end endline further r (line ∷ lines) false =
    if is_spent r.budget then Err (Spent, r) else with_next further r (next_line_of endline r.source.eye (line ∷ lines))

-- by what is seen: anything but a line's end is a token
abbrev pub by_seen : ℤ → (Looking → Did Looking Sight) → Looking → Result (Seen × Outlook) Stop → Did Looking Sight
by_seen endline further r (Ok (LineEnd, eye)) =
    at_line_end endline further (looking (with_eye eye r.source) r.names r.budget) eye.unread r.source.is_ending
by_seen endline further r (Ok (SeenChar cat byte, eye)) = taken (SeenChar cat byte) eye r
by_seen endline further r (Ok (SeenActive byte, eye)) = taken (SeenActive byte) eye r
by_seen endline further r (Ok (Word text, eye)) = taken (Word text) eye r
by_seen endline further r (Ok (Par, eye)) = taken Par eye r
by_seen endline further r (Err stop) = if is_spent r.budget then Err (Spent, r) else Err (stop, r)

-- what comes next of a source, by its lines that are left
unfoldable pub sight_over : List ℕ → ℤ → List (List ℕ) → Looking → Did Looking Sight
sight_over cats endline [] r = by_seen endline (λ t. Ok (End, t)) r (next_seen cats r.source.eye)
sight_over cats endline (line ∷ lines) r = by_seen endline (sight_over cats endline lines) r (next_seen cats r.source.eye)

-- what comes next of a source: a token, that its last line is used up, or its end
unfoldable pub next_sight : List ℕ → ℤ → Looking → Did Looking Sight
next_sight cats endline r = sight_over cats endline r.source.eye.unread r

-- the token that stands for a glance other than a line's end, where a step is left
abbrev pub glanced : Glance → List ℕ → Looking → Did Looking Sight
glanced (glances.Char cat byte) word r = as_token (SeenChar cat byte) (looking r.source r.names (after_step r.budget))
glanced (glances.Active byte) word r = as_token (SeenActive byte) (looking r.source r.names (after_step r.budget))
glanced glances.Word word r = as_token (Word word) (looking r.source r.names (after_step r.budget))
glanced glances.Par word r = as_token Par (looking r.source r.names (after_step r.budget))
glanced glances.LineEnd word r = Ok (End, r)
glanced glances.Invalid word r = Err (Trouble InvalidChar, r)
glanced glances.OutOfMemory word r = Err (OutOfMemory, r)

-- ---- the law of what comes next of a source: what is seen decides, and behind a line's end it is looked at again

by_seen-further : (endline : ℤ) (f g : Looking → Did Looking Sight) (r : Looking) (s : Result EyeSight Stop)
    → ((t : Looking) (b : Bool) → at_line_end endline f t r.source.eye.unread b ≡ at_line_end endline g t r.source.eye.unread b)
    → by_seen endline f r (with_sight r.source.eye s) ≡ by_seen endline g r (with_sight r.source.eye s)
by_seen-further endline f g r (Err stop) same = refl
by_seen-further endline f g r (Ok s) same = at s.seen s.rest s.state
  where
    at : (seen : Seen) (rest : List ℕ) (state : State)
        → by_seen endline f r (Ok (seen, record { unread = r.source.eye.unread; rest = rest; state = state }))
        ≡ by_seen endline g r (Ok (seen, record { unread = r.source.eye.unread; rest = rest; state = state }))
    at (SeenChar cat byte) rest state = refl
    at (SeenActive byte) rest state = refl
    at (Word text) rest state = refl
    at Par rest state = refl
    at LineEnd rest state =
        same _ r.source.is_ending

-- at a line's end what follows is looked at only behind the line that was taken
at_end-further : (endline : ℤ) (f g : Looking → Did Looking Sight) (r : Looking) (unread : List (List ℕ))
    → ((line : List ℕ) (lines : List (List ℕ)) → unread ≡ line ∷ lines → (t : Looking) → t.source.eye.unread ≡ lines → f t ≡ g t)
    → (b : Bool) → at_line_end endline f r unread b ≡ at_line_end endline g r unread b
at_end-further endline f g r unread same true = refl
at_end-further endline f g r [] same false = refl
at_end-further endline f g r (line ∷ lines) same false = by_spent (is_spent r.budget)
  where
    by_long : (b : Bool) → with_next f r (with_line endline line lines b) ≡ with_next g r (with_line endline line lines b)
    by_long true = refl
    by_long false = same line lines refl _ refl

    by_spent : (b : Bool)
        → (if b then Err (Spent, r) else with_next f r (next_line_of endline r.source.eye (line ∷ lines)))
        ≡ (if b then Err (Spent, r) else with_next g r (next_line_of endline r.source.eye (line ∷ lines)))
    by_spent true = refl
    by_spent false = by_long (nat_lt 65535 (length line))

sight_over-step : (cats : List ℕ) (endline : ℤ) (unread : List (List ℕ)) (r : Looking) → r.source.eye.unread ≡ unread
    → sight_over cats endline unread r ≡ by_seen endline (next_sight cats endline) r (next_seen cats r.source.eye)
unfolding sight_over next_sight
sight_over-step cats endline [] r here =
    let f : Looking → Did Looking Sight = λ t. Ok (End, t) in
    let g : Looking → Did Looking Sight = next_sight cats endline in
    let same : (line : List ℕ) (lines : List (List ℕ)) → r.source.eye.unread ≡ line ∷ lines → (t : Looking) → t.source.eye.unread ≡ lines → f t ≡ g t =
    λ line lines is t left. nothing_left line lines (sym here ∙ is) (f t ≡ g t) in
    by_seen-further endline f g r (sight cats r.source.eye.state r.source.eye.rest)
    (λ t b. at_end-further endline f g t r.source.eye.unread same b)
  where
    nothing_left : (line : List ℕ) (lines : List (List ℕ)) → let nothing : List (List ℕ) = [] in nothing ≡ line ∷ lines → (P : Type 0) → P
    nothing_left line lines e P = cc
sight_over-step cats endline (first ∷ others) r here =
    let f : Looking → Did Looking Sight = sight_over cats endline others in
    let g : Looking → Did Looking Sight = next_sight cats endline in
    let same : (line : List ℕ) (lines : List (List ℕ)) → r.source.eye.unread ≡ line ∷ lines → (t : Looking) → t.source.eye.unread ≡ lines → f t ≡ g t =
    λ line lines is t left. ap (λ (left : List (List ℕ)). sight_over cats endline left t) (behind_first line lines (sym here ∙ is) ∙ sym left) in
    by_seen-further endline f g r (sight cats r.source.eye.state r.source.eye.rest)
    (λ t b. at_end-further endline f g t r.source.eye.unread same b)
  where
    behind_first : (line : List ℕ) (lines : List (List ℕ)) → first ∷ others ≡ line ∷ lines → others ≡ lines
    behind_first line lines e = cc

pub next_sight-step : (cats : List ℕ) (endline : ℤ) (r : Looking)
    → next_sight cats endline r ≡ by_seen endline (next_sight cats endline) r (next_seen cats r.source.eye)
unfolding next_sight
next_sight-step cats endline r = sight_over-step cats endline r.source.eye.unread r refl

-- ---- from all that is pending

-- what taking looks at and changes
pub record Reading : Type 0 where
  pub pending : List Item
  pub names : List (List ℕ)
  pub budget : Allowance

abbrev pub reading : List Item → List (List ℕ) → Allowance → Reading
reading pending names budget = record { pending = pending; names = names; budget = budget }

-- a token that waits costs a step, if that isn't paid
abbrev pub by_paid : Waiting → List Item → Reading → Bool → Did Reading Event
by_paid waiting rest r true = Ok (TokenEvent waiting.token waiting.noexpand, reading rest r.names r.budget)
by_paid waiting rest r false =
    if is_spent r.budget then Err (Spent, r)
    else Ok (TokenEvent waiting.token waiting.noexpand, reading rest r.names (after_step r.budget))

-- a source stays in its place until it ends
abbrev pub by_sight : List Item → Did Looking Sight → Did Reading Event
by_sight rest (Ok (TokenSight token, l)) = Ok (TokenEvent token false, reading (From l.source ∷ rest) l.names l.budget)
by_sight rest (Ok (EofSight, l)) = Ok (Eof, reading (From l.source ∷ rest) l.names l.budget)
by_sight rest (Ok (End, l)) = Ok (SourceEnd (is_file l.source.origin), reading rest l.names l.budget)
by_sight rest (Err (stop, l)) = Err (stop, reading (From l.source ∷ rest) l.names l.budget)

abbrev pub event_of : List ℕ → ℤ → List Item → Reading → Did Reading Event
event_of cats endline [] r = Ok (Empty, r)
event_of cats endline (Ready waiting ∷ rest) r = by_paid waiting rest r waiting.paid
event_of cats endline (From source ∷ rest) r = by_sight rest (next_sight cats endline (looking source r.names r.budget))

-- what comes next of all that is pending
abbrev pub next_event : List ℕ → ℤ → Reading → Did Reading Event
next_event cats endline r = event_of cats endline r.pending r
