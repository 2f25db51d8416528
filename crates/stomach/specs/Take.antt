-- Taking what comes next: a step is spent for each line and for each token that is not paid for. Where a
-- step is wanted and none is left, the run ends; so it does at an invalid character and at a line that is
-- too long, for which no step is spent (tex.web 341 to 363; the count of steps is this project's own).
use Rattle.std.specs.Prelude.{◌≡◌, ℕ, ℤ, Bool, true, false, List, [], ◌∷◌, Option, Some, None, Result, Ok, Err, if◌then◌else◌, codes, nat_lt, length, refl}
use Rattle.tokens.specs.Budget.{Allowance, is_spent, after_step}
use Rattle.tokens.specs.Names.{Interned, interned}
use Rattle.tokens.specs.declared.stop.Stop.{Stop}
use Rattle.tokens.specs.declared.kind.Kind.TheVariants.{InvalidChar}
use Rattle.tokens.specs.declared.stop.Stop.TheVariants.{Trouble, Capacity, Spent, ReadFault, WriteFault, OutOfMemory}
use Rattle.tokens.specs.declared.token.Token.{Token}
use Rattle.tokens.specs.declared.token.Token.TheVariants.{Char, Active, Name}
use Rattle.catcode_eye.specs.declared.seen.Glance.{Glance}
use Rattle.catcode_eye.specs.declared.seen.Glance.TheVariants as glances
use Rattle.catcode_eye.specs.declared.seen.Seen.{Seen}
use Rattle.catcode_eye.specs.declared.seen.Seen.TheVariants.{Char as SeenChar, Active as SeenActive, Word, Par, LineEnd}
use Rattle.catcode_eye.specs.Outlook.{Outlook, next_seen, next_line, with_line, with_sight, behind_word}
use Rattle.catcode_eye.specs.Seen.{Sight, sight}
use Rattle.catcode_eye.specs.declared.seen.State.{State}
use Rattle.asking.specs.Did.{Did, ◌>>=◌}

-- what reading from one source looks at and changes
pub record Looking : Type 0 where
  pub eye : Outlook
  pub names : List (List ℕ)
  pub budget : Allowance

abbrev pub looking : Outlook → List (List ℕ) → Allowance → Looking
looking eye names budget = record { eye = eye; names = names; budget = budget }

-- one more step, and then what follows; where none is left, the run ends
abbrev pub paid : {A : Type 0} → Looking → (Looking → Did Looking A) → Did Looking A
paid r further = (if is_spent r.budget then Err (Spent, r) else further (record r { budget = after_step r.budget }))

-- an end of the run in whose place a step was wanted: without one, the run ends for want of it
abbrev pub unpaid : Allowance → Stop → Stop
unpaid budget stop = (if is_spent budget then Spent else stop)

abbrev pub ended : {A : Type 0} → Looking → Stop → Did Looking A
ended r stop = Err (unpaid r.budget stop, r)

-- a name, by its bytes, as a token
abbrev pub named_by : Interned → Looking → Did Looking (Option Token)
named_by entry r = Ok (Some (Name (record { 0 = entry.id })), record r { names = entry.names })

abbrev pub named : List ℕ → Looking → Did Looking (Option Token)
named text r = named_by (interned r.names text) r

-- the token that stands for what is seen
abbrev pub as_token : Seen → Looking → Did Looking (Option Token)
as_token (SeenChar cat byte) r = Ok (Some (Char cat byte), r)
as_token (SeenActive byte) r = Ok (Some (Active byte), r)
as_token (Word text) r = named text r
as_token Par r = named (codes "par") r
as_token LineEnd r = Ok (None, r)

-- the next line, with a step for it: whether there was one
abbrev pub line_by : Looking → Result (Bool × Outlook) Stop → Did Looking Bool
line_by r (Ok (true, eye)) = paid (record r { eye = eye }) (λ t. Ok (true, t))
line_by r (Ok (false, eye)) = Ok (false, record r { eye = eye })
line_by r (Err stop) = ended r stop

unfoldable pub line_taken : ℤ → Looking → Did Looking Bool
line_taken endline r = line_by r (next_line endline r.eye)

-- behind a line that was taken, what follows; where none is left, no token comes
abbrev pub behind_line : (Looking → Did Looking (Option Token)) → Bool × Looking → Did Looking (Option Token)
behind_line further (true, r) = further r
behind_line further (false, r) = Ok (None, r)

-- by what is seen: at a line's end the next line is taken, and anything else is a token
abbrev pub by_seen : ℤ → (Looking → Did Looking (Option Token)) → Looking → Result (Seen × Outlook) Stop → Did Looking (Option Token)
by_seen endline further r (Ok (LineEnd, eye)) = line_taken endline (record r { eye = eye }) >>= behind_line further
by_seen endline further r (Ok (SeenChar cat byte, eye)) = paid (record r { eye = eye }) (as_token (SeenChar cat byte))
by_seen endline further r (Ok (SeenActive byte, eye)) = paid (record r { eye = eye }) (as_token (SeenActive byte))
by_seen endline further r (Ok (Word text, eye)) = paid (record r { eye = eye }) (as_token (Word text))
by_seen endline further r (Ok (Par, eye)) = paid (record r { eye = eye }) (as_token Par)
by_seen endline further r (Err stop) = ended r stop

-- the next token of a source, by its lines that are left
unfoldable pub token_over : List ℕ → ℤ → List (List ℕ) → Looking → Did Looking (Option Token)
token_over cats endline [] r = by_seen endline (λ t. Ok (None, t)) r (next_seen cats r.eye)
token_over cats endline (line ∷ lines) r = by_seen endline (token_over cats endline lines) r (next_seen cats r.eye)

-- the next token of a source, or none where its lines are used up
unfoldable pub token_from : List ℕ → ℤ → Looking → Did Looking (Option Token)
token_from cats endline r = token_over cats endline r.eye.unread r

-- the next line of a source alone
abbrev pub first_line : ℤ → Looking → Did Looking (Unit {0})
first_line endline r = line_taken endline r >>= (λ d. Ok (tt, d.1))

-- the next line of a source, as if a word stood in front of it
abbrev pub behind_name : Bool × Looking → Did Looking (Unit {0})
behind_name (true, r) = Ok (tt, record r { eye = behind_word r.eye })
behind_name (false, r) = Ok (tt, r)

abbrev pub line_behind_word : ℤ → Looking → Did Looking (Unit {0})
line_behind_word endline r = line_taken endline r >>= behind_name

-- the token that stands for a glance other than a line's end, or the end of the run in its place
abbrev pub glanced : Glance → List ℕ → Looking → Did Looking (Option Token)
glanced (glances.Char cat byte) word r = paid r (as_token (SeenChar cat byte))
glanced (glances.Active byte) word r = paid r (as_token (SeenActive byte))
glanced glances.Word word r = paid r (as_token (Word word))
glanced glances.Par word r = paid r (as_token Par)
glanced glances.LineEnd word r = Ok (None, r)
glanced glances.Invalid word r = ended r (Trouble InvalidChar)
glanced glances.OutOfMemory word r = Err (OutOfMemory, r)

-- what stands for an end in whose place a step was wanted; want of memory stays what it is
abbrev pub EndsUnpaid : Allowance → Stop → Stop → Type 0
EndsUnpaid budget (Trouble kind) result = result ≡ unpaid budget (Trouble kind)
EndsUnpaid budget (Capacity cap) result = result ≡ unpaid budget (Capacity cap)
EndsUnpaid budget Spent result = result ≡ unpaid budget Spent
EndsUnpaid budget ReadFault result = result ≡ unpaid budget ReadFault
EndsUnpaid budget WriteFault result = result ≡ unpaid budget WriteFault
EndsUnpaid budget OutOfMemory result = result ≡ OutOfMemory

-- the steps of which a token is worth one, and the end of a source none
abbrev pub token_cost : Option Token → ℕ
token_cost None = 0
token_cost (Some token) = 1

-- ---- the law of taking from a source: what is seen decides, and behind a line's end it is taken from again

-- what follows a line, by whether a step is left for it: the lines that are left are those of the eye
behind_line-step : (cats : List ℕ) (endline : ℤ) (lines : List (List ℕ)) (rest : List ℕ) (state : State) (names : List (List ℕ)) (budget : Allowance) (none : Looking) (spent : Bool)
    → let line : Did Looking Bool = if spent then Err (Spent, none) else Ok (true, looking (record { unread = lines; rest = rest; state = state }) names budget) in
    (line >>= behind_line (token_over cats endline lines)) ≡ (line >>= behind_line (token_from cats endline))
unfolding token_from
behind_line-step cats endline lines rest state names budget none true = refl
behind_line-step cats endline lines rest state names budget none false = refl

-- what follows a line's end, by whether the line is too long
behind_line-too_long : (cats : List ℕ) (endline : ℤ) (line : List ℕ) (lines : List (List ℕ)) (names : List (List ℕ)) (budget : Allowance) (eye : Outlook) (b : Bool)
    → let taken = line_by (looking eye names budget) (with_line endline line lines b) in
    (taken >>= behind_line (token_over cats endline lines)) ≡ (taken >>= behind_line (token_from cats endline))
behind_line-too_long cats endline line lines names budget eye true = refl
behind_line-too_long cats endline line lines names budget eye false = behind_line-step cats endline lines _ _ names _ _ (is_spent budget)

by_seen-further : (endline : ℤ) (f g : Looking → Did Looking (Option Token)) (r : Looking) (s : Result Sight Stop)
    → ((rest : List ℕ) (state : State) →
    let taken = line_taken endline (record r { eye = record { unread = r.eye.unread; rest = rest; state = state } }) in
    (taken >>= behind_line f) ≡ (taken >>= behind_line g))
    → by_seen endline f r (with_sight r.eye s) ≡ by_seen endline g r (with_sight r.eye s)
by_seen-further endline f g r (Err stop) same = refl
by_seen-further endline f g r (Ok s) same = at s.seen s.rest s.state
  where
    at : (seen : Seen) (rest : List ℕ) (state : State)
        → by_seen endline f r (Ok (seen, record { unread = r.eye.unread; rest = rest; state = state }))
        ≡ by_seen endline g r (Ok (seen, record { unread = r.eye.unread; rest = rest; state = state }))
    at (SeenChar cat byte) rest state = refl
    at (SeenActive byte) rest state = refl
    at (Word text) rest state = refl
    at Par rest state = refl
    at LineEnd rest state = same rest state

token_over-step : (cats : List ℕ) (endline : ℤ) (lines : List (List ℕ)) (rest : List ℕ) (state : State) (names : List (List ℕ)) (budget : Allowance)
    → let r = looking (record { unread = lines; rest = rest; state = state }) names budget in
    token_over cats endline lines r ≡ by_seen endline (token_from cats endline) r (next_seen cats r.eye)
unfolding token_over line_taken
token_over-step cats endline [] rest state names budget =
    by_seen-further endline (λ t. Ok (None, t)) (token_from cats endline) _ (sight cats state rest) (λ rest state. refl)
token_over-step cats endline (line ∷ lines) rest state names budget =
    by_seen-further endline (token_over cats endline lines) (token_from cats endline) _ (sight cats state rest)
    (λ rest state. behind_line-too_long cats endline line lines names budget _ (nat_lt 65535 (length line)))

pub token_from-step : (cats : List ℕ) (endline : ℤ) (r : Looking)
    → token_from cats endline r ≡ by_seen endline (token_from cats endline) r (next_seen cats r.eye)
unfolding token_from
token_from-step cats endline r = token_over-step cats endline r.eye.unread r.eye.rest r.eye.state r.names r.budget
