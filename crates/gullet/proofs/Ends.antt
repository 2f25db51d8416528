-- Each end of a source that is told leaves fewer of them to be told.
use Rattle.std.specs.Prelude.{◌≡◌, refl, ℕ, ℤ, ◌+◌, ◌<◌, Bool, true, false, if◌then◌else◌, List, [], ◌∷◌, Result, Ok, Err}
use Rattle.std.proofs.Common.{ap, sym, ◌∙◌, subst, arith}
use Rattle.tokens.specs.Budget.{is_spent, after_step}
use Rattle.tokens.specs.declared.token.Token.{Token}
use Rattle.tokens.specs.declared.stop.Stop.{Stop}
use Rattle.tokens.specs.declared.stop.Stop.TheVariants.{Spent}
use Rattle.catcode_eye.specs.declared.seen.Seen.{Seen}
use Rattle.catcode_eye.specs.declared.seen.Seen.TheVariants as seen
use Rattle.catcode_eye.specs.Outlook.{Outlook, next_seen, next_line_of}
use Rattle.pending.specs.declared.source.Origin.{Origin}
use Rattle.pending.specs.declared.source.Origin.TheVariants as origin
use Rattle.pending.specs.declared.source.Source.{Source}
use Rattle.pending.specs.declared.source.Sight.{Sight}
use Rattle.pending.specs.declared.source.Sight.TheVariants as sight
use Rattle.pending.specs.declared.waiting.Waiting.{Waiting}
use Rattle.pending.specs.declared.pending.Event.{Event}
use Rattle.pending.specs.declared.pending.Event.TheVariants as event
use Rattle.pending.specs.Did.{Did}
use Rattle.asking.specs.Did as asked
use Rattle.pending.specs.Origin.{with_line_taken}
use Rattle.pending.specs.Pending.{Item, Ready, From}
use Rattle.pending.specs.Take.{Looking, looking, with_eye, as_token, paid_to, used_up, with_next, at_line_end, by_seen, sight_over, next_sight, Reading, reading, by_paid, by_sight, event_of, next_event}
use Rattle.gullet.specs.State.{State}
use Rattle.gullet.specs.Events.{reading_of, with_reading, in_state, with_end_shown, next_event_of, take_event}
use Rattle.gullet.specs.RawToken.{is_end, ends_left}
use Rattle.gullet.specs.Parameters.{categories, end_line}

-- the end of the last line is told where it wasn't told before
record Tells (before after : Source) : Type 0 where
  was_open : before.is_ending ≡ false
  is_told : after.is_ending ≡ true

abbrev TellsOnce : (Looking → Did Looking Sight) → Type 0
TellsOnce f = (r l : Looking) → f r ≡ Ok (sight.Eof, l) → Tells r.source l.source

-- ---- values with their states

pairs : {A S E : Type 0} (p q : A × S) → (let one : Result (A × S) E = Ok p in one) ≡ Ok q → p ≡ q
pairs p q h = cc

values : {A S E : Type 0} (x y : A) (s t : S) → (let one : Result (A × S) E = Ok (x, s) in one) ≡ Ok (y, t) → x ≡ y
values {A} {S} {E} x y s t h = ap (λ (p : A × S). p.0) (pairs {E = E} (x, s) (y, t) h)

states : {A S E : Type 0} (x y : A) (s t : S) → (let one : Result (A × S) E = Ok (x, s) in one) ≡ Ok (y, t) → s ≡ t
states {A} {S} {E} x y s t h = ap (λ (p : A × S). p.1) (pairs {E = E} (x, s) (y, t) h)

-- an end is no value
no_value : {A E : Type 0} (b : Bool) (e d : E) (x : A) (P : Type 0)
    → (let both : Result A E = if b then Err e else Err d in both) ≡ Ok x → P
no_value true e d x P h = cc
no_value false e d x P h = cc

-- ---- of one source

-- one look is another
no_look : (x y : Sight) (u l : Looking) (P : Type 0) → (x ≡ y → ⊥) → (let one : Did Looking Sight = Ok (x, u) in one) ≡ Ok (y, l) → P
no_look x y u l P apart h = absurd (apart (values x y u l h))

-- a token is no end of a line
no_token : (t : Token) (u l : Looking) (P : Type 0) → (let one : Did Looking Sight = Ok (sight.Token t, u) in one) ≡ Ok (sight.Eof, l) → P
no_token t u l P h = no_look (sight.Token t) sight.Eof u l P (λ e. cc) h

-- nor is the end of a source
no_source : (u l : Looking) (P : Type 0) → (let one : Did Looking Sight = Ok (sight.End, u) in one) ≡ Ok (sight.Eof, l) → P
no_source u l P h = no_look sight.End sight.Eof u l P (λ e. cc) h

unspent : (r l : Looking) (P : Type 0) (b : Bool) (m : Did Looking Sight) → (m ≡ Ok (sight.Eof, l) → P)
    → (let both : Did Looking Sight = if b then Err (Spent, r) else m in both) ≡ Ok (sight.Eof, l) → P
unspent r l P true m f h = cc
unspent r l P false m f h = f h

-- the last line is used up
used_up-tells : (o : Origin) (r l : Looking) → r.source.is_ending ≡ false → used_up o r ≡ Ok (sight.Eof, l) → Tells r.source l.source
used_up-tells origin.FirstLine r l is h = no_source _ l (Tells r.source l.source) h
used_up-tells origin.File r l is h = record { was_open = is; is_told = ap (λ (x : Looking). x.source.is_ending) (sym (states _ _ _ l h)) }
used_up-tells origin.Pseudo r l is h = record { was_open = is; is_told = ap (λ (x : Looking). x.source.is_ending) (sym (states _ _ _ l h)) }

module _ (endline : ℤ) (f : Looking → Did Looking Sight) (once : TellsOnce f) where
  line-tells : (r l : Looking) (next : Result (Bool × Outlook) Stop) → with_next f r next ≡ Ok (sight.Eof, l) → Tells r.source l.source
  line-tells r l (Ok (is_taken, eye)) h =
      let further = once (looking (with_line_taken eye r.source) r.names _) l h in
      record { was_open = further.was_open; is_told = further.is_told }
  line-tells r l (Err stop) h = cc

  end-tells : (r l : Looking) (unread : List (List ℕ)) (b : Bool) → r.source.is_ending ≡ b → at_line_end endline f r unread b ≡ Ok (sight.Eof, l) → Tells r.source l.source
  end-tells r l unread true is h = no_source _ l (Tells r.source l.source) h
  end-tells r l [] false is h = used_up-tells r.source.origin r l is h
  end-tells r l (line ∷ lines) false is h =
      unspent r l (Tells r.source l.source) (is_spent r.budget) (with_next f r (next_line_of endline r.source.eye (line ∷ lines)))
      (line-tells r l (next_line_of endline r.source.eye (line ∷ lines))) h

  seen-tells : (r l : Looking) (s : Result (Seen × Outlook) Stop) → by_seen endline f r s ≡ Ok (sight.Eof, l) → Tells r.source l.source
  seen-tells r l (Ok (seen.LineEnd, eye)) h =
      let behind = end-tells (looking (with_eye eye r.source) r.names r.budget) l eye.unread r.source.is_ending refl h in
      record { was_open = behind.was_open; is_told = behind.is_told }
  seen-tells r l (Ok (seen.Char cat byte, eye)) h =
      unspent r l (Tells r.source l.source) (is_spent r.budget) (as_token (seen.Char cat byte) (paid_to eye r)) (no_token _ _ l (Tells r.source l.source)) h
  seen-tells r l (Ok (seen.Active byte, eye)) h =
      unspent r l (Tells r.source l.source) (is_spent r.budget) (as_token (seen.Active byte) (paid_to eye r)) (no_token _ _ l (Tells r.source l.source)) h
  seen-tells r l (Ok (seen.Word text, eye)) h =
      unspent r l (Tells r.source l.source) (is_spent r.budget) (as_token (seen.Word text) (paid_to eye r)) (no_token _ _ l (Tells r.source l.source)) h
  seen-tells r l (Ok (seen.Par, eye)) h =
      unspent r l (Tells r.source l.source) (is_spent r.budget) (as_token seen.Par (paid_to eye r)) (no_token _ _ l (Tells r.source l.source)) h
  seen-tells r l (Err stop) h = no_value (is_spent r.budget) (Spent, r) (stop, r) (sight.Eof, l) (Tells r.source l.source) h

sight_over-tells : (cats : List ℕ) (endline : ℤ) (lines : List (List ℕ)) → TellsOnce (sight_over cats endline lines)
unfolding sight_over
sight_over-tells cats endline [] r l h =
    seen-tells endline (λ t. Ok (sight.End, t)) (λ s t. no_source s t (Tells s.source t.source)) r l (next_seen cats r.source.eye) h
sight_over-tells cats endline (line ∷ lines) r l h =
    seen-tells endline (sight_over cats endline lines) (sight_over-tells cats endline lines) r l (next_seen cats r.source.eye) h

next_sight-tells : (cats : List ℕ) (endline : ℤ) → TellsOnce (next_sight cats endline)
unfolding next_sight
next_sight-tells cats endline r l h = sight_over-tells cats endline r.source.eye.unread r l h

-- ---- of all that is pending

abbrev Falls : List Item → Event → Reading → Type 0
Falls items e t = is_end e ≡ true → ends_left t.pending < ends_left items

falls-as : (items : List Item) (e d : Event) (s t : Reading) → (let one : Did Reading Event = Ok (e, s) in one) ≡ Ok (d, t) → Falls items e s → Falls items d t
falls-as items e d s t h f is =
    let same : s.pending ≡ t.pending = ap (λ (r : Reading). r.pending) (states e d s t h) in
    let P : List Item → Type 0 = λ left. ends_left left < ends_left items in
    subst P same (f (ap is_end (values e d s t h) ∙ is))

-- one end at least is left of a source
ends-some : (b : Bool) (n : ℕ) → n < (if b then 1 else 2) + n
ends-some true n = omega arith
ends-some false n = omega arith

told-falls : (before after : Bool) (n : ℕ) → before ≡ false → after ≡ true → (if after then 1 else 2) + n < (if before then 1 else 2) + n
told-falls true after n b a = cc
told-falls false true n b a = omega arith
told-falls false false n b a = cc

sight-falls : (source : Source) (rest : List Item) (m : Did Looking Sight) (e : Event) (t : Reading)
    → ((l : Looking) → m ≡ Ok (sight.Eof, l) → Tells source l.source) → by_sight rest m ≡ Ok (e, t) → Falls (From source ∷ rest) e t
sight-falls source rest (Ok (sight.Token token, l)) e t once h =
    falls-as (From source ∷ rest) (event.Token token false) e (reading (From l.source ∷ rest) l.names l.budget) t h (λ is. cc)
sight-falls source rest (Ok (sight.Eof, l)) e t once h =
    let told = once l refl in
    falls-as (From source ∷ rest) event.Eof e (reading (From l.source ∷ rest) l.names l.budget) t h
    (λ is. told-falls source.is_ending l.source.is_ending (ends_left rest) told.was_open told.is_told)
sight-falls source rest (Ok (sight.End, l)) e t once h =
    falls-as (From source ∷ rest) _ e (reading rest l.names l.budget) t h (λ is. ends-some source.is_ending (ends_left rest))
sight-falls source rest (Err (stop, l)) e t once h = cc

paid-falls : (waiting : Waiting) (rest items : List Item) (r : Reading) (paid : Bool) (e : Event) (t : Reading) → by_paid waiting rest r paid ≡ Ok (e, t) → Falls items e t
paid-falls waiting rest items r true e t h = falls-as items (event.Token waiting.token waiting.noexpand) e _ t h (λ is. cc)
paid-falls waiting rest items r false e t h = at (is_spent r.budget) h
  where
    at : (b : Bool) → (let both : Did Reading Event = if b then Err (Spent, r) else by_paid waiting rest (record r { budget = after_step r.budget }) true in both) ≡ Ok (e, t) → Falls items e t
    at true h = cc
    at false h = falls-as items (event.Token waiting.token waiting.noexpand) e _ t h (λ is. cc)

event-falls : (cats : List ℕ) (endline : ℤ) (items : List Item) (r : Reading) (e : Event) (t : Reading) → event_of cats endline items r ≡ Ok (e, t) → Falls items e t
event-falls cats endline [] r e t h = falls-as [] event.Empty e r t h (λ is. cc)
event-falls cats endline (Ready waiting ∷ rest) r e t h = paid-falls waiting rest (Ready waiting ∷ rest) r waiting.paid e t h
event-falls cats endline (From source ∷ rest) r e t h =
    sight-falls source rest (next_sight cats endline (looking source r.names r.budget)) e t
    (λ l. next_sight-tells cats endline (looking source r.names r.budget) l) h

-- with the end of a file shown
module _ (s t : State) (e : Event) (is : is_end e ≡ true) where
  as_left : (d : Event) (u : State) (left : List Item) → (let one : asked.Did State Event = Ok (d, u) in one) ≡ Ok (e, t) → u.pending ≡ left
      → (is_end d ≡ true → ends_left left < ends_left s.pending) → ends_left t.pending < ends_left s.pending
  as_left d u left h same falls =
      let there : t.pending ≡ left = ap (λ (r : State). r.pending) (sym (states d e u t h)) ∙ same in
      let P : List Item → Type 0 = λ items. ends_left items < ends_left s.pending in
      subst P (sym there) (falls (ap is_end (values d e u t h) ∙ is))

  shown-falls : (d : Event) (r : Reading) → Falls s.pending d r → with_end_shown (d, with_reading s r) ≡ Ok (e, t) → ends_left t.pending < ends_left s.pending
  shown-falls (event.Token token noexpand) r falls h = as_left _ _ r.pending h refl falls
  shown-falls event.Eof r falls h = as_left _ _ r.pending h refl falls
  shown-falls (event.SourceEnd true) r falls h = as_left _ _ r.pending h refl falls
  shown-falls (event.SourceEnd false) r falls h = as_left _ _ r.pending h refl falls
  shown-falls event.Empty r falls h = as_left _ _ r.pending h refl falls

  taken-falls : (m : Did Reading Event) → ((d : Event) (r : Reading) → m ≡ Ok (d, r) → Falls s.pending d r)
      → asked.◌>>=◌ (in_state s m) with_end_shown ≡ Ok (e, t) → ends_left t.pending < ends_left s.pending
  taken-falls (Ok (d, r)) falls h = shown-falls d r (falls d r refl) h
  taken-falls (Err (stop, r)) falls h = cc

-- an end that was told leaves fewer to be told
pub end-falls : (s t : State) (e : Event) → take_event s ≡ Ok (e, t) → is_end e ≡ true → ends_left t.pending < ends_left s.pending
unfolding take_event next_event_of
end-falls s t e h is =
    taken-falls s t e is (next_event (categories s.copies) (end_line s.copies) (reading_of s))
    (λ d r. event-falls (categories s.copies) (end_line s.copies) s.pending (reading_of s) d r) h
