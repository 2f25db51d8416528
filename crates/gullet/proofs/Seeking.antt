-- The loops of the calls from outside: what finishing from here comes to, finishing from the start comes to.
use Rattle.std.specs.Prelude.{◌≡◌, refl, ℕ, ◌<◌, Bool, true, false, if◌then◌else◌, Option, Some, None, Result, Ok, Err}
use Rattle.std.proofs.Common.{zero, suc, ap, sym, ◌∙◌, subst, arith}
use Rattle.tokens.specs.declared.stop.Stop.{Stop}
use Rattle.tokens.specs.declared.stop.Stop.TheVariants.{Trouble, Capacity, Spent, ReadFault, WriteFault, OutOfMemory}
use Rattle.tokens.specs.declared.token.Token.{Token}
use Rattle.pending.specs.declared.pending.Event.{Event}
use Rattle.asking.specs.Did.{Did, Does, Ended}
use Rattle.asking.specs.Did as did
use Rattle.asking.specs.Meaning.{Meant, ◌>>=◌}
use Rattle.asking.specs.Seen.{Outside, Seen, DoesBeside}
use Rattle.asking.specs.Asked.{cut_later, prefix_same}
use Rattle.asking.specs.Leads.{told, does_then, does_end, does_still}
use Rattle.gullet.specs.declared.unexpandable.Sought.{Sought}
use Rattle.gullet.specs.declared.unexpandable.Sought.TheVariants as sought
use Rattle.gullet.specs.Events.{take_event}
use Rattle.gullet.specs.Expansion.{most_turns}
use Rattle.gullet.specs.RawToken.{is_end, raw_of, ends_left, by_raw, raw_past, next_raw}
use Rattle.gullet.specs.State.{State}
use Rattle.gullet.specs.Unexpandable.{Flagged, seek_once, behind_look, seek, next_unexpandable}
use Rattle.gullet.proofs.Ends.{end-falls}

-- ---- the next token as it stands

-- the next token of a state by what comes next there
abbrev past_by : ℕ → Did State Event → Did State (Option (Token × Bool))
past_by n m = did.◌>>=◌ m (by_raw (raw_past n))

abbrev behind : ℕ → State → Event → Bool → Did State (Option (Token × Bool))
behind n t e b = if b then raw_past n t else Ok (raw_of e, t)

-- so many ends may be passed, and fewer are left
pub record Passes (first s : State) : Type 0 where
  pub past : ℕ
  pub enough : ends_left s.pending < past
  pub same : raw_past past s ≡ next_raw first

-- one turn of it
record Turns (first s : State) : Type 0 where
  past : ℕ
  enough : ends_left s.pending < suc past
  same : past_by past (take_event s) ≡ next_raw first

turns-of : (first s : State) → Passes first s → Turns first s
unfolding raw_past
turns-of first s p = at p.past p.enough p.same
  where
    at : (past : ℕ) → ends_left s.pending < past → raw_past past s ≡ next_raw first → Turns first s
    at zero enough same = absurd (omega (arith, enough))
    at (suc n) enough same = record { past = n; enough = enough; same = same }

-- fewer ends are left
pub passes_less : (s t : State) (e : Event) → is_end e ≡ true → take_event s ≡ Ok (e, t) → ends_left t.pending < ends_left s.pending
passes_less s t e is h = end-falls s t e h is

module _ {first : State} where
  pub passes_start : Passes first first
  unfolding next_raw
  passes_start = record { past = suc (ends_left first.pending); enough = omega arith; same = refl }

module _ {first s : State} where
  -- an end was passed
  pub passes_end : (t : State) (e : Event) → is_end e ≡ true → Passes first s → take_event s ≡ Ok (e, t) → Passes first t
  passes_end t e is p h =
      let now = turns-of first s p in
      let less = end-falls s t e h is in
      record {
        past = now.past;
        enough = (let before = now.enough in omega (arith, less, before));
        same = sym (ap (λ (b : Bool). behind now.past t e b) is) ∙ ap (past_by now.past) (sym h) ∙ now.same;
      }

  -- a token came next, or nothing
  pub passes_token : (t : State) (e : Event) → is_end e ≡ false → Passes first s → take_event s ≡ Ok (e, t) → next_raw first ≡ Ok (raw_of e, t)
  passes_token t e is p h =
      let now = turns-of first s p in
      sym now.same ∙ ap (past_by now.past) h ∙ ap (λ (b : Bool). behind now.past t e b) is

  pub passes_stop : (t : State) (stop : Stop) → Passes first s → Ended stop t (take_event s) → Ended stop t (next_raw first)
  passes_stop t (Trouble kind) p h = let now = turns-of first s p in sym now.same ∙ ap (past_by now.past) h
  passes_stop t (Capacity cap) p h = let now = turns-of first s p in sym now.same ∙ ap (past_by now.past) h
  passes_stop t Spent p h = let now = turns-of first s p in sym now.same ∙ ap (past_by now.past) h
  passes_stop t ReadFault p h = h
  passes_stop t WriteFault p h = h
  passes_stop t OutOfMemory p h = tt

-- ---- with expansion

-- so many looks more
pub record Seeks (o : Outside) (old now : Seen) (first s : State) (left : ℕ) : Type 0 where
  pub from : (new : Seen) (result : Result Flagged Stop) (t : State) → DoesBeside o now new result t (seek o left s)
      → DoesBeside o old new result t (next_unexpandable o first)

-- one look, and what follows
abbrev seek_by : Outside → ℕ → State → Meant State Flagged
seek_by o n s = seek_once o s >>= behind_look (seek o n)

-- what one look and what follows comes to, finishing from the start comes to
abbrev Looks : Outside → Seen → Seen → State → State → ℕ → Type 0
Looks o old now first s n = (new : Seen) (result : Result Flagged Stop) (t : State) → DoesBeside o now new result t (seek_by o n s)
    → DoesBeside o old new result t (next_unexpandable o first)

module _ {o : Outside} {old : Seen} {first : State} where
  pub seeks_start : Seeks o old old first first 18446744073709551615
  unfolding next_unexpandable most_turns
  seeks_start = record { from = λ new result t h. h }

module _ {o : Outside} {old now : Seen} {first s : State} {left : ℕ} where
  look : (n : ℕ) → left ≡ suc n → Seeks o old now first s left → Looks o old now first s n
  unfolding seek
  look n is w = let P : ℕ → Type 0 = λ k. Seeks o old now first s k in (subst P is w).from

  -- it is looked at again
  pub seeks_again : (new : Seen) (t : State) (n : ℕ) → left ≡ suc n → Seeks o old now first s left → DoesBeside o now new (Ok sought.Again) t (seek_once o s)
      → Seeks o old new first t n
  seeks_again new t n is w h = record {
    from = λ end result u g. look n is w end result u (does_then o now new (seek_once o s) (behind_look (seek o n)) end sought.Again t u result h g);
  }

  pub seeks_token : (new : Seen) (t : State) (token : Token) (noexpand : Bool) (n : ℕ) → left ≡ suc n → Seeks o old now first s left → DoesBeside o now new (Ok (sought.Token token noexpand)) t (seek_once o s)
      → DoesBeside o old new (Ok (Some (token, noexpand))) t (next_unexpandable o first)
  seeks_token new t token noexpand n is w h =
      look n is w new (Ok (Some (token, noexpand))) t
      (does_then o now new (seek_once o s) (behind_look (seek o n)) new (sought.Token token noexpand) t t (Ok (Some (token, noexpand))) h (does_still o new (Some (token, noexpand)) t))

  pub seeks_nothing : (new : Seen) (t : State) (n : ℕ) → left ≡ suc n → Seeks o old now first s left → DoesBeside o now new (Ok sought.Nothing) t (seek_once o s)
      → DoesBeside o old new (Ok None) t (next_unexpandable o first)
  seeks_nothing new t n is w h =
      look n is w new (Ok None) t
      (does_then o now new (seek_once o s) (behind_look (seek o n)) new sought.Nothing t t (Ok None) h (does_still o new None t))

  pub seeks_stop : (new : Seen) (t : State) (stop : Stop) (n : ℕ) → left ≡ suc n → Seeks o old now first s left → DoesBeside {A = Sought} o now new (Err stop) t (seek_once o s)
      → DoesBeside {A = Flagged} o old new (Err stop) t (next_unexpandable o first)
  seeks_stop new t stop n is w h = look n is w new (Err stop) t (does_end o now new (seek_once o s) (behind_look (seek o n)) t stop h)

  -- no look is left
  pub seeks_out : (t : State) → Seeks o old now first s left → DoesBeside {A = Flagged} o old now (Err OutOfMemory) t (next_unexpandable o first)
  seeks_out t w =
      w.from now (Err OutOfMemory) t
      ((refl, refl, refl), told o _ (cut_later now.place.shown (seek o left s now.place).asks now.place (prefix_same now.place.shown)))

pub ruleset passing = (passes_start, passes_end, passes_less, passes_token, passes_stop)

pub ruleset seeking = (seeks_start, seeks_again, seeks_token, seeks_nothing, seeks_stop, seeks_out)
