-- Taking a token as it stands keeps the condition.
use Rattle.std.specs.Prelude.{ℕ, Bool, Option, Some, None}
use Rattle.std.proofs.Common.{zero, suc}
use Rattle.tokens.specs.declared.token.Token.{Token}
use Rattle.pending.specs.declared.pending.Event.{Event}
use Rattle.pending.specs.declared.pending.Event.TheVariants as event
use Rattle.gullet.specs.Events.{take_event}
use Rattle.gullet.specs.RawToken.{by_raw, raw_past, ends_left, next_raw, some_token, one_token}
use Rattle.gullet.specs.State.{State}
use Rattle.gullet.specs.Sound.{Known, IsSoundToken, IsSoundEvent, IsSound, known_of}
use Rattle.asking.specs.Did.{Did}
use Rattle.gullet.specs.SoundKept.{IsKept, kept_itself, Keeps, keeps_did}
use Rattle.gullet.specs.SoundTaking.{event_kept}

-- a token that was taken, if one was
abbrev pub IsSoundRaw : Known → Option (Token × Bool) → Type 0
IsSoundRaw k None = Unit {0}
IsSoundRaw k (Some r) = IsSoundToken k r.0

-- by what came next
by_raw_kept : (further : State → Did State (Option (Token × Bool))) → ((s : State) → IsSound s → Keeps IsSoundRaw s (further s))
    → (e : Event) (s : State) → IsSound s → IsSoundEvent (known_of s) e → Keeps IsSoundRaw s (by_raw further (e, s))
by_raw_kept further goes_on (event.Token token noexpand) s h g = (kept_itself s h, g)
by_raw_kept further goes_on event.Eof s h g = goes_on s h
by_raw_kept further goes_on (event.SourceEnd printed) s h g = goes_on s h
by_raw_kept further goes_on event.Empty s h g = (kept_itself s h, tt)

past_kept : (ends : ℕ) (s : State) → IsSound s → Keeps IsSoundRaw s (raw_past ends s)
unfolding raw_past
past_kept zero s h = (kept_itself s h, tt)
past_kept (suc ends) s h =
    keeps_did IsSoundEvent IsSoundRaw s (take_event s) (by_raw (raw_past ends)) (event_kept s h)
    (λ e t k g. by_raw_kept (raw_past ends) (λ u i. past_kept ends u i) e t k.sound g)

pub next_raw_kept : (s : State) → IsSound s → Keeps IsSoundRaw s (next_raw s)
unfolding next_raw
next_raw_kept s h = past_kept (suc (ends_left s.pending)) s h

-- in a phrase
pub one_token_kept : (s : State) → IsSound s → Keeps (λ k r. IsSoundToken k r.0) s (one_token s)
unfolding one_token
one_token_kept s h = keeps_did IsSoundRaw (λ k r. IsSoundToken k r.0) s (next_raw s) some_token (next_raw_kept s h) at
  where
    at : (r : Option (Token × Bool)) (t : State) → IsKept s t → IsSoundRaw (known_of t) r → Keeps (λ k r. IsSoundToken k r.0) t (some_token (r, t))
    at None t k g = kept_itself t k.sound
    at (Some r) t k g = (kept_itself t k.sound, g)
