-- Expansion keeps the condition of its calls: where a state is sound, so is each in which a file is asked for and the one
-- that is left, no name is lost and no name's text changes, and each font stays as it is.
use Rattle.std.specs.Prelude.{ℕ, ℤ, Bool, List, Option}
use Rattle.tokens.specs.declared.token.Token.{Token}
use Rattle.pending.specs.Pending.{with_list, with_back}
use Rattle.asking.specs.Seen.{Outside}
use Rattle.phrases.specs.Phrases.{gives}
use Rattle.gullet.specs.declared.context.Context.{Context}
use Rattle.gullet.specs.declared.task.Task.{Task}
use Rattle.gullet.specs.declared.task.Act.{Act}
use Rattle.gullet.specs.declared.task.Want.{Want}
use Rattle.gullet.specs.Acts.{look_by, look_register, perform}
use Rattle.gullet.specs.Events.{take_event}
use Rattle.gullet.specs.Expansion.{by_want, rules, outcome}
use Rattle.gullet.specs.RawToken.{next_raw}
use Rattle.gullet.specs.State.{State}
use Rattle.gullet.specs.Wants.{Taken, wants}
use Rattle.gullet.specs.Sound.{Known, IsSoundToken, AreSoundTokens, IsSoundEvent, IsSound, known_of}
use Rattle.gullet.specs.SoundPhrases.{IsSoundTask, IsSoundTold, AreSoundTaken, IsSoundAct, IsSoundWant, IsSoundFound}
use Rattle.gullet.specs.SoundKept.{IsKept, Keeps, KeepsAll}
use Rattle.gullet.specs.SoundTaking.{event_kept}
use Rattle.gullet.specs.SoundRaw.{IsSoundRaw, next_raw_kept}
use Rattle.gullet.specs.SoundWants.{wants_sound}
use Rattle.gullet.specs.SoundActs.{TellsNegatable, pending_kept, list_kept, register_kept, look_kept, perform_kept}
use Rattle.gullet.specs.SoundStart.{IsStart, start_sound}
use Rattle.gullet.specs.SoundTurns.{want_kept, phrase_kept, outcome_kept}

pub record SoundLaw : Type 0 where
  -- the start of a run
  pub start : (extended : Bool) (line : List ℕ) (s : State) → IsStart extended line s → IsSound s
  -- tokens that are put in front
  pub pushed : (list : List Token) (s : State) → IsSound s → AreSoundTokens (known_of s) list → IsKept s (record s { pending = with_list list s.pending })
  pub back : (t : Token) (noexpand paid : Bool) (s : State) → IsSound s → IsSoundToken (known_of s) t → IsKept s (record s { pending = with_back t noexpand paid s.pending })
  -- what comes next
  pub event : (s : State) → IsSound s → Keeps IsSoundEvent s (take_event s)
  pub next_raw : (s : State) → IsSound s → Keeps IsSoundRaw s (next_raw s)
  -- what is done
  pub act : (o : Outside) (act : Act) (s : State) → IsSound s → IsSoundAct (known_of s) act → KeepsAll IsSoundTold s (perform o act s)
  -- what is looked at is a number that has a negative
  pub look : (code : ℕ) (place : Option ℕ) (s : State) → IsSound s → Keeps TellsNegatable s (look_by code place s)
  pub look_register : (code : ℕ) (n : ℤ) (s : State) → IsSound s → Keeps TellsNegatable s (look_register code n s)
  -- what a phrase wants, and what its turn finds
  pub wanted : (k : Known) (c : Context) (kind : Task) (taken : List Taken) → IsSoundTask k kind → AreSoundTaken k taken → IsSoundWant k (wants c kind taken)
  pub turn : (o : Outside) (c : Context) (w : Want) (s : State) → IsSound s → IsSoundWant (known_of s) w → KeepsAll IsSoundFound s (by_want o c s w)
  -- what a phrase gives, and what it comes to from its beginning
  pub phrase : (o : Outside) (n : ℕ) (c : Context) (kind : Task) (taken : List Taken) (s : State) → IsSound s → IsSoundTask (known_of s) kind → AreSoundTaken (known_of s) taken
      → KeepsAll IsSoundTold s (gives (rules o) n c kind taken s)
  pub outcome : (o : Outside) (c : Context) (kind : Task) (s : State) → IsSound s → IsSoundTask (known_of s) kind → KeepsAll IsSoundTold s (outcome o c kind s)

pub sound_law : SoundLaw
sound_law = record {
  start = start_sound;
  pushed = list_kept;
  back = λ t noexpand paid s h g. pending_kept s h (with_back t noexpand paid s.pending) (g, h.pending);
  event = event_kept;
  next_raw = next_raw_kept;
  act = perform_kept;
  look = look_kept;
  look_register = register_kept;
  wanted = wants_sound;
  turn = want_kept;
  phrase = phrase_kept;
  outcome = outcome_kept;
}
