-- A call that does what a definition says keeps the condition where the definition does.
use Rattle.std.specs.Prelude.{◌≡◌, ℕ, ◌+◌, ◌==◌, Bool, true, cond, List, [], ◌∷◌, Option, Some, None, Result, Ok, Err}
use Rattle.std.specs.List.{AllByRecursion}
use Rattle.std.proofs.Common.{subst}
use Rattle.tokens.specs.declared.stop.Stop.{Stop}
use Rattle.tokens.specs.declared.stop.Stop.TheVariants.{Trouble, Capacity, Spent, ReadFault, WriteFault, OutOfMemory}
use Rattle.asking.specs.Did.{Did, DoesBy}
use Rattle.asking.specs.Meaning.{Place, Ask, Meant, step, asked_at}
use Rattle.asking.specs.Seen.{Outside, Seen, Told, DoesBesideBy}
use Rattle.gullet.specs.State.{State}
use Rattle.gullet.specs.Sound.{Known, known_of}
use Rattle.gullet.specs.SoundKept.{Anything, either, IsKept, IsAskKept, Keeps, KeepsAll}

-- what a call leaves, by its answer, where P is said of its value. Nothing is said where a write failed, or where memory ran
-- out
abbrev pub Leaves : {A : Type 0} → (Known → A → Type 0) → State → Result A Stop → State → Type 0
Leaves P s (Ok a) t = IsKept s t × P (known_of t) a
Leaves P s (Err (Trouble kind)) t = IsKept s t
Leaves P s (Err (Capacity cap)) t = IsKept s t
Leaves P s (Err Spent) t = IsKept s t
Leaves P s (Err ReadFault) t = IsKept s t
Leaves P s (Err WriteFault) t = Unit {0}
Leaves P s (Err OutOfMemory) t = Unit {0}

-- the state in which one of the files is asked for
abbrev IsFoundKept : State → Option (State × Place) → Type 0
IsFoundKept s None = Unit {0}
IsFoundKept s (Some (t, place)) = IsKept s t

asked_kept : (s : State) (number : ℕ) (asks : List (Ask State)) (place : Place) → AllByRecursion (IsAskKept s) asks → IsFoundKept s (asked_at number asks place)
unfolding asked_at
asked_kept s number [] place h = tt
asked_kept s number (ask ∷ rest) place h =
    either (IsFoundKept s) (number == place.asked + 1) (Some (ask.state, step ask.text place)) (asked_at number rest (step ask.text place)) h.0
    (asked_kept s number rest (step ask.text place) h.1)

what_is_told : (o : Outside) (Q : Type 0) → o.tells ≡ true → Told o Q → Q
what_is_told o Q tells h = let R : Bool → Type 0 = λ b. cond b Q (Unit {0}) in subst R tells h

module _ {A B : Type 0} (P : Known → A → Type 0) (view : B → A) (s t : State) where
  ends_ok : (d : Did State A) (a : A) → Keeps P s d → d ≡ Ok (a, t) → IsKept s t × P (known_of t) a
  ends_ok d a h e = let Q : Did State A → Type 0 = Keeps P s in subst Q e h

  ends_err : (d : Did State A) (stop : Stop) → Keeps P s d → d ≡ Err (stop, t) → IsKept s t
  ends_err d stop h e = let Q : Did State A → Type 0 = Keeps P s in subst Q e h

  -- a call that asks for nothing
  pub does_leaves : (result : Result B Stop) (d : Did State A) → Keeps P s d → DoesBy view result t d → Leaves (λ k b. P k (view b)) s result t
  does_leaves (Ok b) d h g = ends_ok d (view b) h g
  does_leaves (Err (Trouble kind)) d h g = ends_err d (Trouble kind) h g
  does_leaves (Err (Capacity cap)) d h g = ends_err d (Capacity cap) h g
  does_leaves (Err Spent) d h g = ends_err d Spent h g
  does_leaves (Err ReadFault) d h g = absurd g
  does_leaves (Err WriteFault) d h g = tt
  does_leaves (Err OutOfMemory) d h g = tt

  -- a call that may ask for files, where the world tells
  pub beside_leaves : (o : Outside) (old new : Seen) (result : Result B Stop) (m : Meant State A) → o.tells ≡ true → KeepsAll P s m
      → DoesBesideBy view o old new result t m → Leaves (λ k b. P k (view b)) s result t
  beside_leaves o old new (Ok b) m tells h g = ends_ok (m old.place).ends (view b) (h old.place).ends (what_is_told o _ tells g.1).0
  beside_leaves o old new (Err (Trouble kind)) m tells h g = ends_err (m old.place).ends (Trouble kind) (h old.place).ends (what_is_told o _ tells g.1).0
  beside_leaves o old new (Err (Capacity cap)) m tells h g = ends_err (m old.place).ends (Capacity cap) (h old.place).ends (what_is_told o _ tells g.1).0
  beside_leaves o old new (Err Spent) m tells h g = ends_err (m old.place).ends Spent (h old.place).ends (what_is_told o _ tells g.1).0
  beside_leaves o old new (Err ReadFault) m tells h g =
      let Q : Option (State × Place) → Type 0 = IsFoundKept s in subst Q (what_is_told o _ tells g.1) (asked_kept s new.place.asked (m old.place).asks old.place (h old.place).asks)
  beside_leaves o old new (Err WriteFault) m tells h g = tt
  beside_leaves o old new (Err OutOfMemory) m tells h g = tt

-- the two, of calls whose values of one type are seen as values of another
pub record KeepingLaw (A B : Type 0) : Type 0 where
  pub does : (view : B → A) (result : Result B Stop) (s t : State) (d : Did State A) → Keeps Anything s d → DoesBy view result t d → Leaves Anything s result t
  pub beside : (view : B → A) (o : Outside) (old new : Seen) (result : Result B Stop) (s t : State) (m : Meant State A) → o.tells ≡ true → KeepsAll Anything s m
      → DoesBesideBy view o old new result t m → Leaves Anything s result t

pub keeping_law : {A B : Type 0} → KeepingLaw A B
keeping_law = record {
  does = λ view result s t d h g. does_leaves Anything view s t result d h g;
  beside = λ view o old new result s t m tells h g. beside_leaves Anything view s t o old new result m tells h g;
}
