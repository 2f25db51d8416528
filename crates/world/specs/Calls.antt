-- What each call on a world does, by its answer. A world may tell what it holds; the relations say
-- what changes there. The two counts of faults are there in any case.
use Rattle.std.specs.Prelude.{◌≡◌, ◌≢◌, ◌⊎◌, ℕ, ◌<◌, ◌≤◌, List, [], take, Option, None, Some, Result, Ok, Err, Vec, refl}
use Rattle.std.proofs.Common.{arith}
use Rattle.std.specs.Option.{option_map}
use Rattle.std.specs.FinMap as tree
use Rattle.world.specs.declared.world.WorldError.{WorldError}
use Rattle.world.specs.declared.world.WorldError.TheVariants.{Failed, OutOfMemory}
use Rattle.world.specs.Told.{Told, last_count, after_fetch, with_file, with_added, with_shown}

-- a relation between what is told before and after. A world that doesn't tell claims nothing, and
-- none begins or ceases to tell
abbrev pub WhereTold : (Told → Told → Type 0) → Option Told → Option Told → Type 0
WhereTold P None None = Unit {0}
WhereTold P (Some t) None = ⊥
WhereTold P None (Some u) = ⊥
WhereTold P (Some t) (Some u) = P t u

-- a fetch answers what the name stands for, None where it is absent, and is counted. A failed one
-- is counted too, and one that wants memory isn't
abbrev pub FetchTells : {Z : Type 0} → List ℕ → Result (Option (Vec ℕ Z)) WorldError → Told → Told → Type 0
FetchTells name (Ok found) t u = (option_map (λ v. v.items) found ≡ tree.get t.files name) × (u ≡ after_fetch t)
FetchTells name (Err Failed) t u = u ≡ after_fetch t
FetchTells name (Err OutOfMemory) t u = u ≡ t

abbrev pub Fetches : {Z : Type 0} → List ℕ → Result (Option (Vec ℕ Z)) WorldError → Option Told → Option Told → Type 0
Fetches name result old new = WhereTold (FetchTells name result) old new

-- a name that is created stands for no bytes. On a refusal all is as before
abbrev pub CreateTells : List ℕ → Result (Unit {0}) WorldError → Told → Told → Type 0
CreateTells name (Ok _) t u = u ≡ with_file name [] t
CreateTells name (Err _) t u = u ≡ t

abbrev pub Creates : List ℕ → Result (Unit {0}) WorldError → Option Told → Option Told → Type 0
Creates name result old new = WhereTold (CreateTells name result) old new

-- bytes are added at the end of what the name stands for. On a refusal a first part of them was
-- added, or nothing happened at all
abbrev pub AppendTells : List ℕ → List ℕ → Result (Unit {0}) WorldError → Told → Told → Type 0
AppendTells name bytes (Ok _) t u = u ≡ with_added name bytes t
AppendTells name bytes (Err _) t u = (u ≡ t) ⊎ ((n : ℕ) × (u ≡ with_added name (take n bytes) t))

abbrev pub Appends : List ℕ → List ℕ → Result (Unit {0}) WorldError → Option Told → Option Told → Type 0
Appends name bytes result old new = WhereTold (AppendTells name bytes result) old new

-- bytes are added to the terminal. On a refusal a first part of them was
abbrev pub ShowTells : List ℕ → Result (Unit {0}) WorldError → Told → Told → Type 0
ShowTells bytes (Ok _) t u = u ≡ with_shown bytes t
ShowTells bytes (Err _) t u = (n : ℕ) × (u ≡ with_shown (take n bytes) t)

abbrev pub Shows : List ℕ → Result (Unit {0}) WorldError → Option Told → Option Told → Type 0
Shows bytes result old new = WhereTold (ShowTells bytes result) old new

-- a count of faults at a failed call: it rises. Only where the world doesn't tell, and its count
-- stands at the last value, may it stay
abbrev pub Rises : Option Told → ℕ → ℕ → Type 0
Rises (Some t) before now = before < now
Rises None before now = (before ≤ now) × (before ≢ last_count → before < now)

-- a count of faults through a call that may raise it: the call answers Failed only where it rises
abbrev pub Counts : {A : Type 0} → Option Told → Result A WorldError → ℕ → ℕ → Type 0
Counts told (Ok _) before now = now ≡ before
Counts told (Err Failed) before now = Rises told before now
Counts told (Err OutOfMemory) before now = now ≡ before

-- ---- laws

-- a world that tells goes on telling
pub told_after : (P : Told → Told → Type 0) (t : Told) (new : Option Told) → WhereTold P (Some t) new → (u : Told) × (new ≡ Some u) × P t u
told_after P t None h = absurd h
told_after P t (Some u) h = (u, refl, h)

-- a count of faults never falls
pub never_falls : {A : Type 0} (told : Option Told) (result : Result A WorldError) (before now : ℕ) → Counts told result before now → before ≤ now
never_falls told (Ok _) before now h = omega arith
never_falls (Some t) (Err Failed) before now h = omega arith
never_falls None (Err Failed) before now h = h.0
never_falls told (Err OutOfMemory) before now h = omega arith

-- where a world tells and its count stays, the call didn't fail
pub not_failed : {A : Type 0} (t : Told) (result : Result A WorldError) (before now : ℕ) → Counts (Some t) result before now → now ≡ before → result ≢ Err Failed
not_failed t (Ok _) before now h e = λ f. cc
not_failed t (Err Failed) before now h e = λ f. omega arith
not_failed t (Err OutOfMemory) before now h e = λ f. cc
