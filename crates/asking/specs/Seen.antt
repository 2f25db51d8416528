-- What is seen of the world by a call that may ask it, and what such a call says: one clause.
use Rattle.std.specs.Prelude.{◌≡◌, ◌≢◌, ℕ, ◌<◌, ◌≤◌, Bool, true, false, cond, ◌&&◌, ◌==◌, List, [], ◌∷◌, Option, Some, Result, Ok, Err}
use Rattle.tokens.specs.declared.stop.Stop.{Stop}
use Rattle.tokens.specs.declared.stop.Stop.TheVariants.{Trouble, Capacity, Spent, ReadFault, WriteFault, OutOfMemory}
use Rattle.world.specs.Told.{last_count}
use Rattle.asking.specs.Did.{Did}
use Rattle.asking.specs.Meaning.{Place, Meant, walk, asked_at}

-- what stands outside: whether the world tells, and then what each name stands for, if it stands for anything
pub record Outside : Type 0 where
  pub tells : Bool
  pub files : List ℕ → Option (List ℕ)

-- what was done outside, how many reads and writes have failed, and which world it is
pub record Seen : Type 0 where
  pub place : Place
  pub reads : ℕ
  pub writes : ℕ
  pub which : ℕ

-- a count of failed calls rose. Only where the world doesn't tell, and its count stands at the last value, may it
-- stay
abbrev pub Rose : Bool → ℕ → ℕ → Type 0
Rose tells before now = cond tells (before < now) ((before ≤ now) × (before ≢ last_count → before < now))

-- nothing failed
abbrev pub Calm : Seen → Seen → Type 0
Calm old new = (new.which ≡ old.which) × (new.reads ≡ old.reads) × (new.writes ≡ old.writes)

-- a read failed, and no write
abbrev pub Misread : Outside → Seen → Seen → Type 0
Misread o old new = (new.which ≡ old.which) × Rose o.tells old.reads new.reads × (new.writes ≡ old.writes)

-- a write failed, and no read
abbrev pub Miswrote : Outside → Seen → Seen → Type 0
Miswrote o old new = (new.which ≡ old.which) × (new.reads ≡ old.reads) × Rose o.tells old.writes new.writes

-- whether a list begins with another
unfoldable pub is_prefix : List ℕ → List ℕ → Bool
is_prefix [] ys = true
is_prefix (x ∷ xs) [] = false
is_prefix (x ∷ xs) (y ∷ ys) = (x == y) && is_prefix xs ys

-- a fact of a world that tells
abbrev pub Told : Outside → Type 0 → Type 0
Told o P = cond o.tells P (Unit {0})

-- it went as the definition says: it gives what the call answered, and all that it asks for was asked for
abbrev pub Went : {S A : Type 0} → Outside → Seen → Seen → Meant S A → Did S A → Type 0
Went o old new m did =
    Calm old new × Told o (((m old.place).ends ≡ did) × (new.place ≡ walk (m old.place).asks old.place))

-- it was cut short: what was shown is a beginning of what the definition shows
abbrev pub IsCut : {S A : Type 0} → Outside → Seen → Seen → Meant S A → Type 0
IsCut o old new m = Told o (is_prefix new.place.shown (walk (m old.place).asks old.place).shown ≡ true)

-- a call that may ask, by its answer, which is seen by `view`, and the state that it left. Where a read failed, the
-- state is the one in which the file of that number is asked for
abbrev pub DoesBesideBy : {S A B : Type 0} → (B → A) → Outside → Seen → Seen → Result B Stop → S → Meant S A → Type 0
DoesBesideBy view o old new (Ok value) state m = Went o old new m (Ok (view value, state))
DoesBesideBy view o old new (Err (Trouble kind)) state m = Went o old new m (Err (Trouble kind, state))
DoesBesideBy view o old new (Err (Capacity cap)) state m = Went o old new m (Err (Capacity cap, state))
DoesBesideBy view o old new (Err Spent) state m = Went o old new m (Err (Spent, state))
DoesBesideBy view o old new (Err ReadFault) state m =
    Misread o old new × Told o (asked_at new.place.asked (m old.place).asks old.place ≡ Some (state, new.place))
DoesBesideBy view o old new (Err WriteFault) state m = Miswrote o old new × IsCut o old new m
DoesBesideBy view o old new (Err OutOfMemory) state m = Calm old new × IsCut o old new m

abbrev pub DoesBeside : {S A : Type 0} → Outside → Seen → Seen → Result A Stop → S → Meant S A → Type 0
DoesBeside o old new result state m = DoesBesideBy (λ value. value) o old new result state m
