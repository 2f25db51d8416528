-- Phrases that are read one inside another, by recursion (The TeXbook, chapters 20 and 24, where a number holds
-- expansions that hold numbers). A phrase of some kind, in some context, has taken a list of things. A turn of it takes one
-- more, or changes what is still to be read and leaves the phrase as it was, or finds that an inner phrase is to be read
-- first, or ends the phrase with a value. What the rules of a turn are is left open here.
--
-- The recursion is given a number of turns. Where they don't suffice it says nothing, as where memory runs out; where
-- they do, more turns mean the same.
use Rattle.std.specs.Prelude.{◌≡◌, ℕ, ◌+◌, Bool, true, false, List, [], ◌∷◌, ◌++◌, Result, Ok, Err, if◌then◌else◌}
use Rattle.std.proofs.Common.{zero, suc}
use Rattle.tokens.specs.declared.stop.Stop.{Stop}
use Rattle.tokens.specs.declared.stop.Stop.TheVariants.{Trouble, Capacity, Spent, ReadFault, WriteFault, OutOfMemory}
use Rattle.asking.specs.Did.{Did}
use Rattle.asking.specs.Meaning.{Meant, Meaning, Place, still, ◌>>=◌}

-- what a turn finds
pub data Found (K X Y : Type 0) : Type 0 where
  -- one thing more is taken
  More : X → Found K X Y
  -- the phrase goes on as it was
  Again : Found K X Y
  -- an inner phrase is read first, and what it tells is taken
  Inner : K → Found K X Y
  -- an inner phrase is read first, and the phrase goes on as it was
  Aside : K → Found K X Y
  -- the phrase ends
  Ends : Y → Found K X Y

-- the rules of phrases: a turn of one, the context inside which an inner one begins, or the end of the run there, and how
-- what it tells is taken
pub record Rules (S C K X Y : Type 0) : Type 0 where
  pub turn : C → K → List X → S → Meant S (Found K X Y)
  pub inside : C → K → S → Did S C
  pub got : Y → X

-- how a phrase goes on
abbrev pub Further : Type 0 → Type 0 → Type 0 → Type 0 → Type 0 → Type 0
Further S C K X Y = C → K → List X → S → Meant S Y

-- an inner phrase from its beginning
abbrev pub begun : {S C K X Y : Type 0} → Rules S C K X Y → Further S C K X Y → C → K → S → Meant S Y
begun r further c k s = still (r.inside c k s) >>= (λ t. further t.0 k [] t.1)

-- by what a turn found
abbrev pub after : {S C K X Y : Type 0} → Rules S C K X Y → Further S C K X Y → C → K → List X → Found K X Y × S → Meant S Y
after r further c k xs (More x, s) = further c k (xs ++ x ∷ []) s
after r further c k xs (Again, s) = further c k xs s
after r further c k xs (Inner j, s) = begun r further c j s >>= (λ t. further c k (xs ++ r.got t.0 ∷ []) t.1)
after r further c k xs (Aside j, s) = begun r further c j s >>= (λ t. further c k xs t.1)
after r further c k xs (Ends v, s) = still (Ok (v, s))

-- what a phrase comes to that has taken this
unfoldable pub gives : {S C K X Y : Type 0} → Rules S C K X Y → ℕ → C → K → List X → S → Meant S Y
gives r zero c k xs s = still (Err (OutOfMemory, s))
gives r (suc n) c k xs s = r.turn c k xs s >>= after r (gives r n) c k xs

-- ---- phrases that wait

-- an unfinished phrase that waits for the one inside it: how many turns it has behind that, and whether it takes what that
-- tells
pub record Waiting (C K X : Type 0) : Type 0 where
  pub turns : ℕ
  pub context : C
  pub kind : K
  pub taken : List X
  pub takes : Bool

abbrev pub with_told : {S C K X Y : Type 0} → Rules S C K X Y → Waiting C K X → Y → List X
with_told r w v = if w.takes then w.taken ++ r.got v ∷ [] else w.taken

-- the phrases around one that has told its value, the innermost first, are finished
unfoldable pub finish : {S C K X Y : Type 0} → Rules S C K X Y → List (Waiting C K X) → Y × S → Meant S Y
finish r [] t = still (Ok t)
finish r (w ∷ around) t = gives r w.turns w.context w.kind (with_told r w t.0) t.1 >>= finish r around

-- a phrase is finished, and then those around it
abbrev pub finish_all : {S C K X Y : Type 0} → Rules S C K X Y → List (Waiting C K X) → ℕ → C → K → List X → S → Meant S Y
finish_all r around n c k xs s = gives r n c k xs s >>= finish r around
