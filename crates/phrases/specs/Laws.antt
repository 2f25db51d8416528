-- What holds of phrases one inside another, whatever their rules are.
use Rattle.std.specs.Prelude.{◌≡◌, refl, ℕ, ◌≤◌, Bool, true, false, List, [], ◌∷◌, ◌++◌, Ok, Err}
use Rattle.std.proofs.Common.{zero, suc, ap, sym, ◌∙◌, arith}
use Rattle.tokens.specs.declared.stop.Stop.{Stop}
use Rattle.tokens.specs.declared.stop.Stop.TheVariants.{Trouble, Capacity, Spent, ReadFault, WriteFault, OutOfMemory}
use Rattle.asking.specs.Did.{Did}
use Rattle.asking.specs.Meaning.{Meant, Meaning, Place, Ask, walk, still, ◌>>=◌, followed, asks_after, ends_after}
use Rattle.phrases.specs.Phrases.{Found, More, Again, Inner, Aside, Ends, Rules, Further, begun, after, gives}

-- whether something ended otherwise than for want of memory, or of turns
abbrev pub is_end : Stop → Bool
is_end (Trouble kind) = true
is_end (Capacity cap) = true
is_end Spent = true
is_end ReadFault = true
is_end WriteFault = true
is_end OutOfMemory = false

abbrev pub is_finished : {S A : Type 0} → Did S A → Bool
is_finished (Ok t) = true
is_finished (Err (stop, s)) = is_end stop

-- what a phrase comes to is what it comes to behind one turn, with one turn fewer
abbrev pub NextLaw : {S C K X Y : Type 0} → Rules S C K X Y → Type 0
NextLaw {S} {C} {K} {X} {Y} r = (n : ℕ) (c : C) (k : K) (xs : List X) (s : S) → gives r (suc n) c k xs s ≡ (r.turn c k xs s >>= after r (gives r n) c k xs)

-- where so many turns suffice, more turns mean the same
abbrev pub EnoughLaw : {S C K X Y : Type 0} → Rules S C K X Y → Type 0
EnoughLaw {S} {C} {K} {X} {Y} r = (n m : ℕ) → n ≤ m → (c : C) (k : K) (xs : List X) (s : S) (place : Place)
    → is_finished (gives r n c k xs s place).ends ≡ true → gives r m c k xs s place ≡ gives r n c k xs s place

pub record NestingLaw (S C K X Y : Type 0) : Type 0 where
  pub next : (r : Rules S C K X Y) → NextLaw r
  pub enough : (r : Rules S C K X Y) → EnoughLaw r

-- ---- laws

-- what follows is finished where both are
first_finished : {S A B : Type 0} (m : Meaning S A) (f : A × S → Meant S B) (place : Place) → is_finished (followed m f place).ends ≡ true → is_finished m.ends ≡ true
first_finished {S} {A} {B} m f place h = at m.ends h
  where
    at : (ends : Did S A) → is_finished (ends_after ends f (walk m.asks place)) ≡ true → is_finished ends ≡ true
    at (Ok t) h = refl
    at (Err e) h = h

-- what follows matters where it is reached alone
then_same : {S A B : Type 0} (m : Meaning S A) (f g : A × S → Meant S B) (place : Place) → is_finished (followed m f place).ends ≡ true
    → ((t : A × S) (p : Place) → is_finished (f t p).ends ≡ true → g t p ≡ f t p) → followed m g place ≡ followed m f place
then_same {S} {A} {B} m f g place h same = at m.ends h
  where
    at : (ends : Did S A) → is_finished (ends_after ends f (walk m.asks place)) ≡ true
        → (let one : Meaning S B = record { asks = m.asks ++ asks_after ends g (walk m.asks place); ends = ends_after ends g (walk m.asks place) } in one)
        ≡ (let other : Meaning S B = record { asks = m.asks ++ asks_after ends f (walk m.asks place); ends = ends_after ends f (walk m.asks place) } in other)
    at (Ok t) h = ap (λ (x : Meaning S B). let one : Meaning S B = record { asks = m.asks ++ x.asks; ends = x.ends } in one) (same t (walk m.asks place) h)
    at (Err e) h = refl

module _ {S C K X Y : Type 0} (r : Rules S C K X Y) (f g : Further S C K X Y)
    (same : (c : C) (k : K) (xs : List X) (s : S) (p : Place) → is_finished (f c k xs s p).ends ≡ true → g c k xs s p ≡ f c k xs s p) where
  begun_same : (c : C) (k : K) (s : S) (place : Place) → is_finished (begun r f c k s place).ends ≡ true → begun r g c k s place ≡ begun r f c k s place
  begun_same c k s place h =
      then_same (still (r.inside c k s) place) (λ t. f t.0 k [] t.1) (λ t. g t.0 k [] t.1) place h (λ t p a. same t.0 k [] t.1 p a)

  both_same : {A : Type 0} (c : C) (k : K) (s : S) (place : Place) (x y : Y × S → Meant S A) → is_finished (followed (begun r f c k s place) x place).ends ≡ true
      → ((t : Y × S) (p : Place) → is_finished (x t p).ends ≡ true → y t p ≡ x t p)
      → followed (begun r g c k s place) y place ≡ followed (begun r f c k s place) x place
  both_same {A} c k s place x y h behind =
      ap (λ (m : Meaning S Y). followed m y place) (begun_same c k s place (first_finished (begun r f c k s place) x place h))
      ∙ then_same (begun r f c k s place) x y place h behind

  after_same : (c : C) (k : K) (xs : List X) (t : Found K X Y × S) (place : Place) → is_finished (after r f c k xs t place).ends ≡ true
      → after r g c k xs t place ≡ after r f c k xs t place
  after_same c k xs (More x, s) place h = same c k (xs ++ x ∷ []) s place h
  after_same c k xs (Again, s) place h = same c k xs s place h
  after_same c k xs (Inner j, s) place h =
      both_same c j s place (λ t. f c k (xs ++ r.got t.0 ∷ []) t.1) (λ t. g c k (xs ++ r.got t.0 ∷ []) t.1) h (λ t p a. same c k (xs ++ r.got t.0 ∷ []) t.1 p a)
  after_same c k xs (Aside j, s) place h =
      both_same c j s place (λ t. f c k xs t.1) (λ t. g c k xs t.1) h (λ t p a. same c k xs t.1 p a)
  after_same c k xs (Ends v, s) place h = refl

module _ {S C K X Y : Type 0} (r : Rules S C K X Y) where
  pub next_law : NextLaw r
  unfolding gives
  next_law n c k xs s = refl

  pub enough_law : EnoughLaw r
  unfolding gives
  enough_law zero m le c k xs s place h = cc
  enough_law (suc n) zero le c k xs s place h = absurd (omega (arith, le))
  enough_law (suc n) (suc m) le c k xs s place h =
      then_same (r.turn c k xs s place) (after r (gives r n) c k xs) (after r (gives r m) c k xs) place h
      (λ t p a. after_same r (gives r n) (gives r m) (λ d j ys u q b. enough_law n m (omega (arith, le)) d j ys u q b) c k xs t p a)

pub nesting_law : {S C K X Y : Type 0} → NestingLaw S C K X Y
nesting_law = record { next = λ r. next_law r; enough = λ r. enough_law r }
