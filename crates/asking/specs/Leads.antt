-- What is said of one call, and of what follows it, is said of both; and of as many as a loop makes.
use Rattle.std.specs.Prelude.{◌≡◌, refl, ℕ, ◌<◌, ◌≤◌, Bool, true, false, cond, List, [], ◌++◌, Option, Some, Result, Ok, Err, is_some}
use Rattle.std.proofs.Common.{zero, suc, ap, sym, ◌∙◌, subst, arith}
use Rattle.tokens.specs.declared.stop.Stop.{Stop}
use Rattle.tokens.specs.declared.stop.Stop.TheVariants.{Trouble, Capacity, Spent, ReadFault, WriteFault, OutOfMemory}
use Rattle.asking.specs.Did.{Did}
use Rattle.asking.specs.Meaning.{Place, Ask, Meant, walk, asked_at, asks_after, ends_after, still, ◌>>=◌}
use Rattle.asking.specs.Seen.{Outside, Seen, Calm, Misread, Miswrote, Rose, Told, Went, IsCut, DoesBeside, is_prefix}
use Rattle.asking.specs.Asked.{walk_two, walk_none, at_first, at_then, cut_later}
use Rattle.asking.specs.Loops.{at_most, go_on, rounds}

-- what follows from what is told
pub tell_map : (o : Outside) (P Q : Type 0) → (P → Q) → Told o P → Told o Q
tell_map o P Q f = at o.tells
  where
    at : (b : Bool) → cond b P (Unit {0}) → cond b Q (Unit {0})
    at true h = f h
    at false h = tt

pub tell_two : (o : Outside) (P Q R : Type 0) → (P → Q → R) → Told o P → Told o Q → Told o R
tell_two o P Q R f = at o.tells
  where
    at : (b : Bool) → cond b P (Unit {0}) → cond b Q (Unit {0}) → cond b R (Unit {0})
    at true h g = f h g
    at false h g = tt

pub told : (o : Outside) (P : Type 0) → P → Told o P
told o P h = at o.tells
  where
    at : (b : Bool) → cond b P (Unit {0})
    at true = h
    at false = tt

-- one calm call, and then another
calm_then : (s t u : Seen) → Calm s t → Calm t u → Calm s u
calm_then s t u h g = (g.0 ∙ h.0, g.1 ∙ h.1, g.2 ∙ h.2)

misread_then : (o : Outside) (s t u : Seen) → Calm s t → Misread o t u → Misread o s u
misread_then o s t u h g = (g.0 ∙ h.0, (let P : ℕ → Type 0 = λ n. Rose o.tells n u.reads in subst P h.1 g.1), g.2 ∙ h.2)

miswrote_then : (o : Outside) (s t u : Seen) → Calm s t → Miswrote o t u → Miswrote o s u
miswrote_then o s t u h g = (g.0 ∙ h.0, g.1 ∙ h.1, (let P : ℕ → Type 0 = λ n. Rose o.tells n u.writes in subst P h.2 g.2))

module _ {S A B : Type 0} (o : Outside) (old mid : Seen) (m : Meant S A) (further : A × S → Meant S B) where
  -- the whole's asking, by the first part's end
  asks_are : (done : A × S) → (m old.place).ends ≡ Ok done → mid.place ≡ walk (m old.place).asks old.place
      → ((m >>= further) old.place).asks ≡ (m old.place).asks ++ (further done mid.place).asks
  asks_are done e w =
      ap (λ (d : Did S A). (m old.place).asks ++ asks_after d further (walk (m old.place).asks old.place)) e
      ∙ ap (λ (p : Place). (m old.place).asks ++ (further done p).asks) (sym w)

  ends_are : (done : A × S) → (m old.place).ends ≡ Ok done → mid.place ≡ walk (m old.place).asks old.place
      → ((m >>= further) old.place).ends ≡ (further done mid.place).ends
  ends_are done e w =
      ap (λ (d : Did S A). ends_after d further (walk (m old.place).asks old.place)) e ∙ ap (λ (p : Place). (further done p).ends) (sym w)

  walk_is : (done : A × S) → (m old.place).ends ≡ Ok done → mid.place ≡ walk (m old.place).asks old.place
      → walk ((m >>= further) old.place).asks old.place ≡ walk (further done mid.place).asks mid.place
  walk_is done e w =
      ap (λ (asks : List (Ask S)). walk asks old.place) (asks_are done e w)
      ∙ walk_two (m old.place).asks (further done mid.place).asks old.place
      ∙ ap (λ (p : Place). walk (further done mid.place).asks p) (sym w)

  First : A × S → Type 0
  First done = ((m old.place).ends ≡ Ok done) × (mid.place ≡ walk (m old.place).asks old.place)

  went_then : (new : Seen) (done : A × S) (did : Did S B) → Went o old mid m (Ok done) → Went o mid new (further done) did → Went o old new (m >>= further) did
  went_then new done did h g = (calm_then old mid new h.0 g.0, tell_two o _ _ _ (λ a b. (ends_are done a.0 a.1 ∙ b.0, b.1 ∙ sym (walk_is done a.0 a.1))) h.1 g.1)

  cut_then : (new : Seen) (done : A × S) → Went o old mid m (Ok done) → IsCut o mid new (further done) → IsCut o old new (m >>= further)
  cut_then new done h g =
      tell_two o _ _ _ (λ a b. ap (λ (p : Place). is_prefix new.place.shown p.shown) (walk_is done a.0 a.1) ∙ b) h.1 g

  read_then : (new : Seen) (done : A × S) (s : S) → Went o old mid m (Ok done)
      → Told o (asked_at new.place.asked (further done mid.place).asks mid.place ≡ Some (s, new.place))
      → Told o (asked_at new.place.asked ((m >>= further) old.place).asks old.place ≡ Some (s, new.place))
  read_then new done s h g =
      tell_two o _ _ _ (λ a b.
      let there : asked_at new.place.asked (further done mid.place).asks (walk (m old.place).asks old.place) ≡ Some (s, new.place) =
      ap (λ (p : Place). asked_at new.place.asked (further done mid.place).asks p) (sym a.1) ∙ b in
      ap (λ (asks : List (Ask S)). asked_at new.place.asked asks old.place) (asks_are done a.0 a.1)
      ∙ at_then new.place.asked (m old.place).asks (further done mid.place).asks old.place (ap (λ (f : Option (S × Place)). is_some f) there)
      ∙ there) h.1 g

  -- what is said of one call that went well, and of what follows it, is said of both
  pub does_then : (new : Seen) (value : A) (s t : S) (result : Result B Stop)
      → DoesBeside o old mid (Ok value) s m → DoesBeside o mid new result t (further (value, s)) → DoesBeside o old new result t (m >>= further)
  does_then new value s t (Ok v) h g = went_then new (value, s) (Ok (v, t)) h g
  does_then new value s t (Err (Trouble kind)) h g = went_then new (value, s) (Err (Trouble kind, t)) h g
  does_then new value s t (Err (Capacity cap)) h g = went_then new (value, s) (Err (Capacity cap, t)) h g
  does_then new value s t (Err Spent) h g = went_then new (value, s) (Err (Spent, t)) h g
  does_then new value s t (Err ReadFault) h g = (misread_then o old mid new h.0 g.0, read_then new (value, s) t h g.1)
  does_then new value s t (Err WriteFault) h g = (miswrote_then o old mid new h.0 g.0, cut_then new (value, s) h g.1)
  does_then new value s t (Err OutOfMemory) h g = (calm_then old mid new h.0 g.0, cut_then new (value, s) h g.1)

module _ {S A B : Type 0} (o : Outside) (old new : Seen) (m : Meant S A) (further : A × S → Meant S B) where
  went_off : (e : Stop × S) → Told o (((m old.place).ends ≡ Err e) × (new.place ≡ walk (m old.place).asks old.place))
      → Told o ((((m >>= further) old.place).ends ≡ Err e) × (new.place ≡ walk ((m >>= further) old.place).asks old.place))
  went_off e h =
      tell_map o _ _ (λ a. (
        ap (λ (d : Did S A). ends_after d further (walk (m old.place).asks old.place)) a.0,
        a.1 ∙ sym (ap (λ (d : Did S A). walk ((m old.place).asks ++ asks_after d further (walk (m old.place).asks old.place)) old.place) a.0
            ∙ walk_two (m old.place).asks [] old.place ∙ walk_none S (walk (m old.place).asks old.place)),
      )) h

  cut_off : IsCut o old new m → IsCut o old new (m >>= further)
  cut_off h =
      tell_map o _ _ (λ a.
      ap (λ (p : Place). is_prefix new.place.shown p.shown) (walk_two (m old.place).asks (asks_after (m old.place).ends further (walk (m old.place).asks old.place)) old.place)
      ∙ cut_later new.place.shown (asks_after (m old.place).ends further (walk (m old.place).asks old.place)) (walk (m old.place).asks old.place) a) h

  -- an end is the end of what would have followed, too
  pub does_end : (s : S) (stop : Stop) → DoesBeside {A = A} o old new (Err stop) s m → DoesBeside {A = B} o old new (Err stop) s (m >>= further)
  does_end s (Trouble kind) h = (h.0, went_off (Trouble kind, s) h.1)
  does_end s (Capacity cap) h = (h.0, went_off (Capacity cap, s) h.1)
  does_end s Spent h = (h.0, went_off (Spent, s) h.1)
  does_end s ReadFault h = (
    h.0,
    tell_map o _ _ (λ a.
        at_first new.place.asked (m old.place).asks (asks_after (m old.place).ends further (walk (m old.place).asks old.place)) old.place
        (ap (λ (f : Option (S × Place)). is_some f) a) ∙ a) h.1,
  )
  does_end s WriteFault h = (h.0, cut_off h.1)
  does_end s OutOfMemory h = (h.0, cut_off h.1)

-- what asks for nothing, and went well
pub does_still : {S A : Type 0} (o : Outside) (s : Seen) (value : A) (state : S) → DoesBeside o s s (Ok value) state (still (Ok (value, state)))
does_still {S} o s value state = ((refl, refl, refl), told o _ (refl, sym (walk_none S s.place)))

-- ---- loops

-- a loop's record: there is no more work than at the start, so many more times suffice, and what finishing from here
-- comes to, finishing from the start comes to
pub record Leads {S X : Type 0} (o : Outside) (work : S → ℕ) (once : X → S → Meant S (Bool × X)) (old now : Seen) (x₀ : X) (first : S) (x : X) (s : S) : Type 0 where
  pub less : work s ≤ work first
  pub times : ℕ
  pub enough : work s < times
  pub from : (new : Seen) (result : Result X Stop) (t : S) → DoesBeside o now new result t (at_most once times x s)
      → DoesBeside o old new result t (rounds work once x₀ first)

-- where the next time goes on to
next : {S X : Type 0} (o : Outside) (once : X → S → Meant S (Bool × X)) (now new : Seen) (x y : X) (s t : S) (more : Bool) (rest : X → S → Meant S X)
    → DoesBeside o now new (Ok (more, y)) t (once x s) → (end : Seen) (result : Result X Stop) (u : S)
    → DoesBeside o new end result u (go_on rest ((more, y), t)) → DoesBeside o now end result u (once x s >>= go_on rest)
next o once now new x y s t more rest h end result u g = does_then o now new (once x s) (go_on rest) end (more, y) t u result h g

-- what finishing in so many times comes to, finishing from the start comes to
abbrev Finishes : {S X : Type 0} → Outside → (S → ℕ) → (X → S → Meant S (Bool × X)) → Seen → Seen → X → S → X → S → ℕ → Type 0
Finishes {S} {X} o work once old now x₀ first x s times = (end : Seen) (result : Result X Stop) (u : S)
    → DoesBeside o now end result u (at_most once times x s) → DoesBeside o old end result u (rounds work once x₀ first)

-- all that these laws speak of is read off the loop's record
module _ {S X : Type 0} {o : Outside} {work : S → ℕ} {once : X → S → Meant S (Bool × X)} {old : Seen} {x₀ : X} {first : S} where
  pub leads_start : Leads o work once old old x₀ first x₀ first
  leads_start = record { less = omega arith; times = suc (work first); enough = omega arith; from = λ new result t h. h }

  module _ {now : Seen} {x : X} {s : S} where
    -- once more
    pub leads_more : (new : Seen) (y : X) (t : S) → Leads o work once old now x₀ first x s → DoesBeside o now new (Ok (true, y)) t (once x s)
        → work t < work s → Leads o work once old new x₀ first y t
    unfolding at_most
    leads_more new y t l h less = at l.times l.enough l.from
      where
        at : (times : ℕ) → work s < times → Finishes o work once old now x₀ first x s times → Leads o work once old new x₀ first y t
        at zero enough from = absurd (omega (arith, enough))
        at (suc times) enough from = record {
          less = let before = l.less in omega (arith, less, before);
          times = times;
          enough = omega (arith, less, enough);
          from = λ end result u g. from end result u (next o once now new x y s t true (at_most once times) h end result u g);
        }

    -- enough
    pub leads_enough : (new : Seen) (y : X) (t : S) → Leads o work once old now x₀ first x s → DoesBeside o now new (Ok (false, y)) t (once x s)
        → DoesBeside o old new (Ok y) t (rounds work once x₀ first)
    unfolding at_most
    leads_enough new y t l h = at l.times l.enough l.from
      where
        at : (times : ℕ) → work s < times → Finishes o work once old now x₀ first x s times → DoesBeside o old new (Ok y) t (rounds work once x₀ first)
        at zero enough from = absurd (omega (arith, enough))
        at (suc times) enough from = from new (Ok y) t (next o once now new x y s t false (at_most once times) h new (Ok y) t (does_still o new y t))

    -- the end of the run
    pub leads_end : (new : Seen) (t : S) (stop : Stop) → Leads o work once old now x₀ first x s → DoesBeside {A = Bool × X} o now new (Err stop) t (once x s)
        → DoesBeside {A = X} o old new (Err stop) t (rounds work once x₀ first)
    unfolding at_most
    leads_end new t stop l h = at l.times l.enough l.from
      where
        at : (times : ℕ) → work s < times → Finishes o work once old now x₀ first x s times → DoesBeside {A = X} o old new (Err stop) t (rounds work once x₀ first)
        at zero enough from = absurd (omega (arith, enough))
        at (suc times) enough from = from new (Err stop) t (does_end o now new (once x s) (go_on (at_most once times)) t stop h)

pub ruleset loops = (leads_start, leads_more, leads_enough, leads_end)
