-- Turns of a run, so many of them. A run has no bound in its definition: it is over where some number of turns is, and
-- then more turns mean the same.
use Rattle.std.specs.Prelude.{◌≡◌, ℕ, ◌+◌, Bool, true, false, List, ◌++◌, Result, Ok, Err}
use Rattle.std.proofs.Common.{zero, suc, ap, ◌∙◌, add-zero, add-suc, append-nil}
use Rattle.tokens.specs.declared.stop.Stop.{Stop}
use Rattle.asking.specs.Did.{Did}
use Rattle.asking.specs.Meaning.{Place, Ask, Meaning, Meant, still, ◌>>=◌, walk, followed, asks_after, ends_after}
use Rattle.asking.specs.Seen.{Outside, Seen, DoesBeside, is_prefix}
use Rattle.asking.specs.Asked.{walk_two, cut_later}
use Rattle.asking.specs.Leads.{does_then, does_still}

-- one more turn, where the run goes on
abbrev pub one_more : {S : Type 0} → (S → Meant S Bool) → Bool × S → Meant S Bool
one_more once (true, s) = once s
one_more once (false, s) = still (Ok (false, s))

-- so many turns
unfoldable pub turns : {S : Type 0} → (S → Meant S Bool) → ℕ → S → Meant S Bool
turns once zero s = still (Ok (true, s))
turns once (suc n) s = turns once n s >>= one_more once

-- whether the run is over
abbrev pub is_over : {S : Type 0} → Did S Bool → Bool
is_over (Ok (true, s)) = false
is_over (Ok (false, s)) = true
is_over (Err e) = true

-- all turns, as a call makes them: so many as it took
pub record DoesTurns {S : Type 0} (o : Outside) (old new : Seen) (result : Result Bool Stop) (s : S) (once : S → Meant S Bool) (first : S) : Type 0 where
  pub times : ℕ
  pub does : DoesBeside o old new result s (turns once times first)

-- once the run is over, more turns mean the same
abbrev pub OverLaw : {S : Type 0} → (S → Meant S Bool) → Type 0
OverLaw {S} once = (n more : ℕ) (s : S) (place : Place) → is_over (turns once n s place).ends ≡ true → turns once (n + more) s place ≡ turns once n s place

-- a beginning of what some turns show is one of what more turns show
abbrev pub ShownLaw : {S : Type 0} → (S → Meant S Bool) → Type 0
ShownLaw {S} once = (n more : ℕ) (s : S) (place : Place) (text : List ℕ) → is_prefix text (walk (turns once n s place).asks place).shown ≡ true
    → is_prefix text (walk (turns once (n + more) s place).asks place).shown ≡ true

-- ---- laws

module _ {S : Type 0} (once : S → Meant S Bool) where
  -- what is over changes no more
  over_same : (m : Meaning S Bool) (place : Place) → is_over m.ends ≡ true → followed m (one_more once) place ≡ m
  over_same m place over = at m.ends over
    where
      at : (ends : Did S Bool) → is_over ends ≡ true
          → (let both : Meaning S Bool = record { asks = m.asks ++ asks_after ends (one_more once) (walk m.asks place); ends = ends_after ends (one_more once) (walk m.asks place) } in both)
          ≡ (let one : Meaning S Bool = record { asks = m.asks; ends = ends } in one)
      at (Ok (true, s)) h = cc
      at (Ok (false, s)) h = ap (λ (asks : List (Ask S)). let one : Meaning S Bool = record { asks = asks; ends = Ok (false, s) } in one) (append-nil m.asks)
      at (Err e) h = ap (λ (asks : List (Ask S)). let one : Meaning S Bool = record { asks = asks; ends = Err e } in one) (append-nil m.asks)

  pub over_law : OverLaw once
  unfolding turns
  over_law n zero s place over = ap (λ (k : ℕ). turns once k s place) (add-zero n)
  over_law n (suc more) s place over =
      let before = over_law n more s place over in
      ap (λ (k : ℕ). turns once k s place) (add-suc n more)
      ∙ ap (λ (m : Meaning S Bool). followed m (one_more once) place) before
      ∙ over_same (turns once n s place) place over

  pub shown_law : ShownLaw once
  unfolding turns
  shown_law n zero s place text h = ap (λ (k : ℕ). is_prefix text (walk (turns once k s place).asks place).shown) (add-zero n) ∙ h
  shown_law n (suc more) s place text h =
      let m = turns once (n + more) s place in
      ap (λ (k : ℕ). is_prefix text (walk (turns once k s place).asks place).shown) (add-suc n more)
      ∙ ap (λ (p : Place). is_prefix text p.shown) (walk_two m.asks (asks_after m.ends (one_more once) (walk m.asks place)) place)
      ∙ cut_later text (asks_after m.ends (one_more once) (walk m.asks place)) (walk m.asks place) (shown_law n more s place text h)

module _ {S : Type 0} {once : S → Meant S Bool} {o : Outside} {old : Seen} {first : S} where
  -- no turn yet
  pub turns_start : DoesTurns o old old (Ok true) first once first
  unfolding turns
  turns_start = record { times = zero; does = does_still o old true first }

  -- one more turn
  pub turns_next : {mid : Seen} {s : S} (new : Seen) (result : Result Bool Stop) (t : S) → DoesTurns o old mid (Ok true) s once first
      → DoesBeside o mid new result t (once s) → DoesTurns o old new result t once first
  unfolding turns
  turns_next {mid} {s} new result t h g =
      record { times = suc h.times; does = does_then o old mid (turns once h.times first) (one_more once) new true s t result h.does g }

pub ruleset turning = (turns_start, turns_next)
