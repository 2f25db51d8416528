-- What of a movement stays, and what changes, where a later one comes.
use Rattle.std.proofs.Common.{◌≡◌, ℕ, zero, suc, ◌+◌, ◌<◌, ◌≤◌, ℤ, pos, Option, List, [], ◌∷◌, ◌++◌, length, set, refl, sym, ap, ◌∙◌, arith, ne_of_lt, length-set, length-append}
use Rattle.std.proofs.lemmas.List.{set_past}
use Rattle.std.proofs.Math.Seq.{get_or-append_seam}
use Rattle.std.specs.List.{fold}
use Rattle.dvi_out.specs.declared.movements.Word.{Word}
use Rattle.dvi_out.specs.declared.movements.Word.TheVariants.{First, Second}
use Rattle.dvi_out.specs.declared.movements.Mark.{Mark}
use Rattle.dvi_out.specs.declared.movements.Mark.TheVariants.{Free, FirstOnly, SecondOnly, Fixed, FirstHere, SecondHere}
use Rattle.dvi_out.specs.declared.movements.Movement.{Movement}
use Rattle.dvi_out.specs.SpellingMovements.{movement_at, carried, with_mark, mark_here, mark_between, passed_at, kept_at}
use Rattle.dvi_out.specs.SpellingPage.{Opcodes, opcode_of}

-- the command of a movement, as it is for a width of one byte
abbrev pub code : Opcodes → List Movement → ℕ → ℕ
code codes moves k = opcode_of codes (movement_at moves k).mark

-- what is seen of each movement, where one is replaced by one of which the same is seen
pub seen_after_set : {Z : Type 0} (f : Movement → Z) (moves : List Movement) (i j : ℕ) (y : Movement) →
    f y ≡ f (movement_at moves i) → f (movement_at (set moves i y) j) ≡ f (movement_at moves j)
seen_after_set f [] i j y same = refl
seen_after_set f (m ∷ moves) zero zero y same = same
seen_after_set f (m ∷ moves) zero (suc j) y same = refl
seen_after_set f (m ∷ moves) (suc i) zero y same = refl
seen_after_set f (m ∷ moves) (suc i) (suc j) y same = seen_after_set f moves i j y same

-- where one is replaced, the others are as they were
pub other_after_set : (moves : List Movement) (i j : ℕ) (y : Movement) → (j ≡ i → ⊥) →
    movement_at (set moves i y) j ≡ movement_at moves j
other_after_set [] i j y apart = refl
other_after_set (m ∷ moves) zero zero y apart = elim (apart refl) [ ]
other_after_set (m ∷ moves) zero (suc j) y apart = refl
other_after_set (m ∷ moves) (suc i) zero y apart = refl
other_after_set (m ∷ moves) (suc i) (suc j) y apart = other_after_set moves i j y (λ e. apart (ap suc e))

pub code_between : (codes : Opcodes) (word : Word) (mark : Mark) → opcode_of codes (mark_between word mark) ≡ opcode_of codes mark
code_between codes First Free = refl
code_between codes First FirstOnly = refl
code_between codes First SecondOnly = refl
code_between codes First Fixed = refl
code_between codes First FirstHere = refl
code_between codes First SecondHere = refl
code_between codes Second Free = refl
code_between codes Second FirstOnly = refl
code_between codes Second SecondOnly = refl
code_between codes Second Fixed = refl
code_between codes Second FirstHere = refl
code_between codes Second SecondHere = refl

pub seen_after_pass : {Z : Type 0} (f : Movement → Z) (word : Word) →
    ((m : Movement) → f (with_mark (mark_between word m.mark) m) ≡ f m) → (places : List ℕ) (moves : List Movement) (j : ℕ) →
    f (movement_at (fold (passed_at word) moves places) j) ≡ f (movement_at moves j)
seen_after_pass f word same [] moves j = refl
seen_after_pass f word same (p ∷ places) moves j =
    seen_after_pass f word same places (passed_at word moves p) j
    ∙ seen_after_set f moves p j (with_mark (mark_between word (movement_at moves p).mark) (movement_at moves p)) (same (movement_at moves p))

pub length_after_pass : (word : Word) (places : List ℕ) (moves : List Movement) →
    length (fold (passed_at word) moves places) ≡ length moves
length_after_pass word [] moves = refl
length_after_pass word (p ∷ places) moves =
    length_after_pass word places (passed_at word moves p)
    ∙ length-set moves p (with_mark (mark_between word (movement_at moves p).mark) (movement_at moves p))

pub appended : (moves : List Movement) (m : Movement) (j : ℕ) → (j ≡ length moves → ⊥) →
    movement_at (moves ++ m ∷ []) j ≡ movement_at moves j
appended [] m zero apart = elim (apart refl) [ ]
appended [] m (suc j) apart = refl
appended (x ∷ moves) m zero apart = refl
appended (x ∷ moves) m (suc j) apart = appended moves m j (λ e. apart (ap suc e))

-- a movement was added, and the others carry and repeat what they did
pub record Added (before after : List Movement) (width : ℤ) (repeats : Option Word) : Type 0 where
  pub long : length after ≡ length before + 1
  pub same_width : (k : ℕ) → k < length before → (movement_at after k).width ≡ (movement_at before k).width
  pub same_repeats : (k : ℕ) → k < length before → (movement_at after k).repeats ≡ (movement_at before k).repeats
  pub new_width : (movement_at after (length before)).width ≡ width
  pub new_repeats : (movement_at after (length before)).repeats ≡ repeats

added_behind : (moves changed : List Movement) (m : Movement) → length changed ≡ length moves →
    ((k : ℕ) → (movement_at changed k).width ≡ (movement_at moves k).width) →
    ((k : ℕ) → (movement_at changed k).repeats ≡ (movement_at moves k).repeats) →
    Added moves (changed ++ m ∷ []) m.width m.repeats
added_behind moves changed m same widths repeat =
    let last : movement_at (changed ++ m ∷ []) (length moves) ≡ m =
    ap (λ (n : ℕ). movement_at (changed ++ m ∷ []) n) (sym same) ∙ get_or-append_seam changed m [] (carried (pos 0)) in
    record {
      long = omega (arith, length-append changed (m ∷ []), same);
      same_width =
          λ k within. ap (λ (x : Movement). x.width) (appended changed m k (ne_of_lt (omega (arith, same)))) ∙ widths k;
      same_repeats =
          λ k within. ap (λ (x : Movement). x.repeats) (appended changed m k (ne_of_lt (omega (arith, same)))) ∙ repeat k;
      new_width = ap (λ (x : Movement). x.width) last;
      new_repeats = ap (λ (x : Movement). x.repeats) last;
    }

pub added_new : (moves : List Movement) (m : Movement) → Added moves (moves ++ m ∷ []) m.width m.repeats
added_new moves m = added_behind moves moves m refl (λ k. refl) (λ k. refl)

pub added_sharing : (moves : List Movement) (word : Word) (p : ℕ) (places : List ℕ) (m : Movement) →
    Added moves (fold (passed_at word) (kept_at word p moves) places ++ m ∷ []) m.width m.repeats
added_sharing moves word p places m =
    let y = with_mark (mark_here word) (movement_at moves p) in
    added_behind moves (fold (passed_at word) (kept_at word p moves) places) m
    (length_after_pass word places (kept_at word p moves) ∙ length-set moves p y)
    (λ k. seen_after_pass (λ x. x.width) word (λ x. refl) places (kept_at word p moves) k ∙ seen_after_set (λ x. x.width) moves p k y refl)
    (λ k. seen_after_pass (λ x. x.repeats) word (λ x. refl) places (kept_at word p moves) k ∙ seen_after_set (λ x. x.repeats) moves p k y refl)

-- a movement that doesn't stand there isn't changed
pub kept_past : (moves : List Movement) (word : Word) (p : ℕ) → length moves ≤ p → kept_at word p moves ≡ moves
kept_past moves word p past = set_past moves p (with_mark (mark_here word) (movement_at moves p)) past
