-- Which movement a repeated one takes its width from, and that it still stands there at the end of the page.
use Rattle.std.proofs.Common.{◌≡◌, ℕ, zero, suc, ◌<◌, ◌≤◌, pos, Bool, true, false, ◌⊎◌, inl, inr, ◌≢◌, List, [], ◌∷◌, ◌++◌, length, get_or, refl, sym, ap, ◌∙◌, arith}
use Rattle.std.specs.List.{fold}
use Rattle.std.specs.Prelude.{slice_set}
use Rattle.std.proofs.lemmas.Bool.{cases_eq}
use Rattle.std.proofs.lemmas.List.{get_or_append_left, get_or-set_same, get_or-set_other, length-set, length_push}
use Rattle.dvi_out.specs.declared.movements.Word.{Word}
use Rattle.dvi_out.specs.declared.movements.Word.TheVariants.{First, Second}
use Rattle.dvi_out.specs.declared.movements.Mark.{Mark}
use Rattle.dvi_out.specs.declared.movements.Mark.TheVariants.{Free, FirstOnly, SecondOnly, Fixed, FirstHere, SecondHere}
use Rattle.dvi_out.specs.declared.movements.Movement.{Movement}
use Rattle.dvi_out.specs.SpellingMovements.{mark_here, mark_between, carried, movement_at, with_mark, kept_at, passed_at}

-- ---- marks

-- the mark keeps its movement's width as the word
abbrev pub is_here : Word → Mark → Bool
is_here First Free = false
is_here First FirstOnly = false
is_here First SecondOnly = false
is_here First Fixed = false
is_here First FirstHere = true
is_here First SecondHere = false
is_here Second Free = false
is_here Second FirstOnly = false
is_here Second SecondOnly = false
is_here Second Fixed = false
is_here Second FirstHere = false
is_here Second SecondHere = true

-- the mark will never keep its movement's width as the word
abbrev pub bars : Word → Mark → Bool
bars First Free = false
bars First FirstOnly = false
bars First SecondOnly = true
bars First Fixed = true
bars First FirstHere = false
bars First SecondHere = true
bars Second Free = false
bars Second FirstOnly = true
bars Second SecondOnly = false
bars Second Fixed = true
bars Second FirstHere = true
bars Second SecondHere = false

-- the mark keeps its movement's width as the word, or may come to
abbrev pub may : Word → Mark → Bool
may First Free = true
may First FirstOnly = true
may First SecondOnly = false
may First Fixed = false
may First FirstHere = true
may First SecondHere = false
may Second Free = true
may Second FirstOnly = false
may Second SecondOnly = true
may Second Fixed = false
may Second FirstHere = false
may Second SecondHere = true

between-here : (word other : Word) (mark : Mark) → is_here other (mark_between word mark) ≡ is_here other mark
between-here First First Free = refl
between-here First First FirstOnly = refl
between-here First First SecondOnly = refl
between-here First First Fixed = refl
between-here First First FirstHere = refl
between-here First First SecondHere = refl
between-here First Second Free = refl
between-here First Second FirstOnly = refl
between-here First Second SecondOnly = refl
between-here First Second Fixed = refl
between-here First Second FirstHere = refl
between-here First Second SecondHere = refl
between-here Second First Free = refl
between-here Second First FirstOnly = refl
between-here Second First SecondOnly = refl
between-here Second First Fixed = refl
between-here Second First FirstHere = refl
between-here Second First SecondHere = refl
between-here Second Second Free = refl
between-here Second Second FirstOnly = refl
between-here Second Second SecondOnly = refl
between-here Second Second Fixed = refl
between-here Second Second FirstHere = refl
between-here Second Second SecondHere = refl

between-barred : (word other : Word) (mark : Mark) → bars other mark ≡ true → bars other (mark_between word mark) ≡ true
between-barred First First Free is = cc
between-barred First First FirstOnly is = cc
between-barred First First SecondOnly is = cc
between-barred First First Fixed is = cc
between-barred First First FirstHere is = cc
between-barred First First SecondHere is = cc
between-barred First Second Free is = cc
between-barred First Second FirstOnly is = cc
between-barred First Second SecondOnly is = cc
between-barred First Second Fixed is = cc
between-barred First Second FirstHere is = cc
between-barred First Second SecondHere is = cc
between-barred Second First Free is = cc
between-barred Second First FirstOnly is = cc
between-barred Second First SecondOnly is = cc
between-barred Second First Fixed is = cc
between-barred Second First FirstHere is = cc
between-barred Second First SecondHere is = cc
between-barred Second Second Free is = cc
between-barred Second Second FirstOnly is = cc
between-barred Second Second SecondOnly is = cc
between-barred Second Second Fixed is = cc
between-barred Second Second FirstHere is = cc
between-barred Second Second SecondHere is = cc

between-bars : (word : Word) (mark : Mark) → is_here word mark ≡ false → bars word (mark_between word mark) ≡ true
between-bars First Free is = cc
between-bars First FirstOnly is = cc
between-bars First SecondOnly is = cc
between-bars First Fixed is = cc
between-bars First FirstHere is = cc
between-bars First SecondHere is = cc
between-bars Second Free is = cc
between-bars Second FirstOnly is = cc
between-bars Second SecondOnly is = cc
between-bars Second Fixed is = cc
between-bars Second FirstHere is = cc
between-bars Second SecondHere is = cc

kept-here : (word other : Word) (mark : Mark) → may word mark ≡ true → is_here other mark ≡ true →
    is_here other (mark_here word) ≡ true
kept-here First First Free can is = cc
kept-here First First FirstOnly can is = cc
kept-here First First SecondOnly can is = cc
kept-here First First Fixed can is = cc
kept-here First First FirstHere can is = cc
kept-here First First SecondHere can is = cc
kept-here First Second Free can is = cc
kept-here First Second FirstOnly can is = cc
kept-here First Second SecondOnly can is = cc
kept-here First Second Fixed can is = cc
kept-here First Second FirstHere can is = cc
kept-here First Second SecondHere can is = cc
kept-here Second First Free can is = cc
kept-here Second First FirstOnly can is = cc
kept-here Second First SecondOnly can is = cc
kept-here Second First Fixed can is = cc
kept-here Second First FirstHere can is = cc
kept-here Second First SecondHere can is = cc
kept-here Second Second Free can is = cc
kept-here Second Second FirstOnly can is = cc
kept-here Second Second SecondOnly can is = cc
kept-here Second Second Fixed can is = cc
kept-here Second Second FirstHere can is = cc
kept-here Second Second SecondHere can is = cc

kept-barred : (word other : Word) (mark : Mark) → may word mark ≡ true → bars other mark ≡ true →
    bars other (mark_here word) ≡ true
kept-barred First First Free can is = cc
kept-barred First First FirstOnly can is = cc
kept-barred First First SecondOnly can is = cc
kept-barred First First Fixed can is = cc
kept-barred First First FirstHere can is = cc
kept-barred First First SecondHere can is = cc
kept-barred First Second Free can is = cc
kept-barred First Second FirstOnly can is = cc
kept-barred First Second SecondOnly can is = cc
kept-barred First Second Fixed can is = cc
kept-barred First Second FirstHere can is = cc
kept-barred First Second SecondHere can is = cc
kept-barred Second First Free can is = cc
kept-barred Second First FirstOnly can is = cc
kept-barred Second First SecondOnly can is = cc
kept-barred Second First Fixed can is = cc
kept-barred Second First FirstHere can is = cc
kept-barred Second First SecondHere can is = cc
kept-barred Second Second Free can is = cc
kept-barred Second Second FirstOnly can is = cc
kept-barred Second Second SecondOnly can is = cc
kept-barred Second Second Fixed can is = cc
kept-barred Second Second FirstHere can is = cc
kept-barred Second Second SecondHere can is = cc

pub here-here : (word : Word) → is_here word (mark_here word) ≡ true
here-here First = refl
here-here Second = refl

-- ---- how movements change

-- what can become of a movement while the page goes on
pub record Evolves (m n : Movement) : Type 0 where
  pub width : n.width ≡ m.width
  pub repeats : n.repeats ≡ m.repeats
  pub here : (word : Word) → is_here word m.mark ≡ true → is_here word n.mark ≡ true
  pub barred : (word : Word) → bars word m.mark ≡ true → bars word n.mark ≡ true

stays : (m n : Movement) → n ≡ m → Evolves m n
stays m n is = record {
  width = ap (λ (x : Movement). x.width) is;
  repeats = ap (λ (x : Movement). x.repeats) is;
  here = λ word e. ap (λ (x : Movement). is_here word x.mark) is ∙ e;
  barred = λ word e. ap (λ (x : Movement). bars word x.mark) is ∙ e;
}

goes_on : (a b c : Movement) → Evolves a b → Evolves b c → Evolves a c
goes_on a b c first second = record {
  width = second.width ∙ first.width;
  repeats = second.repeats ∙ first.repeats;
  here = λ word e. second.here word (first.here word e);
  barred = λ word e. second.barred word (first.barred word e);
}

by_passing : (word : Word) (m : Movement) → Evolves m (with_mark (mark_between word m.mark) m)
by_passing word m = record {
  width = refl;
  repeats = refl;
  here = λ other e. between-here word other m.mark ∙ e;
  barred = λ other e. between-barred word other m.mark e;
}

by_keeping : (word : Word) (m : Movement) → may word m.mark ≡ true → Evolves m (with_mark (mark_here word) m)
by_keeping word m can = record {
  width = refl;
  repeats = refl;
  here = λ other e. kept-here word other m.mark can e;
  barred = λ other e. kept-barred word other m.mark can e;
}

-- the movements of a page, some time later
pub record Later (moves later : List Movement) : Type 0 where
  pub longer : length moves ≤ length later
  pub each : (p : ℕ) → p < length moves → Evolves (movement_at moves p) (movement_at later p)

pub later-same : (moves : List Movement) → Later moves moves
later-same moves = record {
  longer = omega arith;
  each = λ p within. stays (movement_at moves p) (movement_at moves p) refl;
}

pub later-later : (a b c : List Movement) → Later a b → Later b c → Later a c
later-later a b c first second = record {
  longer = omega (arith, first.longer, second.longer);
  each = λ p within. goes_on (movement_at a p) (movement_at b p) (movement_at c p) (first.each p within)
      (second.each p (omega (arith, first.longer)));
}

pub later-push : (moves : List Movement) (m : Movement) → Later moves (moves ++ m ∷ [])
later-push moves m = record {
  longer = omega (arith, length_push moves m);
  each = λ p within. stays (movement_at moves p) (movement_at (moves ++ m ∷ []) p)
      (get_or_append_left moves (m ∷ []) (carried (pos 0)) p within);
}

pub set_here : (moves : List Movement) (place : ℕ) (m : Movement) → place < length moves →
    movement_at (slice_set moves place m) place ≡ m
set_here moves place m within = get_or-set_same moves place m (carried (pos 0)) within

pub set_elsewhere : (moves : List Movement) (place p : ℕ) (m : Movement) → p ≢ place →
    movement_at (slice_set moves place m) p ≡ movement_at moves p
set_elsewhere moves place p m other = get_or-set_other moves place p m (carried (pos 0)) other

set_evolves : (moves : List Movement) (place p : ℕ) (m : Movement) → Evolves (movement_at moves place) m →
    p < length moves → (p ≡ place) ⊎ (p ≡ place → ⊥) → Evolves (movement_at moves p) (movement_at (slice_set moves place m) p)
set_evolves moves place p m evolves within (inl is) =
    let here : movement_at (slice_set moves place m) p ≡ m =
    ap (movement_at (slice_set moves place m)) is ∙ set_here moves place m (omega arith) in
    let was : movement_at moves place ≡ movement_at moves p = ap (movement_at moves) (sym is) in
    goes_on (movement_at moves p) (movement_at moves place) (movement_at (slice_set moves place m) p)
    (stays (movement_at moves p) (movement_at moves place) was)
    (goes_on (movement_at moves place) m (movement_at (slice_set moves place m) p) evolves (stays m (movement_at (slice_set moves place m) p) here))
set_evolves moves place p m evolves within (inr other) =
    stays (movement_at moves p) (movement_at (slice_set moves place m) p) (set_elsewhere moves place p m other)

later-set : (moves : List Movement) (place : ℕ) (m : Movement) → Evolves (movement_at moves place) m →
    Later moves (slice_set moves place m)
later-set moves place m evolves = record {
  longer = omega (arith, length-set moves place m);
  each = λ p within. set_evolves moves place p m evolves within (cases_eq p place);
}

pub later-passed : (word : Word) (moves : List Movement) (place : ℕ) → Later moves (passed_at word moves place)
later-passed word moves place =
    later-set moves place (with_mark (mark_between word (movement_at moves place).mark) (movement_at moves place))
    (by_passing word (movement_at moves place))

pub later-kept : (word : Word) (moves : List Movement) (place : ℕ) → may word (movement_at moves place).mark ≡ true →
    Later moves (kept_at word place moves)
later-kept word moves place can =
    later-set moves place (with_mark (mark_here word) (movement_at moves place)) (by_keeping word (movement_at moves place) can)

pub later-passes : (word : Word) (between : List ℕ) (moves : List Movement) → Later moves (fold (passed_at word) moves between)
later-passes word [] moves = later-same moves
later-passes word (place ∷ between) moves =
    later-later moves (passed_at word moves place) (fold (passed_at word) (passed_at word moves place) between)
    (later-passed word moves place) (later-passes word between (passed_at word moves place))

-- ---- what stands between two movements that share a word

here_unchanged : (word : Word) (moves : List Movement) (place p : ℕ) → p < length moves →
    (p ≡ place) ⊎ (p ≡ place → ⊥) →
    is_here word (movement_at (passed_at word moves place) p).mark ≡ is_here word (movement_at moves p).mark
here_unchanged word moves place p within (inl is) =
    let m = with_mark (mark_between word (movement_at moves place).mark) (movement_at moves place) in
    let here : movement_at (slice_set moves place m) p ≡ m =
    ap (movement_at (slice_set moves place m)) is ∙ set_here moves place m (omega arith) in
    ap (λ (x : Movement). is_here word x.mark) here ∙ between-here word word (movement_at moves place).mark
    ∙ ap (λ (q : ℕ). is_here word (movement_at moves q).mark) (sym is)
here_unchanged word moves place p within (inr other) =
    let m = with_mark (mark_between word (movement_at moves place).mark) (movement_at moves place) in
    ap (λ (x : Movement). is_here word x.mark) (set_elsewhere moves place p m other)

pub passes_bar : (word : Word) (between : List ℕ) (moves : List Movement) (i p : ℕ) → i < length between →
    get_or between i 0 ≡ p → p < length moves → is_here word (movement_at moves p).mark ≡ false →
    bars word (movement_at (fold (passed_at word) moves between) p).mark ≡ true
passes_bar word [] moves i p among at within is = absurd (omega arith)
passes_bar word (place ∷ between) moves zero p among at within is =
    let m = with_mark (mark_between word (movement_at moves place).mark) (movement_at moves place) in
    let here : movement_at (passed_at word moves place) p ≡ m =
    ap (movement_at (passed_at word moves place)) (sym at) ∙ set_here moves place m (omega (arith, at)) in
    let not_here : is_here word (movement_at moves place).mark ≡ false =
    ap (λ (q : ℕ). is_here word (movement_at moves q).mark) at ∙ is in
    let barred : bars word (movement_at (passed_at word moves place) p).mark ≡ true =
    ap (λ (x : Movement). bars word x.mark) here ∙ between-bars word (movement_at moves place).mark not_here in
    let more = later-passes word between (passed_at word moves place) in
    (more.each p (omega (arith, length-set moves place m))).barred word barred
passes_bar word (place ∷ between) moves (suc i) p among at within is =
    let m = with_mark (mark_between word (movement_at moves place).mark) (movement_at moves place) in
    passes_bar word between (passed_at word moves place) i p (omega arith) at (omega (arith, length-set moves place m))
    (here_unchanged word moves place p within (cases_eq p place) ∙ is)
