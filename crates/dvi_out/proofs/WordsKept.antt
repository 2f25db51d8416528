-- The words that a device keeps while it reads a page, against the movements of the page.
use Rattle.std.proofs.Common.{◌≡◌, ℕ, suc, ◌+◌, ◌-◌, ◌<◌, ◌≤◌, ℤ, Bool, true, false, ◌⊎◌, inl, inr, Option, Some, None, List, [], ◌∷◌, ◌++◌, length, take, get_or, map, reverse, refl, sym, ap, ◌∙◌, arith, subst}
use Rattle.std.specs.Prelude.{slice_index, ⊤}
use Rattle.std.specs.Ordering.{int_eq}
use Rattle.std.proofs.lemmas.Bool.{cases_lt}
use Rattle.std.proofs.lemmas.Bool.Decides.{Decides-int_eq}
use mathlib.Core.List.{reverse-cons}
use Rattle.std.proofs.lemmas.List.{get_or-reverse, take_all, reverse-append, length_push, length-take, get_or-take, get_or_push, get_or_append_left, take_at, take-append-le, length-reverse}
use Rattle.dvi_out.specs.declared.movements.Word.{Word}
use Rattle.dvi_out.specs.declared.movements.Word.TheVariants.{First, Second}
use Rattle.dvi_out.specs.declared.movements.Mark.{Mark}
use Rattle.dvi_out.specs.declared.movements.Mark.TheVariants.{Free, FirstOnly, SecondOnly, Fixed, FirstHere, SecondHere}
use Rattle.dvi_out.specs.declared.movements.Movement.{Movement}
use Rattle.dvi_out.specs.SpellingMovements.{Family, no_movements, moved, opened, closed, movement_at}
use Rattle.dvi_out.specs.DviReading.{Kept}
use Rattle.dvi_out.proofs.MarksServe.{is_here, bars, Later, Evolves}
use Rattle.dvi_out.proofs.MarksFound.{serves, InRange, added}
use Rattle.dvi_out.proofs.ReadingCommands.{word_after}

-- ---- what is served stays served

barred_not_here : (word : Word) (mark : Mark) → bars word mark ≡ true → is_here word mark ≡ false
barred_not_here First Free is = cc
barred_not_here First FirstOnly is = cc
barred_not_here First SecondOnly is = cc
barred_not_here First Fixed is = cc
barred_not_here First FirstHere is = cc
barred_not_here First SecondHere is = cc
barred_not_here Second Free is = cc
barred_not_here Second FirstOnly is = cc
barred_not_here Second SecondOnly is = cc
barred_not_here Second Fixed is = cc
barred_not_here Second FirstHere is = cc
barred_not_here Second SecondHere is = cc

barred_serves : (word : Word) (width : ℤ) (m : Movement) (earlier : List Movement) → bars word m.mark ≡ true →
    serves word width earlier ≡ true → serves word width (m ∷ earlier) ≡ true
barred_serves word width m earlier barred is = rw (barred_not_here word m.mark barred, barred) is

serves_step : (word : Word) (width : ℤ) (m n : Movement) (earlier earlier_later : List Movement) (here barred : Bool) →
    is_here word m.mark ≡ here → bars word m.mark ≡ barred → Evolves m n →
    (serves word width earlier ≡ true → serves word width earlier_later ≡ true) →
    serves word width (m ∷ earlier) ≡ true → serves word width (n ∷ earlier_later) ≡ true
serves_step word width m n earlier earlier_later true barred is_here_is is_barred evolves rest is =
    let here : is_here word n.mark ≡ true = evolves.here word is_here_is in
    let was : int_eq m.width width ≡ true = rw is_here_is at is in
    rw (here, evolves.width) was
serves_step word width m n earlier earlier_later false true is_here_is is_barred evolves rest is =
    let was : serves word width earlier ≡ true = rw (is_here_is, is_barred) at is in
    let barred : bars word n.mark ≡ true = evolves.barred word is_barred in
    barred_serves word width n earlier_later barred (rest was)
serves_step word width m n earlier earlier_later false false is_here_is is_barred evolves rest is =
    let never : false ≡ true = rw (is_here_is, is_barred) at is in cc

pub serves_later : (word : Word) (width : ℤ) (moves later : List Movement) (places : List ℕ) → Later moves later →
    ((i : ℕ) → i < length places → get_or places i 0 < length moves) →
    serves word width (map (movement_at moves) places) ≡ true → serves word width (map (movement_at later) places) ≡ true
serves_later word width moves later [] is_later within is = is
serves_later word width moves later (p ∷ places) is_later within is =
    serves_step word width (movement_at moves p) (movement_at later p) (map (movement_at moves) places)
    (map (movement_at later) places) (is_here word (movement_at moves p).mark) (bars word (movement_at moves p).mark) refl refl
    (is_later.each p (within 0 (omega arith)))
    (serves_later word width moves later places is_later (λ i below. within (suc i) (omega arith))) is

-- ---- a word, at its place

-- the word has each width that is served
abbrev pub KeepsWord : Word → ℤ → List Movement → List ℕ → Type 0
KeepsWord word value moves stand =
    (width : ℤ) → serves word width (map (movement_at moves) (reverse stand)) ≡ true → value ≡ width

here_once : (one other : Word) (mark : Mark) → is_here one mark ≡ true → is_here other mark ≡ true → one ≡ other
here_once First First Free is other_is = cc
here_once First First FirstOnly is other_is = cc
here_once First First SecondOnly is other_is = cc
here_once First First Fixed is other_is = cc
here_once First First FirstHere is other_is = cc
here_once First First SecondHere is other_is = cc
here_once First Second Free is other_is = cc
here_once First Second FirstOnly is other_is = cc
here_once First Second SecondOnly is other_is = cc
here_once First Second Fixed is other_is = cc
here_once First Second FirstHere is other_is = cc
here_once First Second SecondHere is other_is = cc
here_once Second First Free is other_is = cc
here_once Second First FirstOnly is other_is = cc
here_once Second First SecondOnly is other_is = cc
here_once Second First Fixed is other_is = cc
here_once Second First FirstHere is other_is = cc
here_once Second First SecondHere is other_is = cc
here_once Second Second Free is other_is = cc
here_once Second Second FirstOnly is other_is = cc
here_once Second Second SecondOnly is other_is = cc
here_once Second Second Fixed is other_is = cc
here_once Second Second FirstHere is other_is = cc
here_once Second Second SecondHere is other_is = cc

word_none : (word : Word) (m : Movement) (earlier : List Movement) (value x : ℤ) (here barred : Bool) →
    is_here word m.mark ≡ here → bars word m.mark ≡ barred →
    ((width : ℤ) → serves word width earlier ≡ true → value ≡ width) →
    serves word x (m ∷ earlier) ≡ true → word_after word m.mark None m.width value ≡ x
word_none word m earlier value x true barred is_here_is is_barred old is =
    let was : int_eq m.width x ≡ true = rw is_here_is at is in
    rw is_here_is ((Decides-int_eq m.width x).0 was)
word_none word m earlier value x false true is_here_is is_barred old is =
    let was : serves word x earlier ≡ true = rw (is_here_is, is_barred) at is in
    rw is_here_is (old x was)
word_none word m earlier value x false false is_here_is is_barred old is =
    let never : false ≡ true = rw (is_here_is, is_barred) at is in cc

word_some : (word repeated : Word) (m : Movement) (earlier : List Movement) (value x : ℤ) (here barred : Bool) →
    is_here word m.mark ≡ here → bars word m.mark ≡ barred →
    (serves repeated m.width earlier ≡ true) × (is_here repeated m.mark ≡ true) →
    ((width : ℤ) → serves word width earlier ≡ true → value ≡ width) →
    serves word x (m ∷ earlier) ≡ true → value ≡ x
word_some word repeated m earlier value x true barred is_here_is is_barred served old is =
    let was : int_eq m.width x ≡ true = rw is_here_is at is in
    let same : repeated ≡ word = here_once repeated word m.mark served.1 is_here_is in
    old m.width (subst (λ (w : Word). serves w m.width earlier ≡ true) same served.0) ∙ (Decides-int_eq m.width x).0 was
word_some word repeated m earlier value x false true is_here_is is_barred served old is =
    let was : serves word x earlier ≡ true = rw (is_here_is, is_barred) at is in old x was
word_some word repeated m earlier value x false false is_here_is is_barred served old is =
    let never : false ≡ true = rw (is_here_is, is_barred) at is in cc

word_by : (word : Word) (m : Movement) (earlier : List Movement) (value x : ℤ) (repeats : Option Word) →
    ((w : Word) → repeats ≡ Some w → (serves w m.width earlier ≡ true) × (is_here w m.mark ≡ true)) →
    ((width : ℤ) → serves word width earlier ≡ true → value ≡ width) →
    serves word x (m ∷ earlier) ≡ true → word_after word m.mark repeats m.width value ≡ x
word_by word m earlier value x None served old is =
    word_none word m earlier value x (is_here word m.mark) (bars word m.mark) refl refl old is
word_by word m earlier value x (Some repeated) served old is =
    word_some word repeated m earlier value x (is_here word m.mark) (bars word m.mark) refl refl (served repeated refl) old is

reverse-push : (xs : List ℕ) (x : ℕ) → reverse (xs ++ x ∷ []) ≡ x ∷ reverse xs
reverse-push xs x = reverse-append xs (x ∷ [])

-- after a movement
word_moved : (word : Word) (moves : List Movement) (stand : List ℕ) (p : ℕ) (value : ℤ) →
    ((w : Word) → (movement_at moves p).repeats ≡ Some w →
    (serves w (movement_at moves p).width (map (movement_at moves) (reverse stand)) ≡ true) × (is_here w (movement_at moves p).mark ≡ true)) →
    KeepsWord word value moves stand →
    KeepsWord word (word_after word (movement_at moves p).mark (movement_at moves p).repeats (movement_at moves p).width value) moves (stand ++ p ∷ [])
word_moved word moves stand p value served old x is =
    let m = movement_at moves p in
    let front : serves word x (m ∷ map (movement_at moves) (reverse stand)) ≡ true =
    ap (λ (places : List ℕ). serves word x (map (movement_at moves) places)) (sym (reverse-push stand p)) ∙ is in
    word_by word m (map (movement_at moves) (reverse stand)) value x m.repeats served old front

-- ---- both words of a family, here and in the lists around

pub record KeepsBoth (first second : Kept → ℤ) (moves : List Movement) (now : Kept) (stand : List ℕ) : Type 0 where
  pub one : KeepsWord First (first now) moves stand
  pub two : KeepsWord Second (second now) moves stand

-- what was put on the stack keeps the words of the lists around
abbrev pub Stacked : (Kept → ℤ) → (Kept → ℤ) → List Movement → List Kept → List ℕ → List ℕ → Type 0
Stacked first second moves [] [] stand = ⊤
Stacked first second moves [] (b ∷ began) stand = ⊥
Stacked first second moves (k ∷ stack) [] stand = ⊥
Stacked first second moves (k ∷ stack) (b ∷ began) stand =
    (b ≤ length stand) × KeepsBoth first second moves k (take b stand) × Stacked first second moves stack began (take b stand)

-- a family at a place of the page, against all movements of the page
pub record Holds (first second : Kept → ℤ) (moves : List Movement) (now : Kept) (stack : List Kept) (f : Family) : Type 0 where
  pub ranges : InRange f
  pub words : KeepsBoth first second moves now f.open_places
  pub began : List ℕ
  pub began_is : f.began ≡ reverse began
  pub stacked : Stacked first second moves stack began f.open_places

pub holds_none : (first second : Kept → ℤ) (moves : List Movement) (now : Kept) → Holds first second moves now [] no_movements
holds_none first second moves now = record {
  ranges = λ i below. absurd (omega arith);
  words = record { one = λ width is. let never : false ≡ true = is in cc; two = λ width is. let never : false ≡ true = is in cc };
  began = [];
  began_is = refl;
  stacked = tt;
}

-- a command that is no movement of the family
pub holds_same : (first second : Kept → ℤ) (moves : List Movement) (now next : Kept) (stack : List Kept) (f : Family) →
    first next ≡ first now → second next ≡ second now →
    Holds first second moves now stack f → Holds first second moves next stack f
holds_same first second moves now next stack f one two holds = record {
  ranges = holds.ranges;
  words = record {
    one = λ width is. one ∙ holds.words.one width is;
    two = λ width is. two ∙ holds.words.two width is;
  };
  began = holds.began;
  began_is = holds.began_is;
  stacked = holds.stacked;
}

stacked_push : (first second : Kept → ℤ) (moves : List Movement) (stack : List Kept) (began stand : List ℕ) (p : ℕ) →
    Stacked first second moves stack began stand → Stacked first second moves stack began (stand ++ p ∷ [])
stacked_push first second moves [] [] stand p is = is
stacked_push first second moves [] (b ∷ began) stand p is = absurd is
stacked_push first second moves (k ∷ stack) [] stand p is = absurd is
stacked_push first second moves (k ∷ stack) (b ∷ began) stand p is =
    let same : take b stand ≡ take b (stand ++ p ∷ []) = sym (take-append-le b stand (p ∷ []) is.0) in (
      omega (arith, is.0, length_push stand p),
      subst (λ (o : List ℕ). KeepsBoth first second moves k o) same is.1,
      subst (λ (o : List ℕ). Stacked first second moves stack began o) same is.2,
    )

pub in_range_push : (stand : List ℕ) (n : ℕ) → ((i : ℕ) → i < length stand → get_or stand i 0 < n) → (i : ℕ) →
    i < length (stand ++ n ∷ []) → (i < length stand) ⊎ (length stand ≤ i) → get_or (stand ++ n ∷ []) i 0 < n + 1
in_range_push stand n ranges i below (inl front) =
    let there = ranges i front in omega (arith, get_or_append_left stand (n ∷ []) 0 i front)
in_range_push stand n ranges i below (inr back) =
    let last : length stand ≡ i = omega (arith, length_push stand n) in
    omega (arith, get_or_push stand n 0 i last)

-- a movement of the family, as it stands at the end of the page
pub record MovesTo (width : ℤ) (moves : List Movement) (stand : List ℕ) (p : ℕ) : Type 0 where
  pub width_is : (movement_at moves p).width ≡ width
  pub served : (w : Word) → (movement_at moves p).repeats ≡ Some w →
      (serves w (movement_at moves p).width (map (movement_at moves) (reverse stand)) ≡ true)
      × (is_here w (movement_at moves p).mark ≡ true)

latest_in : (stand : List ℕ) (n m : ℕ) → n ≤ m → ((i : ℕ) → i < length stand → get_or stand i 0 < n) → (i : ℕ) →
    i < length (reverse stand) → get_or (reverse stand) i 0 < m
latest_in stand n m longer ranges i below =
    let long : length (reverse stand) ≡ length stand = length-reverse stand in
    let there = ranges (length stand - 1 - i) (omega arith) in
    omega (arith, get_or-reverse stand i 0 (omega arith))

pub moves_to : (width : ℤ) (f : Family) (moves : List Movement) → InRange f → Later (moved width f).moves moves →
    MovesTo width moves f.open_places (length f.moves)
moves_to width f moves ranges later =
    let new = added width f ranges in
    let after = (moved width f).moves in
    let p = length f.moves in
    let evolves = later.each p (omega (arith, new.long)) in
    let is : (movement_at moves p).width ≡ width = evolves.width ∙ new.width_is in
    record {
      width_is = is;
      served = λ w repeats.
          let served = new.served w (sym evolves.repeats ∙ repeats) in (
            subst (λ (x : ℤ). serves w x (map (movement_at moves) (reverse f.open_places)) ≡ true) (sym is)
                (serves_later w width after moves (reverse f.open_places) later
                (latest_in f.open_places (length f.moves) (length after) (omega (arith, new.long)) ranges) served.0),
            evolves.here w served.1,
          );
    }

pub holds_moved : (first second : Kept → ℤ) (moves : List Movement) (now next : Kept) (stack : List Kept) (f : Family)
    (width : ℤ) → Holds first second moves now stack f → MovesTo width moves f.open_places (length f.moves) →
    length (moved width f).moves ≡ length f.moves + 1 →
    first next ≡ word_after First (movement_at moves (length f.moves)).mark (movement_at moves (length f.moves)).repeats (movement_at moves (length f.moves)).width (first now) →
    second next ≡ word_after Second (movement_at moves (length f.moves)).mark (movement_at moves (length f.moves)).repeats (movement_at moves (length f.moves)).width (second now) →
    Holds first second moves next stack (moved width f)
holds_moved first second moves now next stack f width holds new long one two = record {
  ranges = λ i below.
      let there = in_range_push f.open_places (length f.moves) holds.ranges i below (cases_lt i (length f.open_places)) in
      omega (arith, there);
  words = record {
    one = λ x is. one ∙ word_moved First moves f.open_places (length f.moves) (first now) new.served holds.words.one x is;
    two = λ x is. two ∙ word_moved Second moves f.open_places (length f.moves) (second now) new.served holds.words.two x is;
  };
  began = holds.began;
  began_is = holds.began_is;
  stacked = stacked_push first second moves stack holds.began f.open_places (length f.moves) holds.stacked;
}

-- a list begins
pub holds_opened : (first second : Kept → ℤ) (moves : List Movement) (now : Kept) (stack : List Kept) (f : Family) →
    Holds first second moves now stack f → Holds first second moves now (now ∷ stack) (opened f)
holds_opened first second moves now stack f holds =
    let all : take (length f.open_places) f.open_places ≡ f.open_places = take_all (length f.open_places) f.open_places (omega arith) in
    record {
      ranges = holds.ranges;
      words = holds.words;
      began = length f.open_places ∷ holds.began;
      began_is = ap (λ (b : List ℕ). b ++ length f.open_places ∷ []) holds.began_is ∙ sym (reverse-cons (length f.open_places) holds.began);
      stacked = (
        omega arith,
        subst (λ (o : List ℕ). KeepsBoth first second moves now o) (sym all) holds.words,
        subst (λ (o : List ℕ). Stacked first second moves stack holds.began o) (sym all) holds.stacked,
      );
    }

closed_by : (first second : Kept → ℤ) (moves : List Movement) (now k : Kept) (stack : List Kept) (f : Family) (began : List ℕ) →
    InRange f → f.began ≡ reverse began → Stacked first second moves (k ∷ stack) began f.open_places →
    Holds first second moves k stack (closed f)
closed_by first second moves now k stack f [] ranges is stacked = absurd stacked
closed_by first second moves now k stack f (b ∷ began) ranges is stacked =
    let began_is : f.began ≡ reverse began ++ b ∷ [] = is ∙ reverse-cons b began in
    let long : length f.began - 1 ≡ length (reverse began) =
    omega (arith, ap (length {A = ℕ}) began_is, length_push (reverse began) b) in
    let last : slice_index f.began (length f.began - 1) ≡ b =
    ap (λ (n : ℕ). get_or f.began n 0) long ∙ ap (λ (l : List ℕ). get_or l (length (reverse began)) 0) began_is
    ∙ get_or_push (reverse began) b 0 (length (reverse began)) refl in
    let front : take (length f.began - 1) f.began ≡ reverse began =
    ap (λ (n : ℕ). take n f.began) long ∙ ap (take (length (reverse began))) began_is
    ∙ take_at (reverse began) (b ∷ []) (length (reverse began)) refl in
    let stand : take (slice_index f.began (length f.began - 1)) f.open_places ≡ take b f.open_places =
    ap (λ (n : ℕ). take n f.open_places) last in
    record {
      ranges = λ i below.
          let inside : i < length (take b f.open_places) = omega (arith, ap (length {A = ℕ}) stand, below) in
          let small : i < b = omega (arith, length-take b f.open_places) in
          let there = ranges i (omega (arith, length-take b f.open_places)) in
          omega (arith, ap (λ (o : List ℕ). get_or o i 0) stand, get_or-take b f.open_places i 0 small);
      words = subst (λ (o : List ℕ). KeepsBoth first second moves k o) (sym stand) stacked.1;
      began = began;
      began_is = front;
      stacked = subst (λ (o : List ℕ). Stacked first second moves stack began o) (sym stand) stacked.2;
    }

-- a list ends
pub holds_closed : (first second : Kept → ℤ) (moves : List Movement) (now k : Kept) (stack : List Kept) (f : Family) →
    Holds first second moves now (k ∷ stack) f → Holds first second moves k stack (closed f)
holds_closed first second moves now k stack f holds =
    closed_by first second moves now k stack f holds.began holds.ranges holds.began_is holds.stacked
