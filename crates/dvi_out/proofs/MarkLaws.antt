-- The search for a movement, one open movement after the other.
use Rattle.std.proofs.Common.{◌≡◌, ℕ, suc, ◌+◌, ◌<◌, ◌≤◌, ℤ, Bool, true, false, if◌then◌else◌, Option, Some, None, List, ◌∷◌, length, drop, reverse, refl, sym, ap, ◌∙◌, arith, add-zero, add-one}
use Rattle.std.specs.Option.{option_map}
use Rattle.std.proofs.Math.Seq.{drop-cons}
use Rattle.std.proofs.lemmas.List.{get_or-reverse, length-reverse, get_or-map, length-map, drop_all}
use Rattle.dvi_out.specs.declared.movements.Word.{Word}
use Rattle.dvi_out.specs.declared.movements.Word.TheVariants.{First, Second}
use Rattle.dvi_out.specs.declared.movements.Mark.{Mark}
use Rattle.dvi_out.specs.declared.movements.Mark.TheVariants.{Free, FirstOnly, SecondOnly, Fixed, FirstHere, SecondHere}
use Rattle.dvi_out.specs.declared.movements.Movement.{Movement}
use Rattle.std.specs.Ordering.{int_eq}
use Rattle.dvi_out.specs.declared.movements.Look.{Look}
use Rattle.dvi_out.specs.declared.movements.Look.TheVariants.{Pass, Hit, Leave}
use Rattle.dvi_out.specs.SpellingMovements.{Family, movement_at, open_at, open_movements, look_at, of_the_width, of_another_width, word_here, search, after_look}

-- what a search found that began so many movements later
abbrev pub later : ℕ → Option (ℕ × Word) → Option (ℕ × Word)
later k found = option_map (λ f. (f.0 + k, f.1)) found

later-none : (found : Option (ℕ × Word)) → later 0 found ≡ found
later-none None = refl
later-none (Some f) = ap (λ (n : ℕ). Some (n, f.1)) (add-zero f.0)

later-next : (k : ℕ) (found : Option (ℕ × Word)) →
    later k (option_map (λ f. (f.0 + 1, f.1)) found) ≡ later (k + 1) found
later-next k None = refl
later-next k (Some f) = ap (λ (n : ℕ). Some (n, f.1)) (omega arith)

pub open_from : (f : Family) (k : ℕ) → k < length f.open_places →
    drop k (open_movements f) ≡ open_at f k ∷ drop (k + 1) (open_movements f)
open_from f k within =
    let all = open_movements f in
    let long : length all ≡ length f.open_places =
    length-map (reverse f.open_places) (movement_at f.moves) ∙ length-reverse f.open_places in
    let here : k < length all = omega arith in
    let back : k < length (reverse f.open_places) = omega (arith, length-reverse f.open_places) in
    drop-cons all k (movement_at f.moves 0) here
    ∙ ap (λ (m : Movement). m ∷ drop (suc k) all)
    (get_or-map (movement_at f.moves) (reverse f.open_places) k 0 (movement_at f.moves 0) back ∙ ap (movement_at f.moves) (get_or-reverse f.open_places k 0 within))
    ∙ ap (λ (n : ℕ). open_at f k ∷ drop n all) (sym (add-one k))

-- the search goes on at a movement
from_here : (width : ℤ) (f : Family) (k : ℕ) (seen : Option Word) (look : Look) → k < length f.open_places →
    look_at width seen (open_at f k) ≡ look →
    search width (drop k (open_movements f)) seen
    ≡ after_look look (search width (drop (k + 1) (open_movements f)))
from_here width f k seen look within is =
    ap (λ (l : List Movement). search width l seen) (open_from f k within)
    ∙ ap (λ (l : Look). after_look l (search width (drop (k + 1) (open_movements f)))) is

-- what is found from the k-th on, where the first k are passed and this was seen
pub record IsFoundFrom (width : ℤ) (f : Family) (k : ℕ) (seen : Option Word) : Type 0 where
  pub is : search width (open_movements f) None ≡ later k (search width (drop k (open_movements f)) seen)

pub found_from_first : (width : ℤ) (f : Family) → IsFoundFrom width f 0 None
found_from_first width f = record { is = sym (later-none (search width (open_movements f) None)) }

pub found_passed : (width : ℤ) (f : Family) (k : ℕ) (seen now_seen : Option Word) → k < length f.open_places →
    look_at width seen (open_at f k) ≡ Pass now_seen → IsFoundFrom width f k seen → IsFoundFrom width f (k + 1) now_seen
found_passed width f k seen now_seen within look found = record {
  is =
      found.is ∙ ap (later k) (from_here width f k seen (Pass now_seen) within look)
      ∙ later-next k (search width (drop (k + 1) (open_movements f)) now_seen);
}

pub found_hit : (width : ℤ) (f : Family) (k : ℕ) (seen : Option Word) (word : Word) → k < length f.open_places →
    look_at width seen (open_at f k) ≡ Hit word → IsFoundFrom width f k seen →
    search width (open_movements f) None ≡ Some (k, word)
found_hit width f k seen word within look found =
    found.is ∙ ap (later k) (from_here width f k seen (Hit word) within look)
    ∙ ap (λ (n : ℕ). Some (n, word)) (omega arith)

pub found_leave : (width : ℤ) (f : Family) (k : ℕ) (seen : Option Word) → k < length f.open_places →
    look_at width seen (open_at f k) ≡ Leave → IsFoundFrom width f k seen → search width (open_movements f) None ≡ None
found_leave width f k seen within look found =
    found.is ∙ ap (later k) (from_here width f k seen Leave within look)

pub found_none : (width : ℤ) (f : Family) (k : ℕ) (seen : Option Word) → length f.open_places ≤ k →
    IsFoundFrom width f k seen → search width (open_movements f) None ≡ None
found_none width f k seen past found =
    found.is
    ∙ ap (λ (l : List Movement). later k (search width l seen))
    (drop_all k (open_movements f)
    (omega (arith, length-map (reverse f.open_places) (movement_at f.moves), length-reverse f.open_places)))

-- where a word was seen, a movement that is passed changes nothing of it
stays_by : (same : Bool) (word : Word) (mark : Mark) (now : Option Word) →
    (if same then of_the_width (Some word) mark else of_another_width (Some word) (word_here mark)) ≡ Pass now →
    now ≡ Some word
stays_by true First Free now is = cc
stays_by true First FirstOnly now is = cc
stays_by true First SecondOnly now is = cc
stays_by true First Fixed now is = cc
stays_by true First FirstHere now is = cc
stays_by true First SecondHere now is = cc
stays_by true Second Free now is = cc
stays_by true Second FirstOnly now is = cc
stays_by true Second SecondOnly now is = cc
stays_by true Second Fixed now is = cc
stays_by true Second FirstHere now is = cc
stays_by true Second SecondHere now is = cc
stays_by false First Free now is = cc
stays_by false First FirstOnly now is = cc
stays_by false First SecondOnly now is = cc
stays_by false First Fixed now is = cc
stays_by false First FirstHere now is = cc
stays_by false First SecondHere now is = cc
stays_by false Second Free now is = cc
stays_by false Second FirstOnly now is = cc
stays_by false Second SecondOnly now is = cc
stays_by false Second Fixed now is = cc
stays_by false Second FirstHere now is = cc
stays_by false Second SecondHere now is = cc

pub stays_seen : (width : ℤ) (word : Word) (movement : Movement) (now : Option Word) →
    look_at width (Some word) movement ≡ Pass now → now ≡ Some word
stays_seen width word movement now is = stays_by (int_eq movement.width width) word movement.mark now is
