-- A movement that repeats a word finds the word kept by a movement of its width.
use Rattle.std.proofs.Common.{◌≡◌, ℕ, suc, ◌+◌, ◌-◌, ◌<◌, ℤ, pos, Bool, true, false, not, Option, Some, None, ◌⊎◌, inl, inr, List, [], ◌∷◌, ◌++◌, length, drop, get_or, map, reverse, refl, sym, ap, ◌∙◌, arith, subst, if◌then◌else◌}
use Rattle.std.specs.Option.{option_map, unwrap_or}
use Rattle.std.specs.List.{fold}
use Rattle.std.specs.Prelude.{slice_index}
use Rattle.std.specs.Ordering.{int_eq}
use Rattle.std.proofs.lemmas.Bool.{cases_eq, cases_Bool}
use Rattle.std.proofs.lemmas.Bool.Decides.{Decides-int_eq}
use Rattle.std.proofs.lemmas.List.{length-set, length_push, length-reverse, length-drop, get_or-reverse, get_or-drop, get_or_push}
use Rattle.dvi_out.specs.declared.movements.Word.{Word}
use Rattle.dvi_out.specs.declared.movements.Word.TheVariants.{First, Second}
use Rattle.dvi_out.specs.declared.movements.Mark.{Mark}
use Rattle.dvi_out.specs.declared.movements.Mark.TheVariants.{Free, FirstOnly, SecondOnly, Fixed, FirstHere, SecondHere}
use Rattle.dvi_out.specs.declared.movements.Movement.{Movement}
use Rattle.dvi_out.specs.declared.movements.Look.{Look}
use Rattle.dvi_out.specs.declared.movements.Look.TheVariants.{Pass, Hit, Leave}
use Rattle.dvi_out.specs.SpellingMovements.{word_here, mark_here, mark_between, of_the_width, of_another_width, look_at, after_look, search, Family, moved, carried, repeated, movement_at, with_mark, kept_at, passed_at, open_movements, shared, with_found}
use Rattle.dvi_out.proofs.MarksServe.{is_here, bars, may, Later, later-kept, later-passes, passes_bar, here-here, later-later, later-push, set_here, set_elsewhere}

-- ---- words that are kept

-- From the latest of some movements to the earliest, the first that keeps a width as the word keeps this one, and those
-- before it never will keep theirs as the word.
abbrev pub serves : Word → ℤ → List Movement → Bool
serves word width [] = false
serves word width (m ∷ earlier) =
    if is_here word m.mark then int_eq m.width width else (if bars word m.mark then serves word width earlier else false)

same_width : (a b : ℤ) → a ≡ b → int_eq a b ≡ true
same_width a b is = (Decides-int_eq a b).1 is

abbrev Keeps : Word → ℤ → Movement → Type 0
Keeps word width m = (is_here word m.mark ≡ true) × (m.width ≡ width)

serves-here : (word : Word) (width : ℤ) (m : Movement) (earlier : List Movement) → Keeps word width m →
    serves word width (m ∷ earlier) ≡ true
serves-here word width m earlier keeps = rw (keeps.0, same_width m.width width keeps.1) refl

not_here : (word : Word) (mark : Mark) → bars word mark ≡ true → is_here word mark ≡ false
not_here First Free is = cc
not_here First FirstOnly is = cc
not_here First SecondOnly is = cc
not_here First Fixed is = cc
not_here First FirstHere is = cc
not_here First SecondHere is = cc
not_here Second Free is = cc
not_here Second FirstOnly is = cc
not_here Second SecondOnly is = cc
not_here Second Fixed is = cc
not_here Second FirstHere is = cc
not_here Second SecondHere is = cc

pub serves-barred : (word : Word) (width : ℤ) (m : Movement) (earlier : List Movement) → bars word m.mark ≡ true →
    serves word width (m ∷ earlier) ≡ serves word width earlier
serves-barred word width m earlier is = rw (not_here word m.mark is, is) refl

-- ---- the search

same_word : Word → Word → Bool
same_word First First = true
same_word First Second = false
same_word Second First = false
same_word Second Second = true

-- a look after which the word isn't found
avoids : Word → Look → Bool
avoids word (Pass None) = false
avoids word (Pass (Some seen)) = same_word word seen
avoids word (Hit found) = not (same_word word found)
avoids word Leave = true

look_avoids : (same : Bool) (word : Word) (mark : Mark) →
    avoids word (if same then of_the_width (Some word) mark else of_another_width (Some word) (word_here mark)) ≡ true
unfolding avoids same_word
look_avoids true First Free = refl
look_avoids true First FirstOnly = refl
look_avoids true First SecondOnly = refl
look_avoids true First Fixed = refl
look_avoids true First FirstHere = refl
look_avoids true First SecondHere = refl
look_avoids true Second Free = refl
look_avoids true Second FirstOnly = refl
look_avoids true Second SecondOnly = refl
look_avoids true Second Fixed = refl
look_avoids true Second FirstHere = refl
look_avoids true Second SecondHere = refl
look_avoids false First Free = refl
look_avoids false First FirstOnly = refl
look_avoids false First SecondOnly = refl
look_avoids false First Fixed = refl
look_avoids false First FirstHere = refl
look_avoids false First SecondHere = refl
look_avoids false Second Free = refl
look_avoids false Second FirstOnly = refl
look_avoids false Second SecondOnly = refl
look_avoids false Second Fixed = refl
look_avoids false Second FirstHere = refl
look_avoids false Second SecondHere = refl

-- what was found one movement later
found_later : (found : Option (ℕ × Word)) (k : ℕ) (word : Word) →
    option_map {U = ℕ × Word} (λ found. (found.0 + 1, found.1)) found ≡ Some (k, word) →
    (j : ℕ) × (found ≡ Some (j, word)) × (k ≡ j + 1)
found_later None k word is = cc
found_later (Some f) k word is =
    let number : f.0 + 1 ≡ k = ap (λ (o : Option (ℕ × Word)). (unwrap_or o (0, First)).0) is in
    let same : f.1 ≡ word = ap (λ (o : Option (ℕ × Word)). (unwrap_or o (0, First)).1) is in
    (f.0, ap (λ (w : Word). Some (f.0, w)) same, sym number)

avoided : (word : Word) (look : Look) (further : Option Word → Option (ℕ × Word)) (k : ℕ) → avoids word look ≡ true →
    ((j : ℕ) → further (Some word) ≡ Some (j, word) → ⊥) → after_look look further ≡ Some (k, word) → ⊥
unfolding avoids same_word
avoided word (Pass None) further k avoids never is = cc
avoided First (Pass (Some First)) further k avoids never is =
    let later = found_later (further (Some First)) k First is in never later.0 later.1
avoided First (Pass (Some Second)) further k avoids never is = cc
avoided Second (Pass (Some First)) further k avoids never is = cc
avoided Second (Pass (Some Second)) further k avoids never is =
    let later = found_later (further (Some Second)) k Second is in never later.0 later.1
avoided First (Hit First) further k avoids never is = cc
avoided First (Hit Second) further k avoids never is =
    let same : Second ≡ First = ap (λ (o : Option (ℕ × Word)). (unwrap_or o (0, First)).1) is in cc
avoided Second (Hit First) further k avoids never is =
    let same : First ≡ Second = ap (λ (o : Option (ℕ × Word)). (unwrap_or o (0, First)).1) is in cc
avoided Second (Hit Second) further k avoids never is = cc
avoided word Leave further k avoids never is = cc

-- where a movement that is kept as a word was passed, the word isn't found
never : (width : ℤ) (movements : List Movement) (word : Word) (k : ℕ) →
    search width movements (Some word) ≡ Some (k, word) → ⊥
never width [] word k is = cc
never width (m ∷ earlier) word k is =
    avoided word (look_at width (Some word) m) (search width earlier) k (look_avoids (int_eq m.width width) word m.mark)
    (λ j. never width earlier word j) is

-- what is hit may come to keep its width as the word
hit_may : (same : Bool) (seen : Option Word) (mark : Mark) (word : Word) →
    (if same then of_the_width seen mark else of_another_width seen (word_here mark)) ≡ Hit word →
    (may word mark ≡ true) × (same ≡ true)
hit_may true None Free First is = (cc, cc)
hit_may true None Free Second is = (cc, cc)
hit_may true None FirstOnly First is = (cc, cc)
hit_may true None FirstOnly Second is = (cc, cc)
hit_may true None SecondOnly First is = (cc, cc)
hit_may true None SecondOnly Second is = (cc, cc)
hit_may true None Fixed First is = (cc, cc)
hit_may true None Fixed Second is = (cc, cc)
hit_may true None FirstHere First is = (cc, cc)
hit_may true None FirstHere Second is = (cc, cc)
hit_may true None SecondHere First is = (cc, cc)
hit_may true None SecondHere Second is = (cc, cc)
hit_may true (Some First) Free First is = (cc, cc)
hit_may true (Some First) Free Second is = (cc, cc)
hit_may true (Some First) FirstOnly First is = (cc, cc)
hit_may true (Some First) FirstOnly Second is = (cc, cc)
hit_may true (Some First) SecondOnly First is = (cc, cc)
hit_may true (Some First) SecondOnly Second is = (cc, cc)
hit_may true (Some First) Fixed First is = (cc, cc)
hit_may true (Some First) Fixed Second is = (cc, cc)
hit_may true (Some First) FirstHere First is = (cc, cc)
hit_may true (Some First) FirstHere Second is = (cc, cc)
hit_may true (Some First) SecondHere First is = (cc, cc)
hit_may true (Some First) SecondHere Second is = (cc, cc)
hit_may true (Some Second) Free First is = (cc, cc)
hit_may true (Some Second) Free Second is = (cc, cc)
hit_may true (Some Second) FirstOnly First is = (cc, cc)
hit_may true (Some Second) FirstOnly Second is = (cc, cc)
hit_may true (Some Second) SecondOnly First is = (cc, cc)
hit_may true (Some Second) SecondOnly Second is = (cc, cc)
hit_may true (Some Second) Fixed First is = (cc, cc)
hit_may true (Some Second) Fixed Second is = (cc, cc)
hit_may true (Some Second) FirstHere First is = (cc, cc)
hit_may true (Some Second) FirstHere Second is = (cc, cc)
hit_may true (Some Second) SecondHere First is = (cc, cc)
hit_may true (Some Second) SecondHere Second is = (cc, cc)
hit_may false None Free First is = (cc, cc)
hit_may false None Free Second is = (cc, cc)
hit_may false None FirstOnly First is = (cc, cc)
hit_may false None FirstOnly Second is = (cc, cc)
hit_may false None SecondOnly First is = (cc, cc)
hit_may false None SecondOnly Second is = (cc, cc)
hit_may false None Fixed First is = (cc, cc)
hit_may false None Fixed Second is = (cc, cc)
hit_may false None FirstHere First is = (cc, cc)
hit_may false None FirstHere Second is = (cc, cc)
hit_may false None SecondHere First is = (cc, cc)
hit_may false None SecondHere Second is = (cc, cc)
hit_may false (Some First) Free First is = (cc, cc)
hit_may false (Some First) Free Second is = (cc, cc)
hit_may false (Some First) FirstOnly First is = (cc, cc)
hit_may false (Some First) FirstOnly Second is = (cc, cc)
hit_may false (Some First) SecondOnly First is = (cc, cc)
hit_may false (Some First) SecondOnly Second is = (cc, cc)
hit_may false (Some First) Fixed First is = (cc, cc)
hit_may false (Some First) Fixed Second is = (cc, cc)
hit_may false (Some First) FirstHere First is = (cc, cc)
hit_may false (Some First) FirstHere Second is = (cc, cc)
hit_may false (Some First) SecondHere First is = (cc, cc)
hit_may false (Some First) SecondHere Second is = (cc, cc)
hit_may false (Some Second) Free First is = (cc, cc)
hit_may false (Some Second) Free Second is = (cc, cc)
hit_may false (Some Second) FirstOnly First is = (cc, cc)
hit_may false (Some Second) FirstOnly Second is = (cc, cc)
hit_may false (Some Second) SecondOnly First is = (cc, cc)
hit_may false (Some Second) SecondOnly Second is = (cc, cc)
hit_may false (Some Second) Fixed First is = (cc, cc)
hit_may false (Some Second) Fixed Second is = (cc, cc)
hit_may false (Some Second) FirstHere First is = (cc, cc)
hit_may false (Some Second) FirstHere Second is = (cc, cc)
hit_may false (Some Second) SecondHere First is = (cc, cc)
hit_may false (Some Second) SecondHere Second is = (cc, cc)

-- a movement that is kept as a word and passed was seen
pass_here : (same : Bool) (seen now_seen : Option Word) (mark : Mark) (word : Word) →
    (if same then of_the_width seen mark else of_another_width seen (word_here mark)) ≡ Pass now_seen →
    is_here word mark ≡ true → now_seen ≡ Some word
pass_here true None now_seen Free First is here = cc
pass_here true None now_seen Free Second is here = cc
pass_here true None now_seen FirstOnly First is here = cc
pass_here true None now_seen FirstOnly Second is here = cc
pass_here true None now_seen SecondOnly First is here = cc
pass_here true None now_seen SecondOnly Second is here = cc
pass_here true None now_seen Fixed First is here = cc
pass_here true None now_seen Fixed Second is here = cc
pass_here true None now_seen FirstHere First is here = cc
pass_here true None now_seen FirstHere Second is here = cc
pass_here true None now_seen SecondHere First is here = cc
pass_here true None now_seen SecondHere Second is here = cc
pass_here true (Some First) now_seen Free First is here = cc
pass_here true (Some First) now_seen Free Second is here = cc
pass_here true (Some First) now_seen FirstOnly First is here = cc
pass_here true (Some First) now_seen FirstOnly Second is here = cc
pass_here true (Some First) now_seen SecondOnly First is here = cc
pass_here true (Some First) now_seen SecondOnly Second is here = cc
pass_here true (Some First) now_seen Fixed First is here = cc
pass_here true (Some First) now_seen Fixed Second is here = cc
pass_here true (Some First) now_seen FirstHere First is here = cc
pass_here true (Some First) now_seen FirstHere Second is here = cc
pass_here true (Some First) now_seen SecondHere First is here = cc
pass_here true (Some First) now_seen SecondHere Second is here = cc
pass_here true (Some Second) now_seen Free First is here = cc
pass_here true (Some Second) now_seen Free Second is here = cc
pass_here true (Some Second) now_seen FirstOnly First is here = cc
pass_here true (Some Second) now_seen FirstOnly Second is here = cc
pass_here true (Some Second) now_seen SecondOnly First is here = cc
pass_here true (Some Second) now_seen SecondOnly Second is here = cc
pass_here true (Some Second) now_seen Fixed First is here = cc
pass_here true (Some Second) now_seen Fixed Second is here = cc
pass_here true (Some Second) now_seen FirstHere First is here = cc
pass_here true (Some Second) now_seen FirstHere Second is here = cc
pass_here true (Some Second) now_seen SecondHere First is here = cc
pass_here true (Some Second) now_seen SecondHere Second is here = cc
pass_here false None now_seen Free First is here = cc
pass_here false None now_seen Free Second is here = cc
pass_here false None now_seen FirstOnly First is here = cc
pass_here false None now_seen FirstOnly Second is here = cc
pass_here false None now_seen SecondOnly First is here = cc
pass_here false None now_seen SecondOnly Second is here = cc
pass_here false None now_seen Fixed First is here = cc
pass_here false None now_seen Fixed Second is here = cc
pass_here false None now_seen FirstHere First is here = cc
pass_here false None now_seen FirstHere Second is here = cc
pass_here false None now_seen SecondHere First is here = cc
pass_here false None now_seen SecondHere Second is here = cc
pass_here false (Some First) now_seen Free First is here = cc
pass_here false (Some First) now_seen Free Second is here = cc
pass_here false (Some First) now_seen FirstOnly First is here = cc
pass_here false (Some First) now_seen FirstOnly Second is here = cc
pass_here false (Some First) now_seen SecondOnly First is here = cc
pass_here false (Some First) now_seen SecondOnly Second is here = cc
pass_here false (Some First) now_seen Fixed First is here = cc
pass_here false (Some First) now_seen Fixed Second is here = cc
pass_here false (Some First) now_seen FirstHere First is here = cc
pass_here false (Some First) now_seen FirstHere Second is here = cc
pass_here false (Some First) now_seen SecondHere First is here = cc
pass_here false (Some First) now_seen SecondHere Second is here = cc
pass_here false (Some Second) now_seen Free First is here = cc
pass_here false (Some Second) now_seen Free Second is here = cc
pass_here false (Some Second) now_seen FirstOnly First is here = cc
pass_here false (Some Second) now_seen FirstOnly Second is here = cc
pass_here false (Some Second) now_seen SecondOnly First is here = cc
pass_here false (Some Second) now_seen SecondOnly Second is here = cc
pass_here false (Some Second) now_seen Fixed First is here = cc
pass_here false (Some Second) now_seen Fixed Second is here = cc
pass_here false (Some Second) now_seen FirstHere First is here = cc
pass_here false (Some Second) now_seen FirstHere Second is here = cc
pass_here false (Some Second) now_seen SecondHere First is here = cc
pass_here false (Some Second) now_seen SecondHere Second is here = cc

-- what is found is one of the movements, has the width, and may come to keep it as the word
record IsFound (width : ℤ) (word : Word) (moves : List Movement) (places : List ℕ) (k : ℕ) : Type 0 where
  within : k < length places
  can : may word (movement_at moves (get_or places k 0)).mark ≡ true
  width_is : (movement_at moves (get_or places k 0)).width ≡ width

found_at : (width : ℤ) (moves : List Movement) (p : ℕ) (places : List ℕ) (seen : Option Word) (k : ℕ) (word : Word)
    (look : Look) → look_at width seen (movement_at moves p) ≡ look →
    ((now_seen : Option Word) (j : ℕ) → search width (map (movement_at moves) places) now_seen ≡ Some (j, word) →
    IsFound width word moves places j) →
    after_look look (search width (map (movement_at moves) places)) ≡ Some (k, word) →
    IsFound width word moves (p ∷ places) k
found_at width moves p places seen k word (Pass now_seen) looks rest is =
    let further = found_later (search width (map (movement_at moves) places) now_seen) k word is in
    let there = rest now_seen further.0 further.1 in
    let number : k ≡ suc further.0 = omega (arith, further.2) in
    let at : get_or (p ∷ places) k 0 ≡ get_or places further.0 0 = ap (λ (n : ℕ). get_or (p ∷ places) n 0) number in
    record {
      within = omega (arith, there.within);
      can = ap (λ (q : ℕ). may word (movement_at moves q).mark) at ∙ there.can;
      width_is = ap (λ (q : ℕ). (movement_at moves q).width) at ∙ there.width_is;
    }
found_at width moves p places seen k word (Hit hit) looks rest is =
    let number : 0 ≡ k = ap (λ (o : Option (ℕ × Word)). (unwrap_or o (0, First)).0) is in
    let same : hit ≡ word = ap (λ (o : Option (ℕ × Word)). (unwrap_or o (0, First)).1) is in
    let m = movement_at moves p in
    let can = hit_may (int_eq m.width width) seen m.mark word (looks ∙ ap Hit same) in
    let at : get_or (p ∷ places) k 0 ≡ p = ap (λ (n : ℕ). get_or (p ∷ places) n 0) (sym number) in
    record {
      within = omega arith;
      can = ap (λ (q : ℕ). may word (movement_at moves q).mark) at ∙ can.0;
      width_is = ap (λ (q : ℕ). (movement_at moves q).width) at ∙ (Decides-int_eq m.width width).0 can.1;
    }
found_at width moves p places seen k word Leave looks rest is = cc

found_is : (width : ℤ) (moves : List Movement) (places : List ℕ) (seen : Option Word) (k : ℕ) (word : Word) →
    search width (map (movement_at moves) places) seen ≡ Some (k, word) → IsFound width word moves places k
found_is width moves [] seen k word is = cc
found_is width moves (p ∷ places) seen k word is =
    found_at width moves p places seen k word (look_at width seen (movement_at moves p)) refl
    (λ now_seen j. found_is width moves places now_seen j word) is

abbrev BarsOrKeeps : Word → ℤ → Movement → Type 0
BarsOrKeeps word width m = (bars word m.mark ≡ true) ⊎ Keeps word width m

past_one : (word : Word) (width : ℤ) (m : Movement) (earlier : List Movement) → BarsOrKeeps word width m →
    serves word width earlier ≡ true → serves word width (m ∷ earlier) ≡ true
past_one word width m earlier (inl barred) is = serves-barred word width m earlier barred ∙ is
past_one word width m earlier (inr keeps) is = serves-here word width m earlier keeps

-- a movement that was passed isn't kept as the word that is found
passed_not_here : (width : ℤ) (seen now_seen : Option Word) (m : Movement) (earlier : List Movement) (j : ℕ) (word : Word) →
    look_at width seen m ≡ Pass now_seen → search width earlier now_seen ≡ Some (j, word) →
    (is_here word m.mark ≡ true) ⊎ (is_here word m.mark ≡ false) → is_here word m.mark ≡ false
passed_not_here width seen now_seen m earlier j word looks is (inl here) =
    let was_seen = pass_here (int_eq m.width width) seen now_seen m.mark word looks here in
    absurd (never width earlier word j (ap (search width earlier) (sym was_seen) ∙ is))
passed_not_here width seen now_seen m earlier j word looks is (inr not_here) = not_here

serves_at : (width : ℤ) (moves later : List Movement) (word : Word) (p : ℕ) (places : List ℕ) (seen : Option Word) (k : ℕ)
    (look : Look) → look_at width seen (movement_at moves p) ≡ look →
    ((now_seen : Option Word) (j : ℕ) → search width (map (movement_at moves) places) now_seen ≡ Some (j, word) →
    ((i : ℕ) → i < j → is_here word (movement_at moves (get_or places i 0)).mark ≡ false →
    BarsOrKeeps word width (movement_at later (get_or places i 0))) →
    Keeps word width (movement_at later (get_or places j 0)) →
    serves word width (map (movement_at later) places) ≡ true) →
    after_look look (search width (map (movement_at moves) places)) ≡ Some (k, word) →
    ((i : ℕ) → i < k → is_here word (movement_at moves (get_or (p ∷ places) i 0)).mark ≡ false →
    BarsOrKeeps word width (movement_at later (get_or (p ∷ places) i 0))) →
    Keeps word width (movement_at later (get_or (p ∷ places) k 0)) →
    serves word width (map (movement_at later) (p ∷ places)) ≡ true
serves_at width moves later word p places seen k (Pass now_seen) looks rest is front keeps =
    let further = found_later (search width (map (movement_at moves) places) now_seen) k word is in
    let number : k ≡ suc further.0 = omega (arith, further.2) in
    let at : get_or (p ∷ places) k 0 ≡ get_or places further.0 0 = ap (λ (n : ℕ). get_or (p ∷ places) n 0) number in
    let m = movement_at moves p in
    let not_here = passed_not_here width seen now_seen m (map (movement_at moves) places) further.0 word looks further.1
    (cases_Bool (is_here word m.mark)) in
    let first : BarsOrKeeps word width (movement_at later p) = front 0 (omega (arith, further.2)) not_here in
    past_one word width (movement_at later p) (map (movement_at later) places) first
    (rest now_seen further.0 further.1 (λ i below. front (suc i) (omega (arith, further.2)))
    (subst (λ (q : ℕ). Keeps word width (movement_at later q)) at keeps))
serves_at width moves later word p places seen k (Hit hit) looks rest is front keeps =
    let number : 0 ≡ k = ap (λ (o : Option (ℕ × Word)). (unwrap_or o (0, First)).0) is in
    let at : get_or (p ∷ places) k 0 ≡ p = ap (λ (n : ℕ). get_or (p ∷ places) n 0) (sym number) in
    serves-here word width (movement_at later p) (map (movement_at later) places)
    (subst (λ (q : ℕ). Keeps word width (movement_at later q)) at keeps)
serves_at width moves later word p places seen k Leave looks rest is front keeps = cc

serves_found : (width : ℤ) (moves later : List Movement) (word : Word) (places : List ℕ) (seen : Option Word) (k : ℕ) →
    search width (map (movement_at moves) places) seen ≡ Some (k, word) →
    ((i : ℕ) → i < k → is_here word (movement_at moves (get_or places i 0)).mark ≡ false →
    BarsOrKeeps word width (movement_at later (get_or places i 0))) →
    Keeps word width (movement_at later (get_or places k 0)) →
    serves word width (map (movement_at later) places) ≡ true
serves_found width moves later word [] seen k is front keeps = cc
serves_found width moves later word (p ∷ places) seen k is front keeps =
    serves_at width moves later word p places seen k (look_at width seen (movement_at moves p)) refl
    (λ now_seen j. serves_found width moves later word places now_seen j) is front keeps

-- ---- a movement comes

-- open movements are movements of the page
abbrev pub InRange : Family → Type 0
InRange f = (i : ℕ) → i < length f.open_places → get_or f.open_places i 0 < length f.moves

-- what is true of a new movement once it stands behind the others
pub record IsAdded (width : ℤ) (f : Family) (after : List Movement) : Type 0 where
  pub later : Later f.moves after
  pub long : length after ≡ length f.moves + 1
  pub width_is : (movement_at after (length f.moves)).width ≡ width
  pub served : (word : Word) → (movement_at after (length f.moves)).repeats ≡ Some word →
      (serves word width (map (movement_at after) (reverse f.open_places)) ≡ true)
      × (is_here word (movement_at after (length f.moves)).mark ≡ true)

added_free : (width : ℤ) (f : Family) → IsAdded width f (f.moves ++ carried width ∷ [])
added_free width f =
    let new : movement_at (f.moves ++ carried width ∷ []) (length f.moves) ≡ carried width =
    get_or_push f.moves (carried width) (carried (pos 0)) (length f.moves) refl in
    record {
      later = later-push f.moves (carried width);
      long = length_push f.moves (carried width);
      width_is = ap (λ (m : Movement). m.width) new;
      served = λ word repeats. let none : None ≡ Some word = sym (ap (λ (m : Movement). m.repeats) new) ∙ repeats in cc;
    }

abbrev passed_mark : Word → List Movement → ℕ → Movement
passed_mark word moves place = with_mark (mark_between word (movement_at moves place).mark) (movement_at moves place)

passes-length : (word : Word) (between : List ℕ) (moves : List Movement) →
    length (fold (passed_at word) moves between) ≡ length moves
passes-length word [] moves = refl
passes-length word (place ∷ between) moves =
    passes-length word between (passed_at word moves place)
    ∙ length-set moves place (passed_mark word moves place)

-- the movement that shares its word with the new one
keeps_shared : (width : ℤ) (word : Word) (place : ℕ) (between : List ℕ) (moves : List Movement) → place < length moves →
    (movement_at moves place).width ≡ width →
    Keeps word width (movement_at (shared width word place between moves) place)
keeps_shared width word place between moves within is =
    let kept = kept_at word place moves in
    let here : movement_at kept place ≡ with_mark (mark_here word) (movement_at moves place) =
    set_here moves place (with_mark (mark_here word) (movement_at moves place)) within in
    let long : length kept ≡ length moves = length-set moves place (with_mark (mark_here word) (movement_at moves place)) in
    let passed = fold (passed_at word) kept between in
    let all = later-later kept passed (shared width word place between moves) (later-passes word between kept)
    (later-push passed (repeated width word)) in
    let evolves = all.each place (omega arith) in
    let was_here : is_here word (movement_at kept place).mark ≡ true =
    ap (λ (m : Movement). is_here word m.mark) here ∙ here-here word in
    (evolves.here word was_here, evolves.width ∙ ap (λ (m : Movement). m.width) here ∙ is)

bars_shared : (width : ℤ) (word : Word) (place : ℕ) (between : List ℕ) (moves : List Movement) (i p : ℕ) →
    place < length moves → (movement_at moves place).width ≡ width → i < length between → get_or between i 0 ≡ p →
    p < length moves → is_here word (movement_at moves p).mark ≡ false → (p ≡ place) ⊎ (p ≡ place → ⊥) →
    BarsOrKeeps word width (movement_at (shared width word place between moves) p)
bars_shared width word place between moves i p placed is among at within not_here (inl same) =
    let keeps = keeps_shared width word place between moves placed is in
    inr (subst (λ (q : ℕ). Keeps word width (movement_at (shared width word place between moves) q)) (sym same) keeps)
bars_shared width word place between moves i p placed is among at within not_here (inr other) =
    let kept = kept_at word place moves in
    let elsewhere : movement_at kept p ≡ movement_at moves p =
    set_elsewhere moves place p (with_mark (mark_here word) (movement_at moves place)) other in
    let long : length kept ≡ length moves = length-set moves place (with_mark (mark_here word) (movement_at moves place)) in
    let passed = fold (passed_at word) kept between in
    let barred = passes_bar word between kept i p among at (omega arith)
    (ap (λ (m : Movement). is_here word m.mark) elsewhere ∙ not_here) in
    let more = (later-push passed (repeated width word)).each p (omega (arith, passes-length word between kept)) in
    inl (more.barred word barred)

-- the movements between are the latest
between_at : (stand : List ℕ) (k i : ℕ) → k < length stand → i < k →
    get_or (drop (length stand - k) stand) (k - 1 - i) 0 ≡ get_or (reverse stand) i 0
between_at stand k i within below =
    get_or-drop (length stand - k) stand (k - 1 - i) 0
    ∙ ap (λ (n : ℕ). get_or stand n 0) (omega arith) ∙ sym (get_or-reverse stand i 0 (omega arith))

latest_within : (f : Family) (i : ℕ) → InRange f → i < length f.open_places →
    get_or (reverse f.open_places) i 0 < length f.moves
latest_within f i ranges within =
    let there = ranges (length f.open_places - 1 - i) (omega arith) in
    subst (λ (p : ℕ). p < length f.moves) (sym (get_or-reverse f.open_places i 0 within)) there

same_served : (width : ℤ) (earlier : List Movement) (mark : Mark) (word other : Word) → Some word ≡ Some other →
    (serves word width earlier ≡ true) × (is_here word mark ≡ true) →
    (serves other width earlier ≡ true) × (is_here other mark ≡ true)
same_served width earlier mark word other is served =
    let same : word ≡ other = cc in
    subst (λ (w : Word). (serves w width earlier ≡ true) × (is_here w mark ≡ true)) same served

added_shared : (width : ℤ) (f : Family) (k : ℕ) (word : Word) → InRange f →
    search width (open_movements f) None ≡ Some (k, word) →
    IsAdded width f (shared width word (slice_index f.open_places (length f.open_places - 1 - k))
    (drop (length f.open_places - k) f.open_places) f.moves)
added_shared width f k word ranges is =
    let stand = f.open_places in
    let latest = reverse stand in
    let long : length latest ≡ length stand = length-reverse stand in
    let found = found_is width f.moves latest None k word is in
    let within : k < length stand = omega (arith, found.within) in
    let place = slice_index stand (length stand - 1 - k) in
    let between = drop (length stand - k) stand in
    let at : get_or latest k 0 ≡ place = get_or-reverse stand k 0 within in
    let placed : place < length f.moves = ranges (length stand - 1 - k) (omega arith) in
    let is_width : (movement_at f.moves place).width ≡ width =
    ap (λ (q : ℕ). (movement_at f.moves q).width) (sym at) ∙ found.width_is in
    let can : may word (movement_at f.moves place).mark ≡ true =
    ap (λ (q : ℕ). may word (movement_at f.moves q).mark) (sym at) ∙ found.can in
    let after = shared width word place between f.moves in
    let kept = kept_at word place f.moves in
    let passed = fold (passed_at word) kept between in
    let kept_long : length kept ≡ length f.moves = length-set f.moves place (with_mark (mark_here word) (movement_at f.moves place)) in
    let passed_long : length passed ≡ length f.moves = passes-length word between kept ∙ kept_long in
    let new : movement_at after (length f.moves) ≡ repeated width word =
    get_or_push passed (repeated width word) (carried (pos 0)) (length f.moves) passed_long in
    let keeps : Keeps word width (movement_at after (get_or latest k 0)) =
    subst (λ (q : ℕ). Keeps word width (movement_at after q)) (sym at) (keeps_shared width word place between f.moves placed is_width) in
    let serving : serves word width (map (movement_at after) latest) ≡ true =
    serves_found width f.moves after word latest None k is
    (λ i below not_here.
    bars_shared width word place between f.moves (k - 1 - i) (get_or latest i 0) placed is_width
    (omega (arith, length-drop (length stand - k) stand))
    (between_at stand k i within below)
    (latest_within f i ranges (omega arith)) not_here (cases_eq (get_or latest i 0) place)) keeps in
    record {
      later = later-later f.moves kept after (later-kept word f.moves place can)
          (later-later kept passed after (later-passes word between kept) (later-push passed (repeated width word)));
      long = omega (arith, length_push passed (repeated width word));
      width_is = ap (λ (m : Movement). m.width) new;
      served = λ other repeats.
          same_served width (map (movement_at after) latest) (movement_at after (length f.moves)).mark word other
          (sym (ap (λ (m : Movement). m.repeats) new) ∙ repeats)
          (serving, ap (λ (m : Movement). is_here word m.mark) new ∙ here-here word);
    }

with_found_added : (width : ℤ) (f : Family) (found : Option (ℕ × Word)) → InRange f →
    search width (open_movements f) None ≡ found → IsAdded width f (with_found width f found)
with_found_added width f None ranges is = added_free width f
with_found_added width f (Some found) ranges is = added_shared width f found.0 found.1 ranges is

pub added : (width : ℤ) (f : Family) → InRange f → IsAdded width f (moved width f).moves
added width f ranges = with_found_added width f (search width (open_movements f) None) ranges refl
