-- The walk through a list sets what stands in it, and so for each box and each page.
use Rattle.std.proofs.Common.{◌≡◌, ℕ, zero, suc, ℤ, pos, negsuc, ◌+ℤ◌, ◌-ℤ◌, Bool, true, false, ◌&&◌, Option, Some, None, unwrap_or, List, [], ◌∷◌, ◌++◌, refl, sym, ap, ◌∙◌, arith, subst, if◌then◌else◌, unsigned_abs}
use Rattle.std.specs.Int.{w32, int_wrap, is_positive}
use Rattle.std.specs.Int.RustNames.{FitsSigned}
use Rattle.std.proofs.lemmas.Int.{ints, int_wrap_fits, SFits-int_wrap, int_wrap-sub_right}
use Rattle.scaled.specs.declared.spacing.Glue.{Glue}
use Rattle.nodes.specs.declared.boxes.GlueSet.{GlueSet}
use Rattle.nodes.specs.Inside.{inside}
use Rattle.dvi_out.specs.Places as place
use Rattle.dvi_out.specs.Places.{Placed, Laid, Filler, Nothing, FillsWithRule, FillsWithBox, Hung, modulo, length_along, bar_between, hung, hung_between, hung_along, filled}
use Rattle.dvi_out.specs.DviReading.{Reader}
use Rattle.dvi_out.specs.SpellingWalk as spell
use Rattle.dvi_out.specs.SpellingWalk.{Walk, Leader, NoLeader, RuleLeader, BoxLeader, Sizes, Copies, plus, minus, to_h, to_v, growth, part_of, glued, space_of, advanced, rule_across, rule_down, with_rule, with_rule_leaders, with_box_leaders, with_leader, copies_in, copies_of, times, with_copy}
use Rattle.dvi_out.specs.WalksSet.{FitsIfThere}
use Rattle.dvi_out.proofs.Following.{Sets, quiet, sets_then, sets_quietly, plus_is, plus_on, minus_on, wrapped_fits}
use Rattle.dvi_out.proofs.WalkAt.{frame_at, around_at, along, At, place_h, place_v, at_next, along_by, along-push, parts-push, growth_is, part_is}
use Rattle.dvi_out.proofs.WalkLeaders.{BoxLaw, SameSizes, same_copies, copies_across, copies_down, times_keep}
use Rattle.dvi_out.proofs.WalkNodes.{InList, LeaderLaw, across_sets, across_keeps, down_sets, down_keeps}

-- ---- what fills a space

-- the walk goes from one distance to another, and this is set
pub record Fills (widths : ℕ → ℕ → ℤ) (start : Reader) (vertical : Bool) (h v ends : ℤ) (w x : Walk) (new : List Placed) : Type 0 where
  pub sets : Sets widths start w x new
  pub at_h : x.h ≡ modulo (place_h vertical h ends)
  pub at_v : x.v ≡ modulo (place_v vertical v ends)
  pub sum : x.sum ≡ w.sum
  pub grown : x.grown ≡ w.grown

come : (z begins ends : ℤ) → (z +ℤ begins) +ℤ (ends -ℤ begins) ≡ z +ℤ ends
come z begins ends = omega (arith, ints)

-- the end of a space
space_ends : (place space z begins ends : ℤ) → place ≡ modulo (z +ℤ begins) → space ≡ modulo (ends -ℤ begins) →
    plus place space ≡ modulo (z +ℤ ends)
space_ends place space z begins ends at is =
    plus_is place space (z +ℤ begins) (ends -ℤ begins) at is ∙ ap (int_wrap w32) (come z begins ends)

size_fits : (o : Option ℤ) (size : ℤ) → FitsIfThere o → FitsSigned w32 size → FitsSigned w32 (unwrap_or o size)
size_fits None size there fits = fits
size_fits (Some z) size there fits = there

pub zero_fits : FitsSigned w32 (pos 0)
unfolding int_wrap
zero_fits = SFits-int_wrap w32 (pos 0)

unsized : (p q : Bool) (l : List Placed) → q ≡ false → (if p && q then l else []) ≡ []
unsized true q l is = rw is refl
unsized false q l is = refl

three : (a b c : ℤ) → (a +ℤ b) +ℤ c ≡ a +ℤ (b +ℤ c)
three a b c = omega (arith, ints)

positive_is : (z : ℤ) → is_positive z ≡ true → z ≡ pos (unsigned_abs z)
positive_is (pos n) is = refl
positive_is (negsuc n) is = cc

back_to : (z begins : ℤ) → (z +ℤ begins) -ℤ z ≡ begins
back_to z begins = omega (arith, ints)

-- how far the walk is from the edge
far : (place z begins : ℤ) → place ≡ modulo (z +ℤ begins) → minus place (modulo z) ≡ modulo begins
far place z begins is =
    int_wrap-sub_right w32 place z ∙ minus_on place z (z +ℤ begins) is ∙ ap (int_wrap w32) (back_to z begins)

module _ (widths : ℕ → ℕ → ℤ) (start : Reader) (width height depth : ℤ) (fits : FitsSigned w32 width) (set : GlueSet) (h v : ℤ) where
  pub fill_plain : (vertical : Bool) (begins ends space : ℤ) (w : Walk) → w.h ≡ modulo (place_h vertical h begins) →
      w.v ≡ modulo (place_v vertical v begins) → space ≡ modulo (ends -ℤ begins) →
      Fills widths start vertical h v ends w (advanced (frame_at vertical width height depth set h v) space w) []
  unfolding advanced
  fill_plain true begins ends space w is_h is_v is = record {
    sets = quiet widths start w (to_v (plus w.v space) w) refl refl refl;
    at_h = is_h;
    at_v = space_ends w.v space v begins ends is_v is;
    sum = refl;
    grown = refl;
  }
  fill_plain false begins ends space w is_h is_v is = record {
    sets = quiet widths start w (to_h (plus w.h space) w) refl refl refl;
    at_h = space_ends w.h space h begins ends is_h is;
    at_v = is_v;
    sum = refl;
    grown = refl;
  }

  fill_rule : (vertical : Bool) (begins ends space : ℤ) (wide tall deep : Option ℤ) (w : Walk) → FitsIfThere wide →
      w.h ≡ modulo (place_h vertical h begins) → w.v ≡ modulo (place_v vertical v begins) → space ≡ modulo (ends -ℤ begins) →
      Fills widths start vertical h v ends w (with_rule_leaders (frame_at vertical width height depth set h v) space wide tall deep w)
      (bar_between (around_at vertical width height depth set h v) wide tall deep begins ends)
  unfolding with_rule_leaders
  fill_rule true begins ends space wide tall deep w there is_h is_v is =
      let a = to_v (plus w.v space) w in
      let a_v : a.v ≡ modulo (v +ℤ ends) = space_ends w.v space v begins ends is_v is in
      let size = unwrap_or wide width in
      let x = rule_down space size a in
      let keeps = down_keeps widths start width height depth set h v space size a in
      record {
        sets = sets_then widths start w a x [] (place.bar h (v +ℤ ends) (ends -ℤ begins) size) (quiet widths start w a refl refl refl)
            (down_sets widths start width height depth set h v space size h (v +ℤ ends) (ends -ℤ begins) a is_h a_v
            (wrapped_fits space (ends -ℤ begins) is) (size_fits wide width there fits) (sym is));
        at_h = keeps.0 ∙ is_h;
        at_v = keeps.1 ∙ a_v;
        sum = keeps.2;
        grown = keeps.3;
      }
  fill_rule false begins ends space wide tall deep w there is_h is_v is =
      let frame = frame_at false width height depth set h v in
      let high = unwrap_or tall height in
      let low = unwrap_or deep depth in
      let x = rule_across frame space high low w in
      let keeps = across_keeps widths start width height depth set h v space high low w is_v in
      let y = to_h (plus x.h space) x in
      let new = place.bar (h +ℤ begins) (v +ℤ low) (high +ℤ low) (ends -ℤ begins) in
      record {
        sets = sets_quietly widths start w x y new
            (across_sets widths start width height depth set h v space high low begins (ends -ℤ begins) w is_h
            (wrapped_fits space (ends -ℤ begins) is) (sym is))
            (quiet widths start x y refl refl refl);
        at_h = ap (λ (z : ℤ). plus z space) keeps.0 ∙ space_ends w.h space h begins ends is_h is;
        at_v = keeps.1 ∙ is_v;
        sum = keeps.2;
        grown = keeps.3;
      }

  -- ---- copies of a box

  module _ (how : ℕ) (b : Sizes) (hung : Hung) (same : SameSizes b hung) (inside : Walk → Walk) (law : BoxLaw widths inside hung.standing) where
    none_set : (vertical : Bool) (begins ends space : ℤ) (w : Walk) (c : Copies) → c ≡ spell.copies 0 0 0 →
        w.h ≡ modulo (place_h vertical h begins) → w.v ≡ modulo (place_v vertical v begins) → space ≡ modulo (ends -ℤ begins) →
        Fills widths start vertical h v ends w
        (spell.along (frame_at vertical width height depth set h v) space w.h w.v
        (times c.count (with_copy (frame_at vertical width height depth set h v) b inside c.between) (advanced (frame_at vertical width height depth set h v) (pos c.first) w))) []
    unfolding spell.along times advanced
    none_set true begins ends space w c is_none is_h is_v is =
        subst (λ (k : Copies). Fills widths start true h v ends w
        (spell.along (frame_at true width height depth set h v) space w.h w.v
        (times k.count (with_copy (frame_at true width height depth set h v) b inside k.between) (advanced (frame_at true width height depth set h v) (pos k.first) w))) [])
        (sym is_none)
        (record {
          sets = quiet widths start w (to_v (plus w.v space) (to_v (plus w.v (pos 0)) w)) refl refl refl;
          at_h = is_h;
          at_v = space_ends w.v space v begins ends is_v is;
          sum = refl;
          grown = refl;
        })
    none_set false begins ends space w c is_none is_h is_v is =
        subst (λ (k : Copies). Fills widths start false h v ends w
        (spell.along (frame_at false width height depth set h v) space w.h w.v
        (times k.count (with_copy (frame_at false width height depth set h v) b inside k.between) (advanced (frame_at false width height depth set h v) (pos k.first) w))) [])
        (sym is_none)
        (record {
          sets = quiet widths start w (to_h (plus w.h space) (to_h (plus w.h (pos 0)) w)) refl refl refl;
          at_h = space_ends w.h space h begins ends is_h is;
          at_v = is_v;
          sum = refl;
          grown = refl;
        })

    times_h : (between n : ℕ) (a : Walk) → a.h ≡ modulo h → (times n (with_copy (frame_at true width height depth set h v) b inside between) a).h ≡ modulo h
    unfolding times spell.behind_copy
    times_h between zero a is = is
    times_h between (suc n) a is = refl

    times_v : (between n : ℕ) (a : Walk) → a.v ≡ modulo v → (times n (with_copy (frame_at false width height depth set h v) b inside between) a).v ≡ modulo v
    unfolding times spell.behind_copy
    times_v between zero a is = is
    times_v between (suc n) a is = refl

    some_down : (begins ends space : ℤ) (size : ℕ) (w : Walk) (c : Copies) → modulo (hung.height +ℤ hung.depth) ≡ pos size →
        w.h ≡ modulo h → w.v ≡ modulo (v +ℤ begins) → space ≡ modulo (ends -ℤ begins) →
        Fills widths start true h v ends w
        (spell.along (frame_at true width height depth set h v) space w.h w.v
        (times c.count (with_copy (frame_at true width height depth set h v) b inside c.between) (advanced (frame_at true width height depth set h v) (pos c.first) w)))
        (place.hung_each (around_at true width height depth set h v) hung begins (place.steps c.count (pos c.first) (pos size +ℤ pos c.between)))
    unfolding spell.along advanced
    some_down begins ends space size w c is_size is_h is_v is =
        let frame = frame_at true width height depth set h v in
        let a = to_v (plus w.v (pos c.first)) w in
        let t = times c.count (with_copy frame b inside c.between) a in
        let keeps = times_keep widths start width height depth set h v b hung same inside law c.between true c.count a in
        let x = to_v (plus w.v space) t in
        let new = place.hung_each (around_at true width height depth set h v) hung begins (place.steps c.count (pos c.first) (pos size +ℤ pos c.between)) in
        record {
          sets = sets_quietly widths start w t x new
              (sets_then widths start w a t [] new (quiet widths start w a refl refl refl)
              (copies_down widths start width height depth set h v b hung same inside law c.between c.count begins (pos c.first) size a is_size is_h
              (plus_on w.v (pos c.first) (v +ℤ begins) is_v ∙ ap (int_wrap w32) (three v begins (pos c.first)))))
              (quiet widths start t x refl refl refl);
          at_h = times_h c.between c.count a is_h;
          at_v = space_ends w.v space v begins ends is_v is;
          sum = keeps.0;
          grown = keeps.1;
        }

    some_across : (begins ends space : ℤ) (size : ℕ) (w : Walk) (c : Copies) → hung.width ≡ pos size →
        w.h ≡ modulo (h +ℤ begins) → w.v ≡ modulo v → space ≡ modulo (ends -ℤ begins) →
        Fills widths start false h v ends w
        (spell.along (frame_at false width height depth set h v) space w.h w.v
        (times c.count (with_copy (frame_at false width height depth set h v) b inside c.between) (advanced (frame_at false width height depth set h v) (pos c.first) w)))
        (place.hung_each (around_at false width height depth set h v) hung begins (place.steps c.count (pos c.first) (pos size +ℤ pos c.between)))
    unfolding spell.along advanced
    some_across begins ends space size w c is_size is_h is_v is =
        let frame = frame_at false width height depth set h v in
        let a = to_h (plus w.h (pos c.first)) w in
        let t = times c.count (with_copy frame b inside c.between) a in
        let keeps = times_keep widths start width height depth set h v b hung same inside law c.between false c.count a in
        let x = to_h (plus w.h space) t in
        let new = place.hung_each (around_at false width height depth set h v) hung begins (place.steps c.count (pos c.first) (pos size +ℤ pos c.between)) in
        record {
          sets = sets_quietly widths start w t x new
              (sets_then widths start w a t [] new (quiet widths start w a refl refl refl)
              (copies_across widths start width height depth set h v b hung same inside law c.between c.count begins (pos c.first) size a is_size
              (plus_on w.h (pos c.first) (h +ℤ begins) is_h ∙ ap (int_wrap w32) (three h begins (pos c.first))) is_v))
              (quiet widths start t x refl refl refl);
          at_h = space_ends w.h space h begins ends is_h is;
          at_v = times_v c.between c.count a is_v;
          sum = keeps.0;
          grown = keeps.1;
        }

    -- what is set in a space, by its size and that of the box
    abbrev hangs : Bool → ℤ → ℤ → ℤ → List Placed
    hangs vertical begins sp size =
        if is_positive sp && is_positive size
        then place.hung_each (around_at vertical width height depth set h v) hung begins (place.copies how (modulo begins) (unsigned_abs sp) (unsigned_abs size))
        else []

    size_is : (vertical : Bool) → spell.size_along (frame_at vertical width height depth set h v) b ≡ hung_along vertical hung
    size_is true = ap (λ (z : ℤ). plus z b.depth) same.height ∙ ap (plus hung.height) same.depth
    size_is false = same.width

    distance_is : (vertical : Bool) (begins : ℤ) (w : Walk) → w.h ≡ modulo (place_h vertical h begins) → w.v ≡ modulo (place_v vertical v begins) →
        spell.distance (frame_at vertical width height depth set h v) w ≡ modulo begins
    distance_is true begins w is_h is_v = far w.v v begins is_v
    distance_is false begins w is_h is_v = far w.h h begins is_h

    -- the walk through some copies
    abbrev through : Bool → ℤ → Walk → Copies → Walk
    through vertical space w c =
        spell.along (frame_at vertical width height depth set h v) space w.h w.v
        (times c.count (with_copy (frame_at vertical width height depth set h v) b inside c.between) (advanced (frame_at vertical width height depth set h v) (pos c.first) w))

    some_by : (vertical : Bool) (begins ends space : ℤ) (size : ℕ) (w : Walk) (c : Copies) → hung_along vertical hung ≡ pos size →
        w.h ≡ modulo (place_h vertical h begins) → w.v ≡ modulo (place_v vertical v begins) → space ≡ modulo (ends -ℤ begins) →
        Fills widths start vertical h v ends w (through vertical space w c)
        (place.hung_each (around_at vertical width height depth set h v) hung begins (place.steps c.count (pos c.first) (pos size +ℤ pos c.between)))
    some_by true begins ends space size w c = some_down begins ends space size w c
    some_by false begins ends space size w c = some_across begins ends space size w c

    to_fill : (vertical : Bool) (ends : ℤ) (w x y : Walk) (a c : List Placed) → x ≡ y → a ≡ c → Fills widths start vertical h v ends w x a →
        Fills widths start vertical h v ends w y c
    to_fill vertical ends w x y a c walks sets fills =
        subst (λ (l : List Placed). Fills widths start vertical h v ends w y l) sets
        (subst (λ (z : Walk). Fills widths start vertical h v ends w z a) walks fills)

    fill_by : (vertical : Bool) (begins ends space : ℤ) (w : Walk) (p q : Bool) → w.h ≡ modulo (place_h vertical h begins) →
        w.v ≡ modulo (place_v vertical v begins) → space ≡ modulo (ends -ℤ begins) →
        is_positive (spell.size_along (frame_at vertical width height depth set h v) b) ≡ p → is_positive space ≡ q →
        Fills widths start vertical h v ends w (through vertical space w (copies_in (frame_at vertical width height depth set h v) space how b w))
        (hangs vertical begins space (spell.size_along (frame_at vertical width height depth set h v) b))
    unfolding copies_in
    fill_by vertical begins ends space w true true is_h is_v is sized spaced =
        let frame = frame_at vertical width height depth set h v in
        let size = spell.size_along frame b in
        let n = unsigned_abs size in
        let c = copies_of how (modulo begins) (pos (unsigned_abs space)) (pos n) in
        let found : copies_in frame space how b w ≡ c =
        rw (sized, spaced)
        (ap (λ (z : ℤ). copies_of how z space size) (distance_is vertical begins w is_h is_v)
        ∙ ap (λ (z : ℤ). copies_of how (modulo begins) z size) (positive_is space spaced)
        ∙ ap (copies_of how (modulo begins) (pos (unsigned_abs space))) (positive_is size sized)) in
        let lists : hangs vertical begins space size
        ≡ place.hung_each (around_at vertical width height depth set h v) hung begins (place.steps c.count (pos c.first) (pos n +ℤ pos c.between)) =
        rw (spaced, sized) (ap (place.hung_each (around_at vertical width height depth set h v) hung begins) (same_copies how (modulo begins) (unsigned_abs space) n)) in
        to_fill vertical ends w (through vertical space w c) (through vertical space w (copies_in frame space how b w))
        (place.hung_each (around_at vertical width height depth set h v) hung begins (place.steps c.count (pos c.first) (pos n +ℤ pos c.between)))
        (hangs vertical begins space size) (ap (through vertical space w) (sym found)) (sym lists)
        (some_by vertical begins ends space n w c (sym (size_is vertical) ∙ positive_is size sized) is_h is_v is)
    fill_by vertical begins ends space w true false is_h is_v is sized spaced =
        let frame = frame_at vertical width height depth set h v in
        let found : copies_in frame space how b w ≡ spell.copies 0 0 0 = rw (sized, spaced) refl in
        let lists : hangs vertical begins space (spell.size_along frame b) ≡ [] = rw (spaced) refl in
        subst (λ (l : List Placed). Fills widths start vertical h v ends w (through vertical space w (copies_in frame space how b w)) l) (sym lists)
        (none_set vertical begins ends space w (copies_in frame space how b w) found is_h is_v is)
    fill_by vertical begins ends space w false q is_h is_v is sized spaced =
        let frame = frame_at vertical width height depth set h v in
        let found : copies_in frame space how b w ≡ spell.copies 0 0 0 = rw (sized) refl in
        let lists : hangs vertical begins space (spell.size_along frame b) ≡ [] =
        unsized (is_positive space) (is_positive (spell.size_along frame b))
        (place.hung_each (around_at vertical width height depth set h v) hung begins (place.copies how (modulo begins) (unsigned_abs space) (unsigned_abs (spell.size_along frame b)))) sized in
        subst (λ (l : List Placed). Fills widths start vertical h v ends w (through vertical space w (copies_in frame space how b w)) l) (sym lists)
        (none_set vertical begins ends space w (copies_in frame space how b w) found is_h is_v is)

    fill_box : (vertical : Bool) (begins ends space : ℤ) (w : Walk) → w.h ≡ modulo (place_h vertical h begins) →
        w.v ≡ modulo (place_v vertical v begins) → space ≡ modulo (ends -ℤ begins) →
        Fills widths start vertical h v ends w (with_box_leaders (frame_at vertical width height depth set h v) space how b inside w)
        (hung_between (around_at vertical width height depth set h v) how hung begins ends)
    unfolding with_box_leaders
    fill_box vertical begins ends space w is_h is_v is =
        let frame = frame_at vertical width height depth set h v in
        to_fill vertical ends w (through vertical space w (copies_in frame space how b w)) (with_box_leaders frame space how b inside w)
        (hangs vertical begins space (spell.size_along frame b)) (hung_between (around_at vertical width height depth set h v) how hung begins ends) refl
        (ap (λ (z : ℤ). hangs vertical begins z (spell.size_along frame b)) is ∙ ap (hangs vertical begins (modulo (ends -ℤ begins))) (size_is vertical))
        (fill_by vertical begins ends space w (is_positive (spell.size_along frame b)) (is_positive space) is_h is_v is refl refl)

  -- the item of leaders fills their space
  pub fill_leader : (how : ℕ) (leader : Leader) (filler : Filler) → LeaderLaw widths leader filler → (vertical : Bool) (begins ends space : ℤ)
      (w : Walk) → w.h ≡ modulo (place_h vertical h begins) → w.v ≡ modulo (place_v vertical v begins) → space ≡ modulo (ends -ℤ begins) →
      Fills widths start vertical h v ends w (with_leader (frame_at vertical width height depth set h v) space how leader w)
      (filled filler how (around_at vertical width height depth set h v) begins ends)
  fill_leader how NoLeader Nothing law vertical begins ends space w = fill_plain vertical begins ends space w
  fill_leader how NoLeader (FillsWithRule a c d) law vertical begins ends space w = absurd law
  fill_leader how NoLeader (FillsWithBox b) law vertical begins ends space w = absurd law
  fill_leader how (RuleLeader wide tall deep) Nothing law vertical begins ends space w = absurd law
  fill_leader how (RuleLeader wide tall deep) (FillsWithRule a c d) law vertical begins ends space w = λ is_h is_v is.
      let fills = fill_rule vertical begins ends space wide tall deep w law.3 is_h is_v is in
      let frame = frame_at vertical width height depth set h v in
      let around = around_at vertical width height depth set h v in
      subst (λ (l : List Placed). Fills widths start vertical h v ends w (with_rule_leaders frame space wide tall deep w) l)
      (ap (λ (o : Option ℤ). bar_between around o tall deep begins ends) law.0
      ∙ ap (λ (o : Option ℤ). bar_between around a o deep begins ends) law.1
      ∙ ap (λ (o : Option ℤ). bar_between around a c o begins ends) law.2) fills
  fill_leader how (RuleLeader wide tall deep) (FillsWithBox b) law vertical begins ends space w = absurd law
  fill_leader how (BoxLeader b inside) Nothing law vertical begins ends space w = absurd law
  fill_leader how (BoxLeader b inside) (FillsWithRule a c d) law vertical begins ends space w = absurd law
  fill_leader how (BoxLeader b inside) (FillsWithBox hung) law vertical begins ends space w =
      fill_box how b hung law.0 inside law.1 vertical begins ends space w

  -- ---- glue and rules in a list

  -- the length of a node, by the distances of its ends
  long_by : (vertical : Bool) (front : List Laid) (l : Laid) (by : ℤ) → length_along vertical l ≡ by → l.part set ≡ pos 0 →
      by ≡ along vertical set (front ++ l ∷ []) -ℤ along vertical set front
  long_by vertical front l by is none =
      less (along vertical set front) by ∙ ap (λ (z : ℤ). z -ℤ along vertical set front) (sym (along_by vertical set front l by is none))
    where
      less : (a by : ℤ) → by ≡ (a +ℤ by) -ℤ a
      less a by = omega (arith, ints)

  pub rule_in : (wide tall deep : Option ℤ) (vertical : Bool) (front : List Laid) (l : Laid) (w : Walk) → At vertical set h v front w →
      l.across ≡ unwrap_or wide (pos 0) → l.down ≡ unwrap_or tall (pos 0) +ℤ unwrap_or deep (pos 0) → l.part set ≡ pos 0 →
      FitsIfThere wide →
      InList widths start vertical set h v front l w (with_rule (frame_at vertical width height depth set h v) wide tall deep w)
      (bar_between (around_at vertical width height depth set h v) wide tall deep (along vertical set front) (along vertical set (front ++ l ∷ [])))
  unfolding with_rule with_rule_leaders
  rule_in wide tall deep true front l w at across down none there =
      let by = unwrap_or tall (pos 0) +ℤ unwrap_or deep (pos 0) in
      let ends = along true set (front ++ l ∷ []) in
      let fills = fill_rule true (along true set front) ends (plus (unwrap_or tall (pos 0)) (unwrap_or deep (pos 0))) wide tall deep w there at.at_h at.at_v
      (ap (int_wrap w32) (long_by true front l by down none)) in
      record {
        sets = fills.sets;
        at = at_next true set h v front l w (with_rule (frame_at true width height depth set h v) wide tall deep w) at none fills.sum fills.grown fills.at_h fills.at_v;
      }
  rule_in wide tall deep false front l w at across down none there =
      let by = unwrap_or wide (pos 0) in
      let by_fits : FitsSigned w32 by = size_fits wide (pos 0) there zero_fits in
      let ends = along false set (front ++ l ∷ []) in
      let fills = fill_rule false (along false set front) ends by wide tall deep w there at.at_h at.at_v
      (sym (int_wrap_fits w32 by by_fits) ∙ ap (int_wrap w32) (long_by false front l by across none)) in
      record {
        sets = fills.sets;
        at = at_next false set h v front l w (with_rule (frame_at false width height depth set h v) wide tall deep w) at none fills.sum fills.grown fills.at_h fills.at_v;
      }

  -- the space of a glue goes from its beginning to its end
  pub space_is : (vertical : Bool) (glue : Glue) (front : List Laid) (l : Laid) (w : Walk) → At vertical set h v front w →
      length_along vertical l ≡ glue.width → l.part set ≡ place.part_of_glue glue set →
      space_of set glue w ≡ modulo (along vertical set (front ++ l ∷ []) -ℤ along vertical set front)
  unfolding space_of
  space_is vertical glue front l w at is part =
      let grows : growth set (w.sum +ℤ part_of set glue) ≡ place.share set (place.parts set front +ℤ l.part set) =
      growth_is set (w.sum +ℤ part_of set glue)
      ∙ ap (λ (z : ℤ). place.share set (z +ℤ part_of set glue)) at.sum
      ∙ ap (λ (z : ℤ). place.share set (place.parts set front +ℤ z)) (part_is set glue ∙ sym part) in
      plus_on (minus glue.width w.grown) (growth set (w.sum +ℤ part_of set glue)) (glue.width -ℤ w.grown) refl
      ∙ ap (λ (z : ℤ). modulo ((glue.width -ℤ z) +ℤ growth set (w.sum +ℤ part_of set glue))) at.grown
      ∙ ap (λ (z : ℤ). modulo ((glue.width -ℤ place.share set (place.parts set front)) +ℤ z)) grows
      ∙ ap (int_wrap w32) (between (place.lengths vertical front) glue.width (place.share set (place.parts set front)) (place.share set (place.parts set front +ℤ l.part set)))
      ∙ ap (λ (z : ℤ). modulo (((place.lengths vertical front +ℤ z) +ℤ place.share set (place.parts set front +ℤ l.part set)) -ℤ along vertical set front)) (sym is)
      ∙ ap (λ (z : ℤ). modulo (z -ℤ along vertical set front)) (sym (along-push vertical set front l))
    where
      between : (a g s t : ℤ) → (g -ℤ s) +ℤ t ≡ ((a +ℤ g) +ℤ t) -ℤ (a +ℤ s)
      between a g s t = omega (arith, ints)

  pub skip_at : (vertical : Bool) (glue : Glue) (front : List Laid) (l : Laid) (w x : Walk) (new : List Placed) → At vertical set h v front w →
      l.part set ≡ place.part_of_glue glue set →
      Fills widths start vertical h v (along vertical set (front ++ l ∷ [])) (glued set glue w) x new →
      InList widths start vertical set h v front l w x new
  unfolding glued
  skip_at vertical glue front l w x new at part fills =
      let sum : w.sum +ℤ part_of set glue ≡ place.parts set (front ++ l ∷ []) =
      ap (λ (z : ℤ). z +ℤ part_of set glue) at.sum ∙ ap (λ (z : ℤ). place.parts set front +ℤ z) (part_is set glue ∙ sym part)
      ∙ sym (parts-push set front l) in
      record {
        sets = sets_then widths start w (glued set glue w) x [] new (quiet widths start w (glued set glue w) refl refl refl) fills.sets;
        at = record {
          at_h = fills.at_h;
          at_v = fills.at_v;
          sum = fills.sum ∙ sum;
          grown = fills.grown ∙ growth_is set (w.sum +ℤ part_of set glue) ∙ ap (place.share set) sum;
        };
      }
