-- Copies of a leader box: the walk goes through them where they stand.
use Rattle.std.proofs.Common.{◌≡◌, ℕ, zero, suc, ◌-◌, ◌/◌, ◌%◌, ℤ, pos, negsuc, ◌+ℤ◌, Bool, true, false, List, [], ◌++◌, refl, sym, ap, ◌∙◌, arith, subst, unsigned_abs, add-zero}
use Rattle.std.specs.Int.{w32, int_wrap, int_rem_euclid}
use Rattle.std.proofs.lemmas.Int.{ints}
use Rattle.dvi_out.specs.Places as place
use Rattle.dvi_out.specs.Places.{Placed, Hung, modulo, steps, hung_at, hung_each}
use Rattle.dvi_out.specs.DviReading.{Reader}
use Rattle.nodes.specs.declared.boxes.GlueSet.{GlueSet}
use Rattle.dvi_out.specs.SpellingWalk.{Walk, Sizes, Copies, plus, to_h, to_v, synched_h, synched_v, at_copy, behind_copy, with_copy, times, copies_of, aligned, centred, expanded}
use Rattle.dvi_out.proofs.Following.{Sets, quiet, sets_then, sets_quietly, sets_synched_h, sets_synched_v, same_h, same_v, plus_on, wrapped_fits}
use Rattle.dvi_out.proofs.WalkAt.{frame_at, around_at}

-- what walking through a box sets, wherever it stands
pub record BoxLaw (widths : ℕ → ℕ → ℤ) (inside : Walk → Walk) (standing : ℤ → ℤ → List Placed) : Type 0 where
  pub sets : (start : Reader) (h v : ℤ) (w : Walk) → w.h ≡ modulo h → w.v ≡ modulo v → Sets widths start w (inside w) (standing h v)
  pub sum : (w : Walk) → (inside w).sum ≡ w.sum
  pub grown : (w : Walk) → (inside w).grown ≡ w.grown

-- the sizes of a box and the same of what is hung
pub record SameSizes (b : Sizes) (hung : Hung) : Type 0 where
  pub width : b.width ≡ hung.width
  pub height : b.height ≡ hung.height
  pub depth : b.depth ≡ hung.depth
  pub shift : b.shift ≡ hung.shift

-- ---- how many, and where

abbrev spread : Copies → ℕ → List ℤ
spread c size = steps c.count (pos c.first) (pos size +ℤ pos c.between)

-- the sizes are positive
same_rest : (offset : ℤ) (size : ℕ) → place.rest_of offset size ≡ unsigned_abs (int_rem_euclid offset (pos size))
same_rest (pos n) size = refl
same_rest (negsuc n) size = refl

pub same_copies : (how : ℕ) (offset : ℤ) (space size : ℕ) →
    place.copies how offset space size ≡ spread (copies_of how offset (pos space) (pos size)) size
unfolding copies_of aligned centred expanded
same_copies zero offset space size =
    ap (λ (rest : ℕ). steps ((space - (size - rest) % size) / size) (pos ((size - rest) % size)) (pos size)) (same_rest offset size)
    ∙ ap (λ (n : ℕ). steps ((space - (size - unsigned_abs (int_rem_euclid offset (pos size))) % size) / size) (pos ((size - unsigned_abs (int_rem_euclid offset (pos size))) % size)) (pos n)) (sym (add-zero size))
same_copies (suc zero) offset space size =
    ap (λ (n : ℕ). steps (space / size) (pos (space % size / 2)) (pos n)) (sym (add-zero size))
same_copies (suc (suc more)) offset space size = refl

times_first : (n : ℕ) (f : Walk → Walk) (w : Walk) → times (suc n) f w ≡ times n f (f w)
unfolding times
times_first zero f w = refl
times_first (suc n) f w = ap f (times_first n f w)

-- ---- one copy, and all

sum_four : (a b c d : ℤ) → (a +ℤ (b +ℤ c)) +ℤ d ≡ a +ℤ (b +ℤ (c +ℤ d))
sum_four a b c d = omega (arith, ints)

copy_step : (a b c s t : ℤ) → (a +ℤ (b +ℤ c)) +ℤ s +ℤ t ≡ a +ℤ (b +ℤ (c +ℤ (s +ℤ t)))
copy_step a b c s t = omega (arith, ints)

module _ (widths : ℕ → ℕ → ℤ) (start : Reader) (width height depth : ℤ) (set : GlueSet) (h v : ℤ) (b : Sizes) (hung : Hung)
    (same : SameSizes b hung) (inside : Walk → Walk) (law : BoxLaw widths inside hung.standing) (between : ℕ) where
  -- a copy in a horizontal list
  copy_across : (begins d : ℤ) (w : Walk) → w.h ≡ modulo (h +ℤ (begins +ℤ d)) → w.v ≡ modulo v →
      Sets widths start w (with_copy (frame_at false width height depth set h v) b inside between w)
      (hung_at (around_at false width height depth set h v) hung (begins +ℤ d))
  unfolding at_copy behind_copy
  copy_across begins d w is_h is_v =
      let a = to_v (plus (modulo v) b.shift) w in
      let c = synched_v a in
      let e = synched_h c in
      let v_is : plus (modulo v) b.shift ≡ modulo (v +ℤ hung.shift) =
      plus_on (modulo v) b.shift v refl ∙ ap (λ (z : ℤ). modulo (v +ℤ z)) same.shift in
      let one = quiet widths start w a refl refl refl in
      let two = sets_synched_v widths start a (wrapped_fits a.v (v +ℤ hung.shift) v_is) in
      let c_h : c.h ≡ modulo (h +ℤ (begins +ℤ d)) = (same_v a).0.h ∙ is_h in
      let three = sets_synched_h widths start c (wrapped_fits c.h (h +ℤ (begins +ℤ d)) c_h) in
      let e_h : e.h ≡ modulo (h +ℤ (begins +ℤ d)) = (same_h c).0.h ∙ c_h in
      let e_v : e.v ≡ modulo (v +ℤ hung.shift) = (same_h c).0.v ∙ (same_v a).0.v ∙ v_is in
      let four = law.sets start (h +ℤ (begins +ℤ d)) (v +ℤ hung.shift) e e_h e_v in
      let new = hung.standing (h +ℤ (begins +ℤ d)) (v +ℤ hung.shift) in
      let x = behind_copy (frame_at false width height depth set h v) b between w.h w.v (inside e) in
      sets_quietly widths start w (inside e) x new
      (sets_then widths start w e (inside e) [] new
      (sets_then widths start w c e [] [] (sets_then widths start w a c [] [] one two) three) four)
      (quiet widths start (inside e) x refl refl refl)

  -- a copy in a vertical list
  copy_down : (begins d : ℤ) (w : Walk) → w.h ≡ modulo h → w.v ≡ modulo (v +ℤ (begins +ℤ d)) →
      Sets widths start w (with_copy (frame_at true width height depth set h v) b inside between w)
      (hung_at (around_at true width height depth set h v) hung (begins +ℤ d))
  unfolding at_copy behind_copy
  copy_down begins d w is_h is_v =
      let a = to_h (plus (modulo h) b.shift) w in
      let c = synched_h a in
      let e = to_v (plus w.v b.height) c in
      let g = synched_v e in
      let h_is : plus (modulo h) b.shift ≡ modulo (h +ℤ hung.shift) =
      plus_on (modulo h) b.shift h refl ∙ ap (λ (z : ℤ). modulo (h +ℤ z)) same.shift in
      let one = quiet widths start w a refl refl refl in
      let two = sets_synched_h widths start a (wrapped_fits a.h (h +ℤ hung.shift) h_is) in
      let three = quiet widths start c e refl refl refl in
      let e_v : e.v ≡ modulo ((v +ℤ (begins +ℤ d)) +ℤ hung.height) =
      plus_on w.v b.height (v +ℤ (begins +ℤ d)) is_v ∙ ap (λ (z : ℤ). modulo ((v +ℤ (begins +ℤ d)) +ℤ z)) same.height in
      let four = sets_synched_v widths start e (wrapped_fits e.v ((v +ℤ (begins +ℤ d)) +ℤ hung.height) e_v) in
      let g_h : g.h ≡ modulo (h +ℤ hung.shift) = (same_v e).0.h ∙ (same_h a).0.h ∙ h_is in
      let g_v : g.v ≡ modulo ((v +ℤ (begins +ℤ d)) +ℤ hung.height) = (same_v e).0.v ∙ e_v in
      let five = law.sets start (h +ℤ hung.shift) ((v +ℤ (begins +ℤ d)) +ℤ hung.height) g g_h g_v in
      let new = hung.standing (h +ℤ hung.shift) ((v +ℤ (begins +ℤ d)) +ℤ hung.height) in
      let x = behind_copy (frame_at true width height depth set h v) b between w.h w.v (inside g) in
      sets_quietly widths start w (inside g) x new
      (sets_then widths start w g (inside g) [] new
      (sets_then widths start w e g [] [] (sets_then widths start w c e [] [] (sets_then widths start w a c [] [] one two) three) four) five)
      (quiet widths start (inside g) x refl refl refl)

  -- where the walk is behind a copy
  behind_across : (begins d : ℤ) (size : ℕ) (w : Walk) → hung.width ≡ pos size → w.h ≡ modulo (h +ℤ (begins +ℤ d)) →
      ((with_copy (frame_at false width height depth set h v) b inside between w).h
      ≡ modulo (h +ℤ (begins +ℤ (d +ℤ (pos size +ℤ pos between)))))
      × ((with_copy (frame_at false width height depth set h v) b inside between w).v ≡ modulo v)
  unfolding behind_copy
  behind_across begins d size w is is_h = (
    plus_on (plus w.h b.width) (pos between) ((h +ℤ (begins +ℤ d)) +ℤ b.width) (plus_on w.h b.width (h +ℤ (begins +ℤ d)) is_h)
        ∙ ap (λ (z : ℤ). modulo (((h +ℤ (begins +ℤ d)) +ℤ z) +ℤ pos between)) (same.width ∙ is)
        ∙ ap (int_wrap w32) (copy_step h begins d (pos size) (pos between)),
    refl,
  )

  behind_down : (begins d : ℤ) (size : ℕ) (w : Walk) → modulo (hung.height +ℤ hung.depth) ≡ pos size →
      w.v ≡ modulo (v +ℤ (begins +ℤ d)) →
      ((with_copy (frame_at true width height depth set h v) b inside between w).h ≡ modulo h)
      × ((with_copy (frame_at true width height depth set h v) b inside between w).v
      ≡ modulo (v +ℤ (begins +ℤ (d +ℤ (pos size +ℤ pos between)))))
  unfolding behind_copy
  behind_down begins d size w is is_v =
      let along : plus b.height b.depth ≡ pos size =
      ap (λ (z : ℤ). plus z b.depth) same.height ∙ ap (plus hung.height) same.depth ∙ is in (
        refl,
        plus_on (plus w.v (plus b.height b.depth)) (pos between) ((v +ℤ (begins +ℤ d)) +ℤ plus b.height b.depth)
            (plus_on w.v (plus b.height b.depth) (v +ℤ (begins +ℤ d)) is_v)
            ∙ ap (λ (z : ℤ). modulo (((v +ℤ (begins +ℤ d)) +ℤ z) +ℤ pos between)) along
            ∙ ap (int_wrap w32) (copy_step v begins d (pos size) (pos between)),
      )

  pub copies_across : (n : ℕ) (begins d : ℤ) (size : ℕ) (w : Walk) → hung.width ≡ pos size → w.h ≡ modulo (h +ℤ (begins +ℤ d)) →
      w.v ≡ modulo v →
      Sets widths start w (times n (with_copy (frame_at false width height depth set h v) b inside between) w)
      (hung_each (around_at false width height depth set h v) hung begins (steps n d (pos size +ℤ pos between)))
  unfolding times
  copies_across zero begins d size w is is_h is_v = quiet widths start w w refl refl refl
  copies_across (suc n) begins d size w is is_h is_v =
      let f = with_copy (frame_at false width height depth set h v) b inside between in
      let around = around_at false width height depth set h v in
      let further = hung_each around hung begins (steps n (d +ℤ (pos size +ℤ pos between)) (pos size +ℤ pos between)) in
      let there = behind_across begins d size w is is_h in
      subst (λ (x : Walk). Sets widths start w x (hung_at around hung (begins +ℤ d) ++ further)) (sym (times_first n f w))
      (sets_then widths start w (f w) (times n f (f w)) (hung_at around hung (begins +ℤ d)) further
      (copy_across begins d w is_h is_v)
      (copies_across n begins (d +ℤ (pos size +ℤ pos between)) size (f w) is there.0 there.1))

  pub copies_down : (n : ℕ) (begins d : ℤ) (size : ℕ) (w : Walk) → modulo (hung.height +ℤ hung.depth) ≡ pos size → w.h ≡ modulo h →
      w.v ≡ modulo (v +ℤ (begins +ℤ d)) →
      Sets widths start w (times n (with_copy (frame_at true width height depth set h v) b inside between) w)
      (hung_each (around_at true width height depth set h v) hung begins (steps n d (pos size +ℤ pos between)))
  unfolding times
  copies_down zero begins d size w is is_h is_v = quiet widths start w w refl refl refl
  copies_down (suc n) begins d size w is is_h is_v =
      let f = with_copy (frame_at true width height depth set h v) b inside between in
      let around = around_at true width height depth set h v in
      let further = hung_each around hung begins (steps n (d +ℤ (pos size +ℤ pos between)) (pos size +ℤ pos between)) in
      let there = behind_down begins d size w is is_v in
      subst (λ (x : Walk). Sets widths start w x (hung_at around hung (begins +ℤ d) ++ further)) (sym (times_first n f w))
      (sets_then widths start w (f w) (times n f (f w)) (hung_at around hung (begins +ℤ d)) further
      (copy_down begins d w is_h is_v)
      (copies_down n begins (d +ℤ (pos size +ℤ pos between)) size (f w) is there.0 there.1))

  -- the sum and the glue stay
  copy_keeps : (vertical : Bool) (w : Walk) →
      ((with_copy (frame_at vertical width height depth set h v) b inside between w).sum ≡ w.sum)
      × ((with_copy (frame_at vertical width height depth set h v) b inside between w).grown ≡ w.grown)
  unfolding at_copy behind_copy
  copy_keeps true w =
      let a = to_h (plus (modulo h) b.shift) w in
      let c = synched_h a in
      let e = to_v (plus w.v b.height) c in
      let g = synched_v e in (
        law.sum g ∙ (same_v e).0.sum ∙ (same_h a).0.sum,
        law.grown g ∙ (same_v e).0.grown ∙ (same_h a).0.grown,
      )
  copy_keeps false w =
      let a = to_v (plus (modulo v) b.shift) w in
      let c = synched_v a in
      let e = synched_h c in (
        law.sum e ∙ (same_h c).0.sum ∙ (same_v a).0.sum,
        law.grown e ∙ (same_h c).0.grown ∙ (same_v a).0.grown,
      )

  pub times_keep : (vertical : Bool) (n : ℕ) (w : Walk) →
      ((times n (with_copy (frame_at vertical width height depth set h v) b inside between) w).sum ≡ w.sum)
      × ((times n (with_copy (frame_at vertical width height depth set h v) b inside between) w).grown ≡ w.grown)
  unfolding times
  times_keep vertical zero w = (refl, refl)
  times_keep vertical (suc n) w =
      let before = times_keep vertical n w in
      let x = times n (with_copy (frame_at vertical width height depth set h v) b inside between) w in
      let one = copy_keeps vertical x in
      (one.0 ∙ before.0, one.1 ∙ before.1)
