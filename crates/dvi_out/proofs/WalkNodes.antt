-- Each node of a list sets what it holds, and the walk goes on behind it.
use Rattle.std.proofs.Common.{◌≡◌, ℕ, ◌-◌, ℤ, pos, ◌+ℤ◌, Bool, true, false, ◌&&◌, List, [], ◌∷◌, ◌++◌, refl, sym, ap, ◌∙◌, subst, if◌then◌else◌}
use Rattle.std.specs.Prelude.{⊤}
use Rattle.std.specs.Int.{w32, int_wrap, is_positive}
use Rattle.std.specs.Int.RustNames.{FitsSigned}
use Rattle.std.proofs.lemmas.Int.{int_wrap_fits, SFits-int_wrap}
use Rattle.nodes.specs.declared.boxes.GlueSet.{GlueSet}
use Rattle.nodes.specs.Inside.{inside}
use Rattle.dvi_out.specs.declared.command.Command.TheVariants.{Character, SetRule, PutRule}
use Rattle.dvi_out.specs.Places as place
use Rattle.dvi_out.specs.Places.{Placed, Glyph, Bar, Text, Laid, Filler, Nothing, FillsWithRule, FillsWithBox, modulo, length_along, bar, hung}
use Rattle.dvi_out.specs.DviReading.{Reader, go_right, put_rule}
use Rattle.dvi_out.specs.SpellingWalk as spell
use Rattle.dvi_out.specs.SpellingWalk.{Walk, Printed, Leader, NoLeader, RuleLeader, BoxLeader, plus, to_h, to_v, with_reader, with_command, synched_h, synched_v, advanced, with_character, with_special, rule_across, rule_down}
use Rattle.dvi_out.specs.WalksSet.{FitsIfThere}
use Rattle.dvi_out.proofs.Following.{Sets, quiet, sets_then, sets_by, sets_synched_h, sets_synched_v, same_h, same_v, at_walk, still, plus_on, wrapped_fits}
use Rattle.dvi_out.proofs.WalkSets.{sets_character, sets_special, sets_put_rule}
use Rattle.dvi_out.proofs.WalkAt.{frame_at, around_at, along, At, at_same, at_on_across, at_on_down}
use Rattle.dvi_out.proofs.WalkLeaders.{BoxLaw, SameSizes}

-- ---- what is to be shown of a node

-- in a list: what it sets, and that the walk is behind it
pub record InList (widths : ℕ → ℕ → ℤ) (start : Reader) (vertical : Bool) (set : GlueSet) (h v : ℤ) (front : List Laid) (l : Laid)
    (w x : Walk) (new : List Placed) : Type 0 where
  pub sets : Sets widths start w x new
  pub at : At vertical set h v (front ++ l ∷ []) x

-- as the item of leaders
abbrev pub LeaderLaw : (ℕ → ℕ → ℤ) → Leader → Filler → Type 0
LeaderLaw widths NoLeader Nothing = ⊤
LeaderLaw widths NoLeader (FillsWithRule width height depth) = ⊥
LeaderLaw widths NoLeader (FillsWithBox b) = ⊥
LeaderLaw widths (RuleLeader width height depth) Nothing = ⊥
LeaderLaw widths (RuleLeader width height depth) (FillsWithRule w h d) =
    (width ≡ w) × (height ≡ h) × (depth ≡ d) × FitsIfThere width
LeaderLaw widths (RuleLeader width height depth) (FillsWithBox b) = ⊥
LeaderLaw widths (BoxLeader b inside) Nothing = ⊥
LeaderLaw widths (BoxLeader b inside) (FillsWithRule w h d) = ⊥
LeaderLaw widths (BoxLeader b inside) (FillsWithBox hung) = SameSizes b hung × BoxLaw widths inside hung.standing

pub record NodeLaw (widths : ℕ → ℕ → ℤ) (p : Printed) (l : Laid) : Type 0 where
  pub in_list : (start : Reader) (vertical : Bool) (width height depth : ℤ) → FitsSigned w32 width → (set : GlueSet) (h v : ℤ)
      (front : List Laid) (w : Walk) → At vertical set h v front w →
      InList widths start vertical set h v front l w (p.in_list (frame_at vertical width height depth set h v) w)
      (l.holds (around_at vertical width height depth set h v) (along vertical set front) (along vertical set (front ++ l ∷ [])))
  pub leader : LeaderLaw widths p.leader l.filler

-- ---- nodes that only move, or do nothing

pub no_law : (widths : ℕ → ℕ → ℤ) → NodeLaw widths (spell.printed (λ frame w. w) NoLeader) place.nothing_laid
no_law widths = record {
  in_list = λ start vertical width height depth wide set h v front w at. record {
    sets = quiet widths start w w refl refl refl;
    at = at_same vertical set h v front place.nothing_laid w at (nothing_long vertical) refl;
  };
  leader = tt;
}
  where
    nothing_long : (vertical : Bool) → length_along vertical place.nothing_laid ≡ pos 0
    nothing_long true = refl
    nothing_long false = refl

module _ (widths : ℕ → ℕ → ℤ) (start : Reader) (width height depth : ℤ) (set : GlueSet) (h v : ℤ) where
  -- the walk goes on, and nothing is set
  pub moved_in : (vertical : Bool) (front : List Laid) (l : Laid) (w : Walk) (by : ℤ) → At vertical set h v front w → l.across ≡ by → l.down ≡ by →
      l.part set ≡ pos 0 → InList widths start vertical set h v front l w (advanced (frame_at vertical width height depth set h v) by w) []
  unfolding advanced
  moved_in true front l w by at across down none = record {
    sets = quiet widths start w (to_v (plus w.v by) w) refl refl refl;
    at = at_on_down set h v front l w (to_v (plus w.v by) w) by at down none refl refl refl refl;
  }
  moved_in false front l w by at across down none = record {
    sets = quiet widths start w (to_h (plus w.h by) w) refl refl refl;
    at = at_on_across set h v front l w (to_h (plus w.h by) w) by at across none refl refl refl refl;
  }

  -- ---- characters

  pub character_in : (font byte : ℕ) (size : ℤ) (vertical : Bool) (front : List Laid) (l : Laid) (w : Walk) → At vertical set h v front w →
      l.across ≡ size → l.down ≡ pos 0 → l.part set ≡ pos 0 → widths (font - 1) byte ≡ size →
      InList widths start vertical set h v front l w (with_character (frame_at vertical width height depth set h v) font byte size w)
      (place.glyph font byte (around_at vertical width height depth set h v) (along vertical set front))
  unfolding with_character
  character_in font byte size true front l w at across down none is = record {
    sets = quiet widths start w w refl refl refl;
    at = at_same true set h v front l w at down none;
  }
  character_in font byte size false front l w at across down none is =
      let x = synched_v (synched_h w) in
      let y = with_reader (plus x.reader_h size) x.reader_v (to_h (plus x.h size) (with_command (Character font byte) x)) in
      let there = at_walk w in
      let sets = sets_character widths start font byte size w (wrapped_fits w.h (h +ℤ along false set front) at.at_h) (wrapped_fits w.v v at.at_v) is in
      record {
        sets = subst (λ (g : List Placed). Sets widths start w y g)
            (ap (λ (z : ℤ). Glyph z w.v (font - 1) byte ∷ []) at.at_h ∙ ap (λ (z : ℤ). Glyph (modulo (h +ℤ along false set front)) z (font - 1) byte ∷ []) at.at_v)
            sets;
        at = at_on_across set h v front l w y size at across none there.same.sum there.same.grown
            (ap (λ (z : ℤ). plus z size) there.same.h) there.same.v;
      }

  -- ---- specials

  special_at : (bytes : List ℕ) (vertical : Bool) (front : List Laid) (l : Laid) (w : Walk) → At vertical set h v front w →
      length_along vertical l ≡ pos 0 → l.part set ≡ pos 0 → At vertical set h v (front ++ l ∷ []) (with_special bytes w)
  unfolding with_special
  special_at bytes vertical front l w at is none =
      let same = (at_walk w).same in
      let kept = at_same vertical set h v front l w at is none in
      record {
        at_h = same.h ∙ kept.at_h;
        at_v = same.v ∙ kept.at_v;
        sum = same.sum ∙ kept.sum;
        grown = same.grown ∙ kept.grown;
      }

  pub special_in : (bytes : List ℕ) (vertical : Bool) (front : List Laid) (l : Laid) (w : Walk) → At vertical set h v front w →
      l.across ≡ pos 0 → l.down ≡ pos 0 → l.part set ≡ pos 0 →
      InList widths start vertical set h v front l w (with_special bytes w)
      (place.text bytes (around_at vertical width height depth set h v) (along vertical set front))
  special_in bytes true front l w at across down none = record {
    sets = subst (λ (g : List Placed). Sets widths start w (with_special bytes w) g)
        (ap (λ (z : ℤ). Text z w.v bytes ∷ []) at.at_h ∙ ap (λ (z : ℤ). Text (modulo h) z bytes ∷ []) at.at_v)
        (sets_special widths start bytes w (wrapped_fits w.h h at.at_h) (wrapped_fits w.v (v +ℤ along true set front) at.at_v));
    at = special_at bytes true front l w at down none;
  }
  special_in bytes false front l w at across down none = record {
    sets = subst (λ (g : List Placed). Sets widths start w (with_special bytes w) g)
        (ap (λ (z : ℤ). Text z w.v bytes ∷ []) at.at_h ∙ ap (λ (z : ℤ). Text (modulo (h +ℤ along false set front)) z bytes ∷ []) at.at_v)
        (sets_special widths start bytes w (wrapped_fits w.h (h +ℤ along false set front) at.at_h) (wrapped_fits w.v v at.at_v));
    at = special_at bytes false front l w at across none;
  }

  -- ---- rules

  -- what a rule in a horizontal list keeps of the walk
  rule_keeps : (wide tall deep : ℤ) (w : Walk) (b : Bool) → w.v ≡ modulo v →
      let here = synched_v (to_v (plus (modulo v) deep) (synched_h w)) in
      let x = if b then with_reader (plus here.reader_h wide) here.reader_v (to_v (modulo v) (with_command (SetRule (plus tall deep) wide) here)) else w in
      (x.h ≡ w.h) × (x.v ≡ w.v) × (x.sum ≡ w.sum) × (x.grown ≡ w.grown)
  rule_keeps wide tall deep w true is =
      let a = to_v (plus (modulo v) deep) (synched_h w) in
      let two = (same_v a).0 in
      let one = (same_h w).0 in
      (two.h ∙ one.h, sym is, two.sum ∙ one.sum, two.grown ∙ one.grown)
  rule_keeps wide tall deep w false is = (refl, refl, refl, refl)

  rule_sets : (wide tall deep along_h : ℤ) (w : Walk) (b : Bool) → w.h ≡ modulo along_h → FitsSigned w32 wide →
      let here = synched_v (to_v (plus (modulo v) deep) (synched_h w)) in
      let x = if b then with_reader (plus here.reader_h wide) here.reader_v (to_v (modulo v) (with_command (SetRule (plus tall deep) wide) here)) else w in
      Sets widths start w x (if b then Bar (modulo along_h) (modulo (v +ℤ deep)) (plus tall deep) wide ∷ [] else [])
  rule_sets wide tall deep along_h w true is_h fits =
      let s = synched_h w in
      let a = to_v (plus (modulo v) deep) s in
      let here = synched_v a in
      let x = with_reader (plus here.reader_h wide) here.reader_v (to_v (modulo v) (with_command (SetRule (plus tall deep) wide) here)) in
      let v_is : a.v ≡ modulo (v +ℤ deep) = plus_on (modulo v) deep v refl in
      let new = Bar (modulo along_h) (modulo (v +ℤ deep)) (plus tall deep) wide in
      let reader_h : here.reader_h ≡ modulo along_h = (same_v a).1 ∙ (same_h w).1 ∙ is_h in
      let reader_v : here.reader_v ≡ modulo (v +ℤ deep) = (same_v a).2 ∙ v_is in
      sets_then widths start w here x [] (new ∷ [])
      (sets_then widths start w a here [] []
      (sets_then widths start w s a [] [] (sets_synched_h widths start w (wrapped_fits w.h along_h is_h)) (quiet widths start s a refl refl refl))
      (sets_synched_v widths start a (wrapped_fits a.v (v +ℤ deep) v_is)))
      (sets_by widths start here x (SetRule (plus tall deep) wide) (new ∷ []) (SFits-int_wrap w32 (tall +ℤ deep), fits) refl
      (λ q f. record {
        after = go_right wide (put_rule (plus tall deep) wide q);
        is = refl;
        h = ap (λ (z : ℤ). int_wrap w32 (z +ℤ wide)) f.h;
        v = ap (λ (z : ℤ). int_wrap w32 (z +ℤ pos 0)) f.v ∙ still here.reader_v f.v_fits;
        h_fits = SFits-int_wrap w32 (here.reader_h +ℤ wide);
        v_fits = f.v_fits;
        stack = refl;
        items =
            ap (λ (z : ℤ). q.items ++ Bar z q.now.v (plus tall deep) wide ∷ []) (f.h ∙ reader_h)
            ∙ ap (λ (z : ℤ). q.items ++ Bar (modulo along_h) z (plus tall deep) wide ∷ []) (f.v ∙ reader_v);
        counts = refl;
        pages = refl;
      }))
  rule_sets wide tall deep along_h w false is_h fits = quiet widths start w w refl refl refl

  -- a rule that fills from a distance to another in a horizontal list
  pub across_sets : (wide tall deep begins long : ℤ) (w : Walk) → w.h ≡ modulo (h +ℤ begins) → FitsSigned w32 wide → modulo long ≡ wide →
      Sets widths start w (rule_across (frame_at false width height depth set h v) wide tall deep w)
      (bar (h +ℤ begins) (v +ℤ deep) (tall +ℤ deep) long)
  unfolding rule_across
  across_sets wide tall deep begins long w is_h fits is =
      let sets = rule_sets wide tall deep (h +ℤ begins) w (is_positive (plus tall deep) && is_positive wide) is_h fits in
      let x = rule_across (frame_at false width height depth set h v) wide tall deep w in
      subst (λ (z : ℤ). Sets widths start w x (if is_positive (plus tall deep) && is_positive z then Bar (modulo (h +ℤ begins)) (modulo (v +ℤ deep)) (plus tall deep) z ∷ [] else []))
      (sym is) sets

  pub across_keeps : (wide tall deep : ℤ) (w : Walk) → w.v ≡ modulo v →
      let x = rule_across (frame_at false width height depth set h v) wide tall deep w in
      (x.h ≡ w.h) × (x.v ≡ w.v) × (x.sum ≡ w.sum) × (x.grown ≡ w.grown)
  unfolding rule_across
  across_keeps wide tall deep w is = rule_keeps wide tall deep w (is_positive (plus tall deep) && is_positive wide) is

  -- a rule in a vertical list, above where the walk has come to
  down_by : (thick wide long_h long_v : ℤ) (w : Walk) (b : Bool) → w.h ≡ modulo long_h → w.v ≡ modulo long_v → FitsSigned w32 thick →
      FitsSigned w32 wide →
      Sets widths start w (if b then with_command (PutRule thick wide) (synched_v (synched_h w)) else w)
      (if b then Bar (modulo long_h) (modulo long_v) thick wide ∷ [] else [])
  down_by thick wide long_h long_v w true is_h is_v tall fits =
      subst (λ (g : List Placed). Sets widths start w (with_command (PutRule thick wide) (synched_v (synched_h w))) g)
      (ap (λ (z : ℤ). Bar z w.v thick wide ∷ []) is_h ∙ ap (λ (z : ℤ). Bar (modulo long_h) z thick wide ∷ []) is_v)
      (sets_put_rule widths start thick wide w (wrapped_fits w.h long_h is_h) (wrapped_fits w.v long_v is_v) tall fits)
  down_by thick wide long_h long_v w false is_h is_v tall fits = quiet widths start w w refl refl refl

  pub down_sets : (thick wide long_h long_v long : ℤ) (w : Walk) → w.h ≡ modulo long_h → w.v ≡ modulo long_v → FitsSigned w32 thick →
      FitsSigned w32 wide → modulo long ≡ thick → Sets widths start w (rule_down thick wide w) (bar long_h long_v long wide)
  unfolding rule_down
  down_sets thick wide long_h long_v long w is_h is_v tall fits is =
      let sets = down_by thick wide long_h long_v w (is_positive thick && is_positive wide) is_h is_v tall fits in
      let x = rule_down thick wide w in
      subst (λ (z : ℤ). Sets widths start w x (if is_positive (modulo long) && is_positive z then Bar (modulo long_h) (modulo long_v) (modulo long) z ∷ [] else []))
      (sym (int_wrap_fits w32 wide fits))
      (subst (λ (z : ℤ). Sets widths start w x (if is_positive z && is_positive wide then Bar (modulo long_h) (modulo long_v) z wide ∷ [] else []))
      (sym is) sets)

  down_keeps_by : (thick wide : ℤ) (w : Walk) (b : Bool) →
      let x = if b then with_command (PutRule thick wide) (synched_v (synched_h w)) else w in
      (x.h ≡ w.h) × (x.v ≡ w.v) × (x.sum ≡ w.sum) × (x.grown ≡ w.grown)
  down_keeps_by thick wide w true = let same = (at_walk w).same in (same.h, same.v, same.sum, same.grown)
  down_keeps_by thick wide w false = (refl, refl, refl, refl)

  pub down_keeps : (thick wide : ℤ) (w : Walk) →
      let x = rule_down thick wide w in
      (x.h ≡ w.h) × (x.v ≡ w.v) × (x.sum ≡ w.sum) × (x.grown ≡ w.grown)
  unfolding rule_down
  down_keeps thick wide w = down_keeps_by thick wide w (is_positive thick && is_positive wide)
