-- Where a walk is in a list: at the sums over the nodes that it has passed.
use Rattle.std.proofs.Common.{◌≡◌, ℕ, zero, suc, ◌+◌, ◌*◌, ◌<◌, ℤ, pos, negsuc, neg_ℤ, ◌+ℤ◌, ◌*ℤ◌, Bool, true, false, ◌&&◌, Some, None, unwrap_or, List, [], ◌∷◌, ◌++◌, refl, sym, ap, ◌∙◌, arith, if◌then◌else◌}
use Rattle.std.specs.Int.{w32, int_wrap, is_positive, is_negative}
use Rattle.std.specs.Ordering.{int_eq}
use Rattle.std.proofs.Math.Nat.{div-eq_of_lt}
use Rattle.std.proofs.lemmas.Bool.{le-ltb}
use Rattle.std.proofs.lemmas.Int.{ints}
use Rattle.scaled.specs.declared.spacing.Glue.{Glue}
use Rattle.scaled.specs.ArithmeticQuotients.{nearest_quotient, nearest_of, nearest_whole}
use Rattle.scaled.specs.Glue.{same_order}
use Rattle.nodes.specs.declared.boxes.GlueSet.{GlueSet}
use Rattle.dvi_out.specs.Places as place
use Rattle.dvi_out.specs.Places.{Laid, Around, modulo, length_along, lengths, parts}
use Rattle.dvi_out.specs.SpellingWalk.{Walk, Frame, plus, growth, part_of}
use Rattle.dvi_out.proofs.Following.{plus_on}

-- ---- a list and its box, for the walk and for the places

abbrev pub frame_at : Bool → ℤ → ℤ → ℤ → GlueSet → ℤ → ℤ → Frame
frame_at vertical width height depth set h v =
    record { vertical = vertical; width = width; height = height; depth = depth; set = set; left_edge = modulo h; level = modulo v }

abbrev pub around_at : Bool → ℤ → ℤ → ℤ → GlueSet → ℤ → ℤ → Around
around_at vertical width height depth set h v =
    record { vertical = vertical; width = width; height = height; depth = depth; set = set; h = h; v = v }

-- how far what is behind some nodes stands from the edge
abbrev pub along : Bool → GlueSet → List Laid → ℤ
along vertical set front = lengths vertical front +ℤ place.share set (parts set front)

abbrev pub place_h : Bool → ℤ → ℤ → ℤ
place_h true h d = h
place_h false h d = h +ℤ d

abbrev pub place_v : Bool → ℤ → ℤ → ℤ
place_v true v d = v +ℤ d
place_v false v d = v

-- the walk is behind some nodes of a list with its edge at h and v
pub record At (vertical : Bool) (set : GlueSet) (h v : ℤ) (front : List Laid) (w : Walk) : Type 0 where
  pub at_h : w.h ≡ modulo (place_h vertical h (along vertical set front))
  pub at_v : w.v ≡ modulo (place_v vertical v (along vertical set front))
  pub sum : w.sum ≡ parts set front
  pub grown : w.grown ≡ place.share set (parts set front)

-- ---- sums

sum_more : (a b c : ℤ) → a +ℤ (b +ℤ c) ≡ (a +ℤ b) +ℤ c
sum_more a b c = omega (arith, ints)

sum_none : (a : ℤ) → a +ℤ pos 0 ≡ pos 0 +ℤ a
sum_none a = omega (arith, ints)

zero_sum : (a : ℤ) → pos 0 +ℤ a ≡ a
zero_sum a = omega (arith, ints)

sum_zero : (a : ℤ) → a +ℤ pos 0 ≡ a
sum_zero a = omega (arith, ints)

pub lengths-push : (vertical : Bool) (front : List Laid) (l : Laid) →
    lengths vertical (front ++ l ∷ []) ≡ lengths vertical front +ℤ length_along vertical l
lengths-push vertical [] l = sum_none (length_along vertical l)
lengths-push vertical (m ∷ front) l =
    ap (λ (z : ℤ). length_along vertical m +ℤ z) (lengths-push vertical front l)
    ∙ sum_more (length_along vertical m) (lengths vertical front) (length_along vertical l)

pub parts-push : (set : GlueSet) (front : List Laid) (l : Laid) → parts set (front ++ l ∷ []) ≡ parts set front +ℤ l.part set
parts-push set [] l = sum_none (l.part set)
parts-push set (m ∷ front) l =
    ap (λ (z : ℤ). m.part set +ℤ z) (parts-push set front l) ∙ sum_more (m.part set) (parts set front) (l.part set)

parts-same : (set : GlueSet) (front : List Laid) (l : Laid) → l.part set ≡ pos 0 → parts set (front ++ l ∷ []) ≡ parts set front
parts-same set front l is =
    parts-push set front l ∙ ap (λ (z : ℤ). parts set front +ℤ z) is ∙ sum_zero (parts set front)

-- the sum behind one node more
pub along-push : (vertical : Bool) (set : GlueSet) (front : List Laid) (l : Laid) →
    along vertical set (front ++ l ∷ [])
    ≡ (lengths vertical front +ℤ length_along vertical l) +ℤ place.share set (parts set front +ℤ l.part set)
along-push vertical set front l =
    ap (λ (z : ℤ). z +ℤ place.share set (parts set (front ++ l ∷ []))) (lengths-push vertical front l)
    ∙ ap (λ (z : ℤ). (lengths vertical front +ℤ length_along vertical l) +ℤ place.share set z) (parts-push set front l)

swap_last : (a b c : ℤ) → (a +ℤ b) +ℤ c ≡ (a +ℤ c) +ℤ b
swap_last a b c = omega (arith, ints)

-- and where the node takes no part in the glue
pub along_by : (vertical : Bool) (set : GlueSet) (front : List Laid) (l : Laid) (by : ℤ) → length_along vertical l ≡ by →
    l.part set ≡ pos 0 → along vertical set (front ++ l ∷ []) ≡ along vertical set front +ℤ by
along_by vertical set front l by is none =
    along-push vertical set front l
    ∙ ap (λ (z : ℤ). (lengths vertical front +ℤ z) +ℤ place.share set (parts set front +ℤ l.part set)) is
    ∙ ap (λ (z : ℤ). (lengths vertical front +ℤ by) +ℤ place.share set z) (ap (λ (z : ℤ). parts set front +ℤ z) none ∙ sum_zero (parts set front))
    ∙ swap_last (lengths vertical front) by (place.share set (parts set front))

-- ---- one node more

pub at_next : (vertical : Bool) (set : GlueSet) (h v : ℤ) (front : List Laid) (l : Laid) (w x : Walk) →
    At vertical set h v front w → l.part set ≡ pos 0 → x.sum ≡ w.sum → x.grown ≡ w.grown →
    x.h ≡ modulo (place_h vertical h (along vertical set (front ++ l ∷ []))) →
    x.v ≡ modulo (place_v vertical v (along vertical set (front ++ l ∷ []))) → At vertical set h v (front ++ l ∷ []) x
at_next vertical set h v front l w x at none sum grown at_h at_v = record {
  at_h = at_h;
  at_v = at_v;
  sum = sum ∙ at.sum ∙ sym (parts-same set front l none);
  grown = grown ∙ at.grown ∙ ap (place.share set) (sym (parts-same set front l none));
}

-- a node that is nowhere
pub at_same : (vertical : Bool) (set : GlueSet) (h v : ℤ) (front : List Laid) (l : Laid) (w : Walk) →
    At vertical set h v front w → length_along vertical l ≡ pos 0 → l.part set ≡ pos 0 → At vertical set h v (front ++ l ∷ []) w
at_same vertical set h v front l w at is none =
    let stays : along vertical set (front ++ l ∷ []) ≡ along vertical set front =
    along_by vertical set front l (pos 0) is none ∙ sum_zero (along vertical set front) in
    at_next vertical set h v front l w w at none refl refl
    (at.at_h ∙ ap (λ (d : ℤ). modulo (place_h vertical h d)) (sym stays))
    (at.at_v ∙ ap (λ (d : ℤ). modulo (place_v vertical v d)) (sym stays))

more_h : (h d by : ℤ) → (h +ℤ d) +ℤ by ≡ h +ℤ (d +ℤ by)
more_h h d by = omega (arith, ints)

-- the walk went on by the length of the node
pub at_on_across : (set : GlueSet) (h v : ℤ) (front : List Laid) (l : Laid) (w x : Walk) (by : ℤ) →
    At false set h v front w → l.across ≡ by → l.part set ≡ pos 0 → x.sum ≡ w.sum → x.grown ≡ w.grown →
    x.h ≡ plus w.h by → x.v ≡ w.v → At false set h v (front ++ l ∷ []) x
at_on_across set h v front l w x by at is none sum grown goes stays =
    at_next false set h v front l w x at none sum grown
    (goes ∙ plus_on w.h by (h +ℤ along false set front) at.at_h
    ∙ ap (int_wrap w32) (more_h h (along false set front) by ∙ ap (λ (d : ℤ). h +ℤ d) (sym (along_by false set front l by is none))))
    (stays ∙ at.at_v)

pub at_on_down : (set : GlueSet) (h v : ℤ) (front : List Laid) (l : Laid) (w x : Walk) (by : ℤ) →
    At true set h v front w → l.down ≡ by → l.part set ≡ pos 0 → x.sum ≡ w.sum → x.grown ≡ w.grown →
    x.h ≡ w.h → x.v ≡ plus w.v by → At true set h v (front ++ l ∷ []) x
at_on_down set h v front l w x by at is none sum grown stays goes =
    at_next true set h v front l w x at none sum grown
    (stays ∙ at.at_h)
    (goes ∙ plus_on w.v by (v +ℤ along true set front) at.at_v
    ∙ ap (int_wrap w32) (more_h v (along true set front) by ∙ ap (λ (d : ℤ). v +ℤ d) (sym (along_by true set front l by is none))))

-- ---- glue

pub growth_is : (set : GlueSet) (sum : ℤ) → growth set sum ≡ place.share set sum
unfolding growth
growth_is set sum = refl

not_both : (z : ℤ) → is_positive z ≡ true → is_negative z ≡ false
not_both (pos n) is = le-ltb n 0 (omega arith)
not_both (negsuc n) is = cc

part_by : (set : GlueSet) (glue : Glue) (positive stretches : Bool) → is_positive set.sign ≡ positive →
    same_order glue.stretch_order set.order ≡ stretches →
    (if positive then (if stretches then glue.stretch else pos 0)
    else (if is_negative set.sign && same_order glue.shrink_order set.order then glue.shrink else pos 0))
    ≡ (if positive && stretches then glue.stretch
    else (if is_negative set.sign && same_order glue.shrink_order set.order then glue.shrink else pos 0))
part_by set glue true true is order = refl
part_by set glue true false is order = rw (not_both set.sign is) refl
part_by set glue false stretches is order = refl

pub part_is : (set : GlueSet) (glue : Glue) → part_of set glue ≡ place.part_of_glue glue set
unfolding part_of
part_is set glue =
    part_by set glue (is_positive set.sign) (same_order glue.stretch_order set.order) refl refl

-- nothing grows at the beginning
none_whole : (n : ℕ) → nearest_whole 0 (suc n) ≡ 0
none_whole n = let small : 2 * 0 + suc n < 2 * suc n = omega arith in div-eq_of_lt small

nothing_of : (d : ℤ) → int_eq d (pos 0) ≡ false → nearest_of (pos 0) d ≡ pos 0
nothing_of (pos zero) is = cc
nothing_of (pos (suc n)) is = ap pos (none_whole n)
nothing_of (negsuc n) is = ap (λ (m : ℕ). neg_ℤ (pos m)) (none_whole n)

nearest_nothing : (d : ℤ) (b : Bool) → int_eq d (pos 0) ≡ b →
    unwrap_or (if b then None else Some (nearest_of (pos 0) d)) (pos 0) ≡ pos 0
nearest_nothing d true is = refl
nearest_nothing d false is = nothing_of d is

times_none : (z : ℤ) → z *ℤ pos 0 ≡ pos 0
times_none z = omega (arith, ints)

if_same : (b : Bool) (z : ℤ) → z ≡ pos 0 → (if b then pos 0 else z) ≡ pos 0
if_same true z is = refl
if_same false z is = is

pub share_none : (set : GlueSet) → place.share set (pos 0) ≡ pos 0
share_none set =
    let quotient : unwrap_or (nearest_quotient (set.excess *ℤ pos 0) set.total) (pos 0) ≡ pos 0 =
    ap (λ (z : ℤ). unwrap_or (nearest_quotient z set.total) (pos 0)) (times_none set.excess)
    ∙ nearest_nothing set.total (int_eq set.total (pos 0)) refl in
    if_same (int_eq set.sign (pos 0)) (place.between (neg_ℤ (pos 1000000000)) (pos 1000000000) (unwrap_or (nearest_quotient (set.excess *ℤ pos 0) set.total) (pos 0)))
    (ap (place.between (neg_ℤ (pos 1000000000)) (pos 1000000000)) quotient)

begin_at : (z : ℤ) (set : GlueSet) (vertical : Bool) → z +ℤ along vertical set [] ≡ z
begin_at z set vertical =
    ap (λ (d : ℤ). z +ℤ (pos 0 +ℤ d)) (share_none set) ∙ sum_zero z

-- the list begins
pub at_none : (vertical : Bool) (set : GlueSet) (h v : ℤ) (w : Walk) → w.h ≡ modulo h → w.v ≡ modulo v → w.sum ≡ pos 0 →
    w.grown ≡ pos 0 → At vertical set h v [] w
at_none true set h v w is_h is_v sum grown = record {
  at_h = is_h;
  at_v = is_v ∙ ap (int_wrap w32) (sym (begin_at v set true));
  sum = sum;
  grown = grown ∙ sym (share_none set);
}
at_none false set h v w is_h is_v sum grown = record {
  at_h = is_h ∙ ap (int_wrap w32) (sym (begin_at h set false));
  at_v = is_v;
  sum = sum;
  grown = grown ∙ sym (share_none set);
}
