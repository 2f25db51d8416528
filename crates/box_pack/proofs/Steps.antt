-- What one more node makes of the sizes of a list.
use Rattle.std.proofs.Common.{◌≡◌, ℕ, ◌+◌, ◌<◌, ℤ, pos, ◌+ℤ◌, ◌≤ℤ◌, List, Option, Some, None, take, get_or, length, unwrap_or, if◌then◌else◌, refl, ap, sym, ◌∙◌, arith}
use Rattle.std.specs.Int.{int_max}
use Rattle.std.proofs.lemmas.Int.{ints, clamps}
use Rattle.std.proofs.lemmas.List.Sums.{fold_more}
use Rattle.scaled.specs.declared.spacing.Order.{Order}
use Rattle.scaled.specs.declared.spacing.Order.TheVariants.{Normal, Fil, Fill, Filll}
use Rattle.scaled.specs.declared.spacing.Glue.{Glue}
use Rattle.scaled.specs.Glue.{same_order}
use Rattle.nodes.specs.declared.node.Node.{Node}
use Rattle.box_pack.specs.declared.flexibility.Flexibility.{Flexibility}
use Rattle.box_pack.specs.declared.flexibility.GlueTotals.{GlueTotals}
use Rattle.box_pack.specs.declared.horizontal.Sizes as horizontal
use Rattle.box_pack.specs.declared.vertical.Sizes as vertical
use Rattle.box_pack.specs.PackingSums.{total, greatest, last_number}
use Rattle.box_pack.specs.PackingFlexibility.{by_order, stretch_for, shrink_for, stretch_in, shrink_in, stretches, shrinks, glue_of}
use Rattle.box_pack.specs.PackingHorizontal.{reach_of, no_reach}
use Rattle.box_pack.specs.PackingVertical.{drop_of, no_drop}
use Rattle.box_pack.specs.GlueSums.{with_more, stretched_by, shrunk_by, glue_with, glue_totals}
use Rattle.box_pack.specs.HorizontalSizes as hbox
use Rattle.box_pack.specs.VerticalSizes as vbox

-- ---- sums and maxima

pub total-more : {A : Type 0} (f : A → ℤ) (list : List A) (i : ℕ) (a : A) → i < length list → a ≡ get_or list i a →
    total f (take (i + 1) list) ≡ total f (take i list) +ℤ f a
total-more f list i a within is =
    fold_more (λ sum b. sum +ℤ f b) (pos 0) list i a within ∙ ap (λ b. total f (take i list) +ℤ f b) (sym is)

pub greatest-more : {A : Type 0} (f : A → ℤ) (list : List A) (i : ℕ) (a : A) → i < length list → a ≡ get_or list i a →
    greatest f (take (i + 1) list) ≡ int_max (greatest f (take i list)) (f a)
greatest-more f list i a within is =
    fold_more (λ most b. int_max most (f b)) (pos 0) list i a within ∙ ap (λ b. int_max (greatest f (take i list)) (f b)) (sym is)

pub last_number-more : {A : Type 0} (f : A → Option ℤ) (list : List A) (i : ℕ) (a : A) → i < length list →
    a ≡ get_or list i a → last_number f (take (i + 1) list) ≡ unwrap_or (f a) (last_number f (take i list))
last_number-more f list i a within is =
    fold_more (λ before b. unwrap_or (f b) before) (pos 0) list i a within
    ∙ ap (λ b. unwrap_or (f b) (last_number f (take i list))) (sym is)

-- ---- glue

plus_none : (z : ℤ) → z +ℤ pos 0 ≡ z
plus_none z = omega (arith, ints)

four : (F G : Order → ℤ) → F Normal ≡ G Normal → F Fil ≡ G Fil → F Fill ≡ G Fill → F Filll ≡ G Filll → by_order F ≡ by_order G
four F G a b c d = cc

more_of : (F : Order → ℤ) (amount : ℤ) (order : Order) →
    by_order (λ other. F other +ℤ (if same_order order other then amount else pos 0)) ≡ with_more amount order (by_order F)
more_of F amount Normal = let b = plus_none (F Fil) in let c = plus_none (F Fill) in let d = plus_none (F Filll) in cc
more_of F amount Fil = let a = plus_none (F Normal) in let c = plus_none (F Fill) in let d = plus_none (F Filll) in cc
more_of F amount Fill = let a = plus_none (F Normal) in let b = plus_none (F Fil) in let d = plus_none (F Filll) in cc
more_of F amount Filll = let a = plus_none (F Normal) in let b = plus_none (F Fil) in let c = plus_none (F Fill) in cc

stretch_more : (F : Order → ℤ) (glue : Option Glue) →
    by_order (λ order. F order +ℤ stretch_for order glue) ≡ stretched_by glue (by_order F)
stretch_more F None = let a = plus_none (F Normal) in let b = plus_none (F Fil) in let c = plus_none (F Fill) in let d = plus_none (F Filll) in cc
stretch_more F (Some glue) = more_of F glue.stretch glue.stretch_order

shrink_more : (F : Order → ℤ) (glue : Option Glue) →
    by_order (λ order. F order +ℤ shrink_for order glue) ≡ shrunk_by glue (by_order F)
shrink_more F None = let a = plus_none (F Normal) in let b = plus_none (F Fil) in let c = plus_none (F Fill) in let d = plus_none (F Filll) in cc
shrink_more F (Some glue) = more_of F glue.shrink glue.shrink_order

stretches-more : (list : List Node) (i : ℕ) (node : Node) → i < length list → node ≡ get_or list i node →
    stretches (take (i + 1) list) ≡ stretched_by (glue_of node) (stretches (take i list))
stretches-more list i node within is =
    four (λ order. stretch_in order (take (i + 1) list))
    (λ order. stretch_in order (take i list) +ℤ stretch_for order (glue_of node))
    (total-more (λ n. stretch_for Normal (glue_of n)) list i node within is)
    (total-more (λ n. stretch_for Fil (glue_of n)) list i node within is)
    (total-more (λ n. stretch_for Fill (glue_of n)) list i node within is)
    (total-more (λ n. stretch_for Filll (glue_of n)) list i node within is)
    ∙ stretch_more (λ order. stretch_in order (take i list)) (glue_of node)

shrinks-more : (list : List Node) (i : ℕ) (node : Node) → i < length list → node ≡ get_or list i node →
    shrinks (take (i + 1) list) ≡ shrunk_by (glue_of node) (shrinks (take i list))
shrinks-more list i node within is =
    four (λ order. shrink_in order (take (i + 1) list))
    (λ order. shrink_in order (take i list) +ℤ shrink_for order (glue_of node))
    (total-more (λ n. shrink_for Normal (glue_of n)) list i node within is)
    (total-more (λ n. shrink_for Fil (glue_of n)) list i node within is)
    (total-more (λ n. shrink_for Fill (glue_of n)) list i node within is)
    (total-more (λ n. shrink_for Filll (glue_of n)) list i node within is)
    ∙ shrink_more (λ order. shrink_in order (take i list)) (glue_of node)

pub glue_totals-more : (list : List Node) (i : ℕ) (node : Node) → i < length list → node ≡ get_or list i node →
    glue_totals (take (i + 1) list) ≡ glue_with (glue_of node) (glue_totals (take i list))
glue_totals-more list i node within is =
    let a = stretches-more list i node within is in let b = shrinks-more list i node within is in
    cc

-- ---- sizes

pub horizontal_sizes-more : (list : List Node) (i : ℕ) (node : Node) → i < length list → node ≡ get_or list i node →
    hbox.horizontal_sizes (take (i + 1) list) ≡ hbox.with_node node (hbox.horizontal_sizes (take i list))
horizontal_sizes-more list i node within is =
    let w = total-more (λ n. (reach_of n).width) list i node within is in
    let h = greatest-more (λ n. (reach_of n).height) list i node within is in
    let d = greatest-more (λ n. (reach_of n).depth) list i node within is in
    let g = glue_totals-more list i node within is in
    cc

pub vertical_sizes-more : (list : List Node) (i : ℕ) (node : Node) → i < length list → node ≡ get_or list i node →
    vbox.vertical_sizes (take (i + 1) list) ≡ vbox.with_node node (vbox.vertical_sizes (take i list))
vertical_sizes-more list i node within is =
    let l = total-more (λ n. (drop_of n).length) list i node within is in
    let w = greatest-more (λ n. (drop_of n).width) list i node within is in
    let h = last_number-more (λ n. (drop_of n).hanging) list i node within is in
    let g = glue_totals-more list i node within is in
    cc

pub int_max_none : (z : ℤ) → pos 0 ≤ℤ z → int_max z (pos 0) ≡ z
int_max_none z above = omega (arith, ints, clamps)

abbrev horizontal_made : ℤ → ℤ → ℤ → GlueTotals → horizontal.Sizes
horizontal_made width height depth glue = record { width = width; height = height; depth = depth; glue = glue }

pub same_horizontal : (w w' h h' d d' : ℤ) (glue : GlueTotals) → w ≡ w' → h ≡ h' → d ≡ d' →
    horizontal_made w h d glue ≡ horizontal_made w' h' d' glue
same_horizontal w w' h h' d d' glue a b c = cc

pub with_no_reach : (sizes : horizontal.Sizes) → pos 0 ≤ℤ sizes.height → pos 0 ≤ℤ sizes.depth → hbox.with_reach no_reach sizes ≡ sizes
with_no_reach sizes high deep =
    same_horizontal (sizes.width +ℤ pos 0) sizes.width (int_max sizes.height (pos 0)) sizes.height (int_max sizes.depth (pos 0)) sizes.depth
    sizes.glue (plus_none sizes.width) (int_max_none sizes.height high) (int_max_none sizes.depth deep)

abbrev vertical_made : ℤ → ℤ → ℤ → GlueTotals → vertical.Sizes
vertical_made length width hanging glue = record { length = length; width = width; hanging = hanging; glue = glue }

pub same_vertical : (l l' w w' h h' : ℤ) (glue : GlueTotals) → l ≡ l' → w ≡ w' → h ≡ h' →
    vertical_made l w h glue ≡ vertical_made l' w' h' glue
same_vertical l l' w w' h h' glue a b c = cc

pub with_no_drop : (sizes : vertical.Sizes) → pos 0 ≤ℤ sizes.width → vbox.with_drop no_drop sizes ≡ sizes
with_no_drop sizes wide =
    same_vertical (sizes.length +ℤ pos 0) sizes.length (int_max sizes.width (pos 0)) sizes.width sizes.hanging sizes.hanging
    sizes.glue (plus_none sizes.length) (int_max_none sizes.width wide) refl

abbrev totals_made : Flexibility → Flexibility → GlueTotals
totals_made stretch shrink = record { stretch = stretch; shrink = shrink }

pub same_totals : (a a' b b' : Flexibility) → a ≡ a' → b ≡ b' → totals_made a b ≡ totals_made a' b'
same_totals a a' b b' p q = cc
