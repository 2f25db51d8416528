-- What is answered once a list is measured and its sizes are known.
use Rattle.std.proofs.Common.{◌≡◌, ℕ, ◌+◌, ◌==◌, length, [], ◌∷◌, pos, Bool, true, false, ◌||◌, ℤ, ◌-ℤ◌, List, Ok, Err, if◌then◌else◌, ◌∙◌, ap, refl, arith}
use Rattle.tokens.specs.declared.cap.Cap.TheVariants.{BoxNesting, Items, BoxSize}
use Rattle.tokens.specs.declared.stop.Stop.{Stop}
use Rattle.tokens.specs.declared.stop.Stop.TheVariants.{Capacity}
use Rattle.nodes.specs.declared.node.Node.{Node}
use Rattle.nodes.specs.PackingMeasure.{nesting_of, count_of}
use Rattle.box_pack.specs.declared.extent.Extent.{Extent}
use Rattle.box_pack.specs.declared.goal.Goal.{Goal}
use Rattle.box_pack.specs.declared.horizontal.Sums as horizontal
use Rattle.box_pack.specs.declared.vertical.Sums as vertical
use Rattle.box_pack.specs.declared.limits.Plan.{Plan}
use Rattle.box_pack.specs.declared.packed.Packed.{Packed}
use Rattle.box_pack.specs.PackingLimits.{is_too_deep, is_too_long, is_too_large, is_large, if_measured, box_measure, limited, limited_extent, plan_for}
use Rattle.box_pack.specs.PackingHorizontal.{natural_width}
use Rattle.box_pack.specs.PackingVertical.{height_within}
use Rattle.box_pack.specs.declared.fit.Fit.{Fit}
use Rattle.box_pack.specs.declared.flexibility.GlueTotals.{GlueTotals}
use Rattle.box_pack.specs.Fits.{fit_of}
use Rattle.box_pack.specs.PackingSetting.{setting_of}
use Rattle.box_pack.specs.PackingBoxes.{is_empty, setting, size_for, packed_over, within_limits, hbox_extent, hbox, hpacked, vbox_extent, vbox, vpacked, moved_extent, moved_to, with_extent}
use Rattle.box_pack.specs.HorizontalSizes.{horizontal_sizes, horizontal_sums, horizontal_plan}
use Rattle.box_pack.specs.VerticalSizes.{vertical_sizes, vertical_sums, vertical_plan}

-- a list that is neither too deep nor too long
chosen : {A : Type 0} (deep long large : Bool) (a b : A) (packed : Packed) →
    (if deep then Err (Capacity BoxNesting) else (if long then Err (Capacity Items) else Ok a)) ≡ Ok b →
    (if deep then Err (Capacity BoxNesting) else
    (if long then Err (Capacity Items) else (if large then Err (Capacity BoxSize) else Ok packed)))
    ≡ (if large then Err (Capacity BoxSize) else Ok packed)
chosen true long large a b packed is = cc
chosen false true large a b packed is = cc
chosen false false large a b packed is = refl

given : {A : Type 0} (deep long : Bool) (a b : A) →
    (if deep then Err (Capacity BoxNesting) else (if long then Err (Capacity Items) else Ok a)) ≡ Ok b → a ≡ b
given true long a b is = cc
given false true a b is = cc
given false false a b is = cc

refused : {A : Type 0} (deep long large : Bool) (a : A) (packed : Packed) (stop : Stop) →
    (if deep then Err (Capacity BoxNesting) else (if long then Err (Capacity Items) else Ok a)) ≡ Err stop →
    (if deep then Err (Capacity BoxNesting) else
    (if long then Err (Capacity Items) else (if large then Err (Capacity BoxSize) else Ok packed)))
    ≡ Err stop
refused true long large a packed stop is = cc
refused false true large a packed stop is = cc
refused false false large a packed stop is = cc

-- what is made of such a list
pub if_measured-is : {A : Type 0} (list : List Node) (a b : A) → if_measured list a ≡ Ok b → a ≡ b
if_measured-is list a b is = given (is_too_deep list) (is_too_long list) a b is

failed : (large : Bool) (plan : Plan) (packed : Packed) (stop : Stop) →
    (if large then Err (Capacity BoxSize) else Ok plan) ≡ Err stop →
    (if large then Err (Capacity BoxSize) else Ok packed) ≡ Err stop
failed true plan packed stop is = cc
failed false plan packed stop is = cc

fitting : (large : Bool) (meant plan : Plan) (packed : Plan → Packed) →
    (if large then Err (Capacity BoxSize) else Ok meant) ≡ Ok plan →
    (if large then Err (Capacity BoxSize) else Ok (packed meant)) ≡ Ok (packed plan)
fitting true meant plan packed is = cc
fitting false meant plan packed is = cc

abbrev made : Extent → ℤ → Plan
made extent excess = record { extent = extent; excess = excess }

abbrev pub horizontal_sums_of : List Node → horizontal.Sums
horizontal_sums_of list = record { measure = box_measure list; sizes = horizontal_sizes list }

abbrev pub vertical_sums_of : List Node → vertical.Sums
vertical_sums_of list = record { measure = box_measure list; sizes = vertical_sizes list }

pub horizontal_sums-are : (list : List Node) (sums : horizontal.Sums) → horizontal_sums list ≡ Ok sums →
    horizontal_sums_of list ≡ sums
horizontal_sums-are list sums is = if_measured-is list (horizontal_sums_of list) sums is

pub vertical_sums-are : (list : List Node) (sums : vertical.Sums) → vertical_sums list ≡ Ok sums →
    vertical_sums_of list ≡ sums
vertical_sums-are list sums is = if_measured-is list (vertical_sums_of list) sums is

too_large_for : {A : Type 0} (list : List Node) (a b : A) (natural size : ℤ) (extent : Extent) (packed : Packed) (stop : Stop) →
    if_measured list a ≡ Ok b → plan_for natural size extent ≡ Err stop →
    within_limits list natural extent packed ≡ Err stop
too_large_for list a b natural size extent packed stop measure plan =
    chosen (is_too_deep list) (is_too_long list) (is_too_large natural || is_large extent) a b packed measure
    ∙ failed (is_too_large natural || is_large extent) (made extent (size -ℤ natural)) packed stop plan

fits_in : {A : Type 0} (list : List Node) (a b : A) (natural size : ℤ) (extent : Extent) (packed : Plan → Packed) (plan : Plan) →
    if_measured list a ≡ Ok b → plan_for natural size extent ≡ Ok plan →
    within_limits list natural extent (packed (made extent (size -ℤ natural))) ≡ Ok (packed plan)
fits_in list a b natural size extent packed plan measure is =
    chosen (is_too_deep list) (is_too_long list) (is_too_large natural || is_large extent) a b
    (packed (made extent (size -ℤ natural))) measure
    ∙ fitting (is_too_large natural || is_large extent) (made extent (size -ℤ natural)) plan packed is

pub hpacked-refused : (list : List Node) (goal : Goal) (stop : Stop) → horizontal_sums list ≡ Err stop →
    hpacked list goal ≡ Err stop
hpacked-refused list goal stop is =
    refused (is_too_deep list) (is_too_long list) (is_too_large (natural_width list) || is_large (hbox_extent list goal))
    (horizontal_sums_of list) (hbox list goal) stop is

pub hpacked-stops : (list : List Node) (goal : Goal) (sums : horizontal.Sums) (stop : Stop) → horizontal_sums list ≡ Ok sums →
    horizontal_plan goal sums.sizes ≡ Err stop → hpacked list goal ≡ Err stop
hpacked-stops list goal sums stop is plan =
    too_large_for list (horizontal_sums_of list) sums (natural_width list) (size_for goal (natural_width list))
    (hbox_extent list goal) (hbox list goal) stop is
    (ap (λ (s : horizontal.Sums). horizontal_plan goal s.sizes) (horizontal_sums-are list sums is) ∙ plan)

pub hpacked-fits : (list : List Node) (goal : Goal) (sums : horizontal.Sums) (plan : Plan) → horizontal_sums list ≡ Ok sums →
    horizontal_plan goal sums.sizes ≡ Ok plan →
    hpacked list goal ≡ Ok (packed_over list false plan.extent plan.excess)
hpacked-fits list goal sums plan is planned =
    fits_in list (horizontal_sums_of list) sums (natural_width list) (size_for goal (natural_width list)) (hbox_extent list goal)
    (λ p. packed_over list false p.extent p.excess) plan is
    (ap (λ (s : horizontal.Sums). horizontal_plan goal s.sizes) (horizontal_sums-are list sums is) ∙ planned)

pub vpacked-refused : (list : List Node) (goal : Goal) (bound : ℤ) (stop : Stop) → vertical_sums list ≡ Err stop →
    vpacked list goal bound ≡ Err stop
vpacked-refused list goal bound stop is =
    refused (is_too_deep list) (is_too_long list)
    (is_too_large (height_within bound list) || is_large (vbox_extent list goal bound))
    (vertical_sums_of list) (vbox list goal bound) stop is

pub vpacked-stops : (list : List Node) (goal : Goal) (bound : ℤ) (sums : vertical.Sums) (stop : Stop) →
    vertical_sums list ≡ Ok sums → vertical_plan goal bound sums.sizes ≡ Err stop → vpacked list goal bound ≡ Err stop
vpacked-stops list goal bound sums stop is plan =
    too_large_for list (vertical_sums_of list) sums (height_within bound list) (size_for goal (height_within bound list))
    (vbox_extent list goal bound) (vbox list goal bound) stop is
    (ap (λ (s : vertical.Sums). vertical_plan goal bound s.sizes) (vertical_sums-are list sums is) ∙ plan)

pub vpacked-fits : (list : List Node) (goal : Goal) (bound : ℤ) (sums : vertical.Sums) (plan : Plan) →
    vertical_sums list ≡ Ok sums → vertical_plan goal bound sums.sizes ≡ Ok plan →
    vpacked list goal bound ≡ Ok (packed_over list true plan.extent plan.excess)
vpacked-fits list goal bound sums plan is planned =
    fits_in list (vertical_sums_of list) sums (height_within bound list) (size_for goal (height_within bound list))
    (vbox_extent list goal bound) (λ p. packed_over list true p.extent p.excess) plan is
    (ap (λ (s : vertical.Sums). vertical_plan goal bound s.sizes) (vertical_sums-are list sums is) ∙ planned)

-- ---- sizes and excess

limit_of : (large : Bool) (size natural : ℤ) → (if large then Err (Capacity BoxSize) else Ok size) ≡ Ok natural → size ≡ natural
limit_of true size natural is = cc
limit_of false size natural is = cc

pub limited-is : (size natural : ℤ) → limited size ≡ Ok natural → size ≡ natural
limited-is size natural is = limit_of (is_too_large size) size natural is

extent_of : (large : Bool) (meant extent : Extent) → (if large then Err (Capacity BoxSize) else Ok meant) ≡ Ok extent → meant ≡ extent
extent_of true meant extent is = cc
extent_of false meant extent is = cc

pub limited_extent-is : (meant extent : Extent) → limited_extent meant ≡ Ok extent → meant ≡ extent
limited_extent-is meant extent is = extent_of (is_large meant) meant extent is

abbrev pub extent_made : ℤ → ℤ → ℤ → Extent
extent_made width height depth = record { width = width; height = height; depth = depth }

pub same_extent : (w w' h h' d d' : ℤ) → w ≡ w' → h ≡ h' → d ≡ d' → extent_made w h d ≡ extent_made w' h' d'
same_extent w w' h h' d d' a b c = cc

stopped : (large other : Bool) (meant : Extent) (plan : Plan) (stop : Stop) →
    (if other then Err (Capacity BoxSize) else Ok meant) ≡ Err stop →
    (if large || other then Err (Capacity BoxSize) else Ok plan) ≡ Err stop
stopped true true meant plan stop is = cc
stopped false true meant plan stop is = cc
stopped true false meant plan stop is = cc
stopped false false meant plan stop is = cc

pub plan_for-stops : (natural size : ℤ) (meant : Extent) (stop : Stop) → limited_extent meant ≡ Err stop →
    plan_for natural size meant ≡ Err stop
plan_for-stops natural size meant stop is =
    stopped (is_too_large natural) (is_large meant) meant (made meant (size -ℤ natural)) stop is

planned : (large other : Bool) (size natural : ℤ) (meant extent : Extent) (plan : Plan) →
    (if large then Err (Capacity BoxSize) else Ok size) ≡ Ok natural →
    (if other then Err (Capacity BoxSize) else Ok meant) ≡ Ok extent →
    (if large || other then Err (Capacity BoxSize) else Ok plan) ≡ Ok plan
planned true other size natural meant extent plan is fits = cc
planned false true size natural meant extent plan is fits = cc
planned false false size natural meant extent plan is fits = refl

same_plan : (meant extent : Extent) (excess shown : ℤ) → meant ≡ extent → excess ≡ shown → made meant excess ≡ made extent shown
same_plan meant extent excess shown a b = cc

pub plan_for-fits : (natural told size shown : ℤ) (meant extent : Extent) → limited natural ≡ Ok told →
    limited_extent meant ≡ Ok extent → size -ℤ natural ≡ shown → plan_for natural size meant ≡ Ok (made extent shown)
plan_for-fits natural told size shown meant extent is fits excess =
    planned (is_too_large natural) (is_large meant) natural told meant extent (made meant (size -ℤ natural)) is fits
    ∙ ap Ok (same_plan meant extent (size -ℤ natural) shown (limited_extent-is meant extent fits) excess)

unnatural : (large other : Bool) (size : ℤ) (plan : Plan) (stop : Stop) →
    (if large then Err (Capacity BoxSize) else Ok size) ≡ Err stop →
    (if large || other then Err (Capacity BoxSize) else Ok plan) ≡ Err stop
unnatural true true size plan stop is = cc
unnatural true false size plan stop is = cc
unnatural false true size plan stop is = cc
unnatural false false size plan stop is = cc

pub plan_for-unnatural : (natural size : ℤ) (meant : Extent) (stop : Stop) → limited natural ≡ Err stop →
    plan_for natural size meant ≡ Err stop
plan_for-unnatural natural size meant stop is =
    unnatural (is_too_large natural) (is_large meant) natural (made meant (size -ℤ natural)) stop is

-- ---- boxes

abbrev packed_made : List Node → Bool → ℤ → ℤ → ℤ → Fit → ℕ → ℕ → Packed
packed_made list vertical width height depth fit nesting count = record {
  boxed = record {
    vertical = vertical;
    width = width;
    height = height;
    depth = depth;
    shift = pos 0;
    list = list;
    set = fit.set;
    nesting = nesting;
    count = count;
  };
  report = fit.report;
  badness = fit.badness;
}

same_packed : (f : List Node → ℤ → ℤ → ℤ → Fit → ℕ → ℕ → Packed) (l l' : List Node) (w w' h h' d d' : ℤ) (t t' : Fit) (n n' c c' : ℕ) →
    l ≡ l' → w ≡ w' → h ≡ h' → d ≡ d' → t ≡ t' → n ≡ n' → c ≡ c' → f l w h d t n c ≡ f l' w' h' d' t' n' c'
same_packed f l l' w w' h h' d d' t t' n n' c c' e1 e2 e3 e4 e5 e6 e7 = cc

pub packed_over-is : (list list' : List Node) (vertical : Bool) (w h d : ℤ) (extent : Extent) (excess : ℤ) (fit : Fit) (n c : ℕ) →
    list' ≡ list → w ≡ extent.width → h ≡ extent.height → d ≡ extent.depth → fit ≡ fit_of excess (setting list excess) →
    n ≡ 1 + nesting_of list → c ≡ count_of list →
    packed_made list' vertical w h d fit n c ≡ packed_over list vertical extent excess
packed_over-is list list' vertical w h d extent excess fit n c e1 e2 e3 e4 e5 e6 e7 =
    same_packed (λ a b e f g k m. packed_made a vertical b e f g k m) list' list w extent.width h extent.height d extent.depth
    fit (fit_of excess (setting list excess)) n (1 + nesting_of list) c (count_of list) e1 e2 e3 e4 e5 e6 e7

same_fitting : (f : Bool → ℤ → GlueTotals → Fit) (e e' : Bool) (x x' : ℤ) (g g' : GlueTotals) → e ≡ e' → x ≡ x' → g ≡ g' →
    f e x g ≡ f e' x' g'
same_fitting f e e' x x' g g' a b c = cc

pub same_fit : (e e' : Bool) (x x' : ℤ) (g g' : GlueTotals) → e ≡ e' → x ≡ x' → g ≡ g' →
    fit_of x (setting_of e x g.stretch g.shrink) ≡ fit_of x' (setting_of e' x' g'.stretch g'.shrink)
same_fit e e' x x' g g' a b c = same_fitting (λ u v w. fit_of v (setting_of u v w.stretch w.shrink)) e e' x x' g g' a b c

pub length_none : (list : List Node) → (length list == 0) ≡ is_empty list
length_none [] = refl
length_none (node ∷ list) = grind arith

halted : (large : Bool) (meant : Extent) (packed : Packed) (stop : Stop) →
    (if large then Err (Capacity BoxSize) else Ok meant) ≡ Err stop →
    (if large then Err (Capacity BoxSize) else Ok packed) ≡ Err stop
halted true meant packed stop is = cc
halted false meant packed stop is = cc

settled : (large : Bool) (meant extent : Extent) (packed : Extent → Packed) →
    (if large then Err (Capacity BoxSize) else Ok meant) ≡ Ok extent →
    (if large then Err (Capacity BoxSize) else Ok (packed meant)) ≡ Ok (packed extent)
settled true meant extent packed is = cc
settled false meant extent packed is = cc

pub moved_to-stops : (top : ℤ) (packed : Packed) (stop : Stop) → limited_extent (moved_extent top packed) ≡ Err stop →
    moved_to top packed ≡ Err stop
moved_to-stops top packed stop is =
    halted (is_large (moved_extent top packed)) (moved_extent top packed) (with_extent (moved_extent top packed) packed) stop is

pub moved_to-fits : (top : ℤ) (packed : Packed) (extent : Extent) → limited_extent (moved_extent top packed) ≡ Ok extent →
    moved_to top packed ≡ Ok (with_extent extent packed)
moved_to-fits top packed extent is =
    settled (is_large (moved_extent top packed)) (moved_extent top packed) extent (λ e. with_extent e packed) is
