-- Nesting and count of a list that is gone along.
use Rattle.std.proofs.Common.{◌≡◌, ℕ, ◌+◌, ◌<◌, ◌≤◌, min, nat_lt, Bool, true, false, List, [], ◌∷◌, length, take, get_or, Ok, Err, if◌then◌else◌, refl, ap, ◌∙◌, arith}
use Rattle.std.proofs.lemmas.List.Sums.{sum_by-cons}
use Rattle.std.proofs.lemmas.Bool.Decides.{nat_tests}
use Rattle.tokens.specs.declared.cap.Cap.TheVariants.{BoxNesting, Items}
use Rattle.tokens.specs.declared.stop.Stop.TheVariants.{Capacity}
use Rattle.nodes.specs.declared.node.Node.{Node}
use Rattle.nodes.specs.declared.node.Node.TheFolds.{ind-Node}
use Rattle.nodes.specs.PackingMeasure.{node_count, nesting_of, count_of, node_count-roll}
use Rattle.nodes.proofs.MeasureLaws.{nesting_of-next, count_of-next}
use Rattle.box_pack.specs.declared.measuring.Measure.{Measure}
use Rattle.box_pack.specs.PackingLimits.{is_too_deep, is_too_long, if_measured, first_passed, box_measure}
use Rattle.box_pack.specs.MeasureSums.{list_measure, with_measured, box_measured}

pub node_counts : (node : Node) → 1 ≤ node_count node
node_counts = ind-Node (λ node. 1 ≤ node_count node) (λ layer children is. omega (arith, node_count-roll layer))

pub length-le-count : (list : List Node) → length list ≤ count_of list
length-le-count [] = omega arith
length-le-count (node ∷ list) =
    omega (arith, node_counts node, length-le-count list, sum_by-cons node_count node list)

abbrev measure_made : ℕ → ℕ → Measure
measure_made nesting count = record { nesting = nesting; count = count }

same_measure : (n n' c c' : ℕ) → n ≡ n' → c ≡ c' → measure_made n c ≡ measure_made n' c'
same_measure n n' c c' a b = cc

pub list_measure-more : (list : List Node) (i : ℕ) (node : Node) → i < length list → node ≡ get_or list i node →
    list_measure (take (i + 1) list) ≡ with_measured node (list_measure (take i list))
list_measure-more list i node within is =
    same_measure _ _ _ _ (nesting_of-next list i node within is)
    (ap (min 4294967295) (count_of-next list i node within is) ∙ (omega arith))

-- a count that is stopped at its type's last value passes the limit where the whole does
told_by : (deep long : Bool) (n c : ℕ) → nat_lt 16777215 c ≡ long →
    (if deep then Err (Capacity BoxNesting) else
    (if nat_lt 16777215 (min 4294967295 c) then Err (Capacity Items) else Ok (measure_made n (min 4294967295 c))))
    ≡ (if deep then Err (Capacity BoxNesting) else
    (if long then Err (Capacity Items) else Ok (measure_made n c)))
told_by true long n c is = refl
told_by false true n c is = let passed : nat_lt 16777215 (min 4294967295 c) ≡ true = grind (arith, nat_tests) in cc
told_by false false n c is =
    let within : nat_lt 16777215 (min 4294967295 c) ≡ false = grind (arith, nat_tests) in
    let count : min 4294967295 c ≡ c = grind (arith, nat_tests) in
    cc

pub box_measured-is : (list : List Node) → box_measured (list_measure list) ≡ if_measured list (box_measure list)
box_measured-is list = told_by (is_too_deep list) (is_too_long list) (1 + nesting_of list) (count_of list) refl

-- a list that has too many nodes is too long
passed_by : {A : Type 0} (deep long : Bool) (a : A) → long ≡ true →
    Err (if deep then Capacity BoxNesting else Capacity Items)
    ≡ (if deep then Err (Capacity BoxNesting) else (if long then Err (Capacity Items) else Ok a))
passed_by true long a is = refl
passed_by false long a is = cc

pub first_passed-is : {A : Type 0} (list : List Node) (a : A) → 16777215 < length list →
    Err (first_passed list) ≡ if_measured list a
first_passed-is list a longer =
    let long : is_too_long list ≡ true = grind (arith, nat_tests, length-le-count list) in
    passed_by (is_too_deep list) (is_too_long list) a long
