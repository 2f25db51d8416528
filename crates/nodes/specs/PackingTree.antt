-- Nesting and count of the whole tree under a list, with a look into boxes; and the trees whose boxes tell both.
-- From: the limits `box nesting` and `list items`, which are rules of this program.
use Rattle.std.specs.Prelude.{◌≡◌, ℕ, ◌+◌, min, List, [], ◌∷◌, map, sum, Option, Some, None, refl, All}
use Rattle.std.specs.List.{sum_by, AllByRecursion}
use Rattle.std.specs.Option.{option_map, IfSome}
use Rattle.std.proofs.Common.{◌∙◌, ap, sym, subst, arith}
use Rattle.std.proofs.lemmas.List.Sums.{sum-map, sum_by-cons}
use Rattle.std.proofs.lemmas.List.Elements.{recursion_from_All}
use Rattle.nodes.specs.declared.node.Node.{Node}
use Rattle.nodes.specs.declared.node.Node.TheOpen.{Node-F}
use Rattle.nodes.specs.declared.node.Node.TheFolds.{map-Node, fold-Node, fold-roll-Node, every-Node, every_here-Node, every_held-Node, ind-Node}
use Rattle.nodes.specs.declared.node.Node.TheViews.{roll-Node, out-roll-Node}
use Rattle.nodes.specs.declared.boxes.BoxNode.{BoxNode}
use Rattle.nodes.specs.Inside.{box_of, inside, inside_box, box_map, box_of-map, inside-map}
use Rattle.nodes.specs.PackingMeasure.{deepest, told_nesting, told_count, node_nesting, node_count, nesting_of, count_of, node_nesting-roll, node_count-roll}

-- 1 for a box, 0 for any other node
abbrev pub levels : {A : Type 0} → Option (BoxNode A) → ℕ
levels (Some b) = 1
levels None = 0

-- the nesting of a node, with that of each node inside in its place
abbrev pub tree_nesting_step : Node-F ℕ → ℕ
tree_nesting_step node = levels (box_of node) + deepest (inside node)

-- how many nodes a node is, with the number for each node inside in its place
abbrev pub tree_count_step : Node-F ℕ → ℕ
tree_count_step node = 1 + sum (inside node)

-- how deeply boxes stand in one another at a node, in the whole tree: an empty box has nesting 1
abbrev pub tree_nesting : Node → ℕ
tree_nesting = fold-Node ℕ tree_nesting_step

-- how many nodes are in the whole tree under a node, itself counted
abbrev pub tree_count : Node → ℕ
tree_count = fold-Node ℕ tree_count_step

-- how deeply boxes stand in one another in a list, all boxes looked into
abbrev pub nesting_throughout : List Node → ℕ
nesting_throughout list = deepest (map tree_nesting list)

-- how many nodes a list has with all nodes inside them, all boxes looked into
abbrev pub count_throughout : List Node → ℕ
count_throughout list = sum_by tree_count list

-- A box tells what its list gives, each number as far as its type goes: 65535 and 4294967295 also stand for more.
pub record TellsOfItsList (b : BoxNode (List Node)) : Type 0 where
  pub nesting : b.nesting ≡ min 65535 (1 + nesting_of b.list)
  pub count : b.count ≡ min 4294967295 (count_of b.list)

-- a node is no box, or one that tells what its list gives
abbrev pub TellsIfBox : Node-F Node → Type 0
TellsIfBox node = IfSome (box_of node) TellsOfItsList

-- each box in the tree under a node tells what its list gives
abbrev pub IsTold : Node → Type 0
IsTold = every-Node TellsIfBox

-- Where each box tells what its list gives, what boxes tell is the nesting and the count of the whole tree.
abbrev pub ToldListsAreMeasured : Type 0
ToldListsAreMeasured =
    (list : List Node) → All IsTold list →
    (nesting_of list ≡ min 65535 (nesting_throughout list))
    × (min 4294967295 (count_of list) ≡ min 4294967295 (count_throughout list))

levels-map : {A : Type 0} (f : A → ℕ) (box : Option (BoxNode (List A))) → levels (option_map (box_map f) box) ≡ levels box
levels-map f None = refl
levels-map f (Some b) = refl

-- the nesting of the tree under a node, by what stands in it
pub tree_nesting-roll : (node : Node-F Node) →
    tree_nesting (roll-Node node) ≡ levels (box_of node) + nesting_throughout (inside node)
tree_nesting-roll node =
    fold-roll-Node ℕ tree_nesting_step node
    ∙ ap (λ box. levels box + deepest (inside (map-Node Node ℕ tree_nesting node))) (box_of-map tree_nesting node)
    ∙ ap (λ n. n + deepest (inside (map-Node Node ℕ tree_nesting node))) (levels-map tree_nesting (box_of node))
    ∙ ap (λ nestings. levels (box_of node) + deepest nestings) (inside-map tree_nesting node)

-- how many nodes are in the tree under a node, by what stands in it
pub tree_count-roll : (node : Node-F Node) → tree_count (roll-Node node) ≡ 1 + count_throughout (inside node)
tree_count-roll node =
    fold-roll-Node ℕ tree_count_step node
    ∙ ap (λ counts. 1 + sum counts) (inside-map tree_count node)
    ∙ ap (λ n. 1 + n) (sum-map tree_count (inside node))

-- what a node tells of the tree under it
pub record IsMeasured (node : Node) : Type 0 where
  pub nesting : node_nesting node ≡ min 65535 (tree_nesting node)
  pub count : min 4294967295 (node_count node) ≡ min 4294967295 (tree_count node)

abbrev ListIsMeasured : List Node → Type 0
ListIsMeasured list =
    (nesting_of list ≡ min 65535 (nesting_throughout list))
    × (min 4294967295 (count_of list) ≡ min 4294967295 (count_throughout list))

list_from_nodes : (list : List Node) → AllByRecursion IsMeasured list → ListIsMeasured list
list_from_nodes [] measured = (refl, refl)
list_from_nodes (node ∷ list) measured =
    let rest = list_from_nodes list measured.1 in (
      omega (arith, measured.0.nesting, rest.0),
      omega (arith, measured.0.count, rest.1, sum_by-cons node_count node list, sum_by-cons tree_count node list),
    )

with_proofs : (P : Node → Type 0) (pairs : List ((node : Node) × P node)) → AllByRecursion P (map (λ e. e.0) pairs)
with_proofs P [] = tt
with_proofs P (pair ∷ pairs) = (pair.1, with_proofs P pairs)

inside_with_proofs : (P : Node → Type 0) (node : Node-F ((n : Node) × P n)) →
    AllByRecursion P (inside (map-Node ((n : Node) × P n) Node (λ e. e.0) node))
inside_with_proofs P node =
    subst (AllByRecursion P) (sym (inside-map (λ e. e.0) node)) (with_proofs P (inside node))

-- a box in a told tree tells what its list gives
pub told_here : (node : Node-F Node) → IsTold (roll-Node node) → TellsIfBox node
told_here node told = subst TellsIfBox (out-roll-Node node) (every_here-Node TellsIfBox (roll-Node node) told)

-- what stands in a node of a told tree is told
pub told_inside : (node : Node-F Node) → IsTold (roll-Node node) → AllByRecursion IsTold (inside node)
told_inside node told =
    let held = every_held-Node TellsIfBox (roll-Node node) told in
    subst (λ layer. AllByRecursion IsTold (inside layer)) (held.1 ∙ out-roll-Node node) (inside_with_proofs IsTold held.0)

tells_of_inside : (node : Node-F Node) (box : Option (BoxNode (List Node))) → box_of node ≡ box →
    IfSome box TellsOfItsList → IfSome box (λ b. (inside node ≡ b.list) × TellsOfItsList b)
tells_of_inside node None is tells = tt
tells_of_inside node (Some b) is tells = (inside_box node b is, tells)

from_inside : (box : Option (BoxNode (List Node))) (list : List Node) →
    IfSome box (λ b. (list ≡ b.list) × TellsOfItsList b) → ListIsMeasured list →
    (told_nesting box (map node_nesting list) ≡ min 65535 (levels box + nesting_throughout list))
    × (min 4294967295 (1 + told_count box (map node_count list)) ≡ min 4294967295 (1 + count_throughout list))
from_inside None list tells measured =
    (omega (arith, measured.0), omega (arith, measured.1, sum-map node_count list))
from_inside (Some b) list tells measured = (
  omega (arith, measured.0, tells.1.nesting, ap nesting_of tells.0),
  omega (arith, measured.1, tells.1.count, ap count_of tells.0),
)

abbrev Claim : Node → Type 0
Claim node = IsTold node → IsMeasured node

each_measured : (list : List Node) → AllByRecursion IsTold list → AllByRecursion Claim list →
    AllByRecursion IsMeasured list
each_measured [] told claims = tt
each_measured (node ∷ list) told claims = (claims.0 told.0, each_measured list told.1 claims.1)

node_is_measured : (node : Node-F Node) → IsTold (roll-Node node) → AllByRecursion Claim (inside node) →
    IsMeasured (roll-Node node)
node_is_measured node told claims =
    let whole = from_inside (box_of node) (inside node)
    (tells_of_inside node (box_of node) refl (told_here node told))
    (list_from_nodes (inside node) (each_measured (inside node) (told_inside node told) claims)) in
    record {
      nesting = node_nesting-roll node ∙ whole.0 ∙ ap (min 65535) (sym (tree_nesting-roll node));
      count = ap (min 4294967295) (node_count-roll node) ∙ whole.1 ∙ ap (min 4294967295) (sym (tree_count-roll node));
    }

told_is_measured : (node : Node) → Claim node
told_is_measured = ind-Node Claim (λ layer children is told.
    node_is_measured layer told (subst (λ z. AllByRecursion Claim (inside z)) is (inside_with_proofs Claim children)))

all_claims : (list : List Node) → AllByRecursion Claim list
all_claims [] = tt
all_claims (node ∷ list) = (told_is_measured node, all_claims list)

-- where each box tells what its list gives, what boxes tell is the nesting and the count of the whole tree
pub told_lists_are_measured : ToldListsAreMeasured
told_lists_are_measured list told =
    list_from_nodes list (each_measured list (recursion_from_All IsTold list told) (all_claims list))
