-- Nesting and count of a list, where each box tells its own: a box isn't looked into.
-- From: the limits `box nesting` and `list items`, which are rules of this program.
use Rattle.std.specs.Prelude.{◌≡◌, ℕ, ◌+◌, max, List, [], ◌∷◌, ◌++◌, map, sum, Option, Some, None, refl}
use Rattle.std.specs.List.{sum_by}
use Rattle.std.specs.Option.{option_map}
use Rattle.std.proofs.Common.{◌∙◌, ap, arith}
use Rattle.nodes.specs.declared.node.Node.{Node}
use Rattle.nodes.specs.declared.node.Node.TheOpen.{Node-F}
use Rattle.nodes.specs.declared.node.Node.TheFolds.{map-Node, fold-Node, fold-roll-Node}
use Rattle.nodes.specs.declared.node.Node.TheViews.{roll-Node}
use Rattle.nodes.specs.declared.boxes.BoxNode.{BoxNode}
use Rattle.nodes.specs.Inside.{box_of, inside, box_map, box_of-map, inside-map}

-- the greatest of some numbers, 0 where there are none
abbrev pub deepest : List ℕ → ℕ
deepest [] = 0
deepest (n ∷ rest) = max n (deepest rest)

-- the nesting that a box tells, else the deepest of the nodes inside
abbrev pub told_nesting : {A : Type 0} → Option (BoxNode A) → List ℕ → ℕ
told_nesting (Some b) nestings = b.nesting
told_nesting None nestings = deepest nestings

-- the count that a box tells of its list, else how many nodes are inside
abbrev pub told_count : {A : Type 0} → Option (BoxNode A) → List ℕ → ℕ
told_count (Some b) counts = b.count
told_count None counts = sum counts

-- the nesting of a node, with that of each node inside in its place
abbrev pub nesting_step : Node-F ℕ → ℕ
nesting_step node = told_nesting (box_of node) (inside node)

-- how many nodes a node is, with the number for each node inside in its place
abbrev pub count_step : Node-F ℕ → ℕ
count_step node = 1 + told_count (box_of node) (inside node)

-- how deeply boxes stand in one another at a node: 0 where there are none
abbrev pub node_nesting : Node → ℕ
node_nesting = fold-Node ℕ nesting_step

-- how many nodes a node is, with all nodes inside it
abbrev pub node_count : Node → ℕ
node_count = fold-Node ℕ count_step

-- how deeply boxes stand in one another in a list
abbrev pub nesting_of : List Node → ℕ
nesting_of list = deepest (map node_nesting list)

-- how many nodes a list has, with all nodes inside them
abbrev pub count_of : List Node → ℕ
count_of list = sum_by node_count list

told_nesting-map : {A : Type 0} (f : A → ℕ) (box : Option (BoxNode (List A))) (nestings : List ℕ) →
    told_nesting (option_map (box_map f) box) nestings ≡ told_nesting box nestings
told_nesting-map f None nestings = refl
told_nesting-map f (Some b) nestings = refl

told_count-map : {A : Type 0} (f : A → ℕ) (box : Option (BoxNode (List A))) (counts : List ℕ) →
    told_count (option_map (box_map f) box) counts ≡ told_count box counts
told_count-map f None counts = refl
told_count-map f (Some b) counts = refl

-- the nesting of a node, by what stands in it
pub node_nesting-roll : (node : Node-F Node) →
    node_nesting (roll-Node node) ≡ told_nesting (box_of node) (map node_nesting (inside node))
node_nesting-roll node =
    fold-roll-Node ℕ nesting_step node
    ∙ ap (λ box. told_nesting box (inside (map-Node Node ℕ node_nesting node))) (box_of-map node_nesting node)
    ∙ told_nesting-map node_nesting (box_of node) (inside (map-Node Node ℕ node_nesting node))
    ∙ ap (told_nesting (box_of node)) (inside-map node_nesting node)

-- how many nodes a node is, by what stands in it
pub node_count-roll : (node : Node-F Node) →
    node_count (roll-Node node) ≡ 1 + told_count (box_of node) (map node_count (inside node))
node_count-roll node =
    fold-roll-Node ℕ count_step node
    ∙ ap (λ box. 1 + told_count box (inside (map-Node Node ℕ node_count node))) (box_of-map node_count node)
    ∙ ap (λ n. 1 + n) (told_count-map node_count (box_of node) (inside (map-Node Node ℕ node_count node)))
    ∙ ap (λ counts. 1 + told_count (box_of node) counts) (inside-map node_count node)

-- the deepest of two lists, one behind the other
pub deepest-append : (front behind : List ℕ) → deepest (front ++ behind) ≡ max (deepest front) (deepest behind)
deepest-append [] behind = omega arith
deepest-append (n ∷ front) behind = omega (arith, deepest-append front behind)
