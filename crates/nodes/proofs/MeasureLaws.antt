-- Nesting and count of nodes that hold lists, and of longer lists.
use Rattle.std.proofs.Common.{◌≡◌, ℕ, ◌+◌, ◌<◌, min, max, List, [], ◌∷◌, ◌++◌, map, length, get_or, take, sym, ap, ◌∙◌, arith}
use Rattle.std.proofs.lemmas.List.{take_more, map-append}
use Rattle.std.proofs.lemmas.List.Sums.{sum-map, sum_by-append, sum_by_more}
use Rattle.nodes.specs.declared.node.Node.{Node}
use Rattle.nodes.specs.declared.node.Node.TheOpen.{Node-F}
use Rattle.nodes.specs.declared.node.Node.TheVariants.{Disc, Insert, Adjust, rolls-Disc, rolls-Insert, rolls-Adjust}
use Rattle.nodes.specs.declared.discretionary.DiscNode.{DiscNode}
use Rattle.nodes.specs.declared.page_material.InsertNode.{InsertNode}
use Rattle.nodes.specs.PackingMeasure.{node_nesting, node_count, nesting_of, count_of, node_nesting-roll, node_count-roll, deepest-append}

pub nesting_of-append : (front behind : List Node) →
    nesting_of (front ++ behind) ≡ max (nesting_of front) (nesting_of behind)
nesting_of-append front behind =
    rw (map-append node_nesting front behind) (deepest-append (map node_nesting front) (map node_nesting behind))

pub nesting_of-next : (list : List Node) (i : ℕ) (node : Node) → i < length list → node ≡ get_or list i node →
    nesting_of (take (i + 1) list) ≡ max (nesting_of (take i list)) (node_nesting node)
nesting_of-next list i node within is =
    ap nesting_of (take_more list i node within ∙ ap (λ n. take i list ++ n ∷ []) (sym is))
    ∙ nesting_of-append (take i list) (node ∷ [])
    ∙ (omega arith)

pub count_of-next : (list : List Node) (i : ℕ) (node : Node) → i < length list → node ≡ get_or list i node →
    count_of (take (i + 1) list) ≡ count_of (take i list) + node_count node
count_of-next list i node within is =
    sum_by_more node_count list i node within ∙ ap (λ n. count_of (take i list) + node_count n) (sym is)

pub node_nesting-Disc : (disc : DiscNode (List Node)) →
    node_nesting (Disc disc) ≡ max (nesting_of disc.pre) (nesting_of disc.post)
node_nesting-Disc disc =
    ap node_nesting (sym (rolls-Disc disc)) ∙ node_nesting-roll (Node-F.Disc disc)
    ∙ nesting_of-append disc.pre disc.post

pub node_count-Disc : (disc : DiscNode (List Node)) →
    node_count (Disc disc) ≡ 1 + (count_of disc.pre + count_of disc.post)
node_count-Disc disc =
    ap node_count (sym (rolls-Disc disc)) ∙ node_count-roll (Node-F.Disc disc)
    ∙ ap (λ n. 1 + n) (sum-map node_count (disc.pre ++ disc.post) ∙ sum_by-append node_count disc.pre disc.post)

pub node_nesting-Insert : (insert : InsertNode (List Node)) → node_nesting (Insert insert) ≡ nesting_of insert.list
node_nesting-Insert insert = ap node_nesting (sym (rolls-Insert insert)) ∙ node_nesting-roll (Node-F.Insert insert)

pub node_count-Insert : (insert : InsertNode (List Node)) → node_count (Insert insert) ≡ 1 + count_of insert.list
node_count-Insert insert =
    ap node_count (sym (rolls-Insert insert)) ∙ node_count-roll (Node-F.Insert insert)
    ∙ ap (λ n. 1 + n) (sum-map node_count insert.list)

pub node_nesting-Adjust : (list : List Node) → node_nesting (Adjust list) ≡ nesting_of list
node_nesting-Adjust list = ap node_nesting (sym (rolls-Adjust list)) ∙ node_nesting-roll (Node-F.Adjust list)

pub node_count-Adjust : (list : List Node) → node_count (Adjust list) ≡ 1 + count_of list
node_count-Adjust list =
    ap node_count (sym (rolls-Adjust list)) ∙ node_count-roll (Node-F.Adjust list)
    ∙ ap (λ n. 1 + n) (sum-map node_count list)

-- a number that is stopped on the way stops where the whole does
pub stops_one_more : (most n : ℕ) → min most (1 + min most n) ≡ min most (1 + n)
stops_one_more most n = omega arith

pub stops_sum : (most m n : ℕ) → min most (min most m + min most n) ≡ min most (m + n)
stops_sum most m n = omega arith
