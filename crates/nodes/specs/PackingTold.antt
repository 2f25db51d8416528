-- The trees whose boxes tell what their lists give, built node by node.
-- From: the limits `box nesting` and `list items`, which are rules of this program.
use Rattle.std.specs.Prelude.{◌≡◌, ◌↔◌, ℕ, List, [], ◌∷◌, ◌++◌, map, Option, Some, None, refl, All}
use Rattle.std.specs.List.{AllByRecursion}
use Rattle.std.proofs.Common.{◌∙◌, ap}
use Rattle.std.proofs.lemmas.List.Elements.{All-from_recursion, recursion_from_All}
use Rattle.scaled.specs.declared.spacing.Glue.{Glue}
use Rattle.nodes.specs.declared.node.Node.{Node}
use Rattle.nodes.specs.declared.node.Node.TheOpen.{Node-F}
use Rattle.nodes.specs.declared.node.Node.TheFolds.{map-Node, every_made-Node}
use Rattle.nodes.specs.declared.node.Node.TheViews.{roll-Node}
use Rattle.nodes.specs.declared.spacing.Leaders.{Leaders}
use Rattle.nodes.specs.Inside.{inside, item_of, with_list}
use Rattle.nodes.specs.PackingTree.{TellsIfBox, IsTold, told_here, told_inside}

-- A node is the root of such a tree exactly where it is no box, or a box that tells what its list gives, and each node
-- that stands in it is the root of one.
abbrev pub ToldTreesAreBuilt : Type 0
ToldTreesAreBuilt = (node : Node-F Node) → IsTold (roll-Node node) ↔ (TellsIfBox node × All IsTold (inside node))

-- the nodes of a list, each with a proof of a fact
ListWith : (Node → Type 0) → List Node → Type 0
ListWith P list = (pairs : List ((node : Node) × P node)) × (map (λ e. e.0) pairs ≡ list)

list_with : (P : Node → Type 0) (list : List Node) → AllByRecursion P list → ListWith P list
unfolding ListWith
list_with P [] all = ([], refl)
list_with P (node ∷ list) all =
    let rest = list_with P list all.1 in
    ((node, all.0) ∷ rest.0, ap (λ others. node ∷ others) rest.1)

in_front : (P : Node → Type 0) (front behind : List Node) → AllByRecursion P (front ++ behind) → AllByRecursion P front
in_front P [] behind all = tt
in_front P (node ∷ front) behind all = (all.0, in_front P front behind all.1)

at_the_end : (P : Node → Type 0) (front behind : List Node) → AllByRecursion P (front ++ behind) → AllByRecursion P behind
at_the_end P [] behind all = all
at_the_end P (node ∷ front) behind all = at_the_end P front behind all.1

-- a layer whose inner nodes each have a proof of a fact
LayerWith : (Node → Type 0) → Node-F Node → Type 0
LayerWith P node =
    (layer : Node-F ((n : Node) × P n)) × (map-Node ((n : Node) × P n) Node (λ e. e.0) layer ≡ node)

skip_with : (P : Node → Type 0) (glue : Glue) (name : ℕ) (leaders : Option (Leaders Node)) →
    AllByRecursion P (item_of leaders) →
    LayerWith P (Node-F.Skip (record { glue = glue; name = name; leaders = leaders }))
unfolding LayerWith
skip_with P glue name None all = (Node-F.Skip (record { glue = glue; name = name; leaders = None }), refl)
skip_with P glue name (Some leaders) all = (
  Node-F.Skip (record {
    glue = glue;
    name = name;
    leaders = Some (record { how = leaders.how; item = (leaders.item, all.0) });
  }),
  refl,
)

layer_with : (P : Node → Type 0) (node : Node-F Node) → AllByRecursion P (inside node) → LayerWith P node
unfolding LayerWith ListWith
layer_with P (Node-F.Char font byte width height depth italic) all =
    (Node-F.Char font byte width height depth italic, refl)
layer_with P (Node-F.Lig lig) all = (Node-F.Lig lig, refl)
layer_with P (Node-F.Boxed b) all =
    let list = list_with P b.list all in
    (Node-F.Boxed (with_list b list.0), ap (λ l. Node-F.Boxed (with_list b l)) list.1)
layer_with P (Node-F.Rule width height depth) all = (Node-F.Rule width height depth, refl)
layer_with P (Node-F.Skip skip) all = skip_with P skip.glue skip.name skip.leaders all
layer_with P (Node-F.Kern width how) all = (Node-F.Kern width how, refl)
layer_with P (Node-F.Penalty penalty) all = (Node-F.Penalty penalty, refl)
layer_with P (Node-F.Disc disc) all =
    let pre = list_with P disc.pre (in_front P disc.pre disc.post all) in
    let post = list_with P disc.post (at_the_end P disc.pre disc.post all) in (
      Node-F.Disc (record { pre = pre.0; post = post.0; replace = disc.replace }),
      ap (λ l. Node-F.Disc (record { pre = l; post = map (λ e. e.0) post.0; replace = disc.replace })) pre.1
          ∙ ap (λ l. Node-F.Disc (record { pre = disc.pre; post = l; replace = disc.replace })) post.1,
    )
layer_with P (Node-F.Mark mark) all = (Node-F.Mark mark, refl)
layer_with P (Node-F.Insert insert) all =
    let list = list_with P insert.list all in (
      Node-F.Insert (record {
        class = insert.class;
        size = insert.size;
        max_depth = insert.max_depth;
        top = insert.top;
        cost = insert.cost;
        list = list.0;
      }),
      ap (λ l. Node-F.Insert (record {
        class = insert.class;
        size = insert.size;
        max_depth = insert.max_depth;
        top = insert.top;
        cost = insert.cost;
        list = l;
      })) list.1,
    )
layer_with P (Node-F.Adjust list) all =
    let nodes = list_with P list all in
    (Node-F.Adjust nodes.0, ap (λ l. Node-F.Adjust l) nodes.1)
layer_with P (Node-F.Whatsit whatsit) all = (Node-F.Whatsit whatsit, refl)

-- a node over told trees is the root of one, where it is no box or tells what its list gives
pub told_made : (node : Node-F Node) → TellsIfBox node → AllByRecursion IsTold (inside node) → IsTold (roll-Node node)
unfolding LayerWith
told_made node tells told =
    let layer = layer_with IsTold node told in
    every_made-Node TellsIfBox node layer.0 layer.1 tells

-- how such trees are built
pub told_trees_are_built : ToldTreesAreBuilt
told_trees_are_built node = (
  λ told. (told_here node told, All-from_recursion IsTold (inside node) (told_inside node told)),
  λ parts. told_made node parts.0 (recursion_from_All IsTold (inside node) parts.1),
)
