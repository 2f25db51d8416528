-- What stands in a node. A layer is a node with something of a type A in the place of each node that it holds: the
-- nodes themselves, or what each of them gives.
-- From: tex.web, part 10 (sections 133 to 160) and section 1341.
use Rattle.std.specs.Prelude.{◌≡◌, List, [], ◌∷◌, ◌++◌, map, Option, Some, None, refl}
use Rattle.std.specs.Option.{option_map}
use Rattle.std.proofs.Common.{sym}
use Rattle.std.proofs.lemmas.List.{map-append}
use Rattle.scaled.specs.declared.spacing.Glue.{Glue}
use Rattle.nodes.specs.declared.node.Node.TheOpen.{Node-F}
use Rattle.nodes.specs.declared.node.Node.TheFolds.{map-Node}
use Rattle.nodes.specs.declared.boxes.BoxNode.{BoxNode}
use Rattle.nodes.specs.declared.spacing.Leaders.{Leaders}

-- the box that a node is, if it is one
abbrev pub box_of : {A : Type 0} → Node-F A → Option (BoxNode (List A))
box_of (Node-F.Char font byte width height depth italic) = None
box_of (Node-F.Lig lig) = None
box_of (Node-F.Boxed b) = Some b
box_of (Node-F.Rule width height depth) = None
box_of (Node-F.Skip skip) = None
box_of (Node-F.Kern width how) = None
box_of (Node-F.Penalty penalty) = None
box_of (Node-F.Disc disc) = None
box_of (Node-F.Mark mark) = None
box_of (Node-F.Insert insert) = None
box_of (Node-F.Adjust list) = None
box_of (Node-F.Whatsit whatsit) = None

-- the item of the leaders of a glue
abbrev pub item_of : {A : Type 0} → Option (Leaders A) → List A
item_of None = []
item_of (Some leaders) = leaders.item ∷ []

-- The nodes that stand in a node: the list of a box, an insertion or an adjustment, both lists of a discretionary,
-- the item of leaders.
abbrev pub inside : {A : Type 0} → Node-F A → List A
inside (Node-F.Char font byte width height depth italic) = []
inside (Node-F.Lig lig) = []
inside (Node-F.Boxed b) = b.list
inside (Node-F.Rule width height depth) = []
inside (Node-F.Skip skip) = item_of skip.leaders
inside (Node-F.Kern width how) = []
inside (Node-F.Penalty penalty) = []
inside (Node-F.Disc disc) = disc.pre ++ disc.post
inside (Node-F.Mark mark) = []
inside (Node-F.Insert insert) = insert.list
inside (Node-F.Adjust list) = list
inside (Node-F.Whatsit whatsit) = []

-- a box has its list inside
pub inside_box : {A : Type 0} (node : Node-F A) (b : BoxNode (List A)) → box_of node ≡ Some b → inside node ≡ b.list
inside_box (Node-F.Char font byte width height depth italic) b is = cc
inside_box (Node-F.Lig lig) b is = cc
inside_box (Node-F.Boxed c) b is = cc
inside_box (Node-F.Rule width height depth) b is = cc
inside_box (Node-F.Skip skip) b is = cc
inside_box (Node-F.Kern width how) b is = cc
inside_box (Node-F.Penalty penalty) b is = cc
inside_box (Node-F.Disc disc) b is = cc
inside_box (Node-F.Mark mark) b is = cc
inside_box (Node-F.Insert insert) b is = cc
inside_box (Node-F.Adjust list) b is = cc
inside_box (Node-F.Whatsit whatsit) b is = cc

-- a box with another list
abbrev pub with_list : {A B : Type 0} → BoxNode (List A) → List B → BoxNode (List B)
with_list b list = record {
  vertical = b.vertical;
  width = b.width;
  height = b.height;
  depth = b.depth;
  shift = b.shift;
  list = list;
  set = b.set;
  nesting = b.nesting;
  count = b.count;
}

-- a box whose inner nodes are replaced
abbrev pub box_map : {A B : Type 0} → (A → B) → BoxNode (List A) → BoxNode (List B)
box_map f b = with_list b (map f b.list)

-- the box that a node is whose inner nodes are replaced
pub box_of-map : {A B : Type 0} (f : A → B) (node : Node-F A) →
    box_of (map-Node A B f node) ≡ option_map (box_map f) (box_of node)
box_of-map f (Node-F.Char font byte width height depth italic) = refl
box_of-map f (Node-F.Lig lig) = refl
box_of-map f (Node-F.Boxed b) = refl
box_of-map f (Node-F.Rule width height depth) = refl
box_of-map f (Node-F.Skip skip) = refl
box_of-map f (Node-F.Kern width how) = refl
box_of-map f (Node-F.Penalty penalty) = refl
box_of-map f (Node-F.Disc disc) = refl
box_of-map f (Node-F.Mark mark) = refl
box_of-map f (Node-F.Insert insert) = refl
box_of-map f (Node-F.Adjust list) = refl
box_of-map f (Node-F.Whatsit whatsit) = refl

skip_map : {A B : Type 0} (f : A → B) (glue : Glue) (name : _) (leaders : Option (Leaders A)) →
    inside (map-Node A B f (Node-F.Skip (record { glue = glue; name = name; leaders = leaders })))
    ≡ map f (item_of leaders)
skip_map f glue name None = refl
skip_map f glue name (Some leaders) = refl

-- what stands in a node whose inner nodes are replaced
pub inside-map : {A B : Type 0} (f : A → B) (node : Node-F A) → inside (map-Node A B f node) ≡ map f (inside node)
inside-map f (Node-F.Char font byte width height depth italic) = refl
inside-map f (Node-F.Lig lig) = refl
inside-map f (Node-F.Boxed b) = refl
inside-map f (Node-F.Rule width height depth) = refl
inside-map f (Node-F.Skip skip) = skip_map f skip.glue skip.name skip.leaders
inside-map f (Node-F.Kern width how) = refl
inside-map f (Node-F.Penalty penalty) = refl
inside-map f (Node-F.Disc disc) = sym (map-append f disc.pre disc.post)
inside-map f (Node-F.Mark mark) = refl
inside-map f (Node-F.Insert insert) = refl
inside-map f (Node-F.Adjust list) = refl
inside-map f (Node-F.Whatsit whatsit) = refl
