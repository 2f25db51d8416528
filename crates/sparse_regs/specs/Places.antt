-- How a tree is stored: the places of all nodes, those that are free among them, and the children of what is above all
-- nodes.
use Rattle.std.specs.Prelude.{◌≡◌, ◌≢◌, ◌⊎◌, ℕ, ◌+◌, ◌*◌, ◌%◌, ◌==◌, max, ◌<◌, ◌≤◌, Bool, true, false, not, List, [], ◌∷◌, ◌++◌, length, map, Option, None, Some, slice_index_or, slice_set, replicate, vec_len, vec_capacity, if◌then◌else◌}
use Rattle.std.specs.Option.{is_none}
use Rattle.std.specs.List.{list_all}
use Rattle.sparse_regs.specs.declared.prefix.Prefix.{Prefix}
use Rattle.sparse_regs.specs.declared.node.Register.{Register}
use Rattle.sparse_regs.specs.declared.node.Node.{Node}
use Rattle.sparse_regs.specs.declared.node.Content.{Content}
use Rattle.sparse_regs.specs.declared.node.Content.TheVariants.{Index, Leaf}
use Rattle.sparse_regs.specs.declared.arena.Arena.{Arena}
use Rattle.sparse_regs.specs.Registers.{Numbered, Registers, register_among, initial_register, is_kept, taken_count}
use Rattle.sparse_regs.specs.Linked.{IsLinked}

-- ---- what stands at a place

abbrev pub node_at : {T : Type 0} → List (Option (Node T)) → ℕ → Option (Node T)
node_at places i = slice_index_or places i None

abbrev pub prefix_in : {T : Type 0} → Option (Node T) → Option Prefix
prefix_in None = None
prefix_in (Some node) = Some node.prefix

abbrev pub parent_in : {T : Type 0} → Option (Node T) → Option ℕ
parent_in None = None
parent_in (Some node) = node.parent

abbrev pub child_in_content : {T : Type 0} → Content T → ℕ → Option ℕ
child_in_content (Index children) digit = slice_index_or children digit None
child_in_content (Leaf register) digit = None

abbrev pub child_in : {T : Type 0} → Option (Node T) → ℕ → Option ℕ
child_in None digit = None
child_in (Some node) digit = child_in_content node.content digit

abbrev pub leaf_in_content : {T : Type 0} → Content T → Option (Register T)
leaf_in_content (Index children) = None
leaf_in_content (Leaf register) = Some register

abbrev pub leaf_in : {T : Type 0} → Option (Node T) → Option (Register T)
leaf_in None = None
leaf_in (Some node) = leaf_in_content node.content

abbrev pub prefix_from : {T : Type 0} → List (Option (Node T)) → ℕ → Option Prefix
prefix_from places i = prefix_in (node_at places i)

abbrev pub parent_from : {T : Type 0} → List (Option (Node T)) → ℕ → Option ℕ
parent_from places i = parent_in (node_at places i)

abbrev pub child_from : {T : Type 0} → List (Option ℕ) → List (Option (Node T)) → Option ℕ → ℕ → Option ℕ
child_from top places None digit = slice_index_or top digit None
child_from top places (Some i) digit = child_in (node_at places i) digit

abbrev pub leaf_from : {T : Type 0} → List (Option (Node T)) → ℕ → Option (Register T)
leaf_from places i = leaf_in (node_at places i)

-- ---- changes

abbrev pub content_with_child : {T : Type 0} → ℕ → Option ℕ → Content T → Content T
content_with_child digit child (Index children) = Index (slice_set children digit child)
content_with_child digit child (Leaf register) = Leaf register

abbrev pub with_child : {T : Type 0} → ℕ → Option ℕ → Option (Node T) → Option (Node T)
with_child digit child None = None
with_child digit child (Some node) = Some (record node { content = content_with_child digit child node.content })

-- a leaf with a changed register
abbrev pub content_with_leaf : {T : Type 0} → (Register T → Register T) → Content T → Content T
content_with_leaf f (Index children) = Index children
content_with_leaf f (Leaf register) = Leaf (f register)

abbrev pub with_leaf : {T : Type 0} → (Register T → Register T) → Option (Node T) → Option (Node T)
with_leaf f None = None
with_leaf f (Some node) = Some (record node { content = content_with_leaf f node.content })

abbrev pub top_with_child : Option ℕ → ℕ → Option ℕ → List (Option ℕ) → List (Option ℕ)
top_with_child None digit child top = slice_set top digit child
top_with_child (Some i) digit child top = top

abbrev pub places_with_child : {T : Type 0} → Option ℕ → ℕ → Option ℕ → List (Option (Node T)) → List (Option (Node T))
places_with_child None digit child places = places
places_with_child (Some i) digit child places = slice_set places i (with_child digit child (node_at places i))

-- what a new node has, by the number of its digits
abbrev pub new_content : {T : Type 0} → T → ℕ → Content T
new_content start digits = if digits == 4 then Leaf (initial_register start) else Index (replicate 16 None)

-- ---- what holds at all times

-- an index node has sixteen children, and a leaf has all four digits
abbrev pub IsFormedContent : {T : Type 0} → ℕ → Content T → Type 0
IsFormedContent digits (Index children) = (digits < 4) × (length children ≡ 16)
IsFormedContent digits (Leaf register) = digits ≡ 4

abbrev pub IsFormed : {T : Type 0} → Option (Node T) → Type 0
IsFormed None = Unit {0}
IsFormed (Some node) = IsFormedContent node.prefix.digits node.content

-- the free places are listed, each once
pub record IsCounted {T : Type 0} (places : List (Option (Node T))) (free : List ℕ) : Type 0 where
  pub count : taken_count places + length free ≡ length places
  pub within : (k : ℕ) → k < length free → slice_index_or free k 0 < length places
  pub empty : (k : ℕ) → k < length free → node_at places (slice_index_or free k 0) ≡ None
  pub apart : (k l : ℕ) → k < l → l < length free → slice_index_or free k 0 ≢ slice_index_or free l 0
  pub few : length places ≤ 327680

-- a place was taken for a new node
pub record IsSpare {T : Type 0} (places : List (Option (Node T))) (free : List ℕ) (at : ℕ) : Type 0 where
  pub count : taken_count places + length free + 1 ≡ length places
  pub here : at < length places
  pub vacant : node_at places at ≡ None
  pub within : (k : ℕ) → k < length free → slice_index_or free k 0 < length places
  pub empty : (k : ℕ) → k < length free → node_at places (slice_index_or free k 0) ≡ None
  pub apart : (k l : ℕ) → k < l → l < length free → slice_index_or free k 0 ≢ slice_index_or free l 0
  pub other : (k : ℕ) → k < length free → slice_index_or free k 0 ≢ at
  pub few : 0 < length free → length places ≤ 327680

pub record IsStored {T : Type 0} (top : List (Option ℕ)) (places : List (Option (Node T))) (free : List ℕ) : Type 0 where
  pub linked : IsLinked (prefix_from places) (parent_from places) (child_from top places)
  pub formed : (i : ℕ) → IsFormed (node_at places i)
  pub sixteen : length top ≡ 16
  pub counted : IsCounted places free

pub record IsArena {T : Type 0} (arena : Arena T) : Type 0 where
  pub stored : IsStored arena.top arena.places.items arena.free.items
  -- a place can be freed without memory
  pub room : vec_len arena.places ≤ vec_capacity arena.free

-- whether a node has to stand: it has children, or its register is held or isn't initial
abbrev pub stands_content : {T : Type 0} → (T → Bool) → Content T → Bool
stands_content is_initial (Index children) = not (list_all is_none children)
stands_content is_initial (Leaf register) = is_kept is_initial register

abbrev pub stands_in : {T : Type 0} → (T → Bool) → Option (Node T) → Bool
stands_in is_initial None = true
stands_in is_initial (Some node) = stands_content is_initial node.content

-- all nodes have to stand, but maybe one
abbrev pub IsTightBut : {T : Type 0} → (T → Bool) → Option ℕ → List (Option (Node T)) → Type 0
IsTightBut is_initial but places = (i : ℕ) → Some i ≢ but → stands_in is_initial (node_at places i) ≡ true

pub record IsTree {T : Type 0} (is_initial : T → Bool) (arena : Arena T) : Type 0 where
  pub linked : IsArena arena
  pub tight : IsTightBut is_initial None arena.places.items

-- there is room for some more nodes, and to free them
pub record HasRoom {T : Type 0} (count : ℕ) (arena : Arena T) : Type 0 where
  pub places : vec_len arena.places + count ≤ vec_capacity arena.places
  pub free : vec_len arena.places + count ≤ vec_capacity arena.free

-- ---- what it stands for

abbrev pub kept_in_content : {T : Type 0} → ℕ → Content T → List (Numbered T)
kept_in_content n (Index children) = []
kept_in_content n (Leaf register) = record { number = n; register = register } ∷ []

abbrev pub kept_in : {T : Type 0} → Option (Node T) → List (Numbered T)
kept_in None = []
kept_in (Some node) = kept_in_content node.prefix.number node.content

abbrev pub kept_from : {T : Type 0} → List (Option (Node T)) → List (Numbered T)
kept_from [] = []
kept_from (place ∷ places) = kept_in place ++ kept_from places

abbrev pub registers_of : {T : Type 0} → List (Option (Node T)) → Registers T
registers_of places = record { kept = kept_from places; places = map prefix_in places }

-- nodes were made, which change no register
pub record Grew {T : Type 0} (start : T) (old new : Arena T) : Type 0 where
  pub stays : (i : ℕ) (p : Prefix) → prefix_from old.places.items i ≡ Some p → prefix_from new.places.items i ≡ Some p
  pub registers : (m : ℕ) → register_among start (kept_from new.places.items) m ≡ register_among start (kept_from old.places.items) m
  pub slots : length new.places.items ≡ max (length old.places.items) (taken_count new.places.items)
  pub more : taken_count old.places.items ≤ taken_count new.places.items

-- nodes went, which change no register
pub record Shrank {T : Type 0} (start : T) (old new : Arena T) : Type 0 where
  pub stays : (i : ℕ) (p : Prefix) → prefix_from new.places.items i ≡ Some p → prefix_from old.places.items i ≡ Some p
  pub registers : (m : ℕ) → register_among start (kept_from new.places.items) m ≡ register_among start (kept_from old.places.items) m
  pub slots : length new.places.items ≡ length old.places.items

-- each place has the prefix that it had
pub record SamePrefixes {T : Type 0} (old new : List (Option (Node T))) : Type 0 where
  pub prefixes : (i : ℕ) → prefix_from new i ≡ prefix_from old i
  pub slots : length new ≡ length old
  pub count : taken_count new ≡ taken_count old
