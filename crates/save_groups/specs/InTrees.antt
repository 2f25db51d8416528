-- Registers from 256 on, which stand in one tree for each kind (the e-TeX manual, on additional registers, which are
-- kept in sparse arrays): each has an entry, and a number of holders.
use Rattle.std.specs.Prelude.{ℕ, ℤ, pos, ◌+◌, ◌==◌, nat_le, Bool, false, ◌&&◌, List, [], ◌∷◌, Option, None, Some, if◌then◌else◌}
use Rattle.std.specs.Ordering.{int_eq}
use Rattle.scaled.specs.declared.spacing.Glue.{Glue}
use Rattle.scaled.specs.Glue.{same_glue}
use Rattle.tokens.specs.declared.token.Token.{Token}
use Rattle.tokens.specs.TokenList.{same_tokens}
use Rattle.tokens.specs.declared.meaning.RegKind.{RegKind}
use Rattle.tokens.specs.declared.meaning.RegKind.TheVariants.{Count, Dimen, Skip, Muskip, Box, Toks}
use Rattle.tokens.specs.Meaning.{same_reg_kind}
use Rattle.nodes.specs.declared.boxes.BoxNode.{BoxNode}
use Rattle.nodes.specs.declared.node.Node.{Node}
use Rattle.sparse_regs.specs.declared.node.Register.{Register}
use Rattle.sparse_regs.specs.Registers.{Registers, register_at, untouched}
use Rattle.save_groups.specs.declared.key.Key.{Key}
use Rattle.save_groups.specs.declared.key.Key.TheVariants as key
use Rattle.save_groups.specs.declared.value.Value.{Value}
use Rattle.save_groups.specs.declared.value.Value.TheVariants as value
use Rattle.save_groups.specs.declared.entry.Entry.{Entry}
use Rattle.save_groups.specs.declared.trees.Trees.{Trees}
use Rattle.save_groups.specs.Keys.{same_key}
use Rattle.save_groups.specs.StartValues.{zero_glue}
use Rattle.save_groups.specs.Values.{are_void}
use Rattle.save_groups.specs.InPlace.{with_size, box_in}
use Rattle.save_groups.specs.Entries.{as_value, fresh}

-- ---- entries as values of trees: two are the same where values and levels are

abbrev pub same_number_entry : Entry ℤ → Entry ℤ → Bool
same_number_entry x y = int_eq x.value y.value && (x.level == y.level)

abbrev pub same_glue_entry : Entry Glue → Entry Glue → Bool
same_glue_entry x y = same_glue x.value y.value && (x.level == y.level)

abbrev pub same_list_entry : Entry (List Token) → Entry (List Token) → Bool
same_list_entry x y = same_tokens x.value y.value && (x.level == y.level)

abbrev pub same_box_entry : Entry (Option (BoxNode (List Node))) → Entry (Option (BoxNode (List Node))) → Bool
same_box_entry x y = are_void x.value y.value && (x.level == y.level)

-- a box with one size changed; void stays
abbrev pub sized_box : ℕ → ℤ → Option (BoxNode (List Node)) → Option (BoxNode (List Node))
sized_box part size None = None
sized_box part size (Some b) = Some (with_size part size b)

abbrev pub sized_entry : ℕ → ℤ → Entry (Option (BoxNode (List Node))) → Entry (Option (BoxNode (List Node)))
sized_entry part size x = record { value = sized_box part size x.value; level = x.level }

-- ---- all six trees

-- whether an entry stands in a tree
abbrev pub is_in_tree : Key → Bool
is_in_tree (key.Register kind number) = nat_le 256 number
is_in_tree (key.Parameter place) = false
is_in_tree (key.Code table byte) = false
is_in_tree (key.Name id) = false
is_in_tree (key.Active byte) = false
is_in_tree key.CurrentFont = false
is_in_tree (key.Family size number) = false
is_in_tree key.Shape = false
is_in_tree (key.Penalties array) = false

-- an entry with its holders
abbrev pub cell_of : {A : Type 0} → (A → Value) → Register (Entry A) → Register (Entry Value)
cell_of wrap r = record { value = as_value wrap r.value; holders = r.holders }

-- that of a register in a tree
abbrev pub cell_in : {A : Type 0} → (A → Value) → A → Registers (Entry A) → ℕ → Register (Entry Value)
cell_in wrap start tree number = cell_of wrap (register_at (fresh start) tree number)

abbrev pub cell : Trees → RegKind → ℕ → Register (Entry Value)
cell t Count number = cell_in value.Number (pos 0) t.count number
cell t Dimen number = cell_in value.Number (pos 0) t.dimen number
cell t Skip number = cell_in value.Glue zero_glue t.skip number
cell t Muskip number = cell_in value.Glue zero_glue t.muskip number
cell t Box number = cell_in value.Boxed None t.boxes number
cell t Toks number = cell_in value.Tokens [] t.toks number

-- all registers, with one changed
abbrev pub with_cell : RegKind → ℕ → Register (Entry Value) → (RegKind → ℕ → Register (Entry Value)) → RegKind → ℕ → Register (Entry Value)
with_cell kind number x cells k n = if same_reg_kind kind k && (number == n) then x else cells k n

-- a box with one size changed, at its level; void stays
abbrev pub sized_in : ℕ → ℤ → Value → Value
sized_in part size v = value.Boxed (sized_box part size (box_in v))

abbrev pub with_sized : ℕ → ℤ → Register (Entry Value) → Register (Entry Value)
with_sized part size x = record { value = record { value = sized_in part size x.value.value; level = x.value.level }; holders = x.holders }

-- what stands for a value that a tree may not have
abbrev pub entry_or : {A : Type 0} → A → Option (Entry A) → Entry A
entry_or start None = fresh start
entry_or start (Some entry) = entry

-- how often a list has a key
abbrev pub count_of : Key → List Key → ℕ
count_of key [] = 0
count_of key (k ∷ keys) = (if same_key k key then 1 else 0) + count_of key keys

-- how often an entry is held: only registers from 256 on are
abbrev pub holders_of : Trees → Key → ℕ
holders_of t (key.Register kind number) = (cell t kind number).holders
holders_of t (key.Parameter place) = 0
holders_of t (key.Code table byte) = 0
holders_of t (key.Name id) = 0
holders_of t (key.Active byte) = 0
holders_of t key.CurrentFont = 0
holders_of t (key.Family size number) = 0
holders_of t key.Shape = 0
holders_of t (key.Penalties array) = 0

-- no register was held or set
abbrev pub no_trees : Trees
no_trees = record { count = untouched; dimen = untouched; skip = untouched; muskip = untouched; boxes = untouched; toks = untouched }
