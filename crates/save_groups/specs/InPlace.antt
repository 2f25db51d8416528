-- Changes in place (The TeXbook, chapter 15, on box registers; tex.web 1079, 1110 and 1247): `\box`, `\wd` and their
-- mates change what stands in an entry, and not its level. The change holds in the group to which the entry belongs,
-- and in all groups inside that.
use Rattle.std.specs.Prelude.{ℕ, ℤ, ◌+◌, nat_lt, nat_le, Bool, true, false, not, ◌||◌, List, [], ◌∷◌, length, Option, None, Some, if◌then◌else◌}
use Rattle.std.proofs.Common.{zero, suc}
use Rattle.nodes.specs.declared.boxes.BoxNode.{BoxNode}
use Rattle.nodes.specs.declared.node.Node.{Node}
use Rattle.tokens.specs.declared.meaning.RegKind.TheVariants.{Box}
use Rattle.save_groups.specs.declared.key.Key.{Key}
use Rattle.save_groups.specs.declared.key.Key.TheVariants.{Register}
use Rattle.save_groups.specs.declared.value.Value.{Value}
use Rattle.save_groups.specs.declared.value.Value.TheVariants as value
use Rattle.save_groups.specs.Environments.{Environment, updated, OpenGroup, Copies}

-- another value in an entry, whose level stays
abbrev pub refilled : Key → Value → Environment → Environment
refilled key value env = updated key (record { value = value; level = (env key).level }) env

-- the same in each environment outside the groups, from that of a level inwards. Outside the last of n groups there
-- are n environments
abbrev pub refilled_from : ℕ → Key → Value → List OpenGroup → List OpenGroup
refilled_from level key value [] = []
refilled_from level key value (group ∷ outer) =
    (if nat_le level (length outer + 1) then record group { outside = refilled key value group.outside } else group)
    ∷ refilled_from level key value outer

-- an entry changed in place: in all environments from its level inwards. The saves stay
abbrev pub in_place : Key → Value → Copies → Copies
in_place key value c = record c {
  last = refilled key value c.last;
  groups = refilled_from (c.last key).level key value c.groups;
}

-- ---- boxes

-- the box that a value is; void, and a value of another kind, is none
abbrev pub box_in : Value → Option (BoxNode (List Node))
box_in (value.Number n) = None
box_in (value.Glue g) = None
box_in (value.Tokens xs) = None
box_in (value.Meaning m) = None
box_in (value.Boxed b) = b
box_in (value.Table ns) = None

-- the box of a register
abbrev pub box_of : ℕ → Environment → Option (BoxNode (List Node))
box_of number env = box_in (env (Register Box number)).value

abbrev pub is_box : Option (BoxNode (List Node)) → Bool
is_box None = false
is_box (Some b) = true

-- whether a box isn't void
abbrev pub has_box : ℕ → Environment → Bool
has_box number env = is_box (box_of number env)

-- what can be put into a register in place: void into each, a box into the first 256, and where one stands already
abbrev pub can_swap : ℕ → Option (BoxNode (List Node)) → Environment → Bool
can_swap number content env = nat_lt number 256 || (has_box number env || not (is_box content))

-- a box with one size changed: of the parts 0, 1 and 2 are the width, the height and the depth
abbrev pub with_size : ℕ → ℤ → BoxNode (List Node) → BoxNode (List Node)
with_size zero size b = record b { width = size }
with_size (suc zero) size b = record b { height = size }
with_size (suc (suc part)) size b = record b { depth = size }

-- a register's box with one size changed; a void one stays
abbrev pub sized_value : ℕ → ℤ → BoxNode (List Node) → Value
sized_value part size b = value.Boxed (Some (with_size part size b))

abbrev pub resized_by : Option (BoxNode (List Node)) → ℕ → ℕ → ℤ → Copies → Copies
resized_by None number part size c = c
resized_by (Some b) number part size c = in_place (Register Box number) (sized_value part size b) c

abbrev pub resized : ℕ → ℕ → ℤ → Copies → Copies
resized number part size c = resized_by (box_of number c.last) number part size c

-- in the environment in force alone
abbrev pub resized_here_by : Option (BoxNode (List Node)) → ℕ → ℕ → ℤ → Environment → Environment
resized_here_by None number part size env = env
resized_here_by (Some b) number part size env = refilled (Register Box number) (sized_value part size b) env

abbrev pub resized_here : ℕ → ℕ → ℤ → Environment → Environment
resized_here number part size env = resized_here_by (box_of number env) number part size env
