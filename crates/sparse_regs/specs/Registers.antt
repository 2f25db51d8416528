-- What a tree stands for: a value and a number of holders for every register, and for every index below the highest
-- number of nodes so far the prefix whose node has it (etex.ch, on sparse arrays, where an element goes when no one
-- refers to it and it has its value of the start).
use Rattle.std.specs.Prelude.{◌≡◌, ℕ, ◌+◌, ◌-◌, ◌==◌, nat_lt, Bool, false, not, ◌||◌, List, [], ◌∷◌, length, Option, None, Some, slice_index_or, position, if◌then◌else◌}
use Rattle.std.specs.List.{list_any}
use Rattle.sparse_regs.specs.declared.prefix.Prefix.{Prefix}
use Rattle.sparse_regs.specs.declared.node.Register.{Register}
use Rattle.sparse_regs.specs.Prefixes.{empty_prefix, same_prefix}

-- a register that isn't initial or is held, with its number
pub record Numbered (T : Type 0) : Type 0 where
  pub number : ℕ
  pub register : Register T

pub record Registers (T : Type 0) : Type 0 where
  pub kept : List (Numbered T)
  -- the prefix at each index
  pub places : List (Option Prefix)

-- nothing was held or set yet
abbrev pub untouched : {T : Type 0} → Registers T
untouched = record { kept = []; places = [] }

-- ---- values and holders, of every number

abbrev pub initial_register : {T : Type 0} → T → Register T
initial_register start = record { value = start; holders = 0 }

abbrev pub register_among : {T : Type 0} → T → List (Numbered T) → ℕ → Register T
register_among start [] n = initial_register start
register_among start (r ∷ rs) n = if r.number == n then r.register else register_among start rs n

-- the register of a number, with its value of the start where nothing is known of it
abbrev pub register_at : {T : Type 0} → T → Registers T → ℕ → Register T
register_at start s n = register_among start s.kept n

-- whether a register has nodes: it is held, or isn't initial
abbrev pub is_kept : {T : Type 0} → (T → Bool) → Register T → Bool
is_kept is_initial r = nat_lt 0 r.holders || not (is_initial r.value)

abbrev pub value_if_kept : {T : Type 0} → (T → Bool) → Register T → Option T
value_if_kept is_initial r = if is_kept is_initial r then Some r.value else None

-- all registers, with one changed
abbrev pub updated : {T : Type 0} → ℕ → Register T → (ℕ → Register T) → ℕ → Register T
updated n r all m = if m == n then r else all m

abbrev pub with_holder : {T : Type 0} → Register T → Register T
with_holder r = record r { holders = r.holders + 1 }

abbrev pub without_holder : {T : Type 0} → Register T → Register T
without_holder r = record r { holders = r.holders - 1 }

abbrev pub with_value : {T : Type 0} → T → Register T → Register T
with_value value r = record r { value = value }

-- with a function done to its value
abbrev pub with_resized : {T : Type 0} → (T → T) → Register T → Register T
with_resized f r = record r { value = f r.value }

-- ---- nodes and their indices

-- the prefix whose node has an index
abbrev pub prefix_at : {T : Type 0} → Registers T → ℕ → Option Prefix
prefix_at s i = slice_index_or s.places i None

-- that of a parent, where None is above all nodes
abbrev pub prefix_of : {T : Type 0} → Registers T → Option ℕ → Option Prefix
prefix_of s None = Some empty_prefix
prefix_of s (Some i) = prefix_at s i

abbrev pub is_place_of : Prefix → Option Prefix → Bool
is_place_of p None = false
is_place_of p (Some q) = same_prefix p q

-- the index of a prefix's node
abbrev pub index_of : {T : Type 0} → Registers T → Prefix → Option ℕ
index_of s p = position (is_place_of p) s.places

-- how many indices were given so far
abbrev pub slots_of : {T : Type 0} → Registers T → ℕ
slots_of s = length s.places

abbrev pub taken_count : {A : Type 0} → List (Option A) → ℕ
taken_count [] = 0
taken_count (None ∷ xs) = taken_count xs
taken_count (Some x ∷ xs) = taken_count xs + 1

-- how many nodes stand
abbrev pub nodes_of : {T : Type 0} → Registers T → ℕ
nodes_of s = taken_count s.places

-- no prefix that stands before and after has another index
abbrev pub KeepsIndices : {T : Type 0} → Registers T → Registers T → Type 0
KeepsIndices old new = (p : Prefix) (i j : ℕ) → index_of old p ≡ Some i → index_of new p ≡ Some j → j ≡ i

-- whether a list has the registers that aren't initial or are held, each once or more, and no other
abbrev pub ListsKept : {T : Type 0} → T → (T → Bool) → List ℕ → Registers T → Type 0
ListsKept start is_initial numbers s =
    (n : ℕ) → list_any (λ m. m == n) numbers ≡ is_kept is_initial (register_at start s n)

-- the numbers that a tree keeps
abbrev pub numbers_among : {T : Type 0} → List (Numbered T) → List ℕ
numbers_among [] = []
numbers_among (r ∷ rs) = r.number ∷ numbers_among rs

abbrev pub numbers_of : {T : Type 0} → Registers T → List ℕ
numbers_of s = numbers_among s.kept
