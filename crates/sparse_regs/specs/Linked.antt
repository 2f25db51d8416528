-- How nodes lead to each other, by three functions: the prefix of the node at an index, its parent, and the child of a
-- node by a digit. `None` as a node is above all others.
use Rattle.std.specs.Prelude.{◌≡◌, ℕ, ◌-◌, ◌/◌, ◌<◌, ◌≤◌, Option, None, Some}
use Rattle.sparse_regs.specs.declared.prefix.Prefix.{Prefix}
use Rattle.sparse_regs.specs.Prefixes.{empty_prefix, longer}

-- the prefix of a node, or of what is above all
abbrev pub of : (ℕ → Option Prefix) → Option ℕ → Option Prefix
of pre None = Some empty_prefix
of pre (Some i) = pre i

-- a prefix that nodes can have
pub record IsPrefix (p : Prefix) : Type 0 where
  pub least : 1 ≤ p.digits
  pub most : p.digits ≤ 4
  pub one : p.digits ≤ 1 → p.number < 16
  pub two : p.digits ≤ 2 → p.number < 256
  pub three : p.digits ≤ 3 → p.number < 4096
  pub four : p.number < 65536

-- a prefix without its last digit
abbrev pub shorter : Prefix → Prefix
shorter p = record { digits = p.digits - 1; number = p.number / 16 }

pub record IsLinked (pre : ℕ → Option Prefix) (parent : ℕ → Option ℕ) (child : Option ℕ → ℕ → Option ℕ) : Type 0 where
  pub shaped : (i : ℕ) (p : Prefix) → pre i ≡ Some p → IsPrefix p
  -- each prefix has one node
  pub one : (i j : ℕ) (p : Prefix) → pre i ≡ Some p → pre j ≡ Some p → i ≡ j
  pub up : (i : ℕ) (p : Prefix) → pre i ≡ Some p → of pre (parent i) ≡ Some (shorter p)
  pub some : (j : Option ℕ) (p : Prefix) (digit i : ℕ) → digit < 16 → of pre j ≡ Some p → child j digit ≡ Some i
      → pre i ≡ Some (longer p digit)
  pub none : (j : Option ℕ) (p : Prefix) (digit i : ℕ) → digit < 16 → of pre j ≡ Some p → child j digit ≡ None
      → pre i ≡ Some (longer p digit) → ⊥
