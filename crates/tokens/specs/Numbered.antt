-- Names beside numbers, as a table says them.
use Rattle.std.specs.Prelude.{ℕ, ◌+◌, List, [], ◌∷◌}

-- a name beside a number
pub record Numbered : Type 0 where
  pub name : List ℕ
  pub number : ℕ

abbrev pub named : List ℕ → ℕ → Numbered
named name number = record { name = name; number = number }

-- names counted through from a first number
abbrev pub numbered : ℕ → List (List ℕ) → List Numbered
numbered first [] = []
numbered first (name ∷ names) = named name first ∷ numbered (first + 1) names
