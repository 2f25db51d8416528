-- Sums and maxima over a list: what natural sizes are made of.
-- From: tex.web, sections 650 and 668 (the dimensions of a box are cleared to zero, and each node has its effect on them).
use Rattle.std.specs.Prelude.{ℤ, pos, ◌+ℤ◌, List, fold, Option, unwrap_or}
use Rattle.std.specs.Int.{int_max}

-- what all elements add together
abbrev pub total : {A : Type 0} → (A → ℤ) → List A → ℤ
total f list = fold (λ sum a. sum +ℤ f a) (pos 0) list

-- the greatest number of an element, and at least 0
abbrev pub greatest : {A : Type 0} → (A → ℤ) → List A → ℤ
greatest f list = fold (λ most a. int_max most (f a)) (pos 0) list

-- the number of the last element that has one, and 0 where none has
abbrev pub last_number : {A : Type 0} → (A → Option ℤ) → List A → ℤ
last_number f list = fold (λ before a. unwrap_or (f a) before) (pos 0) list
