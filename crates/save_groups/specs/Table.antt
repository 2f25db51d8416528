-- Tables that are read alike: they differ in how far they reach, and not in what stands at any place.
use Rattle.std.specs.Prelude.{◌≡◌, ℕ, List, slice_index_or}

-- every place has the same element, where behind the end stands always this one
pub record ReadsAlike {A : Type 0} (rest : A) (xs ys : List A) : Type 0 where
  pub alike : (place : ℕ) → slice_index_or ys place rest ≡ slice_index_or xs place rest
