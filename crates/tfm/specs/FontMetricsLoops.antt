-- What it is for a chain of larger characters to come back (tex.web section 570), said by its steps, however many.
use Rattle.std.specs.Prelude.{◌≡◌, ◌<◌, ℕ, zero, suc, List, Option, Some, None, IfSome}
use Rattle.tfm.specs.declared.lengths.Lengths.{Lengths}
use Rattle.tfm.specs.FontMetricsCharacters.{larger_than}

-- the character that is some steps further along the chain of larger characters
abbrev pub along : List ℕ → Lengths → ℕ → Option ℕ → Option ℕ
along bytes l zero at = at
along bytes l (suc n) None = None
along bytes l (suc n) (Some character) = along bytes l n (larger_than bytes l character)

-- a chain comes to a character through smaller ones alone
pub record ComesTo (bytes : List ℕ) (l : Lengths) (top : ℕ) (at : Option ℕ) : Type 0 where
  pub steps : ℕ
  pub arrives : along bytes l steps at ≡ Some top
  pub lower : (k : ℕ) → k < steps → IfSome (along bytes l k at) (λ character. character < top)

-- a character's larger characters come back to it, and it is the highest of them
abbrev pub IsHighestOfLoop : List ℕ → Lengths → ℕ → Type 0
IsHighestOfLoop bytes l top = ComesTo bytes l top (larger_than bytes l top)
