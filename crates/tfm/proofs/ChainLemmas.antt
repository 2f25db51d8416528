-- One step along a chain of larger characters.
use Rattle.std.proofs.Common.{◌≡◌, ℕ, suc, ◌+◌, ◌-◌, ◌<◌, ◌≤◌, ◌==◌, nat_lt, cond, true, false, List, Option, Some, None, refl, arith}
use Rattle.tfm.specs.declared.lengths.Lengths.{Lengths}
use Rattle.tfm.specs.FontMetricsCharacters.{comes_to, larger_than}

pub comes_to_more : (bytes : List ℕ) (l : Lengths) (top n k at : ℕ) → k < n → comes_to bytes l top (n - k) (Some at) ≡ cond (at == top) true (cond (nat_lt at top) (comes_to bytes l top (n - (k + 1)) (larger_than bytes l at)) false)
comes_to_more bytes l top n k at h =
    let e : n - k ≡ suc (n - (k + 1)) = omega arith in rw e refl

pub comes_to_none : (bytes : List ℕ) (l : Lengths) (top n : ℕ) → comes_to bytes l top n None ≡ false
comes_to_none bytes l top n = refl

pub comes_to_end : (bytes : List ℕ) (l : Lengths) (top n k : ℕ) (next : Option ℕ) → n ≤ k → comes_to bytes l top (n - k) next ≡ false
comes_to_end bytes l top n k None h = refl
comes_to_end bytes l top n k (Some at) h =
    let e : n - k ≡ 0 = omega arith in rw e refl
