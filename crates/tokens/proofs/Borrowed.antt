-- Lists of references: what an element refers to.
use Rattle.std.proofs.Common.{◌≡◌, ℕ, List, [], ◌∷◌, zero, suc, refl, get_or, map, Bor}

-- what the reference at an index refers to is at that index of what all of them refer to
pub now-get_or : {A : Type 0} (xs : List (Bor A)) (k : ℕ) (d : Bor A) → (get_or xs k d).now ≡ get_or (map (λ (x : Bor A). x.now) xs) k d.now
now-get_or [] k d = refl
now-get_or (x ∷ xs) zero d = refl
now-get_or (x ∷ xs) (suc k) d = now-get_or xs k d
