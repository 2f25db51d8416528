-- New names: one where the list and the id after it are known by equations, and those of a list in turn.
use Rattle.std.proofs.Common.{◌≡◌, ◌≢◌, ℕ, ◌+◌, ◌<◌, List, [], ◌∷◌, ◌++◌, length, take, arith, sym, ◌∙◌, ap, subst, add-one}
use Rattle.std.proofs.Math.Seq.{take-suc}
use Rattle.std.proofs.lemmas.List.{length-take-le, get_or-take}
use Rattle.tokens.specs.Names.{name_at, AreDistinct, Interned, interned, interned-new}

pub interned-new_as : (names more : List (List ℕ)) (name : List ℕ) (id : ℕ)
    → ((j : ℕ) → j < length names → name_at names j ≢ name)
    → more ≡ names ++ name ∷ [] → id ≡ length names
    → interned names name ≡ record { names = more; id = id }
interned-new_as names more name id nowhere longer last =
    let P : List (List ℕ) → Type 0 = λ ns. interned names name ≡ record { names = ns; id = id } in
    let Q : ℕ → Type 0 = λ k. interned names name ≡ record { names = names ++ name ∷ []; id = k } in
    subst P (sym longer) (subst Q (sym last) (interned-new names name nowhere))

-- the next name of a list of distinct names, behind those in front of it
pub interned_take : (names more : List (List ℕ)) (k id : ℕ) → AreDistinct names → k < length names
    → interned (take k names) (name_at names k) ≡ record { names = more; id = id } → more ≡ take (k + 1) names
interned_take names more k id distinct below h =
    let count : length (take k names) ≡ k = length-take-le k names (omega arith) in
    let nowhere : (j : ℕ) → j < length (take k names) → name_at (take k names) j ≢ name_at names k =
    λ j inside e. let before : j < k = omega arith in
    distinct j k before below (sym (get_or-take k names j [] before) ∙ e) in
    let joined : take k names ++ name_at names k ∷ [] ≡ more =
    ap (λ (i : Interned). i.names) (sym (interned-new (take k names) (name_at names k) nowhere) ∙ h) in
    rw add-one (sym joined ∙ sym (take-suc names k [] below))
