-- A list whose front stands at the end of a vector.
use Rattle.std.proofs.Common.{◌≡◌, ℕ, ◌+◌, ◌<◌, ◌≤◌, List, [], ◌∷◌, ap, ◌∙◌, sym, length, take, get_or, set, arith, zero, suc, refl, length-set}
use Rattle.std.specs.Prelude.{reverse}
use Rattle.std.proofs.lemmas.List.{reverse-append, take_all}
use Rattle.std.proofs.Math.Seq.{take-suc, take-suc-set}
use Rattle.conditionals.specs.declared.stack.Branch.{Branch}
use Rattle.conditionals.specs.declared.stack.Condition.{Condition}
use Rattle.conditionals.specs.Conditions.{with_branch, with_branch_at}

reverse_set : (n : ℕ) (xs : List Condition) (y : Condition) → n + 1 ≡ length xs → reverse (set xs n y) ≡ y ∷ reverse (take n xs)
reverse_set n xs y e =
    let below : n < length xs = omega arith in
    let all : take (suc n) (set xs n y) ≡ set xs n y = take_all (suc n) (set xs n y) (omega (arith, length-set xs n y)) in
    ap reverse (sym all ∙ take-suc-set xs n y below) ∙ reverse-append (take n xs) (y ∷ [])

reverse_last : (n : ℕ) (xs : List Condition) (x : Condition) → n + 1 ≡ length xs → x ≡ get_or xs n x → reverse xs ≡ x ∷ reverse (take n xs)
reverse_last n xs x e h =
    let below : n < length xs = omega arith in
    let all : take (suc n) xs ≡ xs = take_all (suc n) xs (omega arith) in
    ap reverse (sym all ∙ take-suc xs n x below) ∙ reverse-append (take n xs) (get_or xs n x ∷ []) ∙ ap (λ (z : Condition). z ∷ reverse (take n xs)) (sym h)

-- the branch of the last one is that of the first where the list is reversed
pub branch-last : (branch : Branch) (n : ℕ) (xs : List Condition) (x : Condition) → n + 1 ≡ length xs → x ≡ get_or xs n x
    → reverse (set xs n (record x { branch = branch })) ≡ with_branch branch (reverse xs)
branch-last branch n xs x e h =
    reverse_set n xs (record x { branch = branch }) e ∙ ap (with_branch branch) (sym (reverse_last n xs x e h))

-- the branch of the one at a place
pub branch-set : (branch : Branch) (n : ℕ) (xs : List Condition) (x : Condition) → n < length xs → x ≡ get_or xs n x
    → set xs n (record x { branch = branch }) ≡ with_branch_at branch n xs
branch-set branch n [] x below h = absurd (omega (arith, below))
branch-set branch zero (y ∷ ys) x below h = ap (λ (z : Condition). record z { branch = branch } ∷ ys) h
branch-set branch (suc n) (y ∷ ys) x below h = ap (λ (zs : List Condition). y ∷ zs) (branch-set branch n ys x (omega (arith, below)) h)

-- there is none behind the last one
pub branch-beyond : (branch : Branch) (n : ℕ) (xs : List Condition) → length xs ≤ n → xs ≡ with_branch_at branch n xs
branch-beyond branch n [] beyond = refl
branch-beyond branch zero (y ∷ ys) beyond = absurd (omega (arith, beyond))
branch-beyond branch (suc n) (y ∷ ys) beyond = ap (λ (zs : List Condition). y ∷ zs) (branch-beyond branch n ys (omega (arith, beyond)))
