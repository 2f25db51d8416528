-- Functions of a list that call themselves on shorter lists. Such a function is given by one step,
-- which takes the function itself as an argument; the equation `on_shorter-step` is its law, and the
-- only thing that is said of it elsewhere.
use Rattle.std.specs.Prelude.{◌≡◌, ℕ, ◌<◌, ◌≤◌, List, length, refl}
use Rattle.std.proofs.Common.{zero, suc, arith}

-- the function, for lists of at most n elements
unfoldable pub within : {A B : Type 0} → ((List A → B) → List A → B) → B → ℕ → List A → B
within step none zero xs = step (λ _. none) xs
within step none (suc n) xs = step (λ ys. within step none n ys) xs

-- the function; the value `none` is never looked at
unfoldable pub on_shorter : {A B : Type 0} → ((List A → B) → List A → B) → B → List A → B
on_shorter step none xs = within step none (length xs) xs

-- the step looks at its function on shorter lists alone
abbrev pub IsShortening : {A B : Type 0} → ((List A → B) → List A → B) → Type 0
IsShortening {A} {B} step =
    (f g : List A → B) (xs : List A)
    → ((ys : List A) → length ys < length xs → f ys ≡ g ys)
    → step f xs ≡ step g xs

-- the bound makes no difference
within-same : {A B : Type 0} (step : (List A → B) → List A → B) (none : B) → IsShortening step
    → (n m : ℕ) (xs : List A) → length xs ≤ n → length xs ≤ m
    → within step none n xs ≡ within step none m xs
unfolding within
within-same step none short zero zero xs h k = refl
within-same step none short zero (suc m) xs h k =
    short _ _ xs (λ ys less. absurd (omega arith))
within-same step none short (suc n) zero xs h k =
    short _ _ xs (λ ys less. absurd (omega arith))
within-same step none short (suc n) (suc m) xs h k =
    short _ _ xs (λ ys less. within-same step none short n m ys (omega arith) (omega arith))

within-step : {A B : Type 0} (step : (List A → B) → List A → B) (none : B) → IsShortening step
    → (n : ℕ) (xs : List A) → length xs ≤ n
    → within step none n xs ≡ step (on_shorter step none) xs
unfolding on_shorter within
within-step step none short zero xs h =
    short _ _ xs (λ ys less. absurd (omega arith))
within-step step none short (suc n) xs h =
    short _ _ xs (λ ys less. within-same step none short n (length ys) ys (omega arith) (omega arith))

-- the law: the function is the step with the function itself in it
pub on_shorter-step : {A B : Type 0} (step : (List A → B) → List A → B) (none : B) → IsShortening step
    → (xs : List A) → on_shorter step none xs ≡ step (on_shorter step none) xs
unfolding on_shorter
on_shorter-step step none short xs = within-step step none short (length xs) xs (omega arith)
