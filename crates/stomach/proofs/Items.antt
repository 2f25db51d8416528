-- A list that stands with its front at the end of a vector.
use Rattle.std.proofs.Common.{◌≡◌, ℕ, ◌+◌, ◌<◌, List, [], ◌∷◌, ◌++◌, Result, Ok, Err, ap, ◌∙◌, sym, refl, length, take, drop, get_or, set, arith, zero, suc, subst, length-set, ◌-◌, ◌≤◌}
use Rattle.std.specs.Prelude.{reverse, Bool, true, false, not, ◌*◌, cond, OnOk, IfOk}
use Rattle.std.proofs.lemmas.Bool.Decides.{nat_tests}
use Rattle.std.proofs.lemmas.List.Sorted.{sum_by-IsPermutation, IsPermutation-reverse}
use Rattle.std.proofs.lemmas.List.{reverse-append, take_all}
use Rattle.std.proofs.Math.Seq.{take-suc, take-suc-set}
use Rattle.tokens.specs.Budget.{Allowance, is_spent, after_step}
use Rattle.tokens.specs.declared.stop.Stop.{Stop}
use Rattle.catcode_eye.specs.Outlook.{Outlook}
use Rattle.stomach.specs.declared.pending.Event.{Event}
use Rattle.stomach.specs.declared.pending.Item.{Item}
use Rattle.stomach.specs.declared.pending.Item.TheVariants.{Back, Inserted, From}
use Rattle.world.specs.Output.{Output}
use Rattle.asking.specs.Did.{Did, Does, Ended}
use Rattle.stomach.specs.Again.{Ended-by}
use Rattle.stomach.specs.Pending.{reading, with_source, files_closed, is_open_file, open_files, work_behind, worth}
use Rattle.stomach.specs.Take.{Looking, looking}

-- what is put at the last place comes first where the list is reversed
pub reverse_set : {X : Type 0} (n : ℕ) (xs : List X) (y : X) → n + 1 ≡ length xs → reverse (set xs n y) ≡ y ∷ reverse (take n xs)
reverse_set {X} n xs y e =
    let below : n < length xs = omega arith in
    let all : take (suc n) (set xs n y) ≡ set xs n y = take_all (suc n) (set xs n y) (omega (arith, length-set xs n y)) in
    ap reverse (sym all ∙ take-suc-set xs n y below) ∙ reverse-append (take n xs) (y ∷ [])

-- so does what stands there
pub reverse_last : {X : Type 0} (n : ℕ) (xs : List X) (x : X) → n + 1 ≡ length xs → x ≡ get_or xs n x → reverse xs ≡ x ∷ reverse (take n xs)
reverse_last {X} n xs x e h =
    let below : n < length xs = omega arith in
    let all : take (suc n) xs ≡ xs = take_all (suc n) xs (omega arith) in
    ap reverse (sym all ∙ take-suc xs n x below) ∙ reverse-append (take n xs) (get_or xs n x ∷ []) ∙ ap (λ (z : X). z ∷ reverse (take n xs)) (sym h)

-- the files of an item, and those behind it
files_closed-item : (x : Item) (rest : List Item) (o : Output) → files_closed (x ∷ rest) o ≡ files_closed rest (files_closed (x ∷ []) o)
files_closed-item (Back token) rest o = refl
files_closed-item (Inserted token) rest o = refl
files_closed-item (From source) rest o = refl

-- one more item of a list whose front stands at the end
pub files_closed-step : (xs : List Item) (n : ℕ) (x : Item) (o p : Output) → 0 < n → n ≤ length xs → x ≡ get_or xs (n - 1) x
    → p ≡ files_closed (x ∷ []) o → files_closed (reverse (take (n - 1) xs)) p ≡ files_closed (reverse (take n xs)) o
files_closed-step xs zero x o p above inside here e = absurd (omega arith)
files_closed-step xs (suc m) x o p above inside here e =
    let one : suc m - 1 ≡ m = omega arith in
    let here' : x ≡ get_or xs m x = rw one at here in
    let split : take (suc m) xs ≡ take m xs ++ (get_or xs m x ∷ []) = take-suc xs m x (omega arith) in
    let front : reverse (take (suc m) xs) ≡ x ∷ reverse (take m xs) =
    ap reverse split ∙ reverse-append (take m xs) (get_or xs m x ∷ []) ∙ ap (λ (z : Item). z ∷ reverse (take m xs)) (sym here') in
    rw one (ap (files_closed (reverse (take m xs))) e ∙ sym (files_closed-item x (reverse (take m xs)) o)
    ∙ ap (λ (l : List Item). files_closed l o) (sym front))

-- of a list with its front at the end and of what is left behind its front, or instead of it
at_front : {X : Type 0} (P : List X → List X → Type 0) (n : ℕ) (xs : List X) (x : X) (left rest : List X) → n + 1 ≡ length xs → x ≡ get_or xs n x
    → left ≡ rest → P (x ∷ reverse (take n xs)) rest → P (reverse xs) left
at_front {X} P n xs x left rest e h l p =
    let Q : List X → Type 0 = λ now. P (reverse xs) now in
    let R : List X → Type 0 = λ was. P was rest in
    subst Q (sym l) (subst R (sym (reverse_last n xs x e h)) p)

-- another item is put there
pub in_place : {X : Type 0} (P : List X → List X → Type 0) (n : ℕ) (xs : List X) (x y : X) → n + 1 ≡ length xs → x ≡ get_or xs n x
    → P (x ∷ reverse (take n xs)) (y ∷ reverse (take n xs)) → P (reverse xs) (reverse (set xs n y))
in_place P n xs x y e h p = at_front P n xs x _ _ e h (reverse_set n xs y e) p

-- it is gone
pub once_gone : {X : Type 0} (P : List X → List X → Type 0) (n : ℕ) (xs : List X) (x y : X) (left : List X) → n + 1 ≡ length xs → x ≡ get_or xs n x
    → left ≡ drop 1 (reverse (set xs n y)) → P (x ∷ reverse (take n xs)) (reverse (take n xs)) → P (reverse xs) left
once_gone P n xs x y left e h gone p = at_front P n xs x left _ e h (gone ∙ ap (drop 1) (reverse_set n xs y e)) p

-- what becomes of a source, by what is taken from it
pub source_begun : (is_file : Bool) (rest : List Item) (result : Result (Unit {0}) Stop) (eye : Outlook) (names : List (List ℕ)) (budget : Allowance) (meant : Did Looking (Unit {0}))
    → Does result (looking eye names budget) meant
    → Does result (reading (From (record { eye = eye; is_file = is_file }) ∷ rest) names budget) (with_source is_file rest meant)
source_begun is_file rest (Ok done) eye names budget meant h = ap (with_source is_file rest) h
source_begun is_file rest (Err stop) eye names budget meant h = Ended-by stop _ _ meant _ (ap (with_source is_file rest)) h

-- ---- the work that is left, and the files that are open

-- behind an inserted token a token that was put back counts one less
work_behind-one : (xs : List Item) → work_behind false xs ≤ work_behind true xs + 1
work_behind-one [] = omega arith
work_behind-one (Back token ∷ rest) = omega arith
work_behind-one (Inserted token ∷ rest) = omega arith
work_behind-one (From source ∷ rest) = omega arith

-- how many files are open doesn't depend on which end stands in front
pub open_files-reverse : (xs : List Item) → open_files (reverse xs) ≡ open_files xs
open_files-reverse xs = sum_by-IsPermutation (λ x. cond (is_open_file x) 1 0) xs (reverse xs) (IsPermutation-reverse xs)

-- what follows from a fact of what went well
pub on-ok : {A E : Type 0} (r : Result A E) (P Q : Type 0) → (P → Q) → OnOk r P → OnOk r Q
on-ok (Ok a) P Q f p = f p
on-ok (Err e) P Q f p = tt

-- the end of a source is worth one
pub over-less : (r : Result Event Stop) (m n : ℕ) → IfOk r (λ event. worth event ≡ 1) → m + 1 ≤ n → IfOk r (λ event. m + worth event ≤ n)
over-less (Ok event) m n w h = omega (arith, w, h)
over-less (Err stop) m n w h = tt

-- a step is left where one can be taken
some_left : (budget : Allowance) → true ≡ not (is_spent budget) → 1 ≤ budget.left
some_left budget h = grind (arith, nat_tests)

-- an inserted token takes a step, which is worth more than what a token behind it may count then
pub work-inserted : (budget then_budget : Allowance) (rest : List Item) → true ≡ not (is_spent budget) → then_budget ≡ after_step budget
    → 4 * then_budget.left + work_behind false rest + 3 ≤ 4 * budget.left + work_behind true rest
work-inserted budget then_budget rest taken after =
    let one = work_behind-one rest in
    let left : then_budget.left ≡ budget.left - 1 = ap (λ (b : Allowance). b.left) after in
    let some = some_left budget taken in
    omega (arith, one, left, some)
