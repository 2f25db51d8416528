-- That the test of a chain of larger characters tells exactly what comes back: a chain that comes to a character through
-- smaller ones visits none of them twice, so it does so in no more steps than there are smaller ones.
use Rattle.std.proofs.Common.{◌≡◌, ◌==◌, ◌<◌, ◌≤◌, ◌+◌, ◌-◌, ℕ, zero, suc, eqb, nat_lt, cond, Bool, true, false, ◌||◌, List, [], ◌∷◌, length, Option, Some, None, IfSome, refl, ap, subst, sym, ◌∙◌, arith}
use Rattle.std.specs.List.{AllByRecursion, IsDistinct, list_any}
use Rattle.std.proofs.lemmas.Bool.Decides.{Decides-eqb, nat_tests}
use Rattle.std.proofs.lemmas.Map.Steps.{length-le_from_distinct_below}
use Rattle.tfm.specs.declared.lengths.Lengths.{Lengths}
use Rattle.tfm.specs.FontMetricsCharacters.{larger_than, comes_to}
use Rattle.tfm.specs.FontMetricsLoops.{along, ComesTo}

-- ---- what the test tells

lower_on : (bytes : List ℕ) (l : Lengths) (top character : ℕ) (rest : ComesTo bytes l top (larger_than bytes l character)) → character < top → (k : ℕ) → k < suc rest.steps → IfSome (along bytes l k (Some character)) (λ other. other < top)
lower_on bytes l top character rest below zero h = below
lower_on bytes l top character rest below (suc k) h = rest.lower k (omega arith)

comes_on : (bytes : List ℕ) (l : Lengths) (top character : ℕ) → character < top → ComesTo bytes l top (larger_than bytes l character) → ComesTo bytes l top (Some character)
comes_on bytes l top character below rest =
    record { steps = suc rest.steps; arrives = rest.arrives; lower = lower_on bytes l top character rest below }

comes_now : (bytes : List ℕ) (l : Lengths) (top character : ℕ) → character ≡ top → ComesTo bytes l top (Some character)
comes_now bytes l top character same = record { steps = 0; arrives = cc; lower = λ k h. absurd (omega arith) }

step_below : (bytes : List ℕ) (l : Lengths) (top limit character : ℕ) (test : Bool) → nat_lt character top ≡ test → cond test (comes_to bytes l top limit (larger_than bytes l character)) false ≡ true → (comes_to bytes l top limit (larger_than bytes l character) ≡ true → ComesTo bytes l top (larger_than bytes l character)) → ComesTo bytes l top (Some character)
step_below bytes l top limit character true e h rest =
    let below : character < top = grind (arith, nat_tests) in comes_on bytes l top character below (rest h)
step_below bytes l top limit character false e h rest = cc

step_at : (bytes : List ℕ) (l : Lengths) (top limit character : ℕ) (test : Bool) → (character == top) ≡ test → cond test true (cond (nat_lt character top) (comes_to bytes l top limit (larger_than bytes l character)) false) ≡ true → (comes_to bytes l top limit (larger_than bytes l character) ≡ true → ComesTo bytes l top (larger_than bytes l character)) → ComesTo bytes l top (Some character)
step_at bytes l top limit character true e h rest =
    comes_now bytes l top character ((Decides-eqb character top).0 e)
step_at bytes l top limit character false e h rest = step_below bytes l top limit character _ refl h rest

-- what the test tells comes
pub told_to_come : (bytes : List ℕ) (l : Lengths) (top limit : ℕ) (at : Option ℕ) → comes_to bytes l top limit at ≡ true → ComesTo bytes l top at
told_to_come bytes l top limit None h = cc
told_to_come bytes l top zero (Some character) h = cc
told_to_come bytes l top (suc limit) (Some character) h =
    step_at bytes l top limit character _ refl h (told_to_come bytes l top limit (larger_than bytes l character))

-- ---- what comes is told: within as many steps as there are characters

told_by_steps : (bytes : List ℕ) (l : Lengths) (top limit : ℕ) (at : Option ℕ) (steps : ℕ) → steps < limit → along bytes l steps at ≡ Some top → ((k : ℕ) → k < steps → IfSome (along bytes l k at) (λ character. character < top)) → comes_to bytes l top limit at ≡ true
told_by_steps bytes l top zero at steps within arrives lower = absurd (omega arith)
told_by_steps bytes l top (suc limit) None zero within arrives lower = cc
told_by_steps bytes l top (suc limit) None (suc steps) within arrives lower = cc
told_by_steps bytes l top (suc limit) (Some character) zero within arrives lower =
    let same : character ≡ top = cc in
    let e : (character == top) ≡ true = (Decides-eqb character top).1 same in
    rw e refl
told_by_steps bytes l top (suc limit) (Some character) (suc steps) within arrives lower =
    let below : character < top = lower 0 (omega arith) in
    let e : (character == top) ≡ false = grind (arith, nat_tests) in
    let f : nat_lt character top ≡ true = grind (arith, nat_tests) in
    rw (e, f) (told_by_steps bytes l top limit (larger_than bytes l character) steps (omega arith) arrives (λ k h. lower (suc k) (omega arith)))

along_none : (bytes : List ℕ) (l : Lengths) (n : ℕ) → along bytes l n None ≡ None
along_none bytes l zero = refl
along_none bytes l (suc n) = refl

along_add : (bytes : List ℕ) (l : Lengths) (m n : ℕ) (at : Option ℕ) → along bytes l (m + n) at ≡ along bytes l n (along bytes l m at)
along_add bytes l zero n at = let e : 0 + n ≡ n = omega arith in rw e refl
along_add bytes l (suc m) n None =
    let e : suc m + n ≡ suc (m + n) = omega arith in rw e (sym (along_none bytes l n))
along_add bytes l (suc m) n (Some character) =
    let e : suc m + n ≡ suc (m + n) = omega arith in rw e (along_add bytes l m n (larger_than bytes l character))

-- the characters that a chain visits in its first steps
visited : List ℕ → Lengths → ℕ → Option ℕ → List ℕ
visited bytes l zero at = []
visited bytes l (suc n) None = []
visited bytes l (suc n) (Some character) = character ∷ visited bytes l n (larger_than bytes l character)

all_visited : (bytes : List ℕ) (l : Lengths) (P : ℕ → Type 0) (n : ℕ) (at : Option ℕ) → ((j character : ℕ) → j < n → along bytes l j at ≡ Some character → P character) → AllByRecursion P (visited bytes l n at)
unfolding visited
all_visited bytes l P zero at h = tt
all_visited bytes l P (suc n) None h = tt
all_visited bytes l P (suc n) (Some character) h =
    (h 0 character (omega arith) refl, all_visited bytes l P n (larger_than bytes l character) (λ j other p e. h (suc j) other (omega arith) e))

found_later : (bytes : List ℕ) (l : Lengths) (n q character : ℕ) → ((j : ℕ) × (j < n) × (along bytes l j (larger_than bytes l character) ≡ Some q)) → (j : ℕ) × (j < suc n) × (along bytes l j (Some character) ≡ Some q)
found_later bytes l n q character (j, p, e) = (suc j, omega arith, e)

found_here : (bytes : List ℕ) (l : Lengths) (n q character : ℕ) (rest : Bool) (test : Bool) → eqb q character ≡ test → (test || rest) ≡ true → (rest ≡ true → (j : ℕ) × (j < n) × (along bytes l j (larger_than bytes l character) ≡ Some q)) → (j : ℕ) × (j < suc n) × (along bytes l j (Some character) ≡ Some q)
found_here bytes l n q character rest true e h later =
    let same : q ≡ character = (Decides-eqb q character).0 e in (0, omega arith, ap Some (sym same))
found_here bytes l n q character rest false e h later = found_later bytes l n q character (later h)

found : (bytes : List ℕ) (l : Lengths) (n : ℕ) (at : Option ℕ) (q : ℕ) → list_any (eqb q) (visited bytes l n at) ≡ true → (j : ℕ) × (j < n) × (along bytes l j at ≡ Some q)
unfolding visited
found bytes l zero at q h = cc
found bytes l (suc n) None q h = cc
found bytes l (suc n) (Some character) q h =
    found_here bytes l n q character _ _ refl h (found bytes l n (larger_than bytes l character) q)

-- a character that the chain comes to again would keep it from ever coming to the top
apart : (bytes : List ℕ) (l : Lengths) (top n character : ℕ) → along bytes l (suc n) (Some character) ≡ Some top → ((k : ℕ) → k < suc n → IfSome (along bytes l k (Some character)) (λ other. other < top)) → (j other : ℕ) → j < n → along bytes l j (larger_than bytes l character) ≡ Some other → eqb character other ≡ false
apart bytes l top n character arrives lower j other p e = apart_by bytes l top n character arrives lower j other p e _ refl
  where
    apart_by : (bytes : List ℕ) (l : Lengths) (top n character : ℕ) → along bytes l (suc n) (Some character) ≡ Some top → ((k : ℕ) → k < suc n → IfSome (along bytes l k (Some character)) (λ other. other < top)) → (j other : ℕ) → j < n → along bytes l j (larger_than bytes l character) ≡ Some other → (test : Bool) → eqb character other ≡ test → test ≡ false
    apart_by bytes l top n character arrives lower j other p e false t = refl
    apart_by bytes l top n character arrives lower j other p e true t =
        let same : character ≡ other = (Decides-eqb character other).0 t in
        let split : suc n ≡ suc j + (n - j) = omega arith in
        let again : along bytes l (suc j) (Some character) ≡ Some character = e ∙ ap Some (sym same) in
        let shorter : along bytes l (suc n) (Some character) ≡ along bytes l (n - j) (Some character) = ap (λ k. along bytes l k (Some character)) split ∙ along_add bytes l (suc j) (n - j) (Some character) ∙ ap (along bytes l (n - j)) again in
        let top_again : along bytes l (n - j) (Some character) ≡ Some top = sym shorter ∙ arrives in
        let P : Option ℕ → Type 0 = λ at. IfSome at (λ other. other < top) in
        let below : top < top = subst P top_again (lower (n - j) (omega arith)) in
        absurd (omega arith)

distinct_visited : (bytes : List ℕ) (l : Lengths) (top n : ℕ) (at : Option ℕ) → along bytes l n at ≡ Some top → ((k : ℕ) → k < n → IfSome (along bytes l k at) (λ other. other < top)) → IsDistinct eqb (visited bytes l n at)
unfolding visited IsDistinct
distinct_visited bytes l top zero at arrives lower = tt
distinct_visited bytes l top (suc n) None arrives lower = tt
distinct_visited bytes l top (suc n) (Some character) arrives lower =
    (all_visited bytes l (λ other. eqb character other ≡ false) n (larger_than bytes l character) (apart bytes l top n character arrives lower), distinct_visited bytes l top n (larger_than bytes l character) arrives (λ k h. lower (suc k) (omega arith)))

length_visited : (bytes : List ℕ) (l : Lengths) (top n : ℕ) (at : Option ℕ) → along bytes l n at ≡ Some top → length (visited bytes l n at) ≡ n
unfolding visited
length_visited bytes l top zero at arrives = refl
length_visited bytes l top (suc n) None arrives = cc
length_visited bytes l top (suc n) (Some character) arrives = ap suc (length_visited bytes l top n (larger_than bytes l character) arrives)

visited_below : (bytes : List ℕ) (l : Lengths) (top n : ℕ) (at : Option ℕ) → ((k : ℕ) → k < n → IfSome (along bytes l k at) (λ other. other < top)) → (q : ℕ) → list_any (eqb q) (visited bytes l n at) ≡ true → q < top
visited_below bytes l top n at lower q h = below_at bytes l top n at lower q (found bytes l n at q h)
  where
    below_at : (bytes : List ℕ) (l : Lengths) (top n : ℕ) (at : Option ℕ) → ((k : ℕ) → k < n → IfSome (along bytes l k at) (λ other. other < top)) → (q : ℕ) → ((j : ℕ) × (j < n) × (along bytes l j at ≡ Some q)) → q < top
    below_at bytes l top n at lower q (j, p, e) =
        let P : Option ℕ → Type 0 = λ at. IfSome at (λ other. other < top) in subst P e (lower j p)

-- a chain that comes to a character does so in no more steps than there are smaller characters
pub few_steps : (bytes : List ℕ) (l : Lengths) (top : ℕ) (at : Option ℕ) (come : ComesTo bytes l top at) → come.steps ≤ top
few_steps bytes l top at come =
    let n : length (visited bytes l come.steps at) ≡ come.steps = length_visited bytes l top come.steps at come.arrives in
    let few : length (visited bytes l come.steps at) ≤ top = length-le_from_distinct_below (visited bytes l come.steps at) top (distinct_visited bytes l top come.steps at come.arrives come.lower) (visited_below bytes l top come.steps at come.lower) in
    omega arith

-- what comes is told
pub coming_is_told : (bytes : List ℕ) (l : Lengths) (top limit : ℕ) (at : Option ℕ) → top < limit → ComesTo bytes l top at → comes_to bytes l top limit at ≡ true
coming_is_told bytes l top limit at enough come =
    told_by_steps bytes l top limit at come.steps (let few : come.steps ≤ top = few_steps bytes l top at come in omega arith) come.arrives come.lower
