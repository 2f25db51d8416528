-- The laws of what is asked for, and the set of them that a crate names whose calls may ask. Numbers of fetches and
-- places are counted from the beginning of the run, so that no law takes a difference.
use Rattle.std.specs.Prelude.{◌≡◌, refl, ℕ, ◌+◌, ◌<◌, ◌≤◌, Bool, true, false, ◌==◌, ◌&&◌, if◌then◌else◌, List, [], ◌∷◌, ◌++◌, Some, None, is_some}
use Rattle.std.proofs.Common.{ap, ◌∙◌, append_assoc, arith, subst, take, drop}
use Rattle.std.proofs.lemmas.List.{take-append-drop}
use Rattle.std.proofs.lemmas.Bool.{eqb-true, eq-eqb, ne_eqb}
use Rattle.asking.specs.Meaning.{Place, Ask, step, walk, asked_at, asks_within, found_within}
use Rattle.asking.specs.Seen.{is_prefix}

-- the places behind two parts
pub walk_two : {S : Type 0} (xs ys : List (Ask S)) (p : Place) → walk (xs ++ ys) p ≡ walk ys (walk xs p)
unfolding walk
walk_two [] ys p = refl
walk_two (x ∷ xs) ys p = walk_two xs ys (step x.text p)

-- nothing asked for
pub walk_none : (S : Type 0) (p : Place) → walk {S = S} [] p ≡ p
unfolding walk
walk_none S p = refl

-- one file asked for
pub walk_one : {S : Type 0} (x : Ask S) (p : Place) → walk (x ∷ []) p ≡ step x.text p
unfolding walk
walk_one x p = refl

pub at_none : (S : Type 0) (n : ℕ) (p : Place) → asked_at {S = S} n [] p ≡ None
unfolding asked_at
at_none S n p = refl

-- the next file
pub at_one : {S : Type 0} (n : ℕ) (x : Ask S) (p : Place) → n ≡ p.asked + 1 → asked_at n (x ∷ []) p ≡ Some (x.state, step x.text p)
unfolding asked_at
at_one {S} n x p h = here (n == p.asked + 1) (eq-eqb n (p.asked + 1) h)
  where
    here : (b : Bool) → b ≡ true → (if b then Some (x.state, step x.text p) else asked_at n [] (step x.text p)) ≡ Some (x.state, step x.text p)
    here true e = refl
    here false e = cc

-- a fetch of the first part
pub at_first : {S : Type 0} (n : ℕ) (xs ys : List (Ask S)) (p : Place) → is_some (asked_at n xs p) ≡ true → asked_at n (xs ++ ys) p ≡ asked_at n xs p
unfolding asked_at
at_first n [] ys p h = cc
at_first {S} n (x ∷ xs) ys p h = here (n == p.asked + 1) (λ g. at_first n xs ys (step x.text p) g) h
  where
    here : (b : Bool) → (is_some (asked_at n xs (step x.text p)) ≡ true → asked_at n (xs ++ ys) (step x.text p) ≡ asked_at n xs (step x.text p))
        → is_some (if b then Some (x.state, step x.text p) else asked_at n xs (step x.text p)) ≡ true
        → (if b then Some (x.state, step x.text p) else asked_at n (xs ++ ys) (step x.text p)) ≡ (if b then Some (x.state, step x.text p) else asked_at n xs (step x.text p))
    here true rest h = refl
    here false rest h = rest h

-- a fetch has a number behind those of the place
found_behind : {S : Type 0} (n : ℕ) (xs : List (Ask S)) (p : Place) → is_some (asked_at n xs p) ≡ true → p.asked < n
unfolding asked_at
found_behind n [] p h = cc
found_behind {S} n (x ∷ xs) p h = here (n == p.asked + 1) refl (λ g. found_behind n xs (step x.text p) g) h
  where
    here : (b : Bool) → (n == p.asked + 1) ≡ b → (is_some (asked_at n xs (step x.text p)) ≡ true → p.asked + 1 < n)
        → is_some (if b then Some (x.state, step x.text p) else asked_at n xs (step x.text p)) ≡ true → p.asked < n
    here true same rest h = let this : n ≡ p.asked + 1 = eqb-true n (p.asked + 1) same in omega (arith, this)
    here false same rest h = let further : p.asked + 1 < n = rest h in omega (arith, further)

-- asking takes the place further
walk_asked : {S : Type 0} (xs : List (Ask S)) (p : Place) → p.asked ≤ (walk xs p).asked
unfolding walk
walk_asked [] p = omega arith
walk_asked (x ∷ xs) p = let further : p.asked + 1 ≤ (walk xs (step x.text p)).asked = walk_asked xs (step x.text p) in omega (arith, further)

-- a fetch of the second part
pub at_then : {S : Type 0} (n : ℕ) (xs ys : List (Ask S)) (p : Place) → is_some (asked_at n ys (walk xs p)) ≡ true → asked_at n (xs ++ ys) p ≡ asked_at n ys (walk xs p)
unfolding asked_at walk
at_then n [] ys p h = refl
at_then {S} n (x ∷ xs) ys p h =
    let behind : (walk xs (step x.text p)).asked < n = found_behind n ys (walk xs (step x.text p)) h in
    let before : p.asked + 1 ≤ (walk xs (step x.text p)).asked = walk_asked xs (step x.text p) in
    here (n == p.asked + 1) (ne_eqb n (p.asked + 1) (λ e. omega (arith, e, behind, before))) (at_then n xs ys (step x.text p) h)
  where
    here : (b : Bool) → b ≡ false → asked_at n (xs ++ ys) (step x.text p) ≡ asked_at n ys (walk xs (step x.text p))
        → (if b then Some (x.state, step x.text p) else asked_at n (xs ++ ys) (step x.text p)) ≡ asked_at n ys (walk xs (step x.text p))
    here true same rest = cc
    here false same rest = rest

-- what a list begins with a longer one begins with too
pub prefix_longer : (t xs ys : List ℕ) → is_prefix t xs ≡ true → is_prefix t (xs ++ ys) ≡ true
unfolding is_prefix
prefix_longer [] xs ys h = refl
prefix_longer (x ∷ t) [] ys h = cc
prefix_longer (x ∷ t) (y ∷ xs) ys h = here (x == y) (λ g. prefix_longer t xs ys g) h
  where
    here : (b : Bool) → (is_prefix t xs ≡ true → is_prefix t (xs ++ ys) ≡ true) → (b && is_prefix t xs) ≡ true → (b && is_prefix t (xs ++ ys)) ≡ true
    here true rest h = rest h
    here false rest h = h

-- what was cut short stays so, whatever is asked for further
pub cut_later : {S : Type 0} (t : List ℕ) (xs : List (Ask S)) (p : Place) → is_prefix t p.shown ≡ true → is_prefix t (walk xs p).shown ≡ true
unfolding walk
cut_later t [] p h = h
cut_later t (x ∷ xs) p h = cut_later t xs (step x.text p) (prefix_longer t p.shown x.text h)

-- a list begins with itself
pub prefix_same : (xs : List ℕ) → is_prefix xs xs ≡ true
unfolding is_prefix
prefix_same [] = refl
prefix_same (x ∷ xs) = here (x == x) (eq-eqb x x refl) (prefix_same xs)
  where
    here : (b : Bool) → b ≡ true → is_prefix xs xs ≡ true → (b && is_prefix xs xs) ≡ true
    here true e h = h
    here false e h = cc

-- a first part is a beginning
pub prefix_part : (xs ys : List ℕ) (n : ℕ) → is_prefix (xs ++ take n ys) (xs ++ ys) ≡ true
prefix_part xs ys n =
    let P : List ℕ → Type 0 = λ zs. is_prefix (xs ++ take n ys) zs ≡ true in
    subst P (append_assoc xs (take n ys) (drop n ys) ∙ ap (λ (zs : List ℕ). xs ++ zs) (take-append-drop n ys))
    (prefix_longer (xs ++ take n ys) (xs ++ take n ys) (drop n ys) (prefix_same (xs ++ take n ys)))

-- ---- a part of the state

-- the places are those of the part
pub walk_within : {S T : Type 0} (beside : S → T) (xs : List (Ask S)) (p : Place) → walk (asks_within beside xs) p ≡ walk xs p
unfolding walk asks_within
walk_within beside [] p = refl
walk_within beside (x ∷ xs) p = walk_within beside xs (step x.text p)

-- a fetch of the part is one of the whole
pub at_within : {S T : Type 0} (beside : S → T) (n : ℕ) (xs : List (Ask S)) (p : Place) → asked_at n (asks_within beside xs) p ≡ found_within beside (asked_at n xs p)
unfolding asked_at asks_within
at_within beside n [] p = refl
at_within {S} {T} beside n (x ∷ xs) p = here (n == p.asked + 1) (at_within beside n xs (step x.text p))
  where
    here : (b : Bool) → asked_at n (asks_within beside xs) (step x.text p) ≡ found_within beside (asked_at n xs (step x.text p))
        → (if b then Some (beside x.state, step x.text p) else asked_at n (asks_within beside xs) (step x.text p))
        ≡ found_within beside (if b then Some (x.state, step x.text p) else asked_at n xs (step x.text p))
    here true rest = refl
    here false rest = rest

pub ruleset asking = (walk_two, walk_none, walk_one, at_none, at_one, at_first, at_then, cut_later, prefix_same, walk_within, at_within)
