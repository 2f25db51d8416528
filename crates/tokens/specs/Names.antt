-- The table of names as a list of byte strings, no two of them equal; the id of a name is its place
-- there (tex.web part 18, the hash table, where a name is known by its address). A name that is looked up
-- and isn't there stands at the end from then on.
use Rattle.std.specs.Prelude.{◌≡◌, ◌≢◌, ℕ, ◌<◌, ◌≤◌, Bool, true, false, List, [], ◌∷◌, ◌++◌, length, Option, Some, None, slice_index_or, refl}
use Rattle.std.specs.Str.{bytes_eq}
use Rattle.std.proofs.Common.{zero, suc, arith, sym, ◌∙◌, ap, length-append, below_more}
use Rattle.std.proofs.lemmas.List.{get_or_append_left, get_or_push}
use Rattle.std.proofs.lemmas.Bool.{false_from_ne_true, false≢true}
use Rattle.std.proofs.lemmas.Slice.Eq.{bytes_eq-Decides}

-- the text of an id; an id that was never given has the empty text
abbrev pub name_at : List (List ℕ) → ℕ → List ℕ
name_at names id = slice_index_or names id []

-- no name stands at two places
abbrev pub AreDistinct : List (List ℕ) → Type 0
AreDistinct names = (i j : ℕ) → i < j → j < length names → name_at names i ≢ name_at names j

-- a place in a list, seen from one element further in front, where that element is what is sought or not
abbrev pub place_behind : Bool → Option ℕ → Option ℕ
place_behind true rest = Some 0
place_behind false None = None
place_behind false (Some k) = Some (suc k)

-- the first place where a name stands
abbrev pub place_of : List ℕ → List (List ℕ) → Option ℕ
place_of name [] = None
place_of name (first ∷ names) = place_behind (bytes_eq first name) (place_of name names)

-- the names after one was looked up, and its id
pub record Interned : Type 0 where
  pub names : List (List ℕ)
  pub id : ℕ

-- the name keeps its place, or comes at the end
abbrev pub interned_at : List (List ℕ) → List ℕ → Option ℕ → Interned
interned_at names name (Some id) = record { names = names; id = id }
interned_at names name None = record { names = names ++ name ∷ []; id = length names }

-- the names after `name` was looked up, and its id
unfoldable pub interned : List (List ℕ) → List ℕ → Interned
interned names name = interned_at names name (place_of name names)

-- a place before which the name doesn't stand is the first one
pub place_of-first : (names : List (List ℕ)) (name : List ℕ) (k : ℕ) → k < length names → name_at names k ≡ name
    → ((j : ℕ) → j < k → name_at names j ≢ name) → place_of name names ≡ Some k
place_of-first [] name k below here first = absurd (omega arith)
place_of-first (n ∷ names) name zero below here first =
    ap (λ b. place_behind b (place_of name names)) ((bytes_eq-Decides n name).1 here)
place_of-first (n ∷ names) name (suc k) below here first =
    let differs : bytes_eq n name ≡ false =
    false_from_ne_true _ (λ t. first zero (omega arith) ((bytes_eq-Decides n name).0 t)) in
    let rest : place_of name names ≡ Some k =
    place_of-first names name k (omega arith) here (λ j h. first (suc j) (omega arith)) in
    ap (λ b. place_behind b (place_of name names)) differs ∙ ap (λ p. place_behind false p) rest

-- a name that stands nowhere has no place
pub place_of-absent : (names : List (List ℕ)) (name : List ℕ)
    → ((j : ℕ) → j < length names → name_at names j ≢ name) → place_of name names ≡ None
place_of-absent [] name nowhere = refl
place_of-absent (n ∷ names) name nowhere =
    let differs : bytes_eq n name ≡ false =
    false_from_ne_true _ (λ t. nowhere zero (omega arith) ((bytes_eq-Decides n name).0 t)) in
    let rest : place_of name names ≡ None =
    place_of-absent names name (λ j h. nowhere (suc j) (omega arith)) in
    ap (λ b. place_behind b (place_of name names)) differs ∙ ap (λ p. place_behind false p) rest

-- what an answer of `place_of` says
abbrev pub IsPlace : List ℕ → List (List ℕ) → Option ℕ → Type 0
IsPlace name names None = (j : ℕ) → j < length names → name_at names j ≢ name
IsPlace name names (Some k) = (k < length names) × (name_at names k ≡ name)

nowhere_behind : (n name : List ℕ) (names : List (List ℕ)) → n ≢ name
    → ((j : ℕ) → j < length names → name_at names j ≢ name)
    → (j : ℕ) → j < length (n ∷ names) → name_at (n ∷ names) j ≢ name
nowhere_behind n name names differs h zero below = differs
nowhere_behind n name names differs h (suc j) below = h j (omega arith)

-- one element further in front
is_place-behind : (n name : List ℕ) (names : List (List ℕ)) (b : Bool) (p : Option ℕ) → bytes_eq n name ≡ b
    → IsPlace name names p → IsPlace name (n ∷ names) (place_behind b p)
is_place-behind n name names true p e h = (omega arith, (bytes_eq-Decides n name).0 e)
is_place-behind n name names false (Some k) e h = (omega (arith, h.0), h.1)
is_place-behind n name names false None e h =
    nowhere_behind n name names (λ same. false≢true (sym e ∙ (bytes_eq-Decides n name).1 same)) h

-- a place of a name is below the length, and the name stands there; without a place it stands nowhere
pub place_of-is : (name : List ℕ) (names : List (List ℕ)) → IsPlace name names (place_of name names)
place_of-is name [] = λ j h. absurd (omega arith)
place_of-is name (n ∷ names) =
    is_place-behind n name names (bytes_eq n name) (place_of name names) refl (place_of-is name names)

-- a new name at the end stands nowhere else
distinct_with_end : (names : List (List ℕ)) (name : List ℕ)
    → ((j : ℕ) → j < length names → name_at names j ≢ name)
    → AreDistinct names → AreDistinct (names ++ name ∷ [])
distinct_with_end names name nowhere distinct i j before below =
    let all : List (List ℕ) = names ++ name ∷ [] in
    let P : ℕ → Type 0 = λ k. (m : ℕ) → m < k → name_at all m ≢ name_at all k in
    let kept : (k : ℕ) → k < length names → name_at all k ≡ name_at names k =
    λ k h. get_or_append_left names (name ∷ []) [] k h in
    let at_end : name_at all (length names) ≡ name = get_or_push names name [] (length names) refl in
    let old : (k : ℕ) → k < length names → P k =
    λ k h m mk e. distinct m k mk h (sym (kept m (omega arith)) ∙ e ∙ kept k h) in
    let new : P (length names) = λ m h e. nowhere m h (sym (kept m h) ∙ e ∙ at_end) in
    below_more P (length names) old new j (omega (arith, length-append names (name ∷ []))) i before

interned_at-text : (names : List (List ℕ)) (name : List ℕ) (p : Option ℕ) → IsPlace name names p
    → name_at (interned_at names name p).names (interned_at names name p).id ≡ name
interned_at-text names name (Some k) h = h.1
interned_at-text names name None h = get_or_push names name [] (length names) refl

interned_at-below : (names : List (List ℕ)) (name : List ℕ) (p : Option ℕ) → IsPlace name names p
    → (interned_at names name p).id < length (interned_at names name p).names
interned_at-below names name (Some k) h = h.0
interned_at-below names name None h = omega (arith, length-append names (name ∷ []))

interned_at-kept : (names : List (List ℕ)) (name : List ℕ) (p : Option ℕ) (id : ℕ) → id < length names
    → name_at (interned_at names name p).names id ≡ name_at names id
interned_at-kept names name (Some k) id below = refl
interned_at-kept names name None id below = get_or_append_left names (name ∷ []) [] id below

interned_at-grows : (names : List (List ℕ)) (name : List ℕ) (p : Option ℕ)
    → length names ≤ length (interned_at names name p).names
interned_at-grows names name (Some k) = omega arith
interned_at-grows names name None = omega (arith, length-append names (name ∷ []))

interned_at-distinct : (names : List (List ℕ)) (name : List ℕ) (p : Option ℕ) → IsPlace name names p
    → AreDistinct names → AreDistinct (interned_at names name p).names
interned_at-distinct names name (Some k) h distinct = distinct
interned_at-distinct names name None h distinct = distinct_with_end names name h distinct

-- the name stands at its id
pub interned-text : (names : List (List ℕ)) (name : List ℕ)
    → name_at (interned names name).names (interned names name).id ≡ name
unfolding interned
interned-text names name = interned_at-text names name (place_of name names) (place_of-is name names)

-- its id is below the length
pub interned-below : (names : List (List ℕ)) (name : List ℕ)
    → (interned names name).id < length (interned names name).names
unfolding interned
interned-below names name = interned_at-below names name (place_of name names) (place_of-is name names)

-- the text of each id stays
pub interned-kept : (names : List (List ℕ)) (name : List ℕ) (id : ℕ) → id < length names
    → name_at (interned names name).names id ≡ name_at names id
unfolding interned
interned-kept names name id below = interned_at-kept names name (place_of name names) id below

-- an id that was given stays one
pub interned-grows : (names : List (List ℕ)) (name : List ℕ) → length names ≤ length (interned names name).names
unfolding interned
interned-grows names name = interned_at-grows names name (place_of name names)

-- no name stands at two places afterwards
pub interned-distinct : (names : List (List ℕ)) (name : List ℕ) → AreDistinct names
    → AreDistinct (interned names name).names
unfolding interned
interned-distinct names name distinct =
    interned_at-distinct names name (place_of name names) (place_of-is name names) distinct

-- where the name stands at an id, that is its id, and nothing changes
pub interned-known : (names : List (List ℕ)) (name : List ℕ) (id : ℕ) → AreDistinct names → id < length names
    → name_at names id ≡ name → interned names name ≡ record { names = names; id = id }
unfolding interned
interned-known names name id distinct below here =
    let before : (j : ℕ) → j < id → name_at names j ≢ name = λ j h e. distinct j id h below (e ∙ sym here) in
    ap (λ p. interned_at names name p) (place_of-first names name id below here before)

-- where it stands nowhere, it comes at the end
pub interned-new : (names : List (List ℕ)) (name : List ℕ)
    → ((j : ℕ) → j < length names → name_at names j ≢ name)
    → interned names name ≡ record { names = names ++ name ∷ []; id = length names }
unfolding interned
interned-new names name nowhere = ap (λ p. interned_at names name p) (place_of-absent names name nowhere)
