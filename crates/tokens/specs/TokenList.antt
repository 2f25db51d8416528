-- Token lists (The TeXbook, chapter 20): when two lists are equal, and how long a list may be.
use Rattle.std.specs.Prelude.{◌≡◌, Bool, true, false, ◌&&◌, ◌↔◌, List, [], ◌∷◌, length, nat_lt, Result, Ok, Err, IsTrue, if◌then◌else◌, refl}
use Rattle.std.proofs.Common.{subst}
use Rattle.std.proofs.lemmas.Bool.{and_from, and_parts}
use Rattle.tokens.specs.declared.token.Token.{Token}
use Rattle.tokens.specs.declared.cap.Cap.TheVariants.{Items}
use Rattle.tokens.specs.declared.stop.Stop.{Stop}
use Rattle.tokens.specs.declared.stop.Stop.TheVariants.{Capacity}
use Rattle.tokens.specs.Cap.{cap_limit}
use Rattle.tokens.specs.Token.{same_token, same_token-equal, same_token-refl}

-- whether two lists have the same tokens in the same order
abbrev pub same_tokens : List Token → List Token → Bool
same_tokens [] [] = true
same_tokens (x ∷ xs) (y ∷ ys) = same_token x y && same_tokens xs ys
same_tokens _ _ = false

-- the list of these tokens, or the end of the run where they are too many
abbrev pub list_of : List Token → Result (List Token) Stop
list_of tokens = if nat_lt (cap_limit Items) (length tokens) then Err (Capacity Items) else Ok tokens

-- lists that the test calls the same are equal
pub same_tokens-equal : (xs ys : List Token) → same_tokens xs ys ≡ true → xs ≡ ys
same_tokens-equal [] [] h = refl
same_tokens-equal (x ∷ xs) (y ∷ ys) h =
    let p = and_parts (same_token x y) (same_tokens xs ys) h in
    let head : x ≡ y = same_token-equal x y p.0 in
    let tail : xs ≡ ys = same_tokens-equal xs ys p.1 in
    cc
same_tokens-equal [] (y ∷ ys) h = cc
same_tokens-equal (x ∷ xs) [] h = cc

-- a list is the same as itself
pub same_tokens-refl : (xs : List Token) → same_tokens xs xs ≡ true
same_tokens-refl [] = refl
same_tokens-refl (x ∷ xs) = and_from _ _ (same_token-refl x) (same_tokens-refl xs)

-- the test says whether two lists are equal
pub same_tokens-decides : (xs ys : List Token) → IsTrue (same_tokens xs ys) ↔ (xs ≡ ys)
same_tokens-decides xs ys = (
  same_tokens-equal xs ys,
  λ e. let P : List Token → Type 0 = λ zs. same_tokens xs zs ≡ true in subst P e (same_tokens-refl xs),
)
