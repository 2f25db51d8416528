-- Tokens (The TeXbook, chapter 7): when two are equal, as a test that definitions can branch on.
use Rattle.std.specs.Prelude.{◌≡◌, Bool, true, false, ◌&&◌, ◌==◌, ◌↔◌, IsTrue, refl}
use Rattle.std.proofs.Common.{ap, subst}
use Rattle.std.proofs.lemmas.Bool.{and_from, and_parts, eq-eqb, eqb-true}
use Rattle.tokens.specs.declared.token.Token.{Token}
use Rattle.tokens.specs.declared.token.Token.TheVariants.{Char, Active, Name, Arg, Frozen}

-- whether two tokens are of one sort and have the same parts
abbrev pub same_token : Token → Token → Bool
same_token (Char cat byte) (Char c b) = (cat == c) && (byte == b)
same_token (Active byte) (Active b) = byte == b
same_token (Name id) (Name i) = id.0 == i.0
same_token (Arg number) (Arg n) = number == n
same_token (Frozen number) (Frozen n) = number == n
same_token _ _ = false

-- tokens that the test calls the same are equal
pub same_token-equal : (x y : Token) → same_token x y ≡ true → x ≡ y
same_token-equal (Char cat byte) (Char c b) h =
    let p = and_parts (cat == c) (byte == b) h in
    let first : cat ≡ c = eqb-true cat c p.0 in
    let second : byte ≡ b = eqb-true byte b p.1 in
    cc
same_token-equal (Active byte) (Active b) h = ap Active (eqb-true byte b h)
same_token-equal (Name id) (Name i) h = ap (λ n. Name (record { 0 = n })) (eqb-true id.0 i.0 h)
same_token-equal (Arg number) (Arg n) h = ap Arg (eqb-true number n h)
same_token-equal (Frozen number) (Frozen n) h = ap Frozen (eqb-true number n h)
same_token-equal _ _ h = cc

-- a token is the same as itself
pub same_token-refl : (x : Token) → same_token x x ≡ true
same_token-refl (Char cat byte) = and_from _ _ (eq-eqb cat cat refl) (eq-eqb byte byte refl)
same_token-refl (Active byte) = eq-eqb byte byte refl
same_token-refl (Name id) = eq-eqb id.0 id.0 refl
same_token-refl (Arg number) = eq-eqb number number refl
same_token-refl (Frozen number) = eq-eqb number number refl

-- the test says whether two tokens are equal
pub same_token-decides : (x y : Token) → IsTrue (same_token x y) ↔ (x ≡ y)
same_token-decides x y = (
  same_token-equal x y,
  λ e. let P : Token → Type 0 = λ z. same_token x z ≡ true in subst P e (same_token-refl x),
)
