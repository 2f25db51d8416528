-- Meanings of names and active characters (The TeXbook, chapters 7 and 24): when two are equal, as a test
-- that definitions can branch on. Macros are equal where all tokens and flags are.
use Rattle.std.specs.Prelude.{◌≡◌, Bool, true, false, ◌&&◌, ◌==◌, ◌↔◌, List, IsTrue, refl}
use Rattle.std.proofs.Common.{ap, subst, ◌∙◌}
use Rattle.std.proofs.lemmas.Bool.{and_from, and_parts, eq-eqb, eqb-true}
use Rattle.tokens.specs.declared.token.Token.{Token}
use Rattle.tokens.specs.declared.meaning.RegKind.{RegKind}
use Rattle.tokens.specs.declared.meaning.RegKind.TheVariants.{Count, Dimen, Skip, Muskip, Box, Toks}
use Rattle.tokens.specs.declared.meaning.Macro.{Macro}
use Rattle.tokens.specs.declared.meaning.Meaning.{Meaning}
use Rattle.tokens.specs.declared.meaning.Meaning.TheVariants as variants
use Rattle.tokens.specs.TokenList.{same_tokens, same_tokens-equal, same_tokens-refl}

-- whether two flags are equal
abbrev pub same_flag : Bool → Bool → Bool
same_flag true true = true
same_flag false false = true
same_flag _ _ = false

-- whether two kinds of registers are equal
abbrev pub same_reg_kind : RegKind → RegKind → Bool
same_reg_kind Count Count = true
same_reg_kind Dimen Dimen = true
same_reg_kind Skip Skip = true
same_reg_kind Muskip Muskip = true
same_reg_kind Box Box = true
same_reg_kind Toks Toks = true
same_reg_kind _ _ = false

-- whether two macros have the same flags and the same texts
abbrev pub same_macro : Macro → Macro → Bool
same_macro m n =
    same_flag m.long n.long && (same_flag m.outer n.outer && (same_flag m.guarded n.guarded
    && (same_tokens m.params n.params && same_tokens m.body n.body)))

-- whether two meanings are of one sort and have the same parts
abbrev pub same_meaning : Meaning → Meaning → Bool
same_meaning variants.Undefined variants.Undefined = true
same_meaning (variants.Primitive code) (variants.Primitive c) = code == c
same_meaning (variants.Macro m) (variants.Macro n) = same_macro m n
same_meaning (variants.Char cat byte) (variants.Char c b) = (cat == c) && (byte == b)
same_meaning (variants.CharDef byte) (variants.CharDef b) = byte == b
same_meaning (variants.MathCharDef code) (variants.MathCharDef c) = code == c
same_meaning (variants.Register kind number) (variants.Register k n) = same_reg_kind kind k && (number == n)
same_meaning (variants.Font font) (variants.Font f) = font == f
same_meaning _ _ = false

-- flags that the test calls the same are equal
same_flag-equal : (a b : Bool) → same_flag a b ≡ true → a ≡ b
same_flag-equal true true h = refl
same_flag-equal false false h = refl
same_flag-equal _ _ h = cc

same_flag-refl : (a : Bool) → same_flag a a ≡ true
same_flag-refl true = refl
same_flag-refl false = refl

-- kinds that the test calls the same are equal
pub same_reg_kind-equal : (a b : RegKind) → same_reg_kind a b ≡ true → a ≡ b
same_reg_kind-equal Count Count h = refl
same_reg_kind-equal Dimen Dimen h = refl
same_reg_kind-equal Skip Skip h = refl
same_reg_kind-equal Muskip Muskip h = refl
same_reg_kind-equal Box Box h = refl
same_reg_kind-equal Toks Toks h = refl
same_reg_kind-equal _ _ h = cc

pub same_reg_kind-refl : (a : RegKind) → same_reg_kind a a ≡ true
same_reg_kind-refl Count = refl
same_reg_kind-refl Dimen = refl
same_reg_kind-refl Skip = refl
same_reg_kind-refl Muskip = refl
same_reg_kind-refl Box = refl
same_reg_kind-refl Toks = refl

abbrev macro_of : Bool → Bool → Bool → List Token → List Token → Macro
macro_of long outer guarded params body =
    record { long = long; outer = outer; guarded = guarded; params = params; body = body }

-- macros with equal parts are equal
macro_along : (m n : Macro) → m.long ≡ n.long → m.outer ≡ n.outer → m.guarded ≡ n.guarded → m.params ≡ n.params → m.body ≡ n.body → m ≡ n
macro_along m n long outer guarded params body =
    ap (λ x. macro_of x m.outer m.guarded m.params m.body) long
    ∙ ap (λ x. macro_of n.long x m.guarded m.params m.body) outer
    ∙ ap (λ x. macro_of n.long n.outer x m.params m.body) guarded
    ∙ ap (λ x. macro_of n.long n.outer n.guarded x m.body) params
    ∙ ap (λ x. macro_of n.long n.outer n.guarded n.params x) body

-- macros that the test calls the same are equal
pub same_macro-equal : (m n : Macro) → same_macro m n ≡ true → m ≡ n
same_macro-equal m n h =
    let p = and_parts (same_flag m.long n.long) _ h in
    let q = and_parts (same_flag m.outer n.outer) _ p.1 in
    let r = and_parts (same_flag m.guarded n.guarded) _ q.1 in
    let t = and_parts (same_tokens m.params n.params) _ r.1 in
    macro_along m n (same_flag-equal m.long n.long p.0) (same_flag-equal m.outer n.outer q.0)
    (same_flag-equal m.guarded n.guarded r.0) (same_tokens-equal m.params n.params t.0) (same_tokens-equal m.body n.body t.1)

pub same_macro-refl : (m : Macro) → same_macro m m ≡ true
same_macro-refl m =
    and_from _ _ (same_flag-refl m.long) (and_from _ _ (same_flag-refl m.outer) (and_from _ _ (same_flag-refl m.guarded)
    (and_from _ _ (same_tokens-refl m.params) (same_tokens-refl m.body))))

-- meanings that the test calls the same are equal
pub same_meaning-equal : (a b : Meaning) → same_meaning a b ≡ true → a ≡ b
same_meaning-equal variants.Undefined variants.Undefined h = refl
same_meaning-equal (variants.Primitive code) (variants.Primitive c) h = ap variants.Primitive (eqb-true code c h)
same_meaning-equal (variants.Macro m) (variants.Macro n) h = ap variants.Macro (same_macro-equal m n h)
same_meaning-equal (variants.Char cat byte) (variants.Char c b) h =
    let p = and_parts (cat == c) (byte == b) h in
    let first : cat ≡ c = eqb-true cat c p.0 in
    let second : byte ≡ b = eqb-true byte b p.1 in
    cc
same_meaning-equal (variants.CharDef byte) (variants.CharDef b) h = ap variants.CharDef (eqb-true byte b h)
same_meaning-equal (variants.MathCharDef code) (variants.MathCharDef c) h = ap variants.MathCharDef (eqb-true code c h)
same_meaning-equal (variants.Register kind number) (variants.Register k n) h =
    let p = and_parts (same_reg_kind kind k) (number == n) h in
    let first : kind ≡ k = same_reg_kind-equal kind k p.0 in
    let second : number ≡ n = eqb-true number n p.1 in
    cc
same_meaning-equal (variants.Font font) (variants.Font f) h = ap variants.Font (eqb-true font f h)
same_meaning-equal _ _ h = cc

pub same_meaning-refl : (a : Meaning) → same_meaning a a ≡ true
same_meaning-refl variants.Undefined = refl
same_meaning-refl (variants.Primitive code) = eq-eqb code code refl
same_meaning-refl (variants.Macro m) = same_macro-refl m
same_meaning-refl (variants.Char cat byte) = and_from _ _ (eq-eqb cat cat refl) (eq-eqb byte byte refl)
same_meaning-refl (variants.CharDef byte) = eq-eqb byte byte refl
same_meaning-refl (variants.MathCharDef code) = eq-eqb code code refl
same_meaning-refl (variants.Register kind number) = and_from _ _ (same_reg_kind-refl kind) (eq-eqb number number refl)
same_meaning-refl (variants.Font font) = eq-eqb font font refl

-- the test says whether two meanings are equal
pub same_meaning-decides : (a b : Meaning) → IsTrue (same_meaning a b) ↔ (a ≡ b)
same_meaning-decides a b = (
  same_meaning-equal a b,
  λ e. let P : Meaning → Type 0 = λ c. same_meaning a c ≡ true in subst P e (same_meaning-refl a),
)
