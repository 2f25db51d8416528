-- The delimiter that stands at a place of a parameter text.
use Rattle.std.specs.Prelude.{◌≡◌, ℕ, ◌+◌, ◌-◌, ◌<◌, ◌≤◌, ◌⊎◌, List, [], ◌∷◌, length, refl}
use Rattle.std.proofs.Common.{arith, sym, ap, ◌∙◌, take, drop, length-drop, inl, inr}
use Rattle.std.proofs.lemmas.List.{drop-drop}
use Rattle.tokens.specs.declared.token.Token.{Token}
use Rattle.tokens.specs.declared.token.Token.TheVariants.{Char, Active, Name, Arg, Frozen}
use Rattle.macro_args.specs.ParameterText.{Parts, parts_of}

-- what stands in front of the first parameter is a beginning of the text
pub front_taken : (text : List Token) → take (length (parts_of text).front) text ≡ (parts_of text).front
front_taken [] = refl
front_taken (Char cat byte ∷ text) = ap (λ t. Char cat byte ∷ t) (front_taken text)
front_taken (Active byte ∷ text) = ap (λ t. Active byte ∷ t) (front_taken text)
front_taken (Name id ∷ text) = ap (λ t. Name id ∷ t) (front_taken text)
front_taken (Arg number ∷ text) = refl
front_taken (Frozen number ∷ text) = ap (λ t. Frozen number ∷ t) (front_taken text)

pub front_fits : (text : List Token) → length (parts_of text).front ≤ length text
front_fits [] = omega arith
front_fits (Char cat byte ∷ text) = omega (arith, front_fits text)
front_fits (Active byte ∷ text) = omega (arith, front_fits text)
front_fits (Name id ∷ text) = omega (arith, front_fits text)
front_fits (Arg number ∷ text) = omega arith
front_fits (Frozen number ∷ text) = omega (arith, front_fits text)

-- behind it come the parameters with their delimiters
abbrev pub behind : Parts → Parts
behind parts = record { front = []; delimiters = parts.delimiters }

pub front_dropped : (text : List Token) → parts_of (drop (length (parts_of text).front) text) ≡ behind (parts_of text)
front_dropped [] = refl
front_dropped (Char cat byte ∷ text) = front_dropped text
front_dropped (Active byte ∷ text) = front_dropped text
front_dropped (Name id ∷ text) = front_dropped text
front_dropped (Arg number ∷ text) = refl
front_dropped (Frozen number ∷ text) = front_dropped text

none_in : (tokens : List Token) → length tokens ≡ 0 → [] ≡ tokens
none_in [] e = refl
none_in (token ∷ tokens) e = absurd (omega arith)

pub delimiter_there : (text : List Token) (begin end : ℕ) → end ≡ begin + length (parts_of (drop begin text)).front
    → take (end - begin) (drop begin text) ≡ (parts_of (drop begin text)).front
delimiter_there text begin end placed =
    let e : end - begin ≡ length (parts_of (drop begin text)).front = omega arith in
    ap (λ n. take n (drop begin text)) e ∙ front_taken (drop begin text)

-- a place past the end of the text has none
pub delimiter_past : (text : List Token) (begin end : ℕ) → end ≡ begin + length (parts_of (drop begin text)).front
    → (begin ≤ end × length text < end) ⊎ (end < begin) → [] ≡ (parts_of (drop begin text)).front
delimiter_past text begin end placed (inl past) =
    none_in (parts_of (drop begin text)).front
    (omega (arith, front_fits (drop begin text), length-drop begin text, past.1))
delimiter_past text begin end placed (inr past) = absurd (omega arith)

-- the parameter text goes on behind the delimiter
pub behind_delimiter : (text : List Token) (begin end : ℕ) → end ≡ begin + length (parts_of (drop begin text)).front
    → parts_of (drop end text) ≡ behind (parts_of (drop begin text))
behind_delimiter text begin end placed =
    ap (λ n. parts_of (drop n text)) placed
    ∙ ap parts_of (sym (drop-drop (length (parts_of (drop begin text)).front) begin text)) ∙ front_dropped (drop begin text)
