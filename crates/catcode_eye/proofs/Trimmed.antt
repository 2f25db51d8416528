-- A line loses its blanks one by one from its end.
use Rattle.std.proofs.Common.{◌≡◌, ℕ, ◌+◌, ◌-◌, ◌<◌, ◌≤◌, Bool, true, false, List, [], ◌∷◌, ◌++◌, length, take, get_or, refl, ap, sym, ◌∙◌, arith}
use Rattle.std.specs.Bool.{OnTrue, OnFalse}
use Rattle.std.proofs.lemmas.List.{take_more}
use Rattle.catcode_eye.specs.Lines.{is_blank, onto_trimmed, trimmed}

-- a blank at the end is lost
pub trimmed-blank : (line : List ℕ) (byte : ℕ) → is_blank byte ≡ true → trimmed (line ++ byte ∷ []) ≡ trimmed line
trimmed-blank [] byte blank = rw blank refl
trimmed-blank (first ∷ line) byte blank = ap (onto_trimmed first) (trimmed-blank line byte blank)

-- any other byte at the end stays, and all in front of it
pub trimmed-kept : (line : List ℕ) (byte : ℕ) → is_blank byte ≡ false → trimmed (line ++ byte ∷ []) ≡ line ++ byte ∷ []
trimmed-kept [] byte kept = rw kept refl
trimmed-kept (first ∷ []) byte kept = ap (onto_trimmed first) (trimmed-kept [] byte kept)
trimmed-kept (first ∷ second ∷ line) byte kept = ap (onto_trimmed first) (trimmed-kept (second ∷ line) byte kept)

-- the first bytes of a line, with the last of them apart
take-last : (line : List ℕ) (count : ℕ) → 0 < count → count ≤ length line
    → take count line ≡ take (count - 1) line ++ get_or line (count - 1) 0 ∷ []
take-last line count some within =
    let one_more : count ≡ count - 1 + 1 = omega arith in
    ap (λ n. take n line) one_more ∙ take_more line (count - 1) 0 (omega arith)

pub take-blank : (line : List ℕ) (count : ℕ) → 0 < count → count ≤ length line
    → is_blank (get_or line (count - 1) 0) ≡ true
    → trimmed (take count line) ≡ trimmed (take (count - 1) line)
take-blank line count some within blank =
    ap trimmed (take-last line count some within) ∙ trimmed-blank (take (count - 1) line) _ blank

pub take-kept : (line : List ℕ) (count : ℕ) → 0 < count → count ≤ length line
    → is_blank (get_or line (count - 1) 0) ≡ false
    → trimmed (take count line) ≡ take count line
take-kept line count some within kept =
    ap trimmed (take-last line count some within) ∙ trimmed-kept (take (count - 1) line) _ kept ∙ sym (take-last line count some within)

-- the two by the answer of the test
pub OnTrue-blank : (line : List ℕ) (count : ℕ) → 0 < count → count ≤ length line
    → (b : Bool) → b ≡ is_blank (get_or line (count - 1) 0)
    → OnTrue b (trimmed (take count line) ≡ trimmed (take (count - 1) line))
OnTrue-blank line count some within true e = take-blank line count some within (sym e)
OnTrue-blank line count some within false e = tt

pub OnFalse-kept : (line : List ℕ) (count : ℕ) → 0 < count → count ≤ length line
    → (b : Bool) → b ≡ is_blank (get_or line (count - 1) 0)
    → OnFalse b (trimmed (take count line) ≡ take count line)
OnFalse-kept line count some within true e = tt
OnFalse-kept line count some within false e = take-kept line count some within (sym e)
