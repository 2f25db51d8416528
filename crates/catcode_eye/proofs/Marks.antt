-- The first line of some bytes ends at their first mark.
use Rattle.std.proofs.Common.{◌≡◌, ℕ, ◌+◌, ◌<◌, ◌≤◌, Bool, true, false, Option, List, [], ◌∷◌, length, take, drop, get_or, refl, ap, sym, ◌∙◌, arith, suc}
use Rattle.std.specs.List.{position_or_len, before_first, after_first}
use Rattle.std.proofs.lemmas.List.Sums.{position_or_len_is}
use Rattle.catcode_eye.specs.Lines.{is_mark, onto_first, lines}

-- the index of the first mark, or the end
pub first_mark : (mark : Option ℕ) (rest : List ℕ) (i : ℕ) → i ≤ length rest
    → ((k : ℕ) → k < i → is_mark mark (get_or rest k 0) ≡ false)
    → (i < length rest → is_mark mark (get_or rest i 0) ≡ true)
    → i ≡ position_or_len (is_mark mark) rest
first_mark mark rest i within before there =
    sym (position_or_len_is {X = ℕ} (is_mark mark) rest i 0 within before there)

pub no_mark : (mark : Option ℕ) (rest : List ℕ) (i : ℕ) → i ≤ length rest → length rest ≤ i
    → ((k : ℕ) → k < i → is_mark mark (get_or rest k 0) ≡ false)
    → length rest ≡ position_or_len (is_mark mark) rest
no_mark mark rest i within past before =
    first_mark mark rest (length rest) (omega arith) (λ k less. before k (omega arith)) (λ less. absurd (omega arith))

-- what the lines of some bytes are by their first line, where it is known
abbrev IsCut : Option ℕ → List ℕ → Type 0
IsCut mark [] = Unit {0}
IsCut mark (byte ∷ bytes) =
    lines mark (byte ∷ bytes)
    ≡ before_first (is_mark mark) (byte ∷ bytes) ∷ lines mark (after_first (is_mark mark) (byte ∷ bytes))

-- a first line that grew by one byte in front
grown : (mark : Option ℕ) (first : ℕ) (rest : List ℕ) (at : ℕ)
    → onto_first first (take at rest ∷ lines mark (drop (at + 1) rest))
    ≡ take (1 + at) (first ∷ rest) ∷ lines mark (drop (1 + at + 1) (first ∷ rest))
grown mark first rest at =
    let kept : suc at ≡ 1 + at = omega arith in
    let passed : suc (at + 1) ≡ 1 + at + 1 = omega arith in
    ap (λ n. take n (first ∷ rest) ∷ lines mark (drop (suc (at + 1)) (first ∷ rest))) kept
    ∙ ap (λ n. take (1 + at) (first ∷ rest) ∷ lines mark (drop n (first ∷ rest))) passed

cut_first : (mark : Option ℕ) (first : ℕ) (rest : List ℕ) → IsCut mark rest
    → (b : Bool) → is_mark mark first ≡ b → IsCut mark (first ∷ rest)
cut_first mark first rest cut true e = rw e refl
cut_first mark first [] cut false e = rw e refl
cut_first mark first (second ∷ rest) cut false e = rw e (ap (onto_first first) cut ∙ grown mark first (second ∷ rest) _)

cut : (mark : Option ℕ) (bytes : List ℕ) → IsCut mark bytes
cut mark [] = tt
cut mark (byte ∷ bytes) = cut_first mark byte bytes (cut mark bytes) _ refl

-- the lines of some bytes are the first line and the lines behind it
pub lines-first : (mark : Option ℕ) (bytes : List ℕ) → 0 < length bytes
    → lines mark bytes ≡ before_first (is_mark mark) bytes ∷ lines mark (after_first (is_mark mark) bytes)
lines-first mark [] some = absurd (omega arith)
lines-first mark (byte ∷ bytes) some = cut mark (byte ∷ bytes)
