-- A row of letters, one letter after another.
use Rattle.std.proofs.Common.{◌≡◌, ℕ, List, [], ◌∷◌, ◌++◌, ap, sym, ◌∙◌, append_assoc, append-nil}
use Rattle.std.proofs.lemmas.Bool.{ne_eqb, eq-eqb}
use Rattle.tokens.specs.Categories.{category}
use Rattle.catcode_eye.specs.Superscripts.{reduced}
use Rattle.catcode_eye.specs.Seen.{Letters, letters, letters-none, letters-more, letters-last}

-- at the line's end the row is whole
pub bytes-none : (cats rest items whole : List ℕ) → rest ≡ [] → items ++ (letters cats rest).bytes ≡ whole → items ≡ whole
bytes-none cats rest items whole none e =
    let empty : (letters cats rest).bytes ≡ [] = ap (λ r. (letters cats r).bytes) none ∙ ap (λ (l : Letters). l.bytes) (letters-none cats) in
    sym (append-nil items) ∙ ap (λ b. items ++ b) (sym empty) ∙ e

pub rest-none : (cats rest whole : List ℕ) → rest ≡ [] → (letters cats rest).rest ≡ whole → rest ≡ whole
rest-none cats rest whole none e =
    none ∙ sym (ap (λ r. (letters cats r).rest) none ∙ ap (λ (l : Letters). l.rest) (letters-none cats)) ∙ e

-- a head that is no letter ends the row
pub bytes-last : (cats rest items whole : List ℕ) (byte : ℕ) (tail : List ℕ) → reduced cats rest ≡ byte ∷ tail
    → (category cats byte ≡ 11 → ⊥) → items ++ (letters cats rest).bytes ≡ whole → items ≡ whole
bytes-last cats rest items whole byte tail head other e =
    let empty : (letters cats rest).bytes ≡ [] = ap (λ (l : Letters). l.bytes) (letters-last cats rest byte tail head (ne_eqb _ _ other)) in
    sym (append-nil items) ∙ ap (λ b. items ++ b) (sym empty) ∙ e

pub rest-last : (cats rest whole : List ℕ) (byte : ℕ) (tail : List ℕ) → reduced cats rest ≡ byte ∷ tail
    → (category cats byte ≡ 11 → ⊥) → (letters cats rest).rest ≡ whole → byte ∷ tail ≡ whole
rest-last cats rest whole byte tail head other e =
    sym (ap (λ (l : Letters). l.rest) (letters-last cats rest byte tail head (ne_eqb _ _ other))) ∙ e

-- a letter more
pub bytes-more : (cats rest items more whole : List ℕ) (byte : ℕ) (tail : List ℕ) → reduced cats rest ≡ byte ∷ tail
    → category cats byte ≡ 11 → more ≡ items ++ byte ∷ [] → items ++ (letters cats rest).bytes ≡ whole
    → more ++ (letters cats tail).bytes ≡ whole
bytes-more cats rest items more whole byte tail head letter pushed e =
    let bytes = (letters cats tail).bytes in
    ap (λ m. m ++ bytes) pushed
    ∙ append_assoc items (byte ∷ []) bytes
    ∙ ap (λ (l : Letters). items ++ l.bytes) (sym (letters-more cats rest byte tail head (eq-eqb _ _ letter)))
    ∙ e

pub rest-more : (cats rest whole : List ℕ) (byte : ℕ) (tail : List ℕ) → reduced cats rest ≡ byte ∷ tail
    → category cats byte ≡ 11 → (letters cats rest).rest ≡ whole → (letters cats tail).rest ≡ whole
rest-more cats rest whole byte tail head letter e =
    sym (ap (λ (l : Letters). l.rest) (letters-more cats rest byte tail head (eq-eqb _ _ letter))) ∙ e
