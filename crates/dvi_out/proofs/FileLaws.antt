-- Bytes that are written one after the other.
use Rattle.std.proofs.Common.{◌≡◌, ℕ, suc, ◌+◌, ◌-◌, ◌<◌, ◌≤◌, List, [], ◌∷◌, ◌++◌, length, take, get_or, refl, sym, ap, ◌∙◌, arith, append_assoc, add-one, zero}
use Rattle.std.proofs.lemmas.List.{append-nil, take_more, flat_map_more}
use Rattle.std.specs.List.{find, fold, flat_map}
use Rattle.std.proofs.lemmas.List.Sums.{fold_more}
use Rattle.dvi_out.specs.declared.font.FontDef.{FontDef}
use Rattle.dvi_out.specs.SpellingPage.{is_font}
use Rattle.dvi_out.specs.SpellingFile.{definitions_below, definition_if, filling}

filling-more : (n : ℕ) → filling n ++ 223 ∷ [] ≡ 223 ∷ filling n
filling-more zero = refl
filling-more (suc n) = ap (λ (l : List ℕ). 223 ∷ l) (filling-more n)

-- one byte 223 more
pub filled_next : (out : List ℕ) (n : ℕ) → (out ++ filling n) ++ 223 ∷ [] ≡ out ++ filling (n + 1)
filled_next out n =
    append_assoc out (filling n) (223 ∷ []) ∙ ap (λ (l : List ℕ). out ++ l) (filling-more n ∙ ap filling (sym (add-one n)))

-- the definition of the font with the highest number that is left
pub defined_next : (out all : List ℕ) (k : ℕ) (fonts : List FontDef) → k < 256 →
    out ++ definitions_below (256 - k) fonts ≡ all →
    (out ++ definition_if (find (is_font (255 - k)) fonts)) ++ definitions_below (256 - (k + 1)) fonts ≡ all
unfolding definitions_below
defined_next out all k fonts within is =
    let here : 256 - k ≡ suc (255 - k) = omega arith in
    let rest : 256 - (k + 1) ≡ 255 - k = omega arith in
    append_assoc out (definition_if (find (is_font (255 - k)) fonts)) (definitions_below (256 - (k + 1)) fonts)
    ∙ ap (λ (n : ℕ). out ++ (definition_if (find (is_font (255 - k)) fonts) ++ definitions_below n fonts)) rest
    ∙ sym (ap (λ (n : ℕ). out ++ definitions_below n fonts) here) ∙ is

pub defined_none : (out all : List ℕ) (k : ℕ) (fonts : List FontDef) → 256 ≤ k →
    out ++ definitions_below (256 - k) fonts ≡ all → out ≡ all
unfolding definitions_below
defined_none out all k fonts past is =
    let none : 256 - k ≡ 0 = omega arith in
    sym (append-nil out) ∙ sym (ap (λ (n : ℕ). out ++ definitions_below n fonts) none) ∙ is

-- a fold that goes on with one item more
pub fold_next : {X Y : Type 0} (f : Y → X → Y) (a : Y) (xs : List X) (i : ℕ) (x : X) → i < length xs → x ≡ get_or xs i x →
    fold f a (take (i + 1) xs) ≡ f (fold f a (take i xs)) x
fold_next f a xs i x within is = fold_more f a xs i x within ∙ ap (f (fold f a (take i xs))) (sym is)

-- bytes of one item more
pub flat_map_next : {X Y : Type 0} (f : X → List Y) (out : List Y) (xs : List X) (i : ℕ) (x : X) → i < length xs →
    x ≡ get_or xs i x → out ++ flat_map f (take (i + 1) xs) ≡ (out ++ flat_map f (take i xs)) ++ f x
flat_map_next f out xs i x within is =
    ap (λ l. out ++ flat_map f l) (take_more xs i x within ∙ ap (λ y. take i xs ++ y ∷ []) (sym is))
    ∙ sym (flat_map_more f out (take i xs) x)

pub joined : (out next all : List ℕ) (k : ℕ) (fonts : List FontDef) → k < 256 →
    next ≡ out ++ definition_if (find (is_font (255 - k)) fonts) → out ++ definitions_below (256 - k) fonts ≡ all →
    next ++ definitions_below (256 - (k + 1)) fonts ≡ all
joined out next all k fonts within more is =
    ap (λ (l : List ℕ). l ++ definitions_below (256 - (k + 1)) fonts) more ∙ defined_next out all k fonts within is

pub filled_by : (out now next : List ℕ) (n : ℕ) → now ≡ out ++ filling n → next ≡ now ++ 223 ∷ [] →
    next ≡ out ++ filling (n + 1)
filled_by out now next n before more = more ∙ ap (λ (l : List ℕ). l ++ 223 ∷ []) before ∙ filled_next out n
