-- Doubled superscripts, by which any byte can be written with bytes that every keyboard has
-- (The TeXbook, chapters 7 and 8; tex.web 352 and 355).
use Rattle.std.specs.Prelude.{◌≡◌, ℕ, ◌+◌, ◌-◌, ◌*◌, ◌<◌, ◌≤◌, Bool, true, false, ◌==◌, ◌&&◌, nat_lt, nat_le, if◌then◌else◌, Option, Some, None, List, [], ◌∷◌, length, refl}
use Rattle.std.proofs.Common.{zero, suc, arith, subst, ap, ◌∙◌}
use Rattle.tokens.specs.Categories.{category}
use Rattle.catcode_eye.specs.Shorter.{on_shorter, on_shorter-step, IsShortening}

-- the value of a hexadecimal digit, 0 to 9 or a to f in lower case
abbrev pub digit_value : ℕ → Option ℕ
digit_value byte =
    if nat_le 48 byte && nat_le byte 57 then Some (byte - 48)
    else if nat_le 97 byte && nat_le byte 102 then Some (byte - 87)
    else None

-- the byte of two digits' values
abbrev pub two_digits : Option ℕ → Option ℕ → Option ℕ
two_digits (Some high) (Some low) = Some (16 * high + low)
two_digits (Some high) None = None
two_digits None low = None

-- the byte 64 away from a byte below 128
abbrev pub shifted : ℕ → Option ℕ
shifted byte =
    if nat_lt byte 64 then Some (byte + 64)
    else if nat_lt byte 128 then Some (byte - 64)
    else None

-- a byte, if there is one, in front of what follows it
abbrev pub onto : Option ℕ → List ℕ → Option (List ℕ)
onto None rest = None
onto (Some byte) rest = Some (byte ∷ rest)

-- the first of two that is there
abbrev pub or_else : Option (List ℕ) → Option (List ℕ) → Option (List ℕ)
or_else None second = second
or_else (Some first) second = Some first

-- what stands for two marks and what follows them: the byte that two digits name, else the byte 64 away
-- from one below 128, in front of what is behind it; nothing where neither follows
abbrev pub unmarked : List ℕ → Option (List ℕ)
unmarked [] = None
unmarked (x ∷ []) = onto (shifted x) []
unmarked (x ∷ y ∷ rest) =
    or_else (onto (two_digits (digit_value x) (digit_value y)) rest) (onto (shifted x) (y ∷ rest))

-- what stands for a rest that begins with a byte twice, if that is a superscript's category
abbrev pub unmarked_if : Bool → List ℕ → Option (List ℕ)
unmarked_if true rest = unmarked rest
unmarked_if false rest = None

-- the rest of a line with the doubled superscript in front of it replaced by its byte; nothing where
-- none stands there
abbrev pub replaced : List ℕ → List ℕ → Option (List ℕ)
replaced cats [] = None
replaced cats (c ∷ []) = None
replaced cats (c ∷ d ∷ rest) = unmarked_if (category cats c == 7 && c == d) rest

-- go on with what was replaced, or stay where nothing was
abbrev pub replaced_or : List ℕ → (List ℕ → List ℕ) → Option (List ℕ) → List ℕ
replaced_or rest further None = rest
replaced_or rest further (Some shorter) = further shorter

abbrev pub reduced_step : List ℕ → (List ℕ → List ℕ) → List ℕ → List ℕ
reduced_step cats further rest = replaced_or rest further (replaced cats rest)

-- the rest of a line once each doubled superscript in front of it has been replaced by its byte, as
-- often as one stands there. Its first byte is the head of the line.
unfoldable pub reduced : List ℕ → List ℕ → List ℕ
reduced cats = on_shorter (reduced_step cats) []

-- what stands for a form, if there is one, has fewer than n bytes
abbrev pub IsShort : ℕ → Option (List ℕ) → Type 0
IsShort n None = Unit {0}
IsShort n (Some rest) = length rest < n

onto-short : (byte : Option ℕ) (rest : List ℕ) (n : ℕ) → length rest + 1 < n → IsShort n (onto byte rest)
onto-short None rest n h = tt
onto-short (Some byte) rest n h = omega arith

or_else-short : (first second : Option (List ℕ)) (n : ℕ)
    → IsShort n first → IsShort n second → IsShort n (or_else first second)
or_else-short None second n h k = k
or_else-short (Some first) second n h k = h

unmarked-short : (rest : List ℕ) → IsShort (length rest + 2) (unmarked rest)
unmarked-short [] = tt
unmarked-short (x ∷ []) = onto-short (shifted x) [] _ (omega arith)
unmarked-short (x ∷ y ∷ rest) =
    or_else-short _ _ _
    (onto-short (two_digits (digit_value x) (digit_value y)) rest _ (omega arith))
    (onto-short (shifted x) (y ∷ rest) _ (omega arith))

unmarked_if-short : (b : Bool) (rest : List ℕ) → IsShort (length rest + 2) (unmarked_if b rest)
unmarked_if-short true rest = unmarked-short rest
unmarked_if-short false rest = tt

-- a form is longer than what stands for it
pub replaced-short : (cats rest : List ℕ) → IsShort (length rest) (replaced cats rest)
replaced-short cats [] = tt
replaced-short cats (c ∷ []) = tt
replaced-short cats (c ∷ d ∷ rest) =
    let P : ℕ → Type 0 = λ n. IsShort n (replaced cats (c ∷ d ∷ rest)) in
    subst P (omega arith) (unmarked_if-short (category cats c == 7 && c == d) rest)

reduced_step-shortening : (cats : List ℕ) → IsShortening (reduced_step cats)
reduced_step-shortening cats f g rest same = at_form (replaced cats rest) (replaced-short cats rest)
  where
    at_form : (form : Option (List ℕ)) → IsShort (length rest) form → replaced_or rest f form ≡ replaced_or rest g form
    at_form None h = refl
    at_form (Some shorter) h = same shorter h

-- the law: no form stands in front, or it is replaced and looked at again
pub reduced-step : (cats rest : List ℕ) → reduced cats rest ≡ replaced_or rest (reduced cats) (replaced cats rest)
unfolding reduced
reduced-step cats rest = on_shorter-step (reduced_step cats) [] (reduced_step-shortening cats) rest

at_form-short : (cats rest : List ℕ)
    → ((shorter : List ℕ) → length shorter < length rest → length (reduced cats shorter) ≤ length shorter)
    → (form : Option (List ℕ)) → IsShort (length rest) form
    → length (replaced_or rest (reduced cats) form) ≤ length rest
at_form-short cats rest before None h = omega arith
at_form-short cats rest before (Some shorter) h = omega (arith, before shorter h)

reduced-short_within : (cats : List ℕ) (n : ℕ) (rest : List ℕ) → length rest ≤ n → length (reduced cats rest) ≤ length rest
reduced-short_within cats zero rest h =
    rw reduced-step (at_form-short cats rest (λ shorter less. absurd (omega arith)) (replaced cats rest) (replaced-short cats rest))
reduced-short_within cats (suc n) rest h =
    rw reduced-step (at_form-short cats rest (λ shorter less. reduced-short_within cats n shorter (omega arith)) (replaced cats rest) (replaced-short cats rest))

-- replacing makes no line longer
pub length-reduced : (cats rest : List ℕ) → length (reduced cats rest) ≤ length rest
length-reduced cats rest = reduced-short_within cats (length rest) rest (omega arith)

-- where no form stands in front, nothing is replaced
pub reduced-none : (cats rest : List ℕ) → replaced cats rest ≡ None → reduced cats rest ≡ rest
reduced-none cats rest none = reduced-step cats rest ∙ ap (replaced_or rest (reduced cats)) none

-- a form in front is replaced and looked at again
pub reduced-some : (cats rest shorter : List ℕ) → replaced cats rest ≡ Some shorter → reduced cats rest ≡ reduced cats shorter
reduced-some cats rest shorter some = reduced-step cats rest ∙ ap (replaced_or rest (reduced cats)) some

-- a line's end stays one
pub reduced-nil : (cats : List ℕ) → reduced cats [] ≡ []
reduced-nil cats = reduced-none cats [] refl
