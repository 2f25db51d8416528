-- A line is taken: what the eye has then before it is what the definition says.
use Rattle.std.proofs.Common.{◌≡◌, ℕ, ℤ, ◌-◌, ◌<◌, ◌≤◌, Bool, true, false, Option, List, [], ◌∷◌, ◌++◌, length, take, drop, Ok, Err, refl, ap, sym, ◌∙◌, arith, nat_lt, subst}
use Rattle.std.specs.List.{before_first, after_first}
use Rattle.std.proofs.lemmas.Bool.{lt-ltb, le-ltb, ltb-true, ltb-false}
use Rattle.std.proofs.lemmas.List.{drop_all, drop-append-le, length-drop, length-take-le}
use Rattle.tokens.specs.declared.cap.Cap.TheVariants.{Line}
use Rattle.tokens.specs.declared.stop.Stop.TheVariants.{Capacity}
use Rattle.catcode_eye.specs.declared.seen.State.TheVariants.{NewLine}
use Rattle.catcode_eye.specs.Lines.{is_mark, onto_first, with_byte, lines, unread_lines, trimmed, end_bytes, taken}
use Rattle.catcode_eye.specs.Outlook.{Outlook, has_line, with_line, next_line_of, next_line}
use Rattle.catcode_eye.proofs.Marks.{lines-first}

onto_first-some : (byte : ℕ) (others : List (List ℕ)) → has_line (onto_first byte others) ≡ true
onto_first-some byte [] = refl
onto_first-some byte (line ∷ others) = refl

with_byte-some : (b : Bool) (byte : ℕ) (others : List (List ℕ)) → has_line (with_byte b byte others) ≡ true
with_byte-some true byte others = refl
with_byte-some false byte others = onto_first-some byte others

-- a line is left where bytes are left
has_line-lines : (mark : Option ℕ) (bytes : List ℕ) → has_line (lines mark bytes) ≡ nat_lt 0 (length bytes)
has_line-lines mark [] = refl
has_line-lines mark (byte ∷ bytes) =
    with_byte-some (is_mark mark byte) byte (lines mark bytes) ∙ sym (lt-ltb 0 (length (byte ∷ bytes)) (omega arith))

before_end : (unread size : ℕ) → nat_lt unread size ≡ nat_lt 0 (size - unread)
before_end unread size = by_case (nat_lt unread size) refl
  where
    by_case : (b : Bool) → nat_lt unread size ≡ b → nat_lt unread size ≡ nat_lt 0 (size - unread)
    by_case true h = h ∙ sym (lt-ltb 0 (size - unread) (omega (arith, ltb-true unread size h)))
    by_case false h = h ∙ sym (le-ltb 0 (size - unread) (omega (arith, ltb-false unread size h)))

pub has_line-drop : (mark : Option ℕ) (unread : ℕ) (bytes : List ℕ)
    → nat_lt unread (length bytes) ≡ has_line (lines mark (drop unread bytes))
has_line-drop mark unread bytes =
    before_end unread (length bytes) ∙ ap (nat_lt 0) (sym (length-drop unread bytes)) ∙ sym (has_line-lines mark (drop unread bytes))

-- the lines that are left are the first of them and those behind it
pub unread-first : (mark : Option ℕ) (is_empty : Bool) (rest : List ℕ) → (is_empty ≡ true → rest ≡ [])
    → has_line (unread_lines mark is_empty rest) ≡ true
    → unread_lines mark is_empty rest ≡ before_first (is_mark mark) rest ∷ lines mark (after_first (is_mark mark) rest)
unread-first mark true rest empty some =
    let Q : List ℕ → Type 0 = λ r. unread_lines mark true r ≡ before_first (is_mark mark) r ∷ lines mark (after_first (is_mark mark) r) in
    subst Q (sym (empty refl)) refl
unread-first mark false rest empty some =
    lines-first mark rest (ltb-true 0 (length rest) (sym (has_line-lines mark rest) ∙ some))

-- a line that is too long
pub next_line-too_long : (endline : ℤ) (eye : Outlook) (first : List ℕ) (others : List (List ℕ))
    → eye.unread ≡ first ∷ others → 65535 < length first
    → next_line endline eye ≡ Err (Capacity Line)
next_line-too_long endline eye first others unread long =
    ap (next_line_of endline eye) unread ∙ ap (with_line endline first others) (lt-ltb 65535 (length first) long)

-- a line that fits
pub next_line-taken : (endline : ℤ) (eye : Outlook) (first : List ℕ) (others : List (List ℕ)) (after : Outlook)
    → eye.unread ≡ first ∷ others → length first ≤ 65535
    → after ≡ record { unread = others; rest = taken endline first; state = NewLine }
    → next_line endline eye ≡ Ok (true, after)
next_line-taken endline eye first others after unread fits e =
    ap (next_line_of endline eye) unread
    ∙ ap (with_line endline first others) (le-ltb 65535 (length first) fits)
    ∙ ap (λ (o : Outlook). Ok (true, o)) (sym e)

-- the lines that an eye has before it, by its bytes
pub outlook-first : (eye : Outlook) (mark : Option ℕ) (is_empty : Bool) (unread : ℕ) (bytes slice : List ℕ)
    → unread_lines mark is_empty (drop unread bytes) ≡ eye.unread → slice ≡ bytes
    → (is_empty ≡ true → unread ≡ length bytes) → true ≡ has_line eye.unread
    → eye.unread ≡ before_first (is_mark mark) (drop unread slice) ∷ lines mark (after_first (is_mark mark) (drop unread slice))
outlook-first eye mark is_empty unread bytes slice view same at_end some =
    let Q : List ℕ → Type 0 = λ s. eye.unread ≡ before_first (is_mark mark) (drop unread s) ∷ lines mark (after_first (is_mark mark) (drop unread s)) in
    subst Q (sym same)
    (sym view ∙ unread-first mark is_empty (drop unread bytes) (λ t. drop_all unread bytes (omega (arith, at_end t))) (ap has_line view ∙ sym some))

-- what is left of a line with its end byte
pub rest-taken : (start end : ℕ) (bytes slice after first : List ℕ) (byte byte' : Option ℕ)
    → slice ≡ bytes → start ≤ end → end ≤ length slice → drop start (take end slice) ≡ trimmed first
    → after ≡ take end bytes ++ end_bytes byte → byte ≡ byte'
    → drop start after ≡ trimmed first ++ end_bytes byte'
rest-taken start end bytes slice after first byte byte' same order within kept line named =
    let whole : after ≡ take end slice ++ end_bytes byte' =
    line ∙ ap (λ s. take end s ++ end_bytes byte) (sym same) ∙ ap (λ b. take end slice ++ end_bytes b) named in
    let inside : start ≤ length (take end slice) = omega (arith, length-take-le end slice within) in
    ap (drop start) whole
    ∙ drop-append-le start (take end slice) (end_bytes byte') inside
    ∙ ap (λ r. r ++ end_bytes byte') kept

pub outlook-same : (unread unread' : List (List ℕ)) (rest rest' : List ℕ) → unread ≡ unread' → rest ≡ rest'
    → let new : List (List ℕ) → List ℕ → Outlook = λ u r. record { unread = u; rest = r; state = NewLine } in new unread rest ≡ new unread' rest'
outlook-same unread unread' rest rest' same_unread same_rest =
    let new : List (List ℕ) → List ℕ → Outlook = λ u r. record { unread = u; rest = r; state = NewLine } in
    ap (λ u. new u rest) same_unread ∙ ap (new unread') same_rest
