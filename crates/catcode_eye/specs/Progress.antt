-- Each thing that is seen takes bytes of the line, so that no more things are seen than the line has bytes.
use Rattle.std.specs.Prelude.{◌≡◌, ℕ, ◌<◌, ◌≤◌, Bool, true, false, List, [], ◌∷◌, length, Result, Ok, Err}
use Rattle.std.proofs.Common.{zero, suc, arith, sym, subst}
use Rattle.std.proofs.lemmas.Bool.{true≢false}
use Rattle.tokens.specs.Categories.{category}
use Rattle.tokens.specs.declared.stop.Stop.{Stop}
use Rattle.catcode_eye.specs.declared.role.Role.{Role}
use Rattle.catcode_eye.specs.declared.role.Role.TheVariants.{Escape, EndOfLine, Ignored, Space, Active as ActiveRole, Comment, Invalid, Plain}
use Rattle.catcode_eye.specs.declared.seen.Glance.{Glance}
use Rattle.catcode_eye.specs.declared.seen.Glance.TheVariants.{Char as GlanceChar, Active as GlanceActive, Word as GlanceWord, Par as GlancePar, LineEnd as GlanceLineEnd, Invalid as GlanceInvalid, OutOfMemory as GlanceOutOfMemory}
use Rattle.catcode_eye.specs.declared.seen.Seen.{Seen}
use Rattle.catcode_eye.specs.declared.seen.Seen.TheVariants.{Char, Active, Word, Par, LineEnd}
use Rattle.catcode_eye.specs.declared.seen.State.{State}
use Rattle.catcode_eye.specs.declared.seen.State.TheVariants.{NewLine, MidLine, SkipBlanks}
use Rattle.catcode_eye.specs.Superscripts.{reduced, length-reduced}
use Rattle.catcode_eye.specs.Role.{role_of}
use Rattle.catcode_eye.specs.Seen.{Sight, Letters, is_letter, letters, letters_if, letters_at, letters-step, named, named_by, line_ended, spaced, sight, sight_of, sight_at, sight-step, is_line_end}

-- where something is seen, the rest is shorter
abbrev pub SeenShortens : Seen → List ℕ → List ℕ → Type 0
SeenShortens (Char cat byte) old new = length new < length old
SeenShortens (Active byte) old new = length new < length old
SeenShortens (Word name) old new = length new < length old
SeenShortens Par old new = length new < length old
SeenShortens LineEnd old new = Unit {0}

abbrev pub GlanceShortens : Glance → List ℕ → List ℕ → Type 0
GlanceShortens (GlanceChar cat byte) old new = length new < length old
GlanceShortens (GlanceActive byte) old new = length new < length old
GlanceShortens GlanceWord old new = length new < length old
GlanceShortens GlancePar old new = length new < length old
GlanceShortens GlanceLineEnd old new = Unit {0}
GlanceShortens GlanceInvalid old new = Unit {0}
GlanceShortens GlanceOutOfMemory old new = Unit {0}

-- what is meant leaves fewer than n bytes, if it is more than the line's end
abbrev pub LeavesBelow : ℕ → Result Sight Stop → Type 0
LeavesBelow n (Ok it) = is_line_end it.seen ≡ false → length it.rest < n
LeavesBelow n (Err stop) = Unit {0}

LeavesBelow-more : (n m : ℕ) (meant : Result Sight Stop) → n ≤ m → LeavesBelow n meant → LeavesBelow m meant
LeavesBelow-more n m (Ok it) le h = λ some. omega (arith, h some)
LeavesBelow-more n m (Err stop) le h = tt

letters_at-short : (cats : List ℕ) (n : ℕ) (heads : List ℕ) → length heads ≤ n
    → ((tail : List ℕ) → length tail < n → length (letters cats tail).rest ≤ length tail)
    → length (letters_at cats (letters cats) heads).rest ≤ n
letters_at-short cats n [] h further = omega arith
letters_at-short cats n (byte ∷ tail) h further = by_letter (is_letter cats byte)
  where
    by_letter : (b : Bool) → length (letters_if (letters cats) byte tail b).rest ≤ n
    by_letter true = omega (arith, further tail (omega arith))
    by_letter false = omega arith

letters-short_within : (cats : List ℕ) (n : ℕ) (rest : List ℕ) → length rest ≤ n → length (letters cats rest).rest ≤ length rest
letters-short_within cats zero rest h =
    let P : Letters → Type 0 = λ l. length l.rest ≤ length rest in
    subst P (sym (letters-step cats rest))
    (letters_at-short cats (length rest) (reduced cats rest) (length-reduced cats rest) (λ tail less. absurd (omega arith)))
letters-short_within cats (suc n) rest h =
    let P : Letters → Type 0 = λ l. length l.rest ≤ length rest in
    subst P (sym (letters-step cats rest))
    (letters_at-short cats (length rest) (reduced cats rest) (length-reduced cats rest) (λ tail less. letters-short_within cats n tail (omega arith)))

-- letters are no more than the line
pub length-letters : (cats rest : List ℕ) → length (letters cats rest).rest ≤ length rest
length-letters cats rest = letters-short_within cats (length rest) rest (omega arith)

named-short : (cats : List ℕ) (n : ℕ) (heads : List ℕ) → length heads < n → length (named cats heads).rest < n
named-short cats n [] h = omega arith
named-short cats n (byte ∷ tail) h = by_letter (is_letter cats byte)
  where
    by_letter : (b : Bool) → length (named_by cats byte tail b).rest < n
    by_letter true = omega (arith, length-letters cats tail)
    by_letter false = omega arith

line_ended-short : (n : ℕ) (state : State) → 0 < n → LeavesBelow n (Ok (line_ended state))
line_ended-short n NewLine h some = h
line_ended-short n MidLine h some = h
line_ended-short n SkipBlanks h some = h

spaced-short : (n : ℕ) (further : List ℕ → Result Sight Stop) (tail : List ℕ) (state : State) → length tail < n
    → LeavesBelow n (further tail) → LeavesBelow n (spaced further tail state)
spaced-short n further tail NewLine h later = later
spaced-short n further tail MidLine h later = λ some. h
spaced-short n further tail SkipBlanks h later = later

sight_of-short : (cats : List ℕ) (state : State) (n : ℕ) (further : List ℕ → Result Sight Stop) (byte : ℕ) (tail : List ℕ)
    → length tail < n → LeavesBelow n (further tail) → (role : Role)
    → LeavesBelow n (sight_of cats state further byte tail role)
sight_of-short cats state n further byte tail h later Escape =
    λ some. named-short cats n (reduced cats tail) (omega (arith, length-reduced cats tail))
sight_of-short cats state n further byte tail h later EndOfLine = line_ended-short n state (omega arith)
sight_of-short cats state n further byte tail h later Ignored = later
sight_of-short cats state n further byte tail h later Space = spaced-short n further tail state h later
sight_of-short cats state n further byte tail h later ActiveRole = λ some. h
sight_of-short cats state n further byte tail h later Comment = λ some. omega arith
sight_of-short cats state n further byte tail h later Invalid = tt
sight_of-short cats state n further byte tail h later Plain = λ some. h

sight_at-short : (cats : List ℕ) (state : State) (n : ℕ) (heads : List ℕ) → length heads ≤ n
    → ((tail : List ℕ) → length tail < n → LeavesBelow (length tail) (sight cats state tail))
    → LeavesBelow n (sight_at cats state (sight cats state) heads)
sight_at-short cats state n [] h further = λ some. absurd (true≢false some)
sight_at-short cats state n (byte ∷ tail) h further =
    sight_of-short cats state n (sight cats state) byte tail (omega arith)
    (LeavesBelow-more (length tail) n (sight cats state tail) (omega arith) (further tail (omega arith))) (role_of (category cats byte))

sight-short_within : (cats : List ℕ) (state : State) (n : ℕ) (rest : List ℕ) → length rest ≤ n → LeavesBelow (length rest) (sight cats state rest)
sight-short_within cats state zero rest h =
    let P : Result Sight Stop → Type 0 = LeavesBelow (length rest) in
    subst P (sym (sight-step cats state rest))
    (sight_at-short cats state (length rest) (reduced cats rest) (length-reduced cats rest) (λ tail less. absurd (omega arith)))
sight-short_within cats state (suc n) rest h =
    let P : Result Sight Stop → Type 0 = LeavesBelow (length rest) in
    subst P (sym (sight-step cats state rest))
    (sight_at-short cats state (length rest) (reduced cats rest) (length-reduced cats rest) (λ tail less. sight-short_within cats state n tail (omega arith)))

-- what is seen leaves a shorter rest, if it is more than the line's end
pub sight-shorter : (cats : List ℕ) (state : State) (rest : List ℕ) → LeavesBelow (length rest) (sight cats state rest)
sight-shorter cats state rest = sight-short_within cats state (length rest) rest (omega arith)
