-- The bytes of a page in which the commands of movements are left open: which byte each is depends on the marks.
use Rattle.std.proofs.Common.{◌≡◌, ℕ, zero, suc, ◌+◌, ◌-◌, Bool, ℤ, Option, Some, None, List, [], ◌∷◌, ◌++◌, length, map, set, refl, ap, ap₂}
use Rattle.dvi_out.specs.declared.movements.Word.{Word}
use Rattle.dvi_out.specs.SpellingPage.{Opcodes, bytes_for, lowest, repetition_of}

-- A byte, or the command of a movement that carries its width. A movement is told by whether it is horizontal, and by
-- its number in its family.
pub data Cell : Type 0 where
  Byte : ℕ → Cell
  Code : (Bool × ℕ) → ℤ → Cell

-- the byte of a cell, where the command of each movement is given as it is for a width of one byte
abbrev pub value : ((Bool × ℕ) → ℕ) → Cell → ℕ
value codes (Byte n) = n
value codes (Code key width) = codes key + (bytes_for width - 1)

-- the cells of a new movement
abbrev pub new_cells : Opcodes → (Bool × ℕ) → ℤ → Option Word → List Cell
new_cells codes key width None = Code key width ∷ map Byte (lowest (bytes_for width) width)
new_cells codes key width (Some word) = Byte (repetition_of codes word) ∷ []

-- ---- where the command of a movement stands

abbrev pub Apart : (Bool × ℕ) → Cell → Type 0
Apart key (Byte n) = Unit {0}
Apart key (Code other width) = other ≡ key → ⊥

abbrev pub NoCode : (Bool × ℕ) → List Cell → Type 0
NoCode key [] = Unit {0}
NoCode key (cell ∷ cells) = Apart key cell × NoCode key cells

abbrev pub CodeAt : (Bool × ℕ) → ℤ → ℕ → List Cell → Type 0
CodeAt key width place [] = ⊥
CodeAt key width zero (cell ∷ cells) = (cell ≡ Code key width) × NoCode key cells
CodeAt key width (suc place) (cell ∷ cells) = Apart key cell × CodeAt key width place cells

-- the command of a movement that carries its width stands at a place; one that repeats a word has none
abbrev pub StandsBy : (Bool × ℕ) → ℤ → ℕ → List Cell → Option Word → Type 0
StandsBy key width place cells None = CodeAt key width place cells
StandsBy key width place cells (Some word) = NoCode key cells

pub none_more : (key : Bool × ℕ) (cells more : List Cell) → NoCode key cells → NoCode key more → NoCode key (cells ++ more)
none_more key [] more none rest = rest
none_more key (cell ∷ cells) more none rest = (none.0, none_more key cells more none.1 rest)

at_more : (key : Bool × ℕ) (width : ℤ) (place : ℕ) (cells more : List Cell) → CodeAt key width place cells →
    NoCode key more → CodeAt key width place (cells ++ more)
at_more key width place [] more at none = elim at [ ]
at_more key width zero (cell ∷ cells) more at none = (at.0, none_more key cells more at.1 none)
at_more key width (suc place) (cell ∷ cells) more at none = (at.0, at_more key width place cells more at.1 none)

at_end : (key : Bool × ℕ) (width : ℤ) (cells more : List Cell) → NoCode key cells → NoCode key more →
    CodeAt key width (length cells) (cells ++ Code key width ∷ more)
at_end key width [] more none rest = (refl, rest)
at_end key width (cell ∷ cells) more none rest = (none.0, at_end key width cells more none.1 rest)

pub stands_more : (key : Bool × ℕ) (width : ℤ) (place : ℕ) (cells more : List Cell) (repeats : Option Word) →
    StandsBy key width place cells repeats → NoCode key more → StandsBy key width place (cells ++ more) repeats
stands_more key width place cells more None stands none = at_more key width place cells more stands none
stands_more key width place cells more (Some word) stands none = none_more key cells more stands none

pub plain_none : (key : Bool × ℕ) (bytes : List ℕ) → NoCode key (map Byte bytes)
plain_none key [] = tt
plain_none key (byte ∷ bytes) = (tt, plain_none key bytes)

pub new_none : (codes : Opcodes) (key other : Bool × ℕ) (width : ℤ) (repeats : Option Word) → (key ≡ other → ⊥) →
    NoCode other (new_cells codes key width repeats)
new_none codes key other width None apart = (apart, plain_none other (lowest (bytes_for width) width))
new_none codes key other width (Some word) apart = (tt, tt)

-- a new movement's command stands at the end
pub stands_new : (codes : Opcodes) (key : Bool × ℕ) (width : ℤ) (cells : List Cell) (repeats : Option Word) →
    NoCode key cells → StandsBy key width (length cells) (cells ++ new_cells codes key width repeats) repeats
stands_new codes key width cells None none =
    at_end key width cells (map Byte (lowest (bytes_for width) width)) none (plain_none key (lowest (bytes_for width) width))
stands_new codes key width cells (Some word) none =
    none_more key cells (Byte (repetition_of codes word) ∷ []) none (tt, tt)

-- ---- bytes

pub plain_values : (c : (Bool × ℕ) → ℕ) (bytes : List ℕ) → map (value c) (map Byte bytes) ≡ bytes
plain_values c [] = refl
plain_values c (byte ∷ bytes) = ap (λ (l : List ℕ). byte ∷ l) (plain_values c bytes)

pub all_same : (c d : (Bool × ℕ) → ℕ) → ((key : Bool × ℕ) → d key ≡ c key) → (cells : List Cell) →
    map (value d) cells ≡ map (value c) cells
all_same c d same [] = refl
all_same c d same (Byte n ∷ cells) = ap (λ (l : List ℕ). n ∷ l) (all_same c d same cells)
all_same c d same (Code key width ∷ cells) =
    ap₂ (λ (n : ℕ) (l : List ℕ). (n + (bytes_for width - 1)) ∷ l) (same key) (all_same c d same cells)

-- the command of one movement is changed, which doesn't stand there
pub same_values : (c d : (Bool × ℕ) → ℕ) (key : Bool × ℕ) →
    ((other : Bool × ℕ) → (other ≡ key → ⊥) → d other ≡ c other) → (cells : List Cell) → NoCode key cells →
    map (value d) cells ≡ map (value c) cells
same_values c d key off [] none = refl
same_values c d key off (Byte n ∷ cells) none = ap (λ (l : List ℕ). n ∷ l) (same_values c d key off cells none.1)
same_values c d key off (Code other width ∷ cells) none =
    ap₂ (λ (n : ℕ) (l : List ℕ). (n + (bytes_for width - 1)) ∷ l) (off other none.0) (same_values c d key off cells none.1)

-- or which stands at a place
pub patched : (c d : (Bool × ℕ) → ℕ) (key : Bool × ℕ) (width : ℤ) →
    ((other : Bool × ℕ) → (other ≡ key → ⊥) → d other ≡ c other) → (place : ℕ) (cells : List Cell) →
    CodeAt key width place cells →
    map (value d) cells ≡ set (map (value c) cells) place (d key + (bytes_for width - 1))
patched c d key width off place [] at = elim at [ ]
patched c d key width off zero (cell ∷ cells) at =
    ap₂ (λ (n : ℕ) (l : List ℕ). n ∷ l) (ap (value d) at.0) (same_values c d key off cells at.1)
patched c d key width off (suc place) (Byte n ∷ cells) at =
    ap (λ (l : List ℕ). n ∷ l) (patched c d key width off place cells at.1)
patched c d key width off (suc place) (Code other wide ∷ cells) at =
    ap₂ (λ (n : ℕ) (l : List ℕ). (n + (bytes_for wide - 1)) ∷ l) (off other at.0) (patched c d key width off place cells at.1)
