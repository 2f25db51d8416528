-- The character table of a TFM file: one word for each character from the first to the last
-- (tex.web sections 543, 544, 554, 569, 570 and 573; The TeXbook, appendix F).
use Rattle.std.specs.Prelude.{ℕ, zero, suc, ◌+◌, ◌-◌, ◌*◌, ◌/◌, ◌%◌, Bool, true, false, not, ◌&&◌, ◌==◌, nat_lt, nat_le, if◌then◌else◌, List, Option, Some, None}
use Rattle.tfm.specs.declared.quarters.Quarters.{Quarters}
use Rattle.tfm.specs.declared.lengths.Lengths.{Lengths}
use Rattle.tfm.specs.FontMetricsBytes.{quarters_at}
use Rattle.tfm.specs.FontMetricsLengths.{characters_at}

-- what a character's word says: the places of its measures in their tables, what its remainder is for, the remainder
abbrev pub width_index : Quarters → ℕ
width_index word = word.b0

abbrev pub height_index : Quarters → ℕ
height_index word = word.b1 / 16

abbrev pub depth_index : Quarters → ℕ
depth_index word = word.b1 % 16

abbrev pub italic_index : Quarters → ℕ
italic_index word = word.b2 / 4

-- 0 for nothing, 1 for a program of ligatures and kerns, 2 for a larger character, 3 for an extensible one
abbrev pub tag_of : Quarters → ℕ
tag_of word = word.b2 % 4

abbrev pub remainder_of : Quarters → ℕ
remainder_of word = word.b3

-- a character from the first to the last
abbrev pub in_range : Lengths → ℕ → Bool
in_range l character = nat_le l.first character && nat_le character l.last

-- where a character's word is; only for characters from the first on
abbrev pub character_place : Lengths → ℕ → ℕ
character_place l character = characters_at l + 4 * (character - l.first)

-- a character's word
unfoldable pub character_word : List ℕ → Lengths → ℕ → Quarters
character_word bytes l character = quarters_at bytes (character_place l character)

-- a character exists where it has a word whose width index isn't 0
unfoldable pub exists_at : List ℕ → Lengths → ℕ → Bool
exists_at bytes l character = in_range l character && not (width_index (character_word bytes l character) == 0)

-- the next larger character
unfoldable pub larger_than : List ℕ → Lengths → ℕ → Option ℕ
larger_than bytes l character =
    if in_range l character && (tag_of (character_word bytes l character) == 2)
    then Some (remainder_of (character_word bytes l character))
    else None

-- the chain of larger characters, from `at` on, comes to `top` through smaller characters than `top` alone, within n steps
abbrev pub comes_to : List ℕ → Lengths → ℕ → ℕ → Option ℕ → Bool
comes_to bytes l top n None = false
comes_to bytes l top zero (Some at) = false
comes_to bytes l top (suc n) (Some at) =
    if at == top then true else (if nat_lt at top then comes_to bytes l top n (larger_than bytes l at) else false)

-- A character is the highest of a chain of larger characters that comes back. There are 256 characters, so a chain that
-- comes back does so within 256 steps; `IsHighestOfLoop` says the same without a number of steps.
unfoldable pub comes_back : List ℕ → Lengths → ℕ → Bool
comes_back bytes l top = comes_to bytes l top 256 (larger_than bytes l top)
