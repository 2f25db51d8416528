-- The categories of the 256 characters (The TeXbook, chapter 7), as a list with one entry a byte.
use Rattle.std.specs.Prelude.{ℕ, ◌<◌, Bool, List, [], ◌∷◌, map, nat_lt, nat_le, ◌==◌, ◌&&◌, ◌||◌, slice_index, slice_set, IsTrue, if◌then◌else◌}
use Rattle.std.specs.List.{list_all, range_with_len}
use Rattle.std.proofs.Common.{zero, suc}
use Rattle.std.proofs.lemmas.Bool.{and_from, and_parts, lt-ltb}

-- the category of a byte
abbrev pub category : List ℕ → ℕ → ℕ
category cats byte = slice_index cats byte

-- whether each entry is one of the sixteen categories
abbrev pub are_categories : List ℕ → Bool
are_categories cats = list_all (λ cat. nat_lt cat 16) cats

-- a table stays one of categories where one entry is set to a category
pub are_categories-set : (cats : List ℕ) (byte cat : ℕ)
    → IsTrue (are_categories cats) → cat < 16 → IsTrue (are_categories (slice_set cats byte cat))
are_categories-set [] byte cat h below = h
are_categories-set (x ∷ cats) zero cat h below =
    and_from _ _ (lt-ltb cat 16 below) (and_parts (nat_lt x 16) _ h).1
are_categories-set (x ∷ cats) (suc byte) cat h below =
    and_from _ _ (and_parts (nat_lt x 16) _ h).0
    (are_categories-set cats byte cat (and_parts (nat_lt x 16) _ h).1 below)

-- the category of a byte at the start (The TeXbook, chapter 7, on INITEX): the escape character, the end of
-- a line, the space, the comment character, the bytes 0 and 127, and the letters; all others are other
abbrev pub initial_category : ℕ → ℕ
initial_category byte =
    if byte == 92 then 0
    else if byte == 13 then 5
    else if byte == 32 then 10
    else if byte == 37 then 14
    else if byte == 127 then 15
    else if byte == 0 then 9
    else if (nat_le 65 byte && nat_le byte 90) || (nat_le 97 byte && nat_le byte 122) then 11
    else 12

-- the table at the start
unfoldable pub initial_categories : List ℕ
initial_categories = map initial_category (range_with_len 0 256)
