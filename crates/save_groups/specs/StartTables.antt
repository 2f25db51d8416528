-- The tables that are there from the start: parameters that are numbers, codes but for the categories, and the
-- meanings of the primitives.
use Rattle.std.specs.Prelude.{ℕ, ℤ, pos, ◌/◌, ◌%◌, Bool, List, [], Option, None, map, replicate}
use Rattle.std.specs.List.{range_with_len}
use Rattle.std.proofs.Common.{suc}
use Rattle.tokens.specs.declared.meaning.Meaning.{Meaning}
use Rattle.tokens.specs.Primitives.{start_meaning}
use Rattle.nodes.specs.declared.boxes.BoxNode.{BoxNode}
use Rattle.nodes.specs.declared.node.Node.{Node}
use Rattle.save_groups.specs.declared.entry.Entry.{Entry}
use Rattle.save_groups.specs.StartValues.{start_code, start_number}
use Rattle.save_groups.specs.Entries.{fresh}

abbrev pub number_at_start : ℕ → Entry ℤ
number_at_start place = fresh (pos (start_number place))

unfoldable pub start_numbers : List (Entry ℤ)
start_numbers = map number_at_start (range_with_len 0 111)

-- a code by its place in the five tables, of which each has 256 places
abbrev pub code_at_start : ℕ → Entry ℤ
code_at_start place = fresh (start_code (suc (place / 256)) (place % 256))

unfoldable pub start_codes : List (Entry ℤ)
start_codes = map code_at_start (range_with_len 0 1280)

abbrev pub meaning_at_start : Bool → ℕ → Entry Meaning
meaning_at_start extended id = fresh (start_meaning extended id)

unfoldable pub start_names : Bool → List (Entry Meaning)
start_names extended = map (meaning_at_start extended) (range_with_len 0 391)

-- the boxes that every mode has
abbrev pub void_at_start : ℕ → Entry (Option (BoxNode (List Node)))
void_at_start number = fresh None

unfoldable pub start_boxes : List (Entry (Option (BoxNode (List Node))))
start_boxes = map void_at_start (range_with_len 0 256)

-- the arrays of penalties
abbrev pub table_at_start : ℕ → Entry (List ℤ)
table_at_start array = fresh []

unfoldable pub start_penalties : List (Entry (List ℤ))
start_penalties = map table_at_start (range_with_len 0 4)

-- the levels of the categories
unfoldable pub start_levels : List ℕ
start_levels = replicate 256 1
