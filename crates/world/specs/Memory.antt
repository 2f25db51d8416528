-- A map of byte vectors, as the files that it keeps.
use Rattle.std.specs.Prelude.{ℕ, List, map, Vec}
use Rattle.std.specs.FinMap as tree
use Rattle.world.specs.Told.{Files}

-- entries with their names and bytes as lists
abbrev pub bytes_of : {Z : Type 0} → List (Vec ℕ Z × Vec ℕ Z) → List (List ℕ × List ℕ)
bytes_of {Z} entries = map (λ (e : Vec ℕ Z × Vec ℕ Z). (e.0.items, e.1.items)) entries

-- the files that the entries of a map keep
unfoldable pub files_of : {Z : Type 0} → List (Vec ℕ Z × Vec ℕ Z) → Files
files_of entries = tree.from_entries (bytes_of entries)
