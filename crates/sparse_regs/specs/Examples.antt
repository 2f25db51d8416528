-- Examples on which digits, prefixes and nodes are computed: the registers 7257 and 7258 (1c59 and 1c5a by hexadecimal
-- digits) share three digits, and 32767 (7fff) shares none with them.
use Rattle.std.specs.Prelude.{◌≡◌, ℕ, List, [], ◌∷◌}
use Rattle.sparse_regs.specs.Prefixes.{empty_prefix, longer, whole, digits_of, node_count, highest_count}

-- the ways to the two neighbours part at the last digit
abbrev pub WaysAreDigits : Type 0
WaysAreDigits =
    (digits_of 7257 ≡ 1 ∷ 12 ∷ 5 ∷ 9 ∷ [])
    × (digits_of 7258 ≡ 1 ∷ 12 ∷ 5 ∷ 10 ∷ [])
    × (longer (longer (longer (longer empty_prefix 1) 12) 5) 9 ≡ whole 7257)
    × (longer (longer (longer (longer empty_prefix 1) 12) 5) 10 ≡ whole 7258)

-- the registers that are held after each of some calls: the two neighbours come, the first goes and then the second, and
-- another comes
abbrev held_in_turn : List (List ℕ)
held_in_turn = (7257 ∷ []) ∷ (7257 ∷ 7258 ∷ []) ∷ (7258 ∷ []) ∷ [] ∷ (32767 ∷ []) ∷ []

abbrev pub NodesAreCounted : Type 0
NodesAreCounted =
    (node_count (7257 ∷ []) ≡ 4)
    × (node_count (7257 ∷ 7258 ∷ []) ≡ 5)
    × (node_count (7258 ∷ []) ≡ 4)
    × (node_count [] ≡ 0)
    × (node_count (32767 ∷ []) ≡ 4)
    × (highest_count held_in_turn ≡ 5)
