-- Examples on which the number of nodes is computed.
use Rattle.std.specs.Prelude.{◌≡◌, ℕ, pos, true, List, [], ◌∷◌, Ok}
use Rattle.tokens.specs.declared.meaning.Meaning.TheVariants as meaning
use Rattle.tokens.specs.declared.meaning.RegKind.TheVariants.{Count}
use Rattle.save_groups.specs.declared.call.Call.{Call}
use Rattle.save_groups.specs.declared.call.Told.TheVariants.{Nothing}
use Rattle.save_groups.specs.declared.call.Call.TheVariants.{Assign, Enter, Leave}
use Rattle.save_groups.specs.declared.key.Key.TheVariants.{Register, Name}
use Rattle.save_groups.specs.declared.key.Scope.TheVariants.{Local, Global}
use Rattle.save_groups.specs.declared.value.Value.TheVariants as value
use Rattle.save_groups.specs.Environments.{beginning}
use Rattle.save_groups.specs.Calls.{Attempt}
use Rattle.save_groups.specs.Nodes.{nodes_after}

abbrev accepted : Call → Attempt
accepted call = record { call = call; answer = Ok Nothing }

abbrev count : ℕ → ℕ → Attempt
count number n = accepted (Assign (Register Count number) (value.Number (pos n)) Local)

abbrev countdef : ℕ → ℕ → Attempt
countdef id number = accepted (Assign (Name (record { 0 = id })) (value.Meaning (meaning.Register Count number)) Local)

-- the prefixes of 1c59 and 1c5a differ in the fourth digit alone; a register of another kind, and one with another
-- first digit, has four nodes of its own; a register below 256 has none
abbrev digits : List Attempt
digits = count 7257 1 ∷ count 7258 2 ∷ count 7258 3 ∷ count 255 4 ∷ count 32767 5 ∷ count 7258 0 ∷ count 7257 0 ∷ []

-- a save holds its register, although the value is as at the start again, and so does a meaning that names one, one
-- in force and one that was saved
abbrev holders : List Attempt
holders =
    count 256 1 ∷ accepted (Enter 14 1) ∷ count 256 0 ∷ countdef 400 4096 ∷ accepted (Enter 14 2)
    ∷ countdef 400 8192 ∷ accepted Leave ∷ accepted Leave
    ∷ accepted (Assign (Register Count 256) (value.Number (pos 0)) Global) ∷ []

abbrev pub NodesAreCounted : Type 0
NodesAreCounted =
    (nodes_after [] digits (beginning true) ≡ 4 ∷ 5 ∷ 5 ∷ 5 ∷ 9 ∷ 8 ∷ 4 ∷ [])
    × (nodes_after [] holders (beginning true) ≡ 4 ∷ 4 ∷ 4 ∷ 8 ∷ 8 ∷ 12 ∷ 8 ∷ 4 ∷ 0 ∷ [])
