-- By the kind of assignment.
use Rattle.std.proofs.Common.{◌≡◌, ◌≤◌, ◌+◌, List, [], ◌∷◌, ◌++◌, length, Bool, true, false, refl, arith, length-append}
use Rattle.std.specs.Prelude.{if◌then◌else◌, nat_lt, ◌==◌, ◌&&◌, not}
use Rattle.save_groups.specs.declared.key.Key.{Key}
use Rattle.save_groups.specs.declared.key.Scope.{Scope}
use Rattle.save_groups.specs.declared.key.Scope.TheVariants.{Local, Global}
use Rattle.save_groups.specs.declared.value.Value.{Value}
use Rattle.save_groups.specs.declared.save.Save.{Save}
use Rattle.save_groups.specs.Environments.{Copies, level_of}
use Rattle.save_groups.specs.Assignment.{assigned, assigned_here, changes_nothing}
use Rattle.save_groups.proofs.laws.saves_law.Goals as goal

few : (saves : List Save) (save : Save) (b : Bool) → length (saves ++ (if b then save ∷ [] else [])) ≤ length saves + 1
few saves save true = omega (arith, length-append saves (save ∷ []))
few saves save false = omega (arith, length-append {A = Save} saves [])

local : (key : Key) (value : Value) (c : Copies) (b : Bool) → length (if b then c else assigned_here key value c).saves ≤ length c.saves + 1
local key value c true = omega arith
local key value c false =
    few c.saves (record { key = key; group = level_of c; level = (c.last key).level; value = (c.last key).value })
    (nat_lt 1 (level_of c) && not ((c.last key).level == level_of c))

by_scope : (key : Key) (value : Value) (scope : Scope) (c : Copies)
    → (length (assigned key value scope c).saves ≤ length c.saves + 1) × (scope ≡ Global → (assigned key value scope c).saves ≡ c.saves)
by_scope key value Local c = (local key value c (changes_nothing key value c), λ e. cc)
by_scope key value Global c = (omega arith, λ e. refl)

pub returns : goal.returns
returns c = record { law = by_scope }
