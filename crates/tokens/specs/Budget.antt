-- The steps of a run. One step is counted for each line that is read, for each token that is taken and
-- not paid for already, and for each ligature; a run ends where a step is wanted and none is left.
use Rattle.std.specs.Prelude.{ℕ, ◌+◌, ◌-◌, ◌==◌, Bool, Result, Ok, Err, if◌then◌else◌}
use Rattle.tokens.specs.declared.stop.Stop.{Stop}
use Rattle.tokens.specs.declared.stop.Stop.TheVariants.{Spent}

-- how many steps are left, and how many are used
pub record Allowance : Type 0 where
  pub left : ℕ
  pub used : ℕ

-- a number of steps, none of which is used
abbrev pub unused : ℕ → Allowance
unused steps = record { left = steps; used = 0 }

-- whether all steps are used
abbrev pub is_spent : Allowance → Bool
is_spent budget = budget.left == 0

-- the same budget with one more step used
abbrev pub after_step : Allowance → Allowance
after_step budget = record { left = budget.left - 1; used = budget.used + 1 }

-- one step: the budget behind it, or the end of the run
abbrev pub step_of : Allowance → Result Allowance Stop
step_of budget = if is_spent budget then Err Spent else Ok (after_step budget)
