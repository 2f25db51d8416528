-- The conditions that are open, the innermost first (The TeXbook, chapter 20; tex.web 489; the e-TeX manual,
-- section 3.5, on `\currentiflevel`, `\currentiftype` and `\currentifbranch`).
use Rattle.std.specs.Prelude.{ℕ, ℤ, pos, negsuc, Bool, true, false, List, [], ◌∷◌, reverse, Option, Some, None}
use Rattle.std.proofs.Common.{zero, suc}
use Rattle.conditionals.specs.declared.stack.Branch.{Branch}
use Rattle.conditionals.specs.declared.stack.Branch.TheVariants.{Deciding, BeforeElse, BehindElse}
use Rattle.conditionals.specs.declared.stack.Condition.{Condition}

-- a condition that is being decided
abbrev pub condition_of : ℤ → ℕ → Condition
condition_of kind line = record { kind = kind; line = line; branch = Deciding }

abbrev pub branch_by : Bool → Branch
branch_by true = BehindElse
branch_by false = BeforeElse

-- with this branch of the innermost one
abbrev pub with_branch : Branch → List Condition → List Condition
with_branch branch [] = []
with_branch branch (condition ∷ outer) = record condition { branch = branch } ∷ outer

-- with the branch of the innermost one chosen: the one behind its \else, or another
abbrev pub with_chosen : Bool → List Condition → List Condition
with_chosen after_else conditions = with_branch (branch_by after_else) conditions

-- with this branch of the condition at a place, counted from the front
abbrev pub with_branch_at : Branch → ℕ → List Condition → List Condition
with_branch_at branch place [] = []
with_branch_at branch zero (condition ∷ further) = record condition { branch = branch } ∷ further
with_branch_at branch (suc place) (condition ∷ further) = condition ∷ with_branch_at branch place further

-- with the branch chosen of the condition that is so many deep, counted from 1 for the outermost
abbrev pub with_chosen_at : ℕ → Bool → List Condition → List Condition
with_chosen_at zero after_else conditions = conditions
with_chosen_at (suc place) after_else conditions = reverse (with_branch_at (branch_by after_else) place (reverse conditions))

-- without the innermost one
abbrev pub without_innermost : List Condition → List Condition
without_innermost [] = []
without_innermost (condition ∷ outer) = outer

-- the innermost one
abbrev pub innermost : List Condition → Option Condition
innermost [] = None
innermost (condition ∷ outer) = Some condition

-- the kind of the innermost one, 0 where none is open
abbrev pub innermost_kind : List Condition → ℤ
innermost_kind [] = pos 0
innermost_kind (condition ∷ outer) = condition.kind

-- 0 while a condition is being decided, 1 in a branch before its \else, -1 behind it
abbrev pub branch_number : Branch → ℤ
branch_number Deciding = pos 0
branch_number BeforeElse = pos 1
branch_number BehindElse = negsuc 0

abbrev pub innermost_branch : List Condition → ℤ
innermost_branch [] = pos 0
innermost_branch (condition ∷ outer) = branch_number condition.branch
