use Rattle.std.proofs.Common.{◌≡◌, ◌-◌, length}
use Rattle.tfm.specs.FontMetricsPrograms.{instruction_for}
use Rattle.tfm.proofs.programs.instruction_for.Given as goal

-- the program from here on has the instruction that the whole program has
abbrev pub invariant-loop-at : goal.invariant-loop-at
invariant-loop-at l =
    instruction_for l.right l.at l.instructions ≡ instruction_for l.fn.right l.fn.start l.fn.instructions

-- the words that are left
abbrev pub decreases-loop-at : goal.decreases-loop-at
decreases-loop-at l = length l.instructions - l.at
