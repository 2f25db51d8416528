use Rattle.std.proofs.Common.{◌≡◌}
use Rattle.lig_kern.specs.Settling.{settled, to_do}
use Rattle.lig_kern.specs.WordOf.{word_of}
use Rattle.lig_kern.proofs.rewriter.Rewriter.settle.Given as goal

-- the word comes to what it came to at first
abbrev pub invariant-loop-next : goal.invariant-loop-next
invariant-loop-next l =
    settled l.metrics (word_of l.self) l.budget ≡ settled l.initial.metrics (word_of l.initial.self) l.initial.budget

-- a ligature takes a step and adds at most one element; else an element is passed
abbrev pub decreases-loop-next : goal.decreases-loop-next
decreases-loop-next l = to_do (word_of l.self) l.budget
