use Rattle.std.proofs.Common.{◌∷◌}
use Rattle.std.specs.Prelude.{reverse}
use Rattle.pending.specs.Levels.{SameItems, weight_of}
use Rattle.pending.proofs.settle.settle.Given as goal

-- the levels stand for the same list as at the start
abbrev pub invariant-levels : goal.invariant-levels
invariant-levels l = SameItems (l.initial.top ∷ reverse l.initial.below.items) (l.top ∷ reverse l.below.items)

abbrev pub decreases-levels : goal.decreases-levels
decreases-levels l = weight_of (l.top ∷ reverse l.below.items)
