use Rattle.std.proofs.Common.{◌≡◌, ◌++◌, reverse, length}
use Rattle.nodes.proofs.taking.into_vec.Given as goal

abbrev pub invariant-loop-node : goal.invariant-loop-node
invariant-loop-node l = l.list ++ reverse l.nodes.items ≡ l.initial.list

abbrev pub decreases-loop-node : goal.decreases-loop-node
decreases-loop-node l = length l.list
