-- The condition at a place.
use Rattle.std.proofs.Common.{arith}
use Rattle.conditionals.proofs.Ends.{branch-set, branch-beyond}
use Rattle.conditionals.proofs.stack.choose_at.Goals as goal

pub returns-then-place-len : goal.returns-then-place-len
returns-then-place-len c =
    branch-set c.args.branch c.args.place c.args.conditions.now.items c.index_mut.result.now (omega arith) (cc c.index_mut.ensures.value)

pub returns-else-place-len : goal.returns-else-place-len
returns-else-place-len c = branch-beyond c.args.branch c.args.place c.args.conditions.now.items (omega arith)
