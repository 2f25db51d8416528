-- The innermost condition stands last.
use Rattle.std.proofs.Common.{arith}
use Rattle.conditionals.proofs.Ends.{branch-last}
use Rattle.conditionals.proofs.stack.choose.Goals as goal

pub returns-in-Some : goal.returns-in-Some
returns-in-Some c =
    branch-last c.args.branch c.in-Some.last c.args.conditions.now.items c.index_mut.result.now (omega arith) (cc c.index_mut.ensures.value)
