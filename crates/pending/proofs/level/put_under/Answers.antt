-- The level that was in front stands last of those below.
use Rattle.std.proofs.Common.{arith}
use Rattle.pending.proofs.Stacks.{reversed_swap}
use Rattle.pending.proofs.level.put_under.Goals as goal

pub returns-clause-below : goal.returns-clause-below
returns-clause-below c =
    reversed_swap c.args.below.now.items c.push.new.self.items c.args.level c.args.top.now c.swap.new.y c.len-last.result
    c.in_ok-push.ensures.items (omega arith) c.swap.ensures.y_after
