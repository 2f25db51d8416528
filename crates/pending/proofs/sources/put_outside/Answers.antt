-- The source that was innermost stands last of those outside.
use Rattle.std.proofs.Common.{arith}
use Rattle.pending.proofs.Stacks.{reversed_swap}
use Rattle.pending.proofs.sources.put_outside.Goals as goal

pub returns-clause-outer : goal.returns-clause-outer
returns-clause-outer c =
    reversed_swap c.args.outer.now.items c.push.new.self.items c.args.source c.args.innermost.now c.swap.new.y c.len-last.result
    c.in_ok-push.ensures.items (omega arith) c.swap.ensures.y_after
