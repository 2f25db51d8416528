use Rattle.std.proofs.Common.{◌≡◌, [], rules}
use Rattle.lig_kern.specs.WordOf.{word_of}
use Rattle.lig_kern.proofs.Cursors.{ended}
use Rattle.lig_kern.proofs.rewriter.Rewriter.settle.Goals as goal

pub returns : goal.returns
returns c =
    let none : c.pop_front.new.self.items ≡ [] = search rules in (
      ended c.args.metrics.now (word_of c.loop-next.self) (word_of c.args.self.now) c.loop-next.budget c.args.budget.now c.pop_front.new.self.items
          c.loop-next.invariant c.in_default.ensures.items none,
      none,
    )
