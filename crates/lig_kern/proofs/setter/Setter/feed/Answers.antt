use Rattle.std.proofs.Common.{ap}
use Rattle.lig_kern.specs.Rewriting.{Word, with_fed}
use Rattle.lig_kern.specs.WordOf.{word_of}
use Rattle.lig_kern.proofs.Growing.{histories-fed}
use Rattle.lig_kern.proofs.setter.Setter.feed.Goals as goal

pub returns-clause-history : goal.returns-clause-history
returns-clause-history c =
    histories-fed c.args.metrics.now c.args.byte c.args.self.now (with_fed c.args.byte (word_of c.self.inside.rewriter)) c.args.budget.now c.feed.result (word_of c.feed.new.self) c.feed.new.budget
    (ap (λ (w : Word). with_fed c.args.byte w) c.self.view_is) c.feed.ensures
