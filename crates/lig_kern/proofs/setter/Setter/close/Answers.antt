use Rattle.std.proofs.Common.{ap, ◌∙◌}
use Rattle.lig_kern.specs.Rewriting.{Word, closed}
use Rattle.lig_kern.specs.WordOf.{word_of}
use Rattle.lig_kern.proofs.Growing.{histories-set}
use Rattle.lig_kern.proofs.setter.Setter.close.Goals as goal

pub returns-clause-history : goal.returns-clause-history
returns-clause-history c =
    histories-set c.args.metrics.now c.args.self (word_of c.end.new.self) c.args.right c.args.budget.now (word_of c.settle.new.self) c.settle.new.budget c.in_ok-list.list.items
    (c.in_ok-end.ensures ∙ ap (λ (w : Word). closed c.args.right w) c.self.view_is) c.in_ok-settle.ensures.0 c.in_ok-settle.ensures.1 c.in_ok-list.ensures
