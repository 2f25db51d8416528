use Rattle.std.proofs.Common.{subst, sym, []}
use Rattle.lig_kern.specs.Rewriting.{Word}
use Rattle.lig_kern.specs.Histories.{StandsFor}
use Rattle.lig_kern.proofs.Growing.{history-new}
use Rattle.lig_kern.proofs.setter.Setter.new.Goals as goal

pub returns-clause-history : goal.returns-clause-history
returns-clause-history c = λ metrics.
    subst (λ (w : Word). StandsFor metrics c.args.font c.args.left [] 0 w) (sym c.new.ensures) (history-new metrics c.args.font c.args.left)
