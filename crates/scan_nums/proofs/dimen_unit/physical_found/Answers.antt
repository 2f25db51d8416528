-- The size is that of so many units, and other keywords are none.
use Rattle.std.proofs.Common.{ℕ, pos, sym}
use Rattle.scaled.specs.declared.spacing.Order.TheVariants as order
use Rattle.scan_nums.specs.declared.keyword.UnitName.{UnitName}
use Rattle.scan_nums.specs.declared.keyword.UnitName.TheVariants.{Em, Ex, True, Fil, Mu, Physical}
use Rattle.scan_nums.specs.Units.{extent, physical_size}
use Rattle.scan_nums.specs.Dimension.{space_ends, physical_found}
use Rattle.scan_nums.proofs.DimenLaws.{leads_by}
use Rattle.scan_nums.proofs.dimen_unit.physical_found.Goals as goal

pub returns-in-Physical-clause-leads : goal.returns-in-Physical-clause-leads
returns-in-Physical-clause-leads c =
    λ mu orders x. leads_by {A = UnitName} mu orders (λ name next more. physical_found c.args.negative c.args.factor.whole c.args.factor.fraction next name more) (Physical c.in-Physical.physical) c.args.name x _ (sym c.in-Physical.is)
    (leads_by {A = ℕ} mu orders (λ n next more. space_ends (extent c.args.negative (pos n)) order.Normal next more) c.physical_size.result (physical_size c.in-Physical.physical c.args.factor.whole c.args.factor.fraction) x _ c.physical_size.ensures (c.sized.ensures.leads mu orders x))

pub returns-in-Em-clause-leads : goal.returns-in-Em-clause-leads
returns-in-Em-clause-leads c =
    λ mu orders x. leads_by {A = UnitName} mu orders (λ name next more. physical_found c.args.negative c.args.factor.whole c.args.factor.fraction next name more) Em c.args.name x _ (sym c.in-Em.is) (c.no_unit.ensures.leads mu orders x)

pub returns-in-Ex-clause-leads : goal.returns-in-Ex-clause-leads
returns-in-Ex-clause-leads c =
    λ mu orders x. leads_by {A = UnitName} mu orders (λ name next more. physical_found c.args.negative c.args.factor.whole c.args.factor.fraction next name more) Ex c.args.name x _ (sym c.in-Ex.is) (c.no_unit-in-Ex.ensures.leads mu orders x)

pub returns-in-Mu-clause-leads : goal.returns-in-Mu-clause-leads
returns-in-Mu-clause-leads c =
    λ mu orders x. leads_by {A = UnitName} mu orders (λ name next more. physical_found c.args.negative c.args.factor.whole c.args.factor.fraction next name more) Mu c.args.name x _ (sym c.in-Mu.is) (c.no_unit-in-Mu.ensures.leads mu orders x)

pub returns-in-Fil-clause-leads : goal.returns-in-Fil-clause-leads
returns-in-Fil-clause-leads c =
    λ mu orders x. leads_by {A = UnitName} mu orders (λ name next more. physical_found c.args.negative c.args.factor.whole c.args.factor.fraction next name more) Fil c.args.name x _ (sym c.in-Fil.is) (c.no_unit-in-Fil.ensures.leads mu orders x)

pub returns-in-True-clause-leads : goal.returns-in-True-clause-leads
returns-in-True-clause-leads c =
    λ mu orders x. leads_by {A = UnitName} mu orders (λ name next more. physical_found c.args.negative c.args.factor.whole c.args.factor.fraction next name more) True c.args.name x _ (sym c.in-True.is) (c.no_unit-in-True.ensures.leads mu orders x)
