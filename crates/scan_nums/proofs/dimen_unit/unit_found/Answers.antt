-- The size is that of so many units.
use Rattle.std.proofs.Common.{◌≡◌, ℕ, pos, sym, rules}
use Rattle.scaled.specs.declared.spacing.Order.TheVariants as order
use Rattle.scan_nums.specs.declared.keyword.UnitName.{UnitName}
use Rattle.scan_nums.specs.declared.keyword.UnitName.TheVariants.{Mu, Physical}
use Rattle.scan_nums.specs.Units.{extent, in_units, physical_size}
use Rattle.scan_nums.specs.Dimension.{space_ends, unit_found}
use Rattle.scan_nums.proofs.DimenLaws.{leads_by}
use Rattle.scan_nums.proofs.dimen_unit.unit_found.Goals as goal

pub returns-in-Mu-clause-leads : goal.returns-in-Mu-clause-leads
returns-in-Mu-clause-leads c =
    λ mu orders x.
    let e : c.in_units-in-Mu.result ≡ in_units c.args.factor.whole c.args.factor.fraction = search rules in
    leads_by {A = UnitName} mu orders (λ name next more. unit_found c.args.negative c.args.factor.whole c.args.factor.fraction next name more) Mu c.args.name x _ (sym c.in-Mu.is)
    (leads_by {A = ℕ} mu orders (λ n next more. space_ends (extent c.args.negative (pos n)) order.Normal next more) c.in_units-in-Mu.result (in_units c.args.factor.whole c.args.factor.fraction) x _ e (c.sized.ensures.leads mu orders x))

pub returns-in-Physical-clause-leads : goal.returns-in-Physical-clause-leads
returns-in-Physical-clause-leads c =
    λ mu orders x.
    let e : c.physical_size.result ≡ physical_size c.in-Physical.physical c.args.factor.whole c.args.factor.fraction = search rules in
    leads_by {A = UnitName} mu orders (λ name next more. unit_found c.args.negative c.args.factor.whole c.args.factor.fraction next name more) (Physical c.in-Physical.physical) c.args.name x _ (sym c.in-Physical.is)
    (leads_by {A = ℕ} mu orders (λ n next more. space_ends (extent c.args.negative (pos n)) order.Normal next more) c.physical_size.result (physical_size c.in-Physical.physical c.args.factor.whole c.args.factor.fraction) x _ e (c.sized-in-Physical.ensures.leads mu orders x))
