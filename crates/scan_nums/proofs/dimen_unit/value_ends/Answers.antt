-- A width is the dimension.
use Rattle.std.proofs.Common.{◌≡◌, ℤ, Option, Some, sym, rules}
use Rattle.scaled.specs.declared.spacing.Order.TheVariants as order
use Rattle.scan_nums.specs.declared.unit.Extent.{Extent}
use Rattle.scan_nums.specs.Units.{extent, multiple}
use Rattle.scan_nums.specs.Dimension.{ends, value_ends}
use Rattle.scan_nums.proofs.DimenLaws.{leads_by}
use Rattle.scan_nums.proofs.dimen_unit.value_ends.Goals as goal

pub returns-in-Some-clause-leads : goal.returns-in-Some-clause-leads
returns-in-Some-clause-leads c =
    λ mu orders x.
    let e : c.extent_of.result ≡ extent c.args.negative c.in-Some.width = search rules in
    leads_by {A = Option ℤ} mu orders (λ w next more. value_ends c.args.negative next w more) (Some c.in-Some.width) c.args.width x _ (sym c.in-Some.is)
    (leads_by {A = Extent} mu orders (λ e next more. ends e order.Normal next more) c.extent_of.result (extent c.args.negative c.in-Some.width) x _ e (c.ends.ensures.leads mu orders x))
