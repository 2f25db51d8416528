-- The width is that of the quantity.
use Rattle.std.proofs.Common.{ℤ, Option}
use Rattle.scan_nums.specs.Units.{width_in}
use Rattle.scan_nums.specs.Dimension.{value_ends}
use Rattle.scan_nums.proofs.DimenLaws.{leads_by}
use Rattle.scan_nums.proofs.dimen_scan.begin_with_width.Goals as goal

pub returns-clause-leads : goal.returns-clause-leads
returns-clause-leads c =
    λ x. leads_by {A = Option ℤ} c.args.kind.mu c.args.kind.orders (λ width next more. value_ends c.args.negative next width more)
    c.width_in.result (width_in c.args.kind.mu c.args.n) x _ c.width_in.ensures (c.value_ends.ensures.leads c.args.kind.mu c.args.kind.orders x)
