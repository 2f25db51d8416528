-- Each state hands its value to its function.
use Rattle.std.proofs.Common.{ℤ, Option}
use Rattle.scan_nums.specs.Taken.{Told}
use Rattle.scan_nums.specs.Units.{width_in}
use Rattle.scan_nums.specs.Dimension.{multiple_ends}
use Rattle.scan_nums.specs.declared.dimen_state.DimenState.TheVariants.{Asked, UnitAsked, FontAsked}
use Rattle.scan_nums.proofs.DimenLaws.{leads_by, leads_state}
use Rattle.scan_nums.proofs.dimen_scan.take_value.Goals as goal

pub returns-in-Asked-clause-leads : goal.returns-in-Asked-clause-leads
returns-in-Asked-clause-leads c =
    leads_state c.args.kind.mu c.args.kind.orders c.args.state (Asked c.in-Asked.negative) (Told c.args.n) _ c.in-Asked.is (c.begin_with.ensures.leads (Told c.args.n))

pub returns-in-UnitAsked-clause-leads : goal.returns-in-UnitAsked-clause-leads
returns-in-UnitAsked-clause-leads c =
    leads_state c.args.kind.mu c.args.kind.orders c.args.state (UnitAsked c.in-UnitAsked.negative c.in-UnitAsked.factor) (Told c.args.n) _ c.in-UnitAsked.is
    (leads_by {A = Option ℤ} c.args.kind.mu c.args.kind.orders (λ width next more. multiple_ends c.in-UnitAsked.negative c.in-UnitAsked.factor.whole c.in-UnitAsked.factor.fraction next width more)
    c.width_in.result (width_in c.args.kind.mu c.args.n) (Told c.args.n) _ c.width_in.ensures (c.multiple_ends.ensures.leads c.args.kind.mu c.args.kind.orders (Told c.args.n)))

pub returns-in-FontAsked-clause-leads : goal.returns-in-FontAsked-clause-leads
returns-in-FontAsked-clause-leads c =
    leads_state c.args.kind.mu c.args.kind.orders c.args.state (FontAsked c.in-FontAsked.negative c.in-FontAsked.factor) (Told c.args.n) _ c.in-FontAsked.is (c.font_unit.ensures.leads c.args.kind.mu c.args.kind.orders (Told c.args.n))
