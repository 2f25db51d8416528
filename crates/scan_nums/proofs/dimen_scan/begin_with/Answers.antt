-- What is no whole number is the dimension.
use Rattle.std.proofs.Common.{sym}
use Rattle.scan_nums.specs.declared.number.Number.{Number}
use Rattle.scan_nums.specs.declared.number.Number.TheVariants as number
use Rattle.scan_nums.specs.Units.{width_in}
use Rattle.scan_nums.specs.Dimension.{begins_with, value_ends}
use Rattle.scan_nums.proofs.DimenLaws.{leads_by}
use Rattle.scan_nums.proofs.dimen_scan.begin_with.Goals as goal

pub returns-in-Dimen-clause-leads : goal.returns-in-Dimen-clause-leads
returns-in-Dimen-clause-leads c =
    λ x. leads_by {A = Number} c.args.kind.mu c.args.kind.orders (λ n next more. begins_with c.args.kind.mu c.args.kind.orders c.args.negative next n more)
    (number.Dimen c.in-Dimen.field-0) c.args.n x _ (sym c.in-Dimen.is)
    (leads_by {A = Number} c.args.kind.mu c.args.kind.orders (λ n next more. value_ends c.args.negative next (width_in c.args.kind.mu n) more)
    c.args.n (number.Dimen c.in-Dimen.field-0) x _ c.in-Dimen.is (c.begin_with_width.ensures.leads x))

pub returns-in-Glue-clause-leads : goal.returns-in-Glue-clause-leads
returns-in-Glue-clause-leads c =
    λ x. leads_by {A = Number} c.args.kind.mu c.args.kind.orders (λ n next more. begins_with c.args.kind.mu c.args.kind.orders c.args.negative next n more)
    (number.Glue c.in-Glue.field-0) c.args.n x _ (sym c.in-Glue.is)
    (leads_by {A = Number} c.args.kind.mu c.args.kind.orders (λ n next more. value_ends c.args.negative next (width_in c.args.kind.mu n) more)
    c.args.n (number.Glue c.in-Glue.field-0) x _ c.in-Glue.is (c.begin_with_width-in-Glue.ensures.leads x))

pub returns-in-MuGlue-clause-leads : goal.returns-in-MuGlue-clause-leads
returns-in-MuGlue-clause-leads c =
    λ x. leads_by {A = Number} c.args.kind.mu c.args.kind.orders (λ n next more. begins_with c.args.kind.mu c.args.kind.orders c.args.negative next n more)
    (number.MuGlue c.in-MuGlue.field-0) c.args.n x _ (sym c.in-MuGlue.is)
    (leads_by {A = Number} c.args.kind.mu c.args.kind.orders (λ n next more. value_ends c.args.negative next (width_in c.args.kind.mu n) more)
    c.args.n (number.MuGlue c.in-MuGlue.field-0) x _ c.in-MuGlue.is (c.begin_with_width-in-MuGlue.ensures.leads x))
