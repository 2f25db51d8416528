-- A point may stand behind decimal digits.
use Rattle.std.proofs.Common.{◌≡◌, Bool, true, cond, Some, [], ◌∷◌, sym, rules}
use Rattle.scan_nums.specs.declared.constant.Radix.{Radix}
use Rattle.scan_nums.specs.declared.constant.Radix.TheVariants.{Base10}
use Rattle.scan_nums.specs.Taken.{Seen}
use Rattle.scan_nums.specs.Dimension.{is_point, fraction, unit, behind_constant}
use Rattle.scan_nums.proofs.DimenLaws.{leads_by}
use Rattle.scan_nums.proofs.dimen_scan.end_constant.Goals as goal

pub returns-then-is_point-clause-leads : goal.returns-then-is_point-clause-leads
returns-then-is_point-clause-leads c =
    let e : is_point c.args.token ≡ true = search rules in
    leads_by {A = Radix} c.args.kind.mu c.args.kind.orders (λ radix next more. behind_constant radix c.args.kind.mu c.args.kind.orders c.args.negative next (Some c.args.whole) (Seen c.args.token c.args.meaning.now ∷ more))
    Base10 c.args.radix (Seen c.args.token c.args.meaning.now) _ (sym c.in-Base10.is)
    (leads_by {A = Bool} c.args.kind.mu c.args.kind.orders (λ point next more. cond point (fraction c.args.kind.mu c.args.kind.orders c.args.negative c.args.whole [] next more) (unit c.args.kind.mu c.args.kind.orders c.args.negative c.args.whole 0 next (Seen c.args.token c.args.meaning.now ∷ more)))
    true (is_point c.args.token) (Seen c.args.token c.args.meaning.now) _ (sym e) (c.behind_point.ensures.leads c.args.kind.mu c.args.kind.orders (Seen c.args.token c.args.meaning.now)))
