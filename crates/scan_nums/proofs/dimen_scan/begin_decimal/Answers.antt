-- A point may stand first.
use Rattle.std.proofs.Common.{◌≡◌, Bool, true, false, cond, [], ◌∷◌, sym, rules}
use Rattle.scan_nums.specs.declared.constant.Radix.TheVariants.{Base10}
use Rattle.scan_nums.specs.Taken.{Seen}
use Rattle.scan_nums.specs.Constants.{constant}
use Rattle.scan_nums.specs.Dimension.{is_point, fraction, behind_constant}
use Rattle.scan_nums.proofs.DimenLaws.{leads_by}
use Rattle.scan_nums.proofs.dimen_scan.begin_decimal.Goals as goal

pub returns-then-is_point-clause-leads : goal.returns-then-is_point-clause-leads
returns-then-is_point-clause-leads c =
    let e : is_point c.args.token ≡ true = search rules in
    leads_by {A = Bool} c.args.kind.mu c.args.kind.orders (λ point next more. cond point (fraction c.args.kind.mu c.args.kind.orders c.args.negative 0 [] next more) (constant Base10 (behind_constant Base10 c.args.kind.mu c.args.kind.orders c.args.negative next) (Seen c.args.token c.args.meaning.now ∷ more)))
    true (is_point c.args.token) (Seen c.args.token c.args.meaning.now) _ (sym e) (c.behind_point.ensures.leads c.args.kind.mu c.args.kind.orders (Seen c.args.token c.args.meaning.now))

pub returns-else-is_point-clause-leads : goal.returns-else-is_point-clause-leads
returns-else-is_point-clause-leads c =
    let e : is_point c.args.token ≡ false = search rules in
    leads_by {A = Bool} c.args.kind.mu c.args.kind.orders (λ point next more. cond point (fraction c.args.kind.mu c.args.kind.orders c.args.negative 0 [] next more) (constant Base10 (behind_constant Base10 c.args.kind.mu c.args.kind.orders c.args.negative next) (Seen c.args.token c.args.meaning.now ∷ more)))
    false (is_point c.args.token) (Seen c.args.token c.args.meaning.now) _ (sym e) c.take_digit.ensures.leads
