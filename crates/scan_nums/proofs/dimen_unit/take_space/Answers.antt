-- A space ends the dimension, and all else stands behind it.
use Rattle.std.proofs.Common.{◌≡◌, Bool, true, false, cond, sym, rules}
use Rattle.scan_nums.specs.Taken.{Seen}
use Rattle.scan_nums.specs.Starts.{is_space}
use Rattle.scan_nums.specs.Dimension.{ends, ends_before}
use Rattle.scan_nums.proofs.DimenLaws.{leads_by}
use Rattle.scan_nums.proofs.dimen_unit.take_space.Goals as goal

pub returns-then-is_space-clause-leads : goal.returns-then-is_space-clause-leads
returns-then-is_space-clause-leads c =
    λ mu orders.
    let e : is_space c.args.meaning.now ≡ true = search rules in
    leads_by {A = Bool} mu orders (λ space next more. cond space (ends c.args.extent c.args.order next more) (ends_before c.args.extent c.args.order next (Seen c.args.token c.args.meaning.now) more)) true (is_space c.args.meaning.now) (Seen c.args.token c.args.meaning.now) _ (sym e) (c.ends.ensures.leads mu orders (Seen c.args.token c.args.meaning.now))

pub returns-else-is_space-clause-leads : goal.returns-else-is_space-clause-leads
returns-else-is_space-clause-leads c =
    λ mu orders.
    let e : is_space c.args.meaning.now ≡ false = search rules in
    leads_by {A = Bool} mu orders (λ space next more. cond space (ends c.args.extent c.args.order next more) (ends_before c.args.extent c.args.order next (Seen c.args.token c.args.meaning.now) more)) false (is_space c.args.meaning.now) (Seen c.args.token c.args.meaning.now) _ (sym e) (c.ends_before.ensures.leads mu orders (Seen c.args.token c.args.meaning.now))
