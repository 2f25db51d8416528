-- A digit leads to the state that stands for what is left behind it.
use Rattle.std.proofs.Common.{sym, ◌∙◌}
use Rattle.scan_nums.proofs.DimenLaws.{digit_leads}
use Rattle.scan_nums.proofs.dimen_scan.take_digit.Goals as goal

pub returns-in-Some-clause-leads : goal.returns-in-Some-clause-leads
returns-in-Some-clause-leads c =
    digit_leads c.args.kind.mu c.args.kind.orders c.args.negative c.args.constant c.in-Some.digit c.args.token c.args.meaning.now c.grow.result
    (sym c.digit_of.ensures ∙ c.in-Some.is) c.grow.ensures.step
