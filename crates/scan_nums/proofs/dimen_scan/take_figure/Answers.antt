-- A digit leads to the state that stands for what is left behind it.
use Rattle.std.proofs.Common.{sym, ◌∙◌}
use Rattle.scan_nums.proofs.DimenLaws.{figure_leads}
use Rattle.scan_nums.proofs.dimen_scan.take_figure.Goals as goal

pub returns-in-Some-clause-leads : goal.returns-in-Some-clause-leads
returns-in-Some-clause-leads c =
    figure_leads c.args.kind.mu c.args.kind.orders c.args.negative c.args.whole c.args.decimals c.with_digit.result c.in-Some.digit c.args.token c.args.meaning.now c.at.result
    (sym c.figure_of.ensures.value ∙ c.in-Some.is) c.with_digit.ensures c.at.ensures
