-- A digit leads to the state that stands for what is left behind it.
use Rattle.std.proofs.Common.{sym, ◌∙◌}
use Rattle.scan_nums.proofs.ConstantLaws.{digit_kept}
use Rattle.scan_nums.proofs.int_scan.take_digit.Goals as goal

pub returns-in-Some-clause-kept : goal.returns-in-Some-clause-kept
returns-in-Some-clause-kept c =
    digit_kept c.args.negative c.args.constant c.in-Some.digit c.args.token c.args.meaning.now c.grow.result.0 c.grow.result.1
    (sym c.digit_of.ensures ∙ c.in-Some.is) c.grow.ensures.state c.grow.ensures.verdict
