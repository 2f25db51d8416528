-- What begins with no mark is read as a decimal constant.
use Rattle.std.proofs.Common.{sym, ◌∙◌}
use Rattle.scan_nums.proofs.ConstantLaws.{other_kept}
use Rattle.scan_nums.proofs.int_scan.begin.Goals as goal

pub returns-in-Other-clause-kept : goal.returns-in-Other-clause-kept
returns-in-Other-clause-kept c =
    other_kept c.args.negative c.args.token c.args.meaning.now c.take_digit.result.0 c.take_digit.result.1
    (sym c.requires ∙ c.in-Other.is) c.take_digit.ensures.kept
