use Rattle.std.proofs.Common.{◌≡◌, ◌*◌, ◌^◌, length, pos, to_z, w32, sym, subst, rules}
use Rattle.scaled.specs.ArithmeticQuotients.{IsNearest}
use Rattle.scaled.specs.ArithmeticDecimals.{number_of, fraction_of_digits}
use Rattle.scaled.proofs.DecimalLaws.{IsNearest-fraction_of_digits}
use Rattle.scaled.proofs.decimals.round_decimals.Goals as goal

pub returns-clause-nearest : goal.returns-clause-nearest
returns-clause-nearest c =
    let ds = c.args.digits.now in
    let value : to_z w32 c.halved.result ≡ pos (fraction_of_digits ds) = search rules in
    subst (IsNearest (pos (65536 * number_of ds)) (pos (10 ^ length ds))) (sym value) (IsNearest-fraction_of_digits ds)
