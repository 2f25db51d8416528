use Rattle.std.proofs.Common.{◌≡◌, ◌*ℤ◌, Some, rules}
use Rattle.scaled.specs.ArithmeticQuotients.{nearest_quotient, within, fraction_of}
use Rattle.scaled.proofs.QuotientLaws.{fraction_of-some, fraction_of-none, IsNearest-fraction_of}
use Rattle.scaled.proofs.quotients.fraction.Goals as goal

value_is : (c : goal.After-within) → c.within.result ≡ fraction_of c.args.x c.args.y c.args.z c.args.max
value_is c =
    let found : Some c.in-Some.quotient ≡ nearest_quotient (c.args.x *ℤ c.args.y) c.args.z = search rules in
    let held : c.within.result ≡ within c.args.max c.in-Some.quotient = search rules in
    fraction_of-some c.args.x c.args.y c.args.z c.args.max c.in-Some.quotient c.within.result found held

pub returns-in-Some-clause-value : goal.returns-in-Some-clause-value
returns-in-Some-clause-value c = value_is c

pub returns-in-Some-clause-none : goal.returns-in-Some-clause-none
returns-in-Some-clause-none c = fraction_of-none c.args.x c.args.y c.args.z c.args.max _ (value_is c)

pub returns-in-Some-clause-nearest : goal.returns-in-Some-clause-nearest
returns-in-Some-clause-nearest c = IsNearest-fraction_of c.args.x c.args.y c.args.z c.args.max _ (value_is c)
