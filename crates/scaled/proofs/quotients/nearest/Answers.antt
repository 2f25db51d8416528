use Rattle.std.proofs.Common.{rules}
use Rattle.scaled.proofs.QuotientLaws.{IsNearest-from_value, alone_from_value}
use Rattle.scaled.proofs.quotients.nearest.Goals as goal

pub returns-then-n-d-clause-nearest : goal.returns-then-n-d-clause-nearest
returns-then-n-d-clause-nearest c = IsNearest-from_value c.args.n c.args.d _ (search rules)

pub returns-then-n-d-clause-alone : goal.returns-then-n-d-clause-alone
returns-then-n-d-clause-alone c = alone_from_value c.args.n c.args.d _ (search rules)

pub returns-else-n-d-clause-nearest : goal.returns-else-n-d-clause-nearest
returns-else-n-d-clause-nearest c = IsNearest-from_value c.args.n c.args.d _ (search rules)

pub returns-else-n-d-clause-alone : goal.returns-else-n-d-clause-alone
returns-else-n-d-clause-alone c = alone_from_value c.args.n c.args.d _ (search rules)
