use Rattle.std.proofs.Common.{rules}
use Rattle.scaled.proofs.QuotientLaws.{IsTruncated-pair}
use Rattle.scaled.proofs.quotients.truncated.Goals as goal

pub returns-clause-truncated : goal.returns-clause-truncated
returns-clause-truncated c = IsTruncated-pair _ _ _ _ c.requires.divisor (search rules) (search rules)
