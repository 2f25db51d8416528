-- No shorter list was passed on the way.
use Rattle.macro_args.proofs.ShortestLaw.{delimited}
use Rattle.macro_args.proofs.laws.delimited_law.Goals as goal

pub returns : goal.returns
returns c = delimited
