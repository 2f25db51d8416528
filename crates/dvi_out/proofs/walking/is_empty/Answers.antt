use Rattle.dvi_out.proofs.WalkLaws.{empty_is}
use Rattle.dvi_out.proofs.walking.is_empty.Goals as goal

pub returns : goal.returns
returns c = empty_is c.args.boxed.now.list c.is_empty.result c.is_empty.ensures
