-- A list that was made is that of its tokens.
use Rattle.gullet.proofs.Bytes.{list_of-given}
use Rattle.gullet.proofs.acts.list_from.Goals as goal

pub returns-in-Ok : goal.returns-in-Ok
returns-in-Ok c = list_of-given c.args.tokens.now c.in-Ok.list c.in-Ok.ensures.gives
