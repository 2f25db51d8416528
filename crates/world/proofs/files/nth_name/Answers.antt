-- The names are the keys of the map, in its order.
use Rattle.std.proofs.Common.{◌∙◌, ap, Some}
use Rattle.world.proofs.Kept.{name_at}
use Rattle.world.proofs.files.nth_name.Goals as goal

pub returns-in-Some : goal.returns-in-Some
returns-in-Some c =
    ap Some c.as_slice.ensures.value
    ∙ name_at c.args.files.now.entries c.args.n _ c.in-Some.ensures.ordered c.in-Some.ensures.key

pub returns-in-None : goal.returns-in-None
returns-in-None c = name_at c.args.files.now.entries c.args.n _ c.in-None.ensures.ordered c.in-None.ensures.key
