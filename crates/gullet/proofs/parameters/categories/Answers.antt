-- The categories are those of each byte.
use Rattle.save_groups.specs.Standing.{copies_of}
use Rattle.gullet.proofs.Bytes.{categories-bytes}
use Rattle.gullet.proofs.parameters.categories.Goals as goal

pub returns : goal.returns
returns c = categories-bytes (copies_of c.args.env.now) c.cats-cats.result.now c.get.ensures.size c.cats-cats.ensures
