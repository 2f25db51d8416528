-- There is a place for each index.
use Rattle.std.proofs.Common.{◌≡◌, arith}
use Rattle.sparse_regs.proofs.Changing.{slots-seen}
use Rattle.sparse_regs.proofs.arena.Arena.slots.Goals as goal

pub returns : goal.returns
returns g c = omega (arith, slots-seen c.args.self.now.places.items, c.args.self.now.places.ok)
