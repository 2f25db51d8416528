-- A register that is kept has a leaf.
use Rattle.sparse_regs.proofs.Changing.{kept-leaf}
use Rattle.sparse_regs.proofs.arena.Arena.leaf.Goals as goal

pub unreachable-requires : goal.unreachable-requires
unreachable-requires g c =
    kept-leaf g.T.Slot.start g.T.Slot.is_initial c.args.self.now.top c.args.self.now.places.items c.args.self.now.free.items c.args.number c.requires.tree.linked.stored
    g.met.T.Slot.start_is_initial c.requires.kept c.in-None.ensures.none
