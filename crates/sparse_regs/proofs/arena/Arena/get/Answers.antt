-- A leaf's register is kept, and one without a leaf isn't.
use Rattle.std.proofs.Common.{◌≡◌, ◌∙◌}
use Rattle.sparse_regs.proofs.Changing.{value-found, value-missing}
use Rattle.sparse_regs.proofs.arena.Arena.get.Goals as goal

pub returns-in-Some : goal.returns-in-Some
returns-in-Some g c =
    rw c.deref.ensures.value at c.value_at.ensures
    ∙ value-found g.T.Slot.start g.T.Slot.is_initial c.args.self.now.top c.args.self.now.places.items c.args.self.now.free.items c.in-Some.leaf c.args.number c.requires.linked.stored c.in-Some.ensures.some c.requires.tight

pub returns-in-None : goal.returns-in-None
returns-in-None g c = value-missing g.T.Slot.start g.T.Slot.is_initial c.args.self.now.top c.args.self.now.places.items c.args.self.now.free.items c.args.number c.requires.linked.stored g.met.T.Slot.start_is_initial c.in-None.ensures.none
