-- A register without a leaf isn't held.
use Rattle.std.proofs.Common.{◌≡◌, ◌∙◌}
use Rattle.sparse_regs.proofs.Changing.{holders-found, holders-missing}
use Rattle.sparse_regs.proofs.arena.Arena.holders.Goals as goal

pub returns-in-Some : goal.returns-in-Some
returns-in-Some g c =
    rw c.deref.ensures.value at c.holders_at.ensures
    ∙ holders-found g.T.Slot.start c.args.self.now.top c.args.self.now.places.items c.args.self.now.free.items c.in-Some.leaf c.args.number c.requires.linked.stored c.in-Some.ensures.some

pub returns-in-None : goal.returns-in-None
returns-in-None g c = holders-missing g.T.Slot.start c.args.self.now.top c.args.self.now.places.items c.args.self.now.free.items c.args.number c.requires.linked.stored c.in-None.ensures.none
