-- The leaf changes, and then goes where it need not stand.
use Rattle.sparse_regs.specs.Places.{parent_from, child_from}
use Rattle.sparse_regs.proofs.Changing.{shrank-indices, shrank-slots}
use Rattle.sparse_regs.proofs.arena.Arena.release.Goals as goal

pub returns-clause-indices : goal.returns-clause-indices
returns-clause-indices g c =
    shrank-indices g.T.Slot.start c.args.self.now.places.items c.drop_holder.new.self c.prune.new.self (parent_from c.args.self.now.places.items) (child_from c.args.self.now.top c.args.self.now.places.items)
    c.requires.tree.linked.stored.linked c.drop_holder.ensures.same c.prune.ensures.shrank

pub returns-clause-slots : goal.returns-clause-slots
returns-clause-slots g c = shrank-slots g.T.Slot.start c.args.self.now.places.items c.drop_holder.new.self c.prune.new.self c.drop_holder.ensures.same c.prune.ensures.shrank
