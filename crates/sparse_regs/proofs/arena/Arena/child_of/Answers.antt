-- A child has its parent's prefix with a digit more.
use Rattle.std.proofs.Common.{◌≡◌}
use Rattle.sparse_regs.specs.Places.{prefix_from, parent_from, child_from}
use Rattle.sparse_regs.proofs.Changing.{linked-some, linked-none}
use Rattle.sparse_regs.proofs.arena.Arena.child_of.Goals as goal

pub returns-clause-some : goal.returns-clause-some
returns-clause-some g c =
    linked-some (prefix_from c.args.self.now.places.items) (parent_from c.args.self.now.places.items) (child_from c.args.self.now.top c.args.self.now.places.items) c.requires.arena.stored.linked
    c.args.parent c.child.result c.args.digit c.requires.digit c.child.ensures

pub returns-clause-none : goal.returns-clause-none
returns-clause-none g c =
    linked-none (prefix_from c.args.self.now.places.items) (parent_from c.args.self.now.places.items) (child_from c.args.self.now.top c.args.self.now.places.items) c.requires.arena.stored.linked
    c.args.parent c.child.result c.args.digit c.requires.digit c.child.ensures
