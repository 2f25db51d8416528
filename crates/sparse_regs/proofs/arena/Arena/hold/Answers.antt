-- Nodes are made, and then the leaf has one more holder.
use Rattle.std.proofs.Common.{◌≡◌, ap, sym, ◌∙◌}
use Rattle.sparse_regs.specs.Registers.{register_among, with_holder, updated}
use Rattle.sparse_regs.specs.Places.{prefix_from, parent_from, child_from, kept_from}
use Rattle.sparse_regs.proofs.Shaping.{tight-all}
use Rattle.sparse_regs.proofs.Changing.{known-stands, held-stands, grew-indices, grew-slots, updated-alike}
use Rattle.sparse_regs.proofs.arena.Arena.hold.Goals as goal

pub returns-clause-tree : goal.returns-clause-tree
returns-clause-tree g c = record {
  linked = c.add_holder.ensures.arena;
  tight = tight-all g.T.Slot.is_initial c.add_holder.new.self.places.items c.in_ok-leaf.leaf c.add_holder.ensures.tight
      (known-stands g.T.Slot.start g.T.Slot.is_initial c.add_holder.new.self.top c.add_holder.new.self.places.items c.add_holder.new.self.free.items c.in_ok-leaf.leaf c.args.number c.add_holder.ensures.arena.stored
      (c.add_holder.ensures.same.prefixes c.in_ok-leaf.leaf ∙ c.in_ok-leaf.ensures.here)
      ∙ held-stands g.T.Slot.is_initial c.args.number (register_among g.T.Slot.start (kept_from c.leaf_or_new.new.self.places.items) c.args.number) (register_among g.T.Slot.start (kept_from c.add_holder.new.self.places.items) c.args.number) (register_among g.T.Slot.start (kept_from c.leaf_or_new.new.self.places.items)) (c.add_holder.ensures.changed c.args.number));
}

pub returns-clause-indices : goal.returns-clause-indices
returns-clause-indices g c =
    grew-indices g.T.Slot.start c.args.self.now c.leaf_or_new.new.self c.add_holder.new.self.places.items (parent_from c.add_holder.new.self.places.items) (child_from c.add_holder.new.self.top c.add_holder.new.self.places.items)
    c.add_holder.ensures.arena.stored.linked c.in_ok-leaf.ensures.grew c.add_holder.ensures.same

pub returns-clause-slots : goal.returns-clause-slots
returns-clause-slots g c = grew-slots g.T.Slot.start c.args.self.now c.leaf_or_new.new.self c.add_holder.new.self.places.items c.in_ok-leaf.ensures.grew c.add_holder.ensures.same
