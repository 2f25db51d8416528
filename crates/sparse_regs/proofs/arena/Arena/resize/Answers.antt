-- A leaf that had to stand still has to.
use Rattle.std.proofs.Common.{◌≡◌, ◌∙◌, w32}
use Rattle.std.proofs.lemmas.Int.{to_z-of_z}
use Rattle.sparse_regs.specs.Registers.{register_among}
use Rattle.sparse_regs.specs.Places.{kept_from}
use Rattle.sparse_regs.proofs.Shaping.{tight-all}
use Rattle.sparse_regs.proofs.Changing.{known-stands, resized-stands-too}
use Rattle.sparse_regs.proofs.arena.Arena.resize.Goals as goal

pub returns-clause-tree : goal.returns-clause-tree
returns-clause-tree g c = record {
  linked = c.resize_value.ensures.arena;
  tight = tight-all g.T.Slot.is_initial c.resize_value.new.self.places.items c.leaf-leaf.result c.resize_value.ensures.tight
      (known-stands g.T.Slot.start g.T.Slot.is_initial c.resize_value.new.self.top c.resize_value.new.self.places.items c.resize_value.new.self.free.items c.leaf-leaf.result c.args.number c.resize_value.ensures.arena.stored
      (c.resize_value.ensures.same.prefixes c.leaf-leaf.result ∙ c.leaf-leaf.ensures)
      ∙ resized-stands-too g.T.Slot.is_initial c.args.number (g.T.Slot.resized c.args.part c.args.value) (register_among g.T.Slot.start (kept_from c.args.self.now.places.items) c.args.number)
      (register_among g.T.Slot.start (kept_from c.resize_value.new.self.places.items) c.args.number) (register_among g.T.Slot.start (kept_from c.args.self.now.places.items)) (rw (to_z-of_z w32 c.args.value c.ranges.value) at (c.resize_value.ensures.changed c.args.number))
      (g.met.T.Slot.resized_is_initial c.args.part c.args.value _) c.requires.kept);
}
