-- The register of one leaf changes, and all else stays.
use Rattle.std.proofs.Common.{◌≡◌, ◌<◌, ap, sym, ◌∙◌, subst, arith, w32}
use Rattle.std.proofs.lemmas.Int.{to_z-of_z}
use Rattle.sparse_regs.specs.Prefixes.{whole}
use Rattle.sparse_regs.specs.Registers.{with_resized}
use Rattle.sparse_regs.proofs.Placing.{at-within}
use Rattle.sparse_regs.proofs.Changing.{changed-stored, changed-registers, changed-tight, changed-same, changed-prefixes}
use Rattle.sparse_regs.proofs.arena.Arena.resize_value.Goals as goal

pub returns-clause-arena : goal.returns-clause-arena
returns-clause-arena g c = record {
  stored = rw (c.resize_value.ensures.items, to_z-of_z w32 c.args.value c.ranges.value) (changed-stored (with_resized (g.T.Slot.resized c.args.part c.args.value)) c.args.self.now.top c.args.self.now.places.items c.args.self.now.free.items c.args.leaf (at-within c.args.self.now.places.items c.args.leaf (whole c.args.number) c.requires.here) c.requires.arena.stored);
  room = omega (arith, c.resize_value.ensures.len, c.requires.arena.room);
}

pub returns-clause-changed : goal.returns-clause-changed
returns-clause-changed g c m =
    rw (c.resize_value.ensures.items, to_z-of_z w32 c.args.value c.ranges.value) (changed-registers g.T.Slot.start (with_resized (g.T.Slot.resized c.args.part c.args.value)) c.args.self.now.top c.args.self.now.places.items c.args.self.now.free.items c.args.leaf c.args.number c.requires.arena.stored c.requires.here m)

pub returns-clause-same : goal.returns-clause-same
returns-clause-same g c = changed-same (with_resized (g.T.Slot.resized c.args.part c.args.value)) c.args.self.now.places.items c.resize_value.new.places.items c.args.leaf (at-within c.args.self.now.places.items c.args.leaf (whole c.args.number) c.requires.here) (rw (to_z-of_z w32 c.args.value c.ranges.value) at c.resize_value.ensures.items)

pub returns-clause-tight : goal.returns-clause-tight
returns-clause-tight g c = rw (c.resize_value.ensures.items, to_z-of_z w32 c.args.value c.ranges.value) (changed-tight g.T.Slot.is_initial (with_resized (g.T.Slot.resized c.args.part c.args.value)) c.args.self.now.places.items c.args.leaf c.requires.tight)

pub returns-clause-prefixes : goal.returns-clause-prefixes
returns-clause-prefixes g c = changed-prefixes (with_resized (g.T.Slot.resized c.args.part c.args.value)) c.args.self.now.places.items c.resize_value.new.places.items c.args.leaf (rw (to_z-of_z w32 c.args.value c.ranges.value) at c.resize_value.ensures.items)
