-- The node that was reached has the digits so far, and there is room for the rest of the way.
use Rattle.std.proofs.Common.{◌≡◌, ◌-◌}
use Rattle.std.specs.Prelude.{Some, None}
use Rattle.sparse_regs.specs.Prefixes.{digits_of}
use Rattle.sparse_regs.specs.Linked.{of}
use Rattle.sparse_regs.specs.Places.{IsArena, HasRoom, Grew, IsTightBut, prefix_from}
use Rattle.sparse_regs.proofs.Paths.{first}
use Rattle.sparse_regs.proofs.arena.Arena.reach.Given as goal

abbrev pub invariant-loop-digit : goal.invariant-loop-digit
invariant-loop-digit g l = record {
  arena : IsArena l.self;
  path : l.digits ≡ digits_of l.number;
  prefix : l.prefix ≡ first l.digit-index l.number;
  above : of (prefix_from l.self.places.items) l.node ≡ Some (first l.digit-index l.number);
  room : HasRoom (4 - l.digit-index) l.self;
  grew : Grew g.T.Slot.start l.fn.self l.self;
  tight : IsTightBut g.T.Slot.is_initial None l.fn.self.places.items → IsTightBut g.T.Slot.is_initial l.node l.self.places.items;
}
