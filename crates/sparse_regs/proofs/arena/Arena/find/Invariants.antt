-- The node that was reached has the digits so far.
use Rattle.std.proofs.Common.{◌≡◌}
use Rattle.std.specs.Prelude.{Some}
use Rattle.sparse_regs.specs.Prefixes.{digits_of}
use Rattle.sparse_regs.specs.Linked.{of}
use Rattle.sparse_regs.specs.Places.{prefix_from}
use Rattle.sparse_regs.proofs.Paths.{first}
use Rattle.sparse_regs.proofs.arena.Arena.find.Given as goal

abbrev pub invariant-loop-digit : goal.invariant-loop-digit
invariant-loop-digit g l = record {
  path : l.digits ≡ digits_of l.number;
  above : of (prefix_from l.self.places.items) l.node ≡ Some (first l.digit-index l.number);
}
