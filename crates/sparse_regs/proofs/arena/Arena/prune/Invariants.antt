-- All nodes have to stand but the one that is next, and each turn goes up by a digit.
use Rattle.std.proofs.Common.{◌≡◌}
use Rattle.std.specs.Prelude.{IfSome, IsSome}
use Rattle.sparse_regs.specs.Linked.{of}
use Rattle.sparse_regs.specs.Places.{IsArena, Shrank, IsTightBut, prefix_from, node_at}
use Rattle.sparse_regs.proofs.Paths.{height}
use Rattle.sparse_regs.proofs.arena.Arena.prune.Given as goal

abbrev pub invariant-climbing : goal.invariant-climbing
invariant-climbing g l = record {
  arena : IsArena l.self;
  here : IfSome l.next (λ at. IsSome (node_at l.self.places.items at));
  shrank : Shrank g.T.Slot.start l.fn.self l.self;
  tight : IsTightBut g.T.Slot.is_initial l.next l.self.places.items;
}

abbrev pub decreases-climbing : goal.decreases-climbing
decreases-climbing g l = height (of (prefix_from l.self.places.items) l.next)
