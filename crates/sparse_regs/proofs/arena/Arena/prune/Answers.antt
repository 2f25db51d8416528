-- Each turn takes a node away that need not stand, and goes on with its parent.
use Rattle.std.proofs.Common.{◌≡◌, ap, sym, ◌∙◌, arith}
use Rattle.std.specs.Prelude.{Some, None}
use Rattle.sparse_regs.specs.Places.{stands_in, node_at}
use Rattle.sparse_regs.proofs.Shaping.{shrank-trans, tight-all, climb-smaller, climb-here}
use Rattle.sparse_regs.proofs.arena.Arena.prune.Goals as goal

pub climbing-smaller : goal.climbing-smaller
climbing-smaller g c =
    rw c.in-Some.is (climb-smaller c.climbing.self.places.items c.in-Some.at _ (rw c.in-Some.is at c.climbing.invariant.here) c.climbing.invariant.arena.stored.linked.shaped c.remove-next.ensures.above)

pub climbing-preserved : goal.climbing-preserved
climbing-preserved g c = record {
  arena = c.remove-next.ensures.arena;
  here = climb-here c.climbing.self.places.items c.remove-next.new.self.places.items c.in-Some.at c.remove-next.result (rw c.in-Some.is at c.climbing.invariant.here) c.remove-next.ensures.above;
  shrank = shrank-trans g.T.Slot.start c.args.self.now c.climbing.self c.remove-next.new.self c.climbing.invariant.shrank c.remove-next.ensures.shrank;
  tight = c.remove-next.ensures.tight (rw c.in-Some.is at c.climbing.invariant.tight);
}

pub returns-then-stands-clause-tree : goal.returns-then-stands-clause-tree
returns-then-stands-clause-tree g c = record {
  linked = c.climbing.invariant.arena;
  tight = tight-all g.T.Slot.is_initial c.climbing.self.places.items c.in-Some.at (rw c.in-Some.is at c.climbing.invariant.tight)
      (ap (λ xs. stands_in g.T.Slot.is_initial (node_at xs c.in-Some.at)) (sym c.deref.ensures.value) ∙ sym c.stands.ensures ∙ c.if-stands.true);
}
