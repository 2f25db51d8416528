-- Prefixes and indices are those of the nodes.
use Rattle.std.proofs.Common.{◌≡◌, sym, ◌∙◌}
use Rattle.sparse_regs.specs.Prefixes.{longer}
use Rattle.sparse_regs.proofs.Changing.{child-some, child-none, seen-of}
use Rattle.sparse_regs.proofs.NodeCount.{child-index, child-stands, standing-prefixes}
use Rattle.sparse_regs.proofs.tree.Tree.child.Goals as goal

pub returns-clause-some : goal.returns-clause-some
returns-clause-some g c = rw (← c.self.view_is) (child-some c.self.inside.arena.places.items c.args.parent c.child_of.result c.args.digit c.child_of.ensures.some)

pub returns-clause-none : goal.returns-clause-none
returns-clause-none g c = rw (← c.self.view_is) (child-none c.self.inside.arena.places.items c.args.parent c.child_of.result c.args.digit c.child_of.ensures.none)

pub returns-clause-index : goal.returns-clause-index
returns-clause-index g c =
    rw (← c.self.view_is) (λ p e. child-index c.self.inside.arena.places.items (longer p c.args.digit) c.child_of.result c.self.invariant.linked.stored.linked.one
    (c.child_of.ensures.some p (sym (seen-of c.self.inside.arena.places.items c.args.parent) ∙ e))
    (c.child_of.ensures.none p (sym (seen-of c.self.inside.arena.places.items c.args.parent) ∙ e)))

pub returns-clause-stands : goal.returns-clause-stands
returns-clause-stands g c =
    rw (← c.self.view_is) (λ p numbers e lists. child-stands c.self.inside.arena.places.items (longer p c.args.digit) c.child_of.result
    (c.child_of.ensures.some p (sym (seen-of c.self.inside.arena.places.items c.args.parent) ∙ e))
    (c.child_of.ensures.none p (sym (seen-of c.self.inside.arena.places.items c.args.parent) ∙ e))
    ∙ standing-prefixes g.T.Slot.start g.T.Slot.is_initial c.self.inside.arena.top c.self.inside.arena.places.items c.self.inside.arena.free.items c.self.invariant.linked.stored c.self.invariant.tight g.met.T.Slot.start_is_initial numbers lists (longer p c.args.digit))
