-- Where a child is missing on the way to a register, it has no leaf.
use Rattle.std.proofs.Common.{◌≡◌, ap, sym, ◌∙◌, refl, arith, length}
use Rattle.std.specs.Prelude.{slice_index_or}
use Rattle.sparse_regs.specs.Places.{prefix_from, parent_from, child_from}
use Rattle.sparse_regs.proofs.Paths.{way-ends, if_none}
use Rattle.sparse_regs.proofs.arena.Arena.find.Goals as goal

pub loop-digit-init : goal.loop-digit-init
loop-digit-init g c = record { path = c.as_slice-digits.ensures.value ∙ c.path-path.ensures; above = refl }

pub returns-in_err-child-clause-none : goal.returns-in_err-child-clause-none
returns-in_err-child-clause-none g c =
    if_none _ _ (way-ends (prefix_from c.args.self.now.places.items) (parent_from c.args.self.now.places.items) (child_from c.args.self.now.top c.args.self.now.places.items) c.requires.stored.linked
    c.args.number c.loop-digit.digit-index (slice_index_or c.as_slice-digits.result.now c.loop-digit.digit-index 0) c.loop-digit.node
    (omega (arith, ap length c.loop-digit.invariant.path)) (omega arith) (ap (λ xs. slice_index_or xs c.loop-digit.digit-index 0) c.loop-digit.invariant.path)
    c.loop-digit.invariant.above (sym c.child.ensures ∙ c.in_err-child.was))
