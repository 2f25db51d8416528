-- Prefixes are those of the nodes.
use Rattle.std.proofs.Common.{◌≡◌, sym, ◌∙◌, subst}
use Rattle.std.specs.Prelude.{Option, IsSomeAnd}
use Rattle.sparse_regs.specs.declared.prefix.Prefix.{Prefix}
use Rattle.sparse_regs.proofs.Changing.{seen-prefix}
use Rattle.sparse_regs.proofs.tree.Tree.leaf.Goals as goal

pub value-requires-clause-leaf : goal.value-requires-clause-leaf
value-requires-clause-leaf g c =
    let P : Option Prefix → Type 0 = λ x. IsSomeAnd x (λ p. p.digits ≡ 4) in
    subst P (seen-prefix c.self.inside.arena.places.items c.args.node) (rw (← c.self.view_is) at c.requires)

pub returns : goal.returns
returns g c = rw (← c.self.view_is) (λ n e. c.value.ensures n (sym (seen-prefix c.self.inside.arena.places.items c.args.node) ∙ e))
