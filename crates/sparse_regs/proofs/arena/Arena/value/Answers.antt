-- The leaf's value is that of its register.
use Rattle.std.proofs.Common.{◌≡◌, ap, ◌∙◌}
use Rattle.std.specs.Option.{option_map}
use Rattle.sparse_regs.specs.declared.node.Register.{Register}
use Rattle.sparse_regs.proofs.Changing.{leaf-known, option_value}
use Rattle.sparse_regs.proofs.arena.Arena.value.Goals as goal

pub returns : goal.returns
returns g c n e =
    option_value (rw c.deref.ensures.value at c.in-Some.ensures
    ∙ ap (option_map (λ (r : Register _). r.value)) (leaf-known g.T.Slot.start c.args.self.now.top c.args.self.now.places.items c.args.self.now.free.items c.args.node n c.requires.arena.stored e))
