-- The register of one leaf changes, and all else stays.
use Rattle.std.proofs.Common.{◌≡◌, ◌<◌, ◌^◌, ℕ, ap, sym, ◌∙◌, subst, arith, List, refl}
use Rattle.std.specs.Prelude.{Option, Some, None, IfSome, IsSome, slice_set}
use Rattle.std.specs.Option.{option_map}
use Rattle.sparse_regs.specs.declared.node.Register.{Register}
use Rattle.sparse_regs.specs.declared.node.Node.{Node}
use Rattle.sparse_regs.specs.Prefixes.{whole}
use Rattle.sparse_regs.specs.Registers.{register_among, with_holder, without_holder, with_value, with_resized}
use Rattle.sparse_regs.specs.Places.{leaf_in, node_at, kept_from, IsStored, IsTightBut}
use Rattle.sparse_regs.proofs.Placing.{at-within}
use Rattle.sparse_regs.proofs.Changing.{leaf-known, changed-stored, changed-registers, changed-tight, changed-same, option_value}
use Rattle.sparse_regs.proofs.arena.Arena.replace_value.Goals as goal

pub replace_value-requires-clause-leaf : goal.replace_value-requires-clause-leaf
replace_value-requires-clause-leaf g c =
    let P : Option (Register _) → Type 0 = λ x. IsSome x in
    subst P (sym (leaf-known g.T.Slot.start c.args.self.now.top c.args.self.now.places.items c.args.self.now.free.items c.args.leaf c.args.number c.requires.arena.stored c.requires.here)) refl

pub returns-clause-arena : goal.returns-clause-arena
returns-clause-arena g c = record {
  stored = rw c.replace_value.ensures.items (changed-stored (with_value c.args.value) c.args.self.now.top c.args.self.now.places.items c.args.self.now.free.items c.args.leaf (at-within c.args.self.now.places.items c.args.leaf (whole c.args.number) c.requires.here) c.requires.arena.stored);
  room = omega (arith, c.replace_value.ensures.len, c.requires.arena.room);
}

pub returns-clause-changed : goal.returns-clause-changed
returns-clause-changed g c m =
    rw c.replace_value.ensures.items (changed-registers g.T.Slot.start (with_value c.args.value) c.args.self.now.top c.args.self.now.places.items c.args.self.now.free.items c.args.leaf c.args.number c.requires.arena.stored c.requires.here m)

pub returns-clause-same : goal.returns-clause-same
returns-clause-same g c = changed-same (with_value c.args.value) c.args.self.now.places.items c.replace_value.new.places.items c.args.leaf (at-within c.args.self.now.places.items c.args.leaf (whole c.args.number) c.requires.here) c.replace_value.ensures.items

pub returns-clause-tight : goal.returns-clause-tight
returns-clause-tight g c = rw c.replace_value.ensures.items (changed-tight g.T.Slot.is_initial (with_value c.args.value) c.args.self.now.places.items c.args.leaf c.requires.tight)

pub returns-clause-old : goal.returns-clause-old
returns-clause-old g c = option_value (sym c.replace_value.ensures.old ∙ ap (λ x. option_map (λ (r : Register _). r.value) x) (leaf-known g.T.Slot.start c.args.self.now.top c.args.self.now.places.items c.args.self.now.free.items c.args.leaf c.args.number c.requires.arena.stored c.requires.here))
