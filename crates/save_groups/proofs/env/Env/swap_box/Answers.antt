-- A box is changed in place.
use Rattle.std.proofs.Common.{refl}
use Rattle.tokens.specs.declared.meaning.RegKind.TheVariants.{Box}
use Rattle.save_groups.specs.declared.key.Key.TheVariants.{Register}
use Rattle.save_groups.specs.declared.value.Value.TheVariants.{Boxed}
use Rattle.save_groups.specs.InForce.{at}
use Rattle.save_groups.specs.Kept.{marks_of, store_of}
use Rattle.save_groups.specs.Holding.{held_in}
use Rattle.save_groups.proofs.Modes.{mode-changed}
use Rattle.save_groups.proofs.Steps.{returns-further}
use Rattle.save_groups.proofs.Places.{kept-swapped, store-refilled}
use Rattle.save_groups.proofs.env.Env.swap_box.Goals as goal

pub invariant_of-self : goal.invariant_of-self
invariant_of-self c = record {
  room = c.self.invariant.room;
  few = c.self.invariant.few;
  kept = kept-swapped (marks_of c.self.inside.groups.items) c.self.inside.saves.items (at c.self.inside.current) (at c.swap_box.new.self) (Register Box c.args.n) (Boxed c.args.b)
      c.swap_box.ensures.new c.self.invariant.kept;
  returns = returns-further c.self.inside.current c.swap_box.new.self c.self.inside.saves.items c.swap_box.ensures.kept c.self.invariant.returns;
  in_mode = mode-changed c.self.inside.extended c.self.inside.saves.items (at c.self.inside.current) (at c.swap_box.new.self) (Register Box c.args.n)
      (record { value = Boxed c.args.b; level = (at c.self.inside.current (Register Box c.args.n)).level }) refl c.swap_box.ensures.new c.self.invariant.in_mode;
  held = c.swap_box.ensures.held (held_in c.self.inside.saves.items) c.self.invariant.held;
}

pub returns-clause-swapped : goal.returns-clause-swapped
returns-clause-swapped c =
    store-refilled (store_of c.self.inside) c.args.self.now c.swap_box.new.self (Register Box c.args.n) (Boxed c.args.b) c.self.view_is c.self.invariant.kept c.swap_box.ensures.new
