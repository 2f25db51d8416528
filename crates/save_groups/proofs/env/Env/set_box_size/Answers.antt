-- A box is changed in place, if it isn't void.
use Rattle.std.proofs.Common.{◌≡◌, rules}
use Rattle.save_groups.specs.declared.key.Key.{Key}
use Rattle.save_groups.specs.InPlace.{resized_here}
use Rattle.save_groups.specs.InForce.{at}
use Rattle.save_groups.specs.Kept.{marks_of, store_of}
use Rattle.save_groups.specs.Holding.{held_in}
use Rattle.save_groups.proofs.Steps.{returns-further}
use Rattle.save_groups.proofs.Places.{kept-resized, mode-resized, store-resized}
use Rattle.save_groups.proofs.env.Env.set_box_size.Goals as goal

pub invariant_of-self : goal.invariant_of-self
invariant_of-self c =
    let changed : (other : Key) → at c.set_box_size.new.self other ≡ resized_here c.args.n c.args.part c.args.value (at c.self.inside.current) other = search rules in
    record {
      room = c.self.invariant.room;
      few = c.self.invariant.few;
      kept = kept-resized (marks_of c.self.inside.groups.items) c.self.inside.saves.items (at c.self.inside.current) (at c.set_box_size.new.self) c.args.n c.args.part c.args.value
          changed c.self.invariant.kept;
      returns = returns-further c.self.inside.current c.set_box_size.new.self c.self.inside.saves.items c.set_box_size.ensures.kept c.self.invariant.returns;
      in_mode = mode-resized c.self.inside.extended c.self.inside.saves.items (at c.self.inside.current) (at c.set_box_size.new.self) c.args.n c.args.part c.args.value
          changed c.self.invariant.in_mode;
      held = c.set_box_size.ensures.held (held_in c.self.inside.saves.items) c.self.invariant.held;
    }

pub returns-clause-resized : goal.returns-clause-resized
returns-clause-resized c =
    let changed : (other : Key) → at c.set_box_size.new.self other ≡ resized_here c.args.n c.args.part c.args.value (at c.self.inside.current) other = search rules in
    store-resized (store_of c.self.inside) c.args.self.now c.set_box_size.new.self c.args.n c.args.part c.args.value c.self.view_is c.self.invariant.kept changed
