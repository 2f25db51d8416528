-- Every environment changes.
use Rattle.std.proofs.lemmas.Result.{on_ok_weaker}
use Rattle.save_groups.specs.InForce.{at}
use Rattle.save_groups.specs.Kept.{marks_of, store_of}
use Rattle.save_groups.specs.Holding.{held_in}
use Rattle.save_groups.proofs.Keeping.{kept-global}
use Rattle.save_groups.proofs.Modes.{mode-same, mode-changed, mode-stored}
use Rattle.save_groups.proofs.Steps.{returns-further}
use Rattle.std.proofs.Common.{refl}
use Rattle.save_groups.proofs.Assigning.{either, kept-along, store-global}
use Rattle.save_groups.proofs.env.Env.assign_globally.Goals as goal

pub invariant_of-self : goal.invariant_of-self
invariant_of-self g c = record {
  room = c.self.invariant.room;
  few = c.self.invariant.few;
  kept = either c.change.result c.change.ensures.ok c.change.ensures.err
      (λ changed. kept-along (marks_of c.self.inside.groups.items) c.self.inside.saves.items _ (at c.change.new.current) changed
      (kept-global (marks_of c.self.inside.groups.items) c.self.inside.saves.items (at c.self.inside.current) c.args.key (record { value = c.args.value; level = 1 }) refl c.self.invariant.kept))
      (λ same. kept-along (marks_of c.self.inside.groups.items) c.self.inside.saves.items (at c.self.inside.current) (at c.change.new.current) same c.self.invariant.kept);
  returns = returns-further c.self.inside.current c.change.new.current c.self.inside.saves.items c.change.ensures.kept c.self.invariant.returns;
  in_mode = either c.change.result c.change.ensures.ok c.change.ensures.err
      (λ changed. mode-changed c.self.inside.extended c.self.inside.saves.items (at c.self.inside.current) (at c.change.new.current) c.args.key
      (record { value = c.args.value; level = 1 }) (mode-stored (store_of c.self.inside) c.args.self.now c.args.value c.self.view_is c.requires.mode) changed c.self.invariant.in_mode)
      (λ same. mode-same c.self.inside.extended c.self.inside.saves.items c.self.inside.saves.items (at c.self.inside.current) (at c.change.new.current) same refl c.self.invariant.in_mode);
  held = c.change.ensures.held (held_in c.self.inside.saves.items) c.self.invariant.held;
}

pub returns-clause-ok : goal.returns-clause-ok
returns-clause-ok g c =
    on_ok_weaker c.change.result
    (λ changed. store-global (store_of c.self.inside) c.args.self.now c.change.new.current c.args.key c.args.value c.self.view_is changed)
    c.change.ensures.ok
