-- A save is made just where the definition makes one.
use Rattle.std.proofs.Common.{true, false, refl}
use Rattle.std.proofs.lemmas.Result.{on_ok_weaker}
use Rattle.save_groups.specs.InForce.{at}
use Rattle.save_groups.specs.Kept.{marks_of, store_of}
use Rattle.save_groups.specs.Holding.{held_in}
use Rattle.save_groups.proofs.Modes.{mode-same, mode-changed, mode-saved, mode-stored}
use Rattle.save_groups.proofs.Steps.{returns-further}
use Rattle.save_groups.proofs.Assigning.{level-stored, test-stored, either, either_of, both_ok, kept-along, kept-refused, kept-saved, kept-unsaved, store-saved, store-unsaved}
use Rattle.save_groups.proofs.env.Env.assign_here.Goals as goal

pub invariant_of-self : goal.invariant_of-self
invariant_of-self g c =
    let number = level-stored (store_of c.self.inside) c.args.self.now c.level-level.result c.self.view_is c.level-level.ensures in
    let test = test-stored (store_of c.self.inside) c.args.self.now c.args.key c.level-level.result true c.self.view_is c.level-level.ensures c.if-needs_save.ensures in
    record {
      room = c.self.invariant.room;
      few = c.self.invariant.few;
      kept = either_of c.save_and_change.result c.save_and_change.ensures.ok c.save_and_change.ensures.saved c.save_and_change.ensures.err c.save_and_change.ensures.unsaved
          (λ changed more. kept-refused (marks_of c.self.inside.groups.items) _ c.save_and_change.new.saves.items _ (at c.save_and_change.new.current) changed more
          (kept-saved (marks_of c.self.inside.groups.items) c.self.inside.saves.items (at c.self.inside.current) c.args.key c.args.value c.level-level.result test number c.self.invariant.kept))
          (λ same front. kept-refused (marks_of c.self.inside.groups.items) c.self.inside.saves.items c.save_and_change.new.saves.items (at c.self.inside.current) (at c.save_and_change.new.current) same front c.self.invariant.kept);
      returns = c.save_and_change.ensures.returns;
      in_mode = either_of c.save_and_change.result c.save_and_change.ensures.ok c.save_and_change.ensures.saved c.save_and_change.ensures.err c.save_and_change.ensures.unsaved
          (λ changed more. mode-saved c.self.inside.extended c.self.inside.saves.items c.save_and_change.new.saves.items (at c.self.inside.current) (at c.save_and_change.new.current)
          c.args.key (record { value = c.args.value; level = c.level-level.result }) c.level-level.result (mode-stored (store_of c.self.inside) c.args.self.now c.args.value c.self.view_is c.requires.mode)
          changed more c.self.invariant.in_mode)
          (λ same front. mode-same c.self.inside.extended c.self.inside.saves.items c.save_and_change.new.saves.items (at c.self.inside.current) (at c.save_and_change.new.current) same front c.self.invariant.in_mode);
      held = c.save_and_change.ensures.held;
    }

pub invariant_of-self-else-needs_save : goal.invariant_of-self-else-needs_save
invariant_of-self-else-needs_save g c =
    let number = level-stored (store_of c.self.inside) c.args.self.now c.level-level.result c.self.view_is c.level-level.ensures in
    let test = test-stored (store_of c.self.inside) c.args.self.now c.args.key c.level-level.result false c.self.view_is c.level-level.ensures c.if-needs_save.ensures in
    record {
      room = c.self.invariant.room;
      few = c.self.invariant.few;
      kept = either c.change.result c.change.ensures.ok c.change.ensures.err
          (λ changed. kept-along (marks_of c.self.inside.groups.items) c.self.inside.saves.items _ (at c.change.new.current) changed
          (kept-unsaved (marks_of c.self.inside.groups.items) c.self.inside.saves.items (at c.self.inside.current) c.args.key c.args.value c.level-level.result test number c.self.invariant.kept))
          (λ same. kept-along (marks_of c.self.inside.groups.items) c.self.inside.saves.items (at c.self.inside.current) (at c.change.new.current) same c.self.invariant.kept);
      returns = returns-further c.self.inside.current c.change.new.current c.self.inside.saves.items c.change.ensures.kept c.self.invariant.returns;
      in_mode = either c.change.result c.change.ensures.ok c.change.ensures.err
          (λ changed. mode-changed c.self.inside.extended c.self.inside.saves.items (at c.self.inside.current) (at c.change.new.current) c.args.key
          (record { value = c.args.value; level = c.level-level.result }) (mode-stored (store_of c.self.inside) c.args.self.now c.args.value c.self.view_is c.requires.mode) changed c.self.invariant.in_mode)
          (λ same. mode-same c.self.inside.extended c.self.inside.saves.items c.self.inside.saves.items (at c.self.inside.current) (at c.change.new.current) same refl c.self.invariant.in_mode);
      held = c.change.ensures.held (held_in c.self.inside.saves.items) c.self.invariant.held;
    }

pub returns-then-needs_save-clause-ok : goal.returns-then-needs_save-clause-ok
returns-then-needs_save-clause-ok g c =
    let number = level-stored (store_of c.self.inside) c.args.self.now c.level-level.result c.self.view_is c.level-level.ensures in
    let test = test-stored (store_of c.self.inside) c.args.self.now c.args.key c.level-level.result true c.self.view_is c.level-level.ensures c.if-needs_save.ensures in
    both_ok c.save_and_change.result
    (λ changed more. store-saved (store_of c.self.inside) c.args.self.now c.save_and_change.new.current c.save_and_change.new.saves.items c.args.key c.args.value c.level-level.result
    c.self.view_is test number c.self.invariant.kept changed more)
    c.save_and_change.ensures.ok c.save_and_change.ensures.saved

pub returns-else-needs_save-clause-ok : goal.returns-else-needs_save-clause-ok
returns-else-needs_save-clause-ok g c =
    let number = level-stored (store_of c.self.inside) c.args.self.now c.level-level.result c.self.view_is c.level-level.ensures in
    let test = test-stored (store_of c.self.inside) c.args.self.now c.args.key c.level-level.result false c.self.view_is c.level-level.ensures c.if-needs_save.ensures in
    on_ok_weaker c.change.result
    (λ changed. store-unsaved (store_of c.self.inside) c.args.self.now c.change.new.current c.args.key c.args.value c.level-level.result
    c.self.view_is test number c.self.invariant.kept changed)
    c.change.ensures.ok
