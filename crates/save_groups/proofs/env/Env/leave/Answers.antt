-- What the saves of the group undo is the environment outside it.
use Rattle.std.proofs.Common.{ap, ◌∙◌, arith}
use Rattle.save_groups.specs.InForce.{at}
use Rattle.save_groups.specs.Kept.{mark_of, marks_of}
use Rattle.save_groups.proofs.Marks.{marks-push}
use Rattle.save_groups.proofs.Modes.{mode-undone}
use Rattle.save_groups.proofs.Steps.{copies-leave, kept-leave, steps-leave}
use Rattle.save_groups.proofs.env.Env.leave.Goals as goal

pub invariant_of-self : goal.invariant_of-self
invariant_of-self g c = record {
  room = omega (arith, c.self.invariant.room, c.in-Some.ensures.capacity);
  few = omega (arith, c.self.invariant.few, c.in-Some.ensures.len);
  kept = kept-leave (marks_of c.self.inside.groups.items) (mark_of c.in-Some.group) (marks_of c.pop.new.self.items) c.self.inside.saves.items c.undo.new.saves.items
      (at c.self.inside.current) (at c.undo.new.current) (ap marks_of c.in-Some.ensures.items ∙ marks-push c.pop.new.self.items c.in-Some.group)
      c.self.invariant.kept c.undo.ensures.undone c.undo.ensures.rest;
  returns = c.undo.ensures.returns;
  in_mode = mode-undone c.self.inside.extended c.self.inside.saves.items c.undo.new.saves.items c.in-Some.group.first (at c.self.inside.current) (at c.undo.new.current)
      c.undo.ensures.undone c.undo.ensures.rest c.self.invariant.in_mode;
  held = c.undo.ensures.held;
}

pub returns-clause-left : goal.returns-clause-left
returns-clause-left g c =
    copies-leave c.self.inside.extended c.self.inside.current c.undo.new.current (marks_of c.self.inside.groups.items) (mark_of c.in-Some.group)
    (marks_of c.pop.new.self.items) c.self.inside.saves.items c.undo.new.saves.items c.args.self.now c.self.view_is
    (ap marks_of c.in-Some.ensures.items ∙ marks-push c.pop.new.self.items c.in-Some.group) c.self.invariant.kept c.undo.ensures.undone c.undo.ensures.rest

pub returns-clause-steps : goal.returns-clause-steps
returns-clause-steps g c =
    omega (
      arith,
      c.undo.ensures.steps,
      steps-leave c.self.inside.extended c.self.inside.current (marks_of c.self.inside.groups.items) (mark_of c.in-Some.group)
          (marks_of c.pop.new.self.items) c.self.inside.saves.items c.args.self.now c.self.view_is
          (ap marks_of c.in-Some.ensures.items ∙ marks-push c.pop.new.self.items c.in-Some.group) c.self.invariant.kept,
    )
