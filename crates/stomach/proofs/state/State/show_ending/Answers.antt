use Rattle.std.proofs.Common.{sym}
use Rattle.stomach.proofs.Finishing.{runs_cut, runs_unshown, runs_shown}
use Rattle.stomach.proofs.state.State.show_ending.Goals as goal

pub returns-in-Some : goal.returns-in-Some
returns-in-Some g c = record {
  runs = λ old once first h. runs_cut _ old _ c.args.given once first _ c.args.ending.now _ c.in-Some.ensures.value h;
}

pub returns-in_default-conclude : goal.returns-in_default-conclude
returns-in_default-conclude g c = record {
  runs = λ old once first h.
      rw c.conclude.ensures.budget
      (runs_unshown _ old _ c.args.given once first c.args.self.now c.args.ending.now (sym c.in_default.ensures.value) h);
}

pub returns : goal.returns
returns g c = record {
  runs = λ old once first h.
      rw (c.conclude.ensures.budget, c.exit_after.ensures.value)
      (runs_shown _ old _ c.args.given once first c.args.self.now _ c.args.ending.now c.show.result _ _
      (sym c.in_default.ensures.value) c.in-Ok.ensures.exit c.in-Ok.ensures.output h c.show.ensures.shows);
}
