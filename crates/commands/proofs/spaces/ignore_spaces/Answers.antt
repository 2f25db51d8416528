use Rattle.std.specs.Prelude.{ℕ}
use Rattle.std.proofs.Common.{◌-◌, arith}
use Rattle.asking.specs.Seen.{Outside}
use Rattle.gullet.specs.State.{state_of}
use Rattle.commands.proofs.Passing.{passes_done, passes_stop, passes_out}
use Rattle.commands.proofs.spaces.ignore_spaces.Goals as goal

pub returns-then-not-passed : goal.returns-then-not-passed
returns-then-not-passed g c = record {
  does = passes_done {o = g.L.Library.outside} (g.L.Library.seen c.pass_space.new.library) (state_of c.pass_space.new.gullet c.pass_space.new.site) c.in-Ok.passed (c.looks.left - 1) (cc) (omega arith)
      c.looks.invariant c.in-Ok.ensures.does;
}

pub returns-in-Err : goal.returns-in-Err
returns-in-Err g c = record {
  does = passes_stop {o = g.L.Library.outside} (g.L.Library.seen c.pass_space.new.library) (state_of c.pass_space.new.gullet c.pass_space.new.site) c.in-Err.stop (c.looks.left - 1) (omega arith)
      c.looks.invariant c.in-Err.ensures.does;
}

pub returns : goal.returns
returns g c = record { does = passes_out {o = g.L.Library.outside} (state_of c.looks.gullet c.looks.site) c.looks.invariant }
