use Rattle.std.proofs.Common.{◌-◌, arith}
use Rattle.gullet.specs.State.{state_of}
use Rattle.gullet.proofs.Seeking.{seeks_token, seeks_nothing, seeks_stop, seeks_out}
use Rattle.gullet.proofs.gullet.Gullet.next_unexpandable.Goals as goal

pub returns-in-Token : goal.returns-in-Token
returns-in-Token g c = record {
  does = seeks_token (g.L.Library.seen c.seek_once.new.library) (state_of c.seek_once.new.self c.seek_once.new.site) c.in-Token.token c.in-Token.noexpand (c.looks.left - 1) (omega arith)
      c.looks.invariant (rw c.in-Token.is at c.in-Ok.ensures.does);
}

pub returns-in-Nothing : goal.returns-in-Nothing
returns-in-Nothing g c = record {
  does = seeks_nothing (g.L.Library.seen c.seek_once.new.library) (state_of c.seek_once.new.self c.seek_once.new.site) (c.looks.left - 1) (omega arith)
      c.looks.invariant (rw c.in-Nothing.is at c.in-Ok.ensures.does);
}

pub returns-in-Err : goal.returns-in-Err
returns-in-Err g c = record {
  does = seeks_stop (g.L.Library.seen c.seek_once.new.library) (state_of c.seek_once.new.self c.seek_once.new.site) c.in-Err.stop (c.looks.left - 1) (omega arith)
      c.looks.invariant c.in-Err.ensures.does;
}

pub returns : goal.returns
returns g c = record { does = seeks_out (state_of c.looks.self c.looks.site) c.looks.invariant }
