use Rattle.gullet.specs.State.{state_of}
use Rattle.gullet.proofs.Seeking.{passes_stop}
use Rattle.gullet.proofs.gullet.Gullet.next_raw.Goals as goal

pub returns-in-Err : goal.returns-in-Err
returns-in-Err c = record {
  does = passes_stop (state_of c.take_event.new.self c.take_event.new.site) c.in-Err.stop c.ends.invariant c.in-Err.ensures.does;
}
