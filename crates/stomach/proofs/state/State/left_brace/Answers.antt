use Rattle.asking.specs.Leads.{leads_enough, leads_end}
use Rattle.stomach.specs.Message.{left_brace}
use Rattle.stomach.proofs.state.State.left_brace.Goals as goal

pub returns-in-Ok-false-clause-does : goal.returns-in-Ok-false-clause-does
unfolding left_brace
returns-in-Ok-false-clause-does g c =
    leads_enough (g.L.Library.seen c.brace_turn.new.library) tt c.brace_turn.new.self c.brace.invariant
    (rw c.in-Ok-false.field-0-test at c.in-Ok-false.ensures.does)

pub returns-in-Err-clause-does : goal.returns-in-Err-clause-does
unfolding left_brace
returns-in-Err-clause-does g c =
    leads_end (g.L.Library.seen c.brace_turn.new.library) c.brace_turn.new.self c.in-Err.stop c.brace.invariant c.in-Err.ensures.does
