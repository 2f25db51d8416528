use Rattle.asking.specs.Leads.{leads_enough, leads_end}
use Rattle.stomach.specs.Expanded.{operand_token}
use Rattle.stomach.proofs.state.State.operand_token.Goals as goal

pub returns-in-Ok-false-clause-does : goal.returns-in-Ok-false-clause-does
unfolding operand_token
returns-in-Ok-false-clause-does g c =
    leads_enough (g.L.Library.seen c.expanded_turn.new.library) c.expanded_turn.new.token c.expanded_turn.new.self c.files.invariant
    (rw c.in-Ok-false.field-0-test at c.in-Ok-false.ensures.does)

pub returns-in-Err-clause-does : goal.returns-in-Err-clause-does
unfolding operand_token
returns-in-Err-clause-does g c =
    leads_end (g.L.Library.seen c.expanded_turn.new.library) c.expanded_turn.new.self c.in-Err.stop c.files.invariant c.in-Err.ensures.does
