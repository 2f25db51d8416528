use Rattle.asking.specs.Leads.{leads_enough, leads_end}
use Rattle.stomach.specs.Message.{balanced_text}
use Rattle.stomach.proofs.state.State.balanced_text.Goals as goal

pub returns-in-Ok-false-clause-does : goal.returns-in-Ok-false-clause-does
unfolding balanced_text
returns-in-Ok-false-clause-does g c =
    leads_enough (g.L.Library.seen c.text_turn.new.library) c.text_turn.new.text c.text_turn.new.self c.text.invariant
    (rw c.in-Ok-false.field-0-test at c.in-Ok-false.ensures.does)

pub returns-in-Err-clause-does : goal.returns-in-Err-clause-does
unfolding balanced_text
returns-in-Err-clause-does g c =
    leads_end (g.L.Library.seen c.text_turn.new.library) c.text_turn.new.self c.in-Err.stop c.text.invariant c.in-Err.ensures.does
