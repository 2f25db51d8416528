use Rattle.stomach.specs.Again.{leads-enough, leads-end}
use Rattle.stomach.specs.Operand.{next_token}
use Rattle.stomach.proofs.state.State.next_token.Goals as goal

pub returns-in-Ok-false-clause-does : goal.returns-in-Ok-false-clause-does
unfolding next_token
returns-in-Ok-false-clause-does c =
    leads-enough c.token_turn.new.token c.token_turn.new.self c.files.invariant (rw c.in-Ok-false.field-0-test at c.in-Ok-false.ensures.does)

pub returns-in-Err-clause-does : goal.returns-in-Err-clause-does
unfolding next_token
returns-in-Err-clause-does c = leads-end c.token_turn.new.self c.in-Err.stop c.files.invariant c.in-Err.ensures.does
