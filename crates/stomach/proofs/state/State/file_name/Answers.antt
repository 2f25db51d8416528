use Rattle.std.proofs.Common.{ℕ, List, Ok, ap, sym, ◌∙◌}
use Rattle.stomach.specs.Again.{leads-enough, leads-end}
use Rattle.stomach.specs.Name.{file_name}
use Rattle.stomach.proofs.state.State.file_name.Goals as goal

pub returns-in-Ok-false-clause-does : goal.returns-in-Ok-false-clause-does
unfolding file_name
returns-in-Ok-false-clause-does c =
    leads-enough c.name_turn.new.name.items c.name_turn.new.self c.name.invariant (rw c.in-Ok-false.field-0-test at c.in-Ok-false.ensures.does)
    ∙ ap (λ (name : List ℕ). Ok (name, c.name_turn.new.self)) (sym c.new.ensures)

pub returns-in-Err-clause-does : goal.returns-in-Err-clause-does
unfolding file_name
returns-in-Err-clause-does c = leads-end c.name_turn.new.self c.in-Err.stop c.name.invariant c.in-Err.ensures.does
