-- The next case.
use Rattle.gullet.proofs.step.next_case.Goals as goal

pub returns-clause-steps : goal.returns-clause-steps
returns-clause-steps c = rw c.one_less.ensures at c.case_of.ensures.steps
