-- The number of a case.
use Rattle.gullet.proofs.step.case_number.Goals as goal

pub returns-clause-steps : goal.returns-clause-steps
returns-clause-steps c = rw c.cases_before.ensures at c.case_of.ensures.steps
