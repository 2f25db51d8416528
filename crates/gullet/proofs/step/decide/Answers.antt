-- A step behind the number of a case.
use Rattle.gullet.proofs.step.decide.Goals as goal

pub returns-in-CaseNumber-clause-steps : goal.returns-in-CaseNumber-clause-steps
returns-in-CaseNumber-clause-steps c = rw c.in-CaseNumber.is (rw c.number_told-in-CaseNumber.ensures at c.case_number.ensures.steps)
