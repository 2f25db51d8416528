-- The ledger in which the calls count.
use Rattle.steps.proofs.tests.counts_without_bytes.Given as goal

abbrev pub ghosts-last_counted : goal.ghosts-last_counted
ghosts-last_counted g a = record { name = a.blank.name; parts = a.blank.parts }
