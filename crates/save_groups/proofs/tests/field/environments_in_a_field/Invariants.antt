-- The ledger in which the calls count.
use Rattle.save_groups.proofs.tests.field.environments_in_a_field.Given as goal

abbrev pub ghosts-assigning : goal.ghosts-assigning
ghosts-assigning g a = record { name = a.blank.name; parts = a.blank.parts }
