-- The ledger in which the calls count.
use Rattle.sparse_regs.proofs.tests.old_value_comes_back.Given as goal

abbrev pub ghosts-old_values : goal.ghosts-old_values
ghosts-old_values g a = record { name = a.blank.name; parts = a.blank.parts }
