-- The ledger in which the calls count.
use Rattle.sparse_regs.proofs.tests.five_thousand_registers.Given as goal

abbrev pub ghosts-many : goal.ghosts-many
ghosts-many g a = record { name = a.blank.name; parts = a.blank.parts }
