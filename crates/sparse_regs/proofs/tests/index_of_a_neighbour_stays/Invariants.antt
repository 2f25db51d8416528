-- The ledger in which the calls count.
use Rattle.sparse_regs.proofs.tests.index_of_a_neighbour_stays.Given as goal

abbrev pub ghosts-play : goal.ghosts-play
ghosts-play g a = record { name = a.blank.name; parts = a.blank.parts }
