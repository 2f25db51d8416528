-- The ledger in which the calls count.
use Rattle.save_groups.proofs.tests.nesting.tokens_come_back_in_their_order.Given as goal

abbrev pub ghosts-waiting : goal.ghosts-waiting
ghosts-waiting g a = record { name = a.blank.name; parts = a.blank.parts }
