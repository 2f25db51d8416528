-- The ledger in which the assignments count.
use Rattle.expansion_examples.proofs.tests.macros.name_more.Given as goal

abbrev pub ghosts-name_counted : goal.ghosts-name_counted
ghosts-name_counted a = record { name = a.blank.name; parts = a.blank.parts }
