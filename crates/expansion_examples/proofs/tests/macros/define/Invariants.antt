-- The ledger in which the assignments count.
use Rattle.expansion_examples.proofs.tests.macros.define.Given as goal

abbrev pub ghosts-define_all : goal.ghosts-define_all
ghosts-define_all a = record { name = a.blank.name; parts = a.blank.parts }
