-- The ledger in which the calls count.
use Rattle.save_groups.proofs.tests.script.play.Given as goal

abbrev pub ghosts-playing : goal.ghosts-playing
ghosts-playing g a = record { name = a.blank.name; parts = a.blank.parts }
