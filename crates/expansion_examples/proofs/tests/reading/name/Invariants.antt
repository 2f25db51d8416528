-- What the world tells before anything is read.
use Rattle.expansion_examples.proofs.tests.reading.name.Given as goal

abbrev pub ghosts-name_over : goal.ghosts-name_over
ghosts-name_over g a = record { told = g.W.World.told a.world.now }
