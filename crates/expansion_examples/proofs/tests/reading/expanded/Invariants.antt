-- What the world tells before anything is read.
use Rattle.expansion_examples.proofs.tests.reading.expanded.Given as goal

abbrev pub ghosts-expanded_over : goal.ghosts-expanded_over
ghosts-expanded_over g a = record { told = g.W.World.told a.world.now }
