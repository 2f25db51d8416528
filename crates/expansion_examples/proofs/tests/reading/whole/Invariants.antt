-- What the world tells before anything is read.
use Rattle.expansion_examples.proofs.tests.reading.whole.Given as goal

abbrev pub ghosts-whole_over : goal.ghosts-whole_over
ghosts-whole_over g a = record { told = g.W.World.told a.world.now }
