-- What the world tells before anything is read.
use Rattle.expansion_examples.proofs.tests.reading.text.Given as goal

abbrev pub ghosts-text_over : goal.ghosts-text_over
ghosts-text_over g a = record { told = g.W.World.told a.world.now }
