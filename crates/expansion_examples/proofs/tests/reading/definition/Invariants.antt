-- What the world tells before anything is read.
use Rattle.expansion_examples.proofs.tests.reading.definition.Given as goal

abbrev pub ghosts-definition_over : goal.ghosts-definition_over
ghosts-definition_over g a = record { told = g.W.World.told a.world.now }
