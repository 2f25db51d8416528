-- What the world tells before anything is read.
use Rattle.expansion_examples.proofs.tests.executing.carry.Given as goal

abbrev pub ghosts-carry_over : goal.ghosts-carry_over
ghosts-carry_over g a = record { told = g.W.World.told a.world.now }
