use Rattle.asking.proofs.tests.counted.Given as goal

-- what the world tells at the start
abbrev pub ghosts-count : goal.ghosts-count
ghosts-count g a = record { told = g.W.World.told a.world.now }
