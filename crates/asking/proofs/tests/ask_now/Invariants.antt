use Rattle.asking.proofs.tests.ask_now.Given as goal

-- what the world tells at the start
abbrev pub ghosts-ask : goal.ghosts-ask
ghosts-ask g a = record { told = g.W.World.told a.world.now }
