use Rattle.stomach.proofs.machine.Machine.run.Given as goal

-- what the world tells at the start
abbrev pub ghosts-run_from : goal.ghosts-run_from
ghosts-run_from g a = record { told = g.W.World.told a.world.now }
