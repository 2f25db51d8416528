use Rattle.stomach.proofs.machine.Machine.step.Given as goal

-- what the world tells at the start
abbrev pub ghosts-step_from : goal.ghosts-step_from
ghosts-step_from g a = record { told = g.W.World.told a.world.now }
