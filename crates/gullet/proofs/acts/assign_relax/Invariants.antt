-- The ledger in which the assignment counts.
use Rattle.gullet.proofs.acts.assign_relax.Given as goal

abbrev pub ghosts-counted : goal.ghosts-counted
ghosts-counted a = record { name = a.blank.name; parts = a.blank.parts }
