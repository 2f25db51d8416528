-- A count of its own has the ledger of the blank page that it is made of.
use Rattle.save_groups.proofs.trees.Trees.swap_box.Given as goal

abbrev pub ghosts-replace_alone : goal.ghosts-replace_alone
ghosts-replace_alone a = record { name = a.blank.name; parts = a.blank.parts }
