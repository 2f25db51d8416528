-- Tables reach what they reached.
use Rattle.save_groups.proofs.Held.{reached-further}
use Rattle.save_groups.proofs.current.Current.swap_box.Goals as goal

pub returns-then-number-lt-FIRST_IN_TREE-clause-kept : goal.returns-then-number-lt-FIRST_IN_TREE-clause-kept
returns-then-number-lt-FIRST_IN_TREE-clause-kept c = reached-further c.args.self.now.tables c.swap_box.new.self c.swap_box.ensures.kept
