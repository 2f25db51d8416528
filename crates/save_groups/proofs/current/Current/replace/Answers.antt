-- Tables reach what they reached.
use Rattle.save_groups.proofs.Held.{reached-further}
use Rattle.save_groups.proofs.current.Current.replace.Goals as goal

pub returns-then-not-is_in_tree-clause-kept : goal.returns-then-not-is_in_tree-clause-kept
returns-then-not-is_in_tree-clause-kept g c = reached-further c.args.self.now.tables c.replace.new.self c.replace.ensures.kept
