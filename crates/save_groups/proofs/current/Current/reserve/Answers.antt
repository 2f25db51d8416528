-- Tables that reach further stand for the same.
use Rattle.save_groups.proofs.Held.{tables-same, reached-further}
use Rattle.save_groups.proofs.current.Current.reserve.Goals as goal

pub returns-else-is_in_tree-clause-same : goal.returns-else-is_in_tree-clause-same
returns-else-is_in_tree-clause-same c = tables-same c.args.self.now c.reserve.new.self c.reserve.ensures.same

pub returns-else-is_in_tree-clause-kept : goal.returns-else-is_in_tree-clause-kept
returns-else-is_in_tree-clause-kept c = reached-further c.args.self.now.tables c.reserve.new.self c.reserve.ensures.kept
