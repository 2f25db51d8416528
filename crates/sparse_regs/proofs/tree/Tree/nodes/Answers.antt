-- The count is that of the nodes.
use Rattle.std.proofs.Common.{◌≡◌}
use Rattle.sparse_regs.proofs.tree.Tree.nodes.Goals as goal

pub returns-clause-prefixes : goal.returns-clause-prefixes
returns-clause-prefixes g c = rw (← c.self.view_is) c.nodes.ensures.prefixes
