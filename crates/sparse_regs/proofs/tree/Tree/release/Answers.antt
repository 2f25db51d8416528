-- Indices are those of the nodes.
use Rattle.std.proofs.Common.{◌≡◌}
use Rattle.sparse_regs.proofs.tree.Tree.release.Goals as goal

pub returns-clause-indices : goal.returns-clause-indices
returns-clause-indices g c = rw (← c.self.view_is) c.release.ensures.indices
