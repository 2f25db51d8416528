use Rattle.nodes.specs.PackingTree as tree
use Rattle.nodes.proofs.laws.told_lists_are_measured.Goals as goal

pub returns : goal.returns
returns c = tree.told_lists_are_measured
