use Rattle.nodes.specs.PackingTold as told
use Rattle.nodes.proofs.laws.told_trees_are_built.Goals as goal

pub returns : goal.returns
returns c = told.told_trees_are_built
