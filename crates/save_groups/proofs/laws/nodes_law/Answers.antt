-- The nodes are counted.
use Rattle.std.proofs.Common.{refl}
use Rattle.save_groups.proofs.Further.{further-keys-law, given-keys-law}
use Rattle.save_groups.proofs.laws.nodes_law.Goals as goal

pub returns : goal.returns
returns c = record { counted = (refl, refl); further = further-keys-law; given = given-keys-law }
