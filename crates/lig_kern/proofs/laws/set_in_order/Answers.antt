use Rattle.lig_kern.proofs.Order as laws
use Rattle.lig_kern.proofs.laws.set_in_order.Goals as goal

pub returns : goal.returns
returns c = laws.set_in_order
