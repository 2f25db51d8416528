use Rattle.box_pack.proofs.Telling.{hboxes_tell, vboxes_tell, vtops_tell}
use Rattle.box_pack.proofs.laws.packed_boxes_tell.Goals as goal

pub returns-clause-hboxes : goal.returns-clause-hboxes
returns-clause-hboxes c = hboxes_tell

pub returns-clause-vboxes : goal.returns-clause-vboxes
returns-clause-vboxes c = vboxes_tell

pub returns-clause-vtops : goal.returns-clause-vtops
returns-clause-vtops c = vtops_tell
