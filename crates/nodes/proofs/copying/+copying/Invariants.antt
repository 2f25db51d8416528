use Rattle.std.proofs.Common.{◌≡◌, take}
use Rattle.nodes.proofs.copying.+copying.Given as goal

abbrev pub invariant-copy_list-loop-i : goal.invariant-copy_list-loop-i
invariant-copy_list-loop-i l = l.copy.items ≡ take l.i l.list
