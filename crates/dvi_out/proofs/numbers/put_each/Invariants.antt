use Rattle.std.proofs.Common.{◌≡◌, ◌++◌, take}
use Rattle.dvi_out.proofs.numbers.put_each.Given as goal

abbrev pub invariant-loop-i : goal.invariant-loop-i
invariant-loop-i l = l.out.items ≡ l.initial.out.items ++ take l.i l.bytes
