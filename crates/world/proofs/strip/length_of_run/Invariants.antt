use Rattle.std.proofs.Common.{◌≤◌, take, IsTrue}
use Rattle.std.specs.List.{list_all}
use Rattle.world.specs.Printed.{is_plain}
use Rattle.world.proofs.strip.length_of_run.Given as goal

-- the bytes so far are shown as they are, and are no more than may be
abbrev pub invariant-loop-index : goal.invariant-loop-index
invariant-loop-index l = (l.index ≤ l.most) × IsTrue (list_all (is_plain l.newline) (take l.index l.bytes))
