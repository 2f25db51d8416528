use Rattle.std.proofs.Common.{◌≡◌, ◌≤◌, length, take}
use Rattle.std.specs.Prelude.{reverse}
use Rattle.stomach.specs.Pending.{files_closed}
use Rattle.stomach.proofs.pending.close_all.Given as goal

abbrev pub invariant-files : goal.invariant-files
invariant-files l = record {
  inside : l.left ≤ length l.items;
  same : files_closed (reverse (take l.left l.items)) l.printer ≡ files_closed (reverse l.items) l.initial.printer;
}

abbrev pub decreases-files : goal.decreases-files
decreases-files l = l.left
