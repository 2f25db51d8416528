-- The table is read as at the beginning, and doesn't get shorter; it comes nearer to the place.
use Rattle.std.proofs.Common.{◌≤◌, vec_len, ◌+◌, ◌-◌}
use Rattle.save_groups.specs.Entries.{fresh}
use Rattle.save_groups.specs.Table.{ReadsAlike}
use Rattle.save_groups.proofs.table.reserve.Given as goal

abbrev pub invariant-growing : goal.invariant-growing
invariant-growing g l = record {
  same : ReadsAlike (fresh g.V.Initial.start) l.initial.table.items l.table.items;
  longer : vec_len l.initial.table ≤ vec_len l.table;
}

abbrev pub decreases-growing : goal.decreases-growing
decreases-growing g l = l.place + 1 - vec_len l.table
