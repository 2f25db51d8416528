use Rattle.std.proofs.Common.{◌≡◌, ◌≤◌, take}
use Rattle.std.specs.Prelude.{reverse}
use Rattle.pending.specs.Origin.{count_from, is_input}
use Rattle.pending.proofs.sources.inputs_in.Given as goal

abbrev pub invariant-loop-source : goal.invariant-loop-source
invariant-loop-source l = record {
  counted : l.count ≡ count_from is_input (reverse (take l.source-index l.sources));
  within : l.count ≤ l.source-index;
}
