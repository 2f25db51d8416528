use Rattle.std.proofs.Common.{◌≡◌, ◌≤◌}
use Rattle.stomach.specs.Take.{looking, token_from}
use Rattle.stomach.proofs.source.token_from.Given as goal

abbrev pub invariant-lines : goal.invariant-lines
invariant-lines l = record {
  same : token_from l.categories l.end_line (looking l.eye l.names l.budget)
      ≡ token_from l.categories l.end_line (looking l.initial.eye l.initial.names l.initial.budget);
  fewer : l.budget.left ≤ l.initial.budget.left;
}

abbrev pub decreases-lines : goal.decreases-lines
decreases-lines l = l.budget.left
