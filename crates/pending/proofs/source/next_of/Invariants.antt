use Rattle.std.proofs.Common.{◌≡◌, length}
use Rattle.pending.specs.Take.{looking, source_with, next_sight}
use Rattle.pending.proofs.source.next_of.Given as goal

-- what comes next is what came next at the start
abbrev pub invariant-lines : goal.invariant-lines
invariant-lines l =
    next_sight l.categories l.end_line (looking (source_with l.eye l.origin l.line l.is_ending) l.names l.budget)
    ≡ next_sight l.categories l.end_line (looking (source_with l.initial.eye l.origin l.initial.line l.initial.is_ending) l.initial.names l.initial.budget)

abbrev pub decreases-lines : goal.decreases-lines
decreases-lines l = length l.eye.unread
