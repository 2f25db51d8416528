use Rattle.gullet.specs.State.{state_of}
use Rattle.gullet.proofs.Seeking.{Seeks}
use Rattle.gullet.proofs.gullet.Gullet.next_unexpandable.Given as goal

-- the next token from here is the next token from the start
abbrev pub invariant-looks : goal.invariant-looks
invariant-looks g l =
    Seeks g.L.Library.outside (g.L.Library.seen l.initial.library) (g.L.Library.seen l.library) (state_of l.initial.self l.initial.site)
    (state_of l.self l.site) l.left

abbrev pub decreases-looks : goal.decreases-looks
decreases-looks g l = l.left
