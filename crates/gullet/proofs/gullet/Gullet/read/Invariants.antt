-- The stack stands for what the recursion still reads.
use Rattle.gullet.specs.Expansion.{outcome}
use Rattle.gullet.specs.Frames.{Reads}
use Rattle.gullet.specs.State.{state_of}
use Rattle.gullet.proofs.gullet.Gullet.read.Given as goal

abbrev pub invariant-turns : goal.invariant-turns
invariant-turns g l =
    Reads g.L.Library.outside (g.L.Library.seen l.initial.library) (g.L.Library.seen l.library)
    (outcome g.L.Library.outside l.fn.context l.fn.task (state_of l.initial.self l.initial.site))
    l._made l.below l.context l.progress l.want (state_of l.self l.site)
