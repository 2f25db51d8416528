use Rattle.gullet.specs.State.{state_of}
use Rattle.commands.proofs.Passing.{Passes}
use Rattle.commands.proofs.spaces.ignore_spaces.Given as goal

-- what is passed from here is what is passed from the start
abbrev pub invariant-looks : goal.invariant-looks
invariant-looks g l =
    Passes g.L.Library.outside (g.L.Library.seen l.initial.library) (g.L.Library.seen l.library) (state_of l.initial.gullet l.initial.site)
    (state_of l.gullet l.site) l.left

abbrev pub decreases-looks : goal.decreases-looks
decreases-looks g l = l.left
