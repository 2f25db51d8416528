use Rattle.std.proofs.Common.{Ok, true}
use Rattle.asking.specs.Turns.{DoesTurns}
use Rattle.stomach.specs.Turn.{turn}
use Rattle.stomach.specs.Work.{work}
use Rattle.stomach.proofs.state.State.turns.Given as goal

abbrev pub decreases-turns : goal.decreases-turns
decreases-turns g l = work l.self

-- all turns until now, of which none was the last
abbrev pub invariant-turns : goal.invariant-turns
invariant-turns g l =
    DoesTurns g.L.Library.outside (g.L.Library.seen l.initial.library) (g.L.Library.seen l.library) (Ok true) l.self
    (turn g.L.Library.outside) l.initial.self
