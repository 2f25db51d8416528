use Rattle.asking.specs.Leads.{Leads}
use Rattle.stomach.specs.Message.{brace_turn}
use Rattle.stomach.specs.Work.{work}
use Rattle.stomach.proofs.state.State.left_brace.Given as goal

abbrev pub invariant-brace : goal.invariant-brace
invariant-brace g l =
    Leads g.L.Library.outside work (brace_turn g.L.Library.outside) (g.L.Library.seen l.initial.library) (g.L.Library.seen l.library)
    tt l.initial.self tt l.self

abbrev pub decreases-brace : goal.decreases-brace
decreases-brace g l = work l.self
