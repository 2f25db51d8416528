use Rattle.std.proofs.Common.{[]}
use Rattle.stomach.specs.Gather.{gathered}
use Rattle.asking.specs.Leads.{Leads}
use Rattle.stomach.specs.Message.{text_turn}
use Rattle.stomach.specs.Work.{work}
use Rattle.stomach.proofs.state.State.balanced_text.Given as goal

abbrev pub invariant-text : goal.invariant-text
invariant-text g l =
    Leads g.L.Library.outside work (text_turn g.L.Library.outside) (g.L.Library.seen l.initial.library) (g.L.Library.seen l.library)
    (gathered [] 0) l.initial.self l.text l.self

abbrev pub decreases-text : goal.decreases-text
decreases-text g l = work l.self
