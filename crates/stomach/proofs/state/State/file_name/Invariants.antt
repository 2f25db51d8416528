use Rattle.std.proofs.Common.{[]}
use Rattle.stomach.specs.Again.{Leads}
use Rattle.stomach.specs.Name.{name_turn}
use Rattle.stomach.specs.Work.{work}
use Rattle.stomach.proofs.state.State.file_name.Given as goal

abbrev pub invariant-name : goal.invariant-name
invariant-name l = Leads work name_turn [] l.initial.self l.name.items l.self

abbrev pub decreases-name : goal.decreases-name
decreases-name l = work l.self
