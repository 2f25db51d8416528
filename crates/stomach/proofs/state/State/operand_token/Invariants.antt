use Rattle.tokens.specs.declared.token.Token.TheVariants.{Frozen}
use Rattle.asking.specs.Leads.{Leads}
use Rattle.stomach.specs.Expanded.{expanded_turn}
use Rattle.stomach.specs.Work.{work}
use Rattle.stomach.proofs.state.State.operand_token.Given as goal

abbrev pub invariant-files : goal.invariant-files
invariant-files g l =
    Leads g.L.Library.outside work (expanded_turn g.L.Library.outside) (g.L.Library.seen l.initial.library) (g.L.Library.seen l.library)
    (Frozen 0) l.initial.self l.token l.self

abbrev pub decreases-files : goal.decreases-files
decreases-files g l = work l.self
