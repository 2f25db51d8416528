use Rattle.tokens.specs.declared.token.Token.TheVariants.{Frozen}
use Rattle.stomach.specs.Again.{Leads}
use Rattle.stomach.specs.Operand.{token_turn}
use Rattle.stomach.specs.Work.{work}
use Rattle.stomach.proofs.state.State.next_token.Given as goal

abbrev pub invariant-files : goal.invariant-files
invariant-files l = Leads work token_turn (Frozen 0) l.initial.self l.token l.self

abbrev pub decreases-files : goal.decreases-files
decreases-files l = work l.self
