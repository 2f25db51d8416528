use Rattle.asking.specs.Turns.{over_law, shown_law}
use Rattle.stomach.specs.Turn.{turn}
use Rattle.stomach.proofs.machine.turns_law.Goals as goal

pub returns : goal.returns
returns c = record { law = λ o. (over_law (turn o), shown_law (turn o)) }
