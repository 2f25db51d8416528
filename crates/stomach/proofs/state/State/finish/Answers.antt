use Rattle.stomach.specs.Turn.{turn}
use Rattle.stomach.proofs.state.State.finish.Goals as goal

pub returns : goal.returns
returns g c = record {
  runs = c.show_ending.ensures.runs (g.L.Library.seen c.args.library.now) (turn g.L.Library.outside) c.args.self.now c.turns-ending.ensures.does;
}
