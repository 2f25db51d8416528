use Rattle.asking.specs.Turns.{turns_start, turns_next, over_law, shown_law}
use Rattle.asking.proofs.laws.turns_law.Goals as goal

pub returns : goal.returns
returns g c = record {
  law = record {
    start = λ o old once first. turns_start;
    next = λ o old mid new result once first s t h k. turns_next new result t h k;
    over = λ once. over_law once;
    shown = λ once. shown_law once;
  };
}
