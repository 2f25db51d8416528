use Rattle.asking.specs.Leads.{does_then, does_end}
use Rattle.asking.proofs.laws.sequence_law.Goals as goal

pub returns : goal.returns
returns g c = record {
  law = record {
    behind = λ o old mid new m further value s t result h k. does_then o old mid m further new value s t result h k;
    ended = λ o old new m further s stop h. does_end o old new m further s stop h;
  };
}
