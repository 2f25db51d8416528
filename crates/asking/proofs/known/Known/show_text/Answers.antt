use Rattle.asking.proofs.Knowing.{show_known, show_beside}
use Rattle.asking.proofs.known.Known.show_text.Goals as goal

pub invariant_of-self : goal.invariant_of-self
invariant_of-self g c = record {
  known = show_known _ _ _ _ _ c.flush.result c.args.self.now.known c.flush.ensures.answer;
}

pub returns-clause-shows : goal.returns-clause-shows
returns-clause-shows g c =
    show_beside _ _ _ _ _ c.flush.result _ _ _ _ _ _ c.args.self.now.known c.flush.ensures.answer c.flush.ensures.same_world
    c.flush.ensures.read_fault c.flush.ensures.write_fault
