use Rattle.box_pack.proofs.horizontal.Sizes.add_glue.Goals as goal

pub returns-clause-range : goal.returns-clause-range
returns-clause-range c = λ n w.
    let reached = c.reach.ensures.range n w in
    record {
      width = reached.width;
      high = reached.high;
      deep = reached.deep;
      glue = c.add.ensures.range n (rw c.reach.ensures.value w.glue);
    }
