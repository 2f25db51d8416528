use Rattle.std.proofs.Common.{◌+◌, arith}
use Rattle.box_pack.proofs.Within.{BothWithin-le}
use Rattle.box_pack.proofs.vertical.Sizes.add_glue.Goals as goal

pub returns-clause-range : goal.returns-clause-range
returns-clause-range c = λ n w.
    let spaced = c.space.ensures.range n w in
    record {
      length = spaced.length;
      wide = spaced.wide;
      hanging = spaced.hanging;
      glue = BothWithin-le (n + 2147483648) (n + 4294967296) c.add.new.self (omega arith)
          (c.add.ensures.range n (rw c.space.ensures.value w.glue));
    }
