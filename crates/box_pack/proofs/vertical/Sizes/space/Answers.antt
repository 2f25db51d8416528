use Rattle.std.proofs.Common.{◌+◌, sym, subst, arith}
use Rattle.std.proofs.lemmas.Int.{ints, clamps}
use Rattle.box_pack.specs.GlueSums.{IsWithin}
use Rattle.box_pack.proofs.Within.{stored, BothWithin-le}
use Rattle.box_pack.proofs.vertical.Sizes.space.Goals as goal

pub returns-clause-range : goal.returns-clause-range
returns-clause-range c = λ n w.
    let length = c.plus-self.ensures.range n (subst (IsWithin n) (sym (stored c.args.self.now.length c.requires.length)) w.length) in
    record {
      length = record { low = let low = length.low in omega (arith, ints); high = let high = length.high in omega (arith, ints) };
      wide = let wide = w.wide in omega (arith, ints, clamps);
      hanging = record { low = omega (arith, ints); high = omega (arith, ints) };
      glue = BothWithin-le n (n + 4294967296) c.args.self.now.glue (omega arith) w.glue;
    }
