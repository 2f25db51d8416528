use Rattle.std.proofs.Common.{◌≡◌, ◌+◌, ◌+ℤ◌, ◌∙◌, arith, rules}
use Rattle.std.proofs.lemmas.Int.{ints, clamps, to_z-of_z}
use Rattle.std.specs.Int.{int_max}
use Rattle.std.specs.Int.RustNames.{FitsSigned}
use mir.Syntax.{w64}
use mir.Val.{to_z, of_z}
use Rattle.box_pack.proofs.Steps.{same_vertical}
use Rattle.box_pack.proofs.Within.{BothWithin-le}
use Rattle.box_pack.proofs.vertical.Sizes.stand.Goals as goal

pub returns-clause-value : goal.returns-clause-value
returns-clause-value c =
    let width_fits : FitsSigned w64 c.args.self.now.width = search rules in
    let other_fits = c.ranges.width in
    let greater_fits : FitsSigned w64 c.greater-self.result = search rules in
    let long : to_z w64 (of_z w64 c.plus-self.result) ≡ c.args.self.now.length +ℤ (c.args.height +ℤ c.args.depth) =
    let low = c.requires.length.low in let high = c.requires.length.high in omega (arith, ints) in
    let hanging : to_z w64 (of_z w64 c.from-self.result) ≡ c.args.depth = omega (arith, ints) in
    same_vertical (to_z w64 (of_z w64 c.plus-self.result)) (c.args.self.now.length +ℤ (c.args.height +ℤ c.args.depth))
    (to_z w64 (of_z w64 c.greater-self.result)) (int_max c.args.self.now.width c.args.width)
    (to_z w64 (of_z w64 c.from-self.result)) c.args.depth
    c.args.self.now.glue long
    (to_z-of_z w64 c.greater-self.result greater_fits ∙ simp to_z-of_z at c.greater-self.ensures)
    hanging

pub returns-clause-range : goal.returns-clause-range
returns-clause-range c = λ n w.
    let low = w.length.low in
    let high = w.length.high in
    let least = c.requires.length.low in
    let most = c.requires.length.high in
    let wide = w.wide in
    record {
      length = record { low = omega (arith, ints); high = omega (arith, ints) };
      wide = omega (arith, ints, clamps);
      hanging = record { low = omega (arith, ints); high = omega (arith, ints) };
      glue = BothWithin-le n (n + 4294967296) c.args.self.now.glue (omega arith) w.glue;
    }
