use Rattle.std.proofs.Common.{◌≡◌, ◌+◌, ◌+ℤ◌, ◌∙◌, sym, subst, arith, rules}
use Rattle.std.proofs.lemmas.Int.{ints, clamps, to_z-of_z}
use Rattle.std.specs.Int.{int_max}
use Rattle.std.specs.Int.RustNames.{FitsSigned}
use mir.Syntax.{w64}
use mir.Val.{to_z, of_z}
use Rattle.box_pack.specs.GlueSums.{IsWithin}
use Rattle.box_pack.proofs.Steps.{same_horizontal}
use Rattle.box_pack.proofs.Within.{stored, BothWithin-le}
use Rattle.box_pack.proofs.horizontal.Sizes.reach.Goals as goal

pub returns-clause-value : goal.returns-clause-value
returns-clause-value c =
    let height_fits : FitsSigned w64 c.args.self.now.height = search rules in
    let depth_fits : FitsSigned w64 c.args.self.now.depth = search rules in
    let other_height_fits = c.ranges.height in
    let other_depth_fits = c.ranges.depth in
    let greater_height_fits : FitsSigned w64 c.greater-self.result = search rules in
    let greater_depth_fits : FitsSigned w64 c.greater-self-2.result = search rules in
    let wide : to_z w64 (of_z w64 c.plus-self.result) ≡ c.args.self.now.width +ℤ c.args.width =
    let low = c.requires.width.low in let high = c.requires.width.high in omega (arith, ints) in
    same_horizontal (to_z w64 (of_z w64 c.plus-self.result)) (c.args.self.now.width +ℤ c.args.width)
    (to_z w64 (of_z w64 c.greater-self.result)) (int_max c.args.self.now.height c.args.height)
    (to_z w64 (of_z w64 c.greater-self-2.result)) (int_max c.args.self.now.depth c.args.depth)
    c.args.self.now.glue wide
    (to_z-of_z w64 c.greater-self.result greater_height_fits ∙ simp to_z-of_z at c.greater-self.ensures)
    (to_z-of_z w64 c.greater-self-2.result greater_depth_fits ∙ simp to_z-of_z at c.greater-self-2.ensures)

pub returns-clause-range : goal.returns-clause-range
returns-clause-range c = λ n w.
    let width = c.plus-self.ensures.range n (subst (IsWithin n) (sym (stored c.args.self.now.width c.requires.width)) w.width) in
    record {
      width = record { low = let low = width.low in omega (arith, ints); high = let high = width.high in omega (arith, ints) };
      high = let high = w.high in omega (arith, ints, clamps);
      deep = let deep = w.deep in omega (arith, ints, clamps);
      glue = BothWithin-le n (n + 2147483648) c.args.self.now.glue (omega arith) w.glue;
    }
