use Rattle.std.proofs.lemmas.Int.{to_z-of_z}
use Rattle.std.specs.Int.RustNames.{FitsSigned}
use mir.Syntax.{w32}
use Rattle.std.proofs.Common.{rules}
use Rattle.box_pack.specs.GlueSums.{with_more}
use Rattle.box_pack.proofs.Steps.{same_totals}
use Rattle.box_pack.proofs.flexibility.GlueTotals.add.Goals as goal

pub returns-clause-sum : goal.returns-clause-sum
returns-clause-sum c =
    let stretch_fits : FitsSigned w32 c.args.glue.stretch = search rules in
    let shrink_fits : FitsSigned w32 c.args.glue.shrink = search rules in
    same_totals c.add.new.self (with_more c.args.glue.stretch c.args.glue.stretch_order c.args.self.now.stretch)
    c.add-2.new.self (with_more c.args.glue.shrink c.args.glue.shrink_order c.args.self.now.shrink)
    (simp to_z-of_z at c.add.ensures.sum) (simp to_z-of_z at c.add-2.ensures.sum)

pub returns-clause-range : goal.returns-clause-range
returns-clause-range c = λ n w. record {
  stretch = c.add.ensures.range n w.stretch;
  shrink = c.add-2.ensures.range n w.shrink;
}
