use Rattle.std.proofs.Common.{arith, sym}
use Rattle.catcode_eye.proofs.Marks.{first_mark, no_mark}
use Rattle.catcode_eye.proofs.lines.line_length.Goals as goal

pub returns-then-is_mark-clause-value : goal.returns-then-is_mark-clause-value
returns-then-is_mark-clause-value c =
    first_mark c.args.mark c.args.rest.now c.loop-i.i (omega arith) c.loop-i.invariant (λ _. sym c.if-is_mark.ensures)

pub returns-clause-value : goal.returns-clause-value
returns-clause-value c =
    no_mark _ _ _ c.loop-i.auto.i-end c.loop-i-test.false c.loop-i.invariant
