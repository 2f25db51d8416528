use Rattle.std.proofs.Common.{ℤ, subst}
use Rattle.std.specs.Int.{w32}
use Rattle.std.proofs.lemmas.Int.{to_z-of_z}
use Rattle.tokens.specs.Ends.{Ends}
use Rattle.catcode_eye.specs.Outlook.{next_line}
use Rattle.stomach.proofs.Looking.{line_refused}
use Rattle.stomach.proofs.source.take_line.Goals as goal

pub returns-in-Err-clause-does : goal.returns-in-Err-clause-does
returns-in-Err-clause-does c =
    let P : ℤ → Type 0 = λ z. Ends (next_line z c.args.eye.now) c.in-Err.stop in
    line_refused c.args.end_line c.args.eye.now c.next_line.new.self c.args.names.now c.args.budget.now c.in-Err.stop c.unpaid.result
    (subst P (to_z-of_z w32 c.args.end_line c.ranges.end_line) c.in-Err.ensures.ends) c.unpaid.ensures c.in-Err.ensures.kept
