use Rattle.std.proofs.Common.{sym, ◌∙◌}
use Rattle.tfm.proofs.ProgramLemmas.{instruction_for_found, instruction_for_over, instruction_for_on}
use Rattle.tfm.proofs.programs.instruction_for.Goals as goal

pub returns-then-is_for : goal.returns-then-is_for
returns-then-is_for c =
    sym (instruction_for_found c.args.right c.loop-at.at c.args.instructions.now _ c.loop-at-test.true (sym c.is_for.ensures ∙ c.if-is_for.true)) ∙ c.loop-at.invariant

pub returns-then-ends : goal.returns-then-ends
returns-then-ends c =
    sym (instruction_for_over c.args.right c.loop-at.at c.args.instructions.now _ c.loop-at-test.true (sym c.is_for.ensures ∙ c.if-is_for.false) (sym c.ends.ensures ∙ c.if-ends.true)) ∙ c.loop-at.invariant

pub loop-at-preserved : goal.loop-at-preserved
loop-at-preserved c =
    rw c.from.ensures (sym (instruction_for_on c.args.right c.loop-at.at c.args.instructions.now _ c.loop-at-test.true (sym c.is_for.ensures ∙ c.if-is_for.false) (sym c.ends.ensures ∙ c.if-ends.false)) ∙ c.loop-at.invariant)
