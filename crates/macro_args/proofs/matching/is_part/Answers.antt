-- One beginning more.
use Rattle.std.proofs.Common.{sym, ◌∙◌}
use Rattle.macro_args.proofs.MatchingLaws.{none_begun, begun_at}
use Rattle.macro_args.proofs.matching.is_part.Goals as goal

pub returns-then-stands_at_end : goal.returns-then-stands_at_end
returns-then-stands_at_end c = λ counted.
    begun_at c.args.delimiter.now c.args.tokens.now c.loop-last.last c.loop-last-test.true
    (sym (c.stands_at_end.ensures counted) ∙ c.if-stands_at_end.true)

pub loop-last-preserved : goal.loop-last-preserved
loop-last-preserved c = λ counted.
    none_begun c.args.delimiter.now c.args.tokens.now c.loop-last.last (c.loop-last.invariant counted)
    (sym (c.stands_at_end.ensures counted) ∙ c.if-stands_at_end.false)
