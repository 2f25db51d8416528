-- What the braces of a text at the end say of what stands before it.
use Rattle.std.proofs.Common.{inl, inr}
use Rattle.macro_args.proofs.MatchingLaws.{others_before, none_before}
use Rattle.macro_args.proofs.matching.is_balanced_before.Goals as goal
use Rattle.macro_args.proofs.matching.is_balanced_before.Goals.{then-own-braces-via-then-own-braces, then-own-braces-via-else-own-braces+then-own-braces-2}

pub returns-then-own-braces : goal.returns-then-own-braces
returns-then-own-braces c = λ counted ends.
    others_before c.args.tokens.now c.args.text.now c.of-own.result c.args.braces c.of-own.ensures counted ends
    (elim c.then-own-braces.branch [
      | then-own-braces-via-then-own-braces w ↦ inl w.if-own-braces.true
      | then-own-braces-via-else-own-braces+then-own-braces-2 w ↦ inr w.if-own-braces-2.true
    ])

pub returns-then-own-eq0 : goal.returns-then-own-eq0
returns-then-own-eq0 c = λ counted ends.
    none_before c.args.tokens.now c.args.text.now c.of-own.result c.args.braces c.of-own.ensures counted ends
    c.if-own-braces.false c.if-own-braces-2.false c.if-own-eq0.true
