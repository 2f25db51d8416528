-- Lists of one length with equal tokens at each place are equal.
use Rattle.std.proofs.Common.{arith, refl}
use Rattle.std.proofs.lemmas.List.{ext_get_or}
use Rattle.tokens.specs.declared.token.Token.TheVariants.{Arg}
use Rattle.tokens.proofs.list.are_same.Goals as goal

pub returns : goal.returns
returns c = (λ _. ext_get_or (Arg 0) _ _ c.if-tokens-others.false (λ k h. c.loop-i.invariant k (omega arith)), λ _. refl)
