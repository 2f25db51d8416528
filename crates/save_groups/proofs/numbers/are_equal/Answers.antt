-- Tables of one length with equal numbers at each place are equal.
use Rattle.std.proofs.Common.{arith, refl}
use Rattle.std.specs.Prelude.{pos}
use Rattle.std.proofs.lemmas.List.{ext_get_or}
use Rattle.save_groups.proofs.numbers.are_equal.Goals as goal

pub returns : goal.returns
returns c = (λ _. ext_get_or (pos 0) _ _ c.if-numbers-others.false (λ k h. c.loop-i.invariant k (omega arith)), λ _. refl)
