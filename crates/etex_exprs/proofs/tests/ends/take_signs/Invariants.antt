use Rattle.etex_exprs.specs.Standing.{WantsToken}
use Rattle.etex_exprs.proofs.tests.ends.take_signs.Given as goal

abbrev pub invariant-signs : goal.invariant-signs
invariant-signs l = WantsToken l.scan
