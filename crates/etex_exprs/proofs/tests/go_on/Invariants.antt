use Rattle.etex_exprs.specs.Standing.{WantsToken}
use Rattle.etex_exprs.proofs.tests.go_on.Given as goal

abbrev pub invariant-going : goal.invariant-going
invariant-going l = WantsToken l.scan
