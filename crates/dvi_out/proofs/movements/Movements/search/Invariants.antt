use Rattle.std.proofs.Common.{None, Some}
use Rattle.dvi_out.specs.FamilyOf.{family_of}
use Rattle.dvi_out.proofs.MarkLaws.{IsFoundFrom}
use Rattle.dvi_out.proofs.movements.Movements.search.Given as goal

abbrev pub invariant-loop-passed : goal.invariant-loop-passed
invariant-loop-passed l = IsFoundFrom l.width (family_of l.self) l.passed None

abbrev pub invariant-loop-behind : goal.invariant-loop-behind
invariant-loop-behind l = IsFoundFrom l.width (family_of l.self) l.behind (Some l.word)
