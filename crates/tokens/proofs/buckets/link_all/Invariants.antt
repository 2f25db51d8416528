-- The chains of the entries so far, with the names as they were.
use Rattle.tokens.specs.Buckets.{names_of}
use Rattle.tokens.proofs.Linking.{IsLinkedSoFar}
use Rattle.tokens.proofs.buckets.link_all.Given as goal

abbrev pub invariant-loop-i : goal.invariant-loop-i
invariant-loop-i l = IsLinkedSoFar (names_of l.fn.entries) l.entries l.heads l.buckets l.i
