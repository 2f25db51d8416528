-- Nothing from the place on is the name.
use Rattle.std.proofs.Common.{length}
use Rattle.tokens.specs.Buckets.{names_of}
use Rattle.tokens.proofs.Search.{IsSearch}
use Rattle.tokens.proofs.buckets.find.Given as goal

abbrev pub invariant-loop-place : goal.invariant-loop-place
invariant-loop-place l = IsSearch (length l.heads) (names_of l.entries) l.name l.place

abbrev pub decreases-loop-place : goal.decreases-loop-place
decreases-loop-place l = l.place
