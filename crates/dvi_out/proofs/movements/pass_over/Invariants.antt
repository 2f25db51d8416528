use Rattle.std.proofs.Common.{◌≡◌, take}
use Rattle.std.specs.List.{fold}
use Rattle.dvi_out.specs.SpellingMovements.{passed_at}
use Rattle.dvi_out.proofs.movements.pass_over.Given as goal

abbrev pub invariant-loop-place : goal.invariant-loop-place
invariant-loop-place l = l.moves.items ≡ fold (passed_at l.word) l.initial.moves.items (take l.place-index l.places)
