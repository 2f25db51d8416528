use Rattle.std.proofs.Common.{◌≡◌, ◌++◌}
use Rattle.dvi_out.specs.SpellingFile.{filling}
use Rattle.dvi_out.proofs.pages.fill.Given as goal

abbrev pub invariant-loop-byte : goal.invariant-loop-byte
invariant-loop-byte l = l.out.items ≡ l.initial.out.items ++ filling l._byte
