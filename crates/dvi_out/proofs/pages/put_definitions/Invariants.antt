use Rattle.std.proofs.Common.{◌≡◌, ◌++◌, ◌-◌}
use Rattle.dvi_out.specs.SpellingFile.{definitions_below}
use Rattle.dvi_out.proofs.pages.put_definitions.Given as goal

abbrev pub invariant-loop-k : goal.invariant-loop-k
invariant-loop-k l =
    l.out.items ++ definitions_below (256 - l.k) l.fonts ≡ l.initial.out.items ++ definitions_below 256 l.fonts
