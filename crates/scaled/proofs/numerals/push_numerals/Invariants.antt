use Rattle.std.proofs.Common.{◌≡◌, ◌++◌, map, drop}
use Rattle.scaled.specs.ArithmeticRoman.{by_numerals}
use Rattle.scaled.specs.Numeral.{entry_of}
use Rattle.scaled.proofs.numerals.push_numerals.Given as goal

-- what is written, with what is left, makes the whole
abbrev pub invariant-loop-numeral : goal.invariant-loop-numeral
invariant-loop-numeral l =
    l.text.items ++ by_numerals (map entry_of (drop l.numeral-index l.table)) l.left
    ≡ l.fn.text.items ++ by_numerals (map entry_of l.table) l.fn.number
