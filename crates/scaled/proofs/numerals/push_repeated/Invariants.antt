use Rattle.std.proofs.Common.{◌≡◌, ◌++◌}
use Rattle.scaled.specs.ArithmeticRoman.{repeated}
use Rattle.scaled.specs.Numeral.{letters_of}
use Rattle.scaled.proofs.numerals.push_repeated.Given as goal

abbrev pub invariant-loop : goal.invariant-loop
invariant-loop l = l.text.items ≡ l.fn.text.items ++ repeated l.counter (letters_of l.numeral)
