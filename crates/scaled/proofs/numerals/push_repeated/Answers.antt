use Rattle.std.proofs.Common.{rules}
use Rattle.scaled.specs.Numeral.{letters_of}
use Rattle.scaled.proofs.RomanLaws.{repeated_step}
use Rattle.scaled.proofs.numerals.push_repeated.Goals as goal

pub loop-preserved : goal.loop-preserved
loop-preserved c =
    repeated_step c.loop.counter (letters_of c.args.numeral.now) c.args.text.now.items c.loop.text.items c.push_numeral.new.text.items c.loop.invariant (search rules)
