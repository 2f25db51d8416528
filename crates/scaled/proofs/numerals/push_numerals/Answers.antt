use Rattle.std.proofs.Common.{None, rules}
use Rattle.scaled.proofs.RomanLaws.{loop_more}
use Rattle.scaled.proofs.numerals.push_numerals.Goals as goal

pub loop-numeral-preserved : goal.loop-numeral-preserved
loop-numeral-preserved c =
    loop_more c.args.table.now c.loop-numeral.numeral-index c.loop-numeral.left (record { value = 0; before = None; letter = 0 }) c.loop-numeral.text.items c.push_repeated.new.text.items _ c.loop-numeral-test.true c.loop-numeral.invariant (search rules)
