use Rattle.std.proofs.Common.{rules, arith}
use Rattle.dvi_out.proofs.FileLaws.{defined_none, joined}
use Rattle.dvi_out.proofs.pages.put_definitions.Goals as goal

pub loop-k-preserved : goal.loop-k-preserved
loop-k-preserved c =
    joined c.loop-k.out.items c.put_definition_if.new.out.items _ c.loop-k.k c.args.fonts.now c.loop-k-test.true (search rules)
    c.loop-k.invariant

pub returns : goal.returns
returns c = defined_none c.loop-k.out.items _ c.loop-k.k c.args.fonts.now (omega arith) c.loop-k.invariant
