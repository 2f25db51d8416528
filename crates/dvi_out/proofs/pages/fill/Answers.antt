use Rattle.std.proofs.Common.{rules}
use Rattle.dvi_out.proofs.FileLaws.{filled_by}
use Rattle.dvi_out.proofs.pages.fill.Goals as goal

pub loop-byte-preserved : goal.loop-byte-preserved
loop-byte-preserved c =
    filled_by c.args.out.now.items c.loop-byte.out.items _ c.loop-byte._byte c.loop-byte.invariant (search rules)
