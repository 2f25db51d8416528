use Rattle.std.proofs.Common.{◌∙◌, arith}
use Rattle.stomach.proofs.Items.{files_closed-step}
use Rattle.stomach.proofs.pending.close_all.Goals as goal

pub files-preserved : goal.files-preserved
files-preserved c = record {
  inside = omega (arith, c.files.invariant.inside);
  same = files_closed-step c.args.items.now c.files.left c.index-items-left.result c.files.printer c.close.new.printer
      c.files-test.true c.files.invariant.inside c.index-items-left.is c.in-Ok.ensures.ok ∙ c.files.invariant.same;
}
