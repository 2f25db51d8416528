use Rattle.std.proofs.Common.{rules}
use Rattle.stomach.proofs.Items.{open_files-reverse}
use Rattle.stomach.proofs.pending.count_files.Goals as goal

pub returns : goal.returns
returns c = rw (open_files-reverse c.args.items.now) (search rules)
