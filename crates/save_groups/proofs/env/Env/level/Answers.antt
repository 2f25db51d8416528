-- There is one environment more than open groups.
use Rattle.std.proofs.Common.{arith}
use Rattle.save_groups.proofs.Marks.{length-copies}
use Rattle.save_groups.proofs.env.Env.level.Goals as goal

pub returns : goal.returns
returns c = omega (arith, length-copies c.self.inside c.args.self.now c.self.view_is, c.len.ensures, c.self.inside.groups.ok.0)
