-- What the table doesn't reach is void, and stays so.
use Rattle.std.proofs.Common.{◌≤◌, length, arith}
use Rattle.save_groups.specs.InsideTables.{entries_of}
use Rattle.save_groups.specs.Entries.{at}
use Rattle.save_groups.proofs.Reaching.{unreached, unreached_void, void_alone, swapped-void}
use Rattle.save_groups.proofs.tables.Tables.swap_box.Goals as goal

pub returns-then-len-number-clause-new : goal.returns-then-len-number-clause-new
returns-then-len-number-clause-new c =
    let far : length c.self.inside.boxes.items ≤ c.args.number = omega (arith, c.len.ensures, c.if-len-number.true, c.self.inside.boxes.ok.0) in
    swapped-void c.args.self.now c.args.number c.args.content (unreached (entries_of c.self.inside) c.args.self.now c.args.number c.self.view_is far)
    (void_alone c.args.number c.args.content (at c.args.self.now) (omega (arith, far, c.self.invariant.boxes))
    (unreached_void (entries_of c.self.inside) c.args.self.now c.args.number c.self.view_is far) c.requires)
