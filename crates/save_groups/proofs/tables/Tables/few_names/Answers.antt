-- A meaning names one register at most, and tables aren't that long.
use Rattle.std.proofs.Common.{◌≤◌, ◌^◌, subst, arith}
use Rattle.save_groups.specs.Entries.{Entries}
use Rattle.save_groups.specs.Holding.{named_count}
use Rattle.save_groups.proofs.Naming.{named-few}
use Rattle.save_groups.proofs.tables.Tables.few_names.Goals as goal

pub returns : goal.returns
returns c key =
    let P : Entries → Type 0 = λ e. named_count key e ≤ 2 ^ 65 in
    subst P c.self.view_is (omega (
      arith,
      named-few key c.self.inside.names.items,
      named-few key c.self.inside.actives.items,
      c.self.inside.names.ok.0,
      c.self.inside.names.ok.1,
      c.self.inside.names.small,
      c.self.inside.actives.ok.0,
      c.self.inside.actives.ok.1,
      c.self.inside.actives.small,
    ))
