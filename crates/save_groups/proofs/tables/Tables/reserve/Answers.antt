-- What a table is made longer by names no register.
use Rattle.std.proofs.Common.{◌+◌, ap, ◌∙◌}
use Rattle.save_groups.specs.Holding.{named_in, named_count}
use Rattle.save_groups.proofs.Naming.{named-alike}
use Rattle.save_groups.proofs.tables.Tables.reserve.Goals as goal

pub returns-in-Name-clause-named : goal.returns-in-Name-clause-named
returns-in-Name-clause-named c other =
    ap (λ n. n + named_in other c.self-in-Name.inside.actives.items) (named-alike other c.self-in-Name.inside.names.items c.reserve-in-Name.new.table.items c.reserve-in-Name.ensures.same)
    ∙ ap (named_count other) c.self-in-Name.view_is

pub returns-in-Active-clause-named : goal.returns-in-Active-clause-named
returns-in-Active-clause-named c other =
    ap (λ n. named_in other c.self-in-Active.inside.names.items + n) (named-alike other c.self-in-Active.inside.actives.items c.reserve-in-Active.new.table.items c.reserve-in-Active.ensures.same)
    ∙ ap (named_count other) c.self-in-Active.view_is
