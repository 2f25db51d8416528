-- A list of saves isn't that long.
use Rattle.std.proofs.Common.{arith}
use Rattle.save_groups.proofs.Held.{few-holders}
use Rattle.save_groups.proofs.env.few_holders.Goals as goal

pub returns-clause-few : goal.returns-clause-few
returns-clause-few c =
    few-holders c.args.current.now c.args.saves.now.items c.requires c.few_names.ensures
    (omega (arith, c.args.saves.now.ok.0, c.args.saves.now.ok.1, c.args.saves.now.small))
