-- What could be put back still can.
use Rattle.std.proofs.Common.{ap, sym, ◌∙◌, subst}
use Rattle.std.specs.Prelude.{IsTrue}
use Rattle.std.specs.List.{list_all}
use Rattle.save_groups.specs.Entries.{Entries}
use Rattle.save_groups.specs.InForce.{is_reached}
use Rattle.save_groups.specs.Kept.{can_return}
use Rattle.save_groups.proofs.Steps.{returns-further}
use Rattle.save_groups.proofs.env.prepare_save.Goals as goal

pub returns-in_err-prepare-clause-returns : goal.returns-in_err-prepare-clause-returns
returns-in_err-prepare-clause-returns g c =
    returns-further c.args.current.now c.prepare.new.self c.args.saves.now.items c.prepare.ensures.kept c.requires.returns

pub returns-in-Ok-clause-returns : goal.returns-in-Ok-clause-returns
returns-in-Ok-clause-returns g c =
    ap (list_all (can_return c.prepare.new.self)) c.reserve.ensures.items
    ∙ returns-further c.args.current.now c.prepare.new.self c.args.saves.now.items c.prepare.ensures.kept c.requires.returns

pub returns-in-Err-clause-returns : goal.returns-in-Err-clause-returns
returns-in-Err-clause-returns g c =
    ap (list_all (can_return c.release.new.self)) c.reserve.ensures.items
    ∙ returns-further c.prepare.new.self c.release.new.self c.args.saves.now.items
    (λ key room. let P : Entries → Type 0 = λ e. IsTrue (is_reached e key) in subst P (sym c.release.ensures.tables) room)
    (returns-further c.args.current.now c.prepare.new.self c.args.saves.now.items c.prepare.ensures.kept c.requires.returns)
