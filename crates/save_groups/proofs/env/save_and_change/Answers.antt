-- What was saved before can still be put back, and so can the new save, which holds what the old value needs.
use Rattle.std.proofs.Common.{[], ◌∷◌, ◌++◌, ap, ◌∙◌}
use Rattle.std.specs.Prelude.{IsTrue}
use Rattle.std.specs.List.{list_all}
use Rattle.std.proofs.lemmas.Bool.{and_from}
use Rattle.save_groups.specs.declared.save.Save.{Save}
use Rattle.save_groups.specs.Kept.{can_return}
use Rattle.save_groups.specs.Holding.{held_in}
use Rattle.save_groups.proofs.Held.{held-saved}
use Rattle.save_groups.proofs.Steps.{returns-further, all_with}
use Rattle.save_groups.proofs.env.save_and_change.Goals as goal

pub returns-clause-returns : goal.returns-clause-returns
returns-clause-returns g c =
    let now : IsTrue (list_all (can_return c.replace-old.new.self) c.prepare_save.new.saves.items) =
    returns-further c.prepare_save.new.current c.replace-old.new.self c.prepare_save.new.saves.items c.replace-old.ensures.kept c.prepare_save.ensures.returns in
    all_with (can_return c.replace-old.new.self) c.push.new.self.items c.prepare_save.new.saves.items _ c.in-Ok.ensures.items now
    (and_from _ _ (c.replace-old.ensures.kept c.args.key c.in_ok-prepare_save.ensures.room) (and_from _ _ c.replace-old.ensures.fits c.requires.key))

pub returns-clause-held : goal.returns-clause-held
returns-clause-held g c =
    let save : Save = record { key = c.args.key; group = c.args.group; level = c.replace-old.result.level; value = c.replace-old.result.value } in
    held-saved c.replace-old.new.self c.args.saves.now.items c.push.new.self.items save
    (c.in-Ok.ensures.items ∙ ap (λ saves. saves ++ save ∷ []) c.prepare_save.ensures.items)
    (c.replace-old.ensures.held (held_in c.args.saves.now.items) c.in_ok-prepare_save.ensures.held)
