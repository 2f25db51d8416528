-- The very value changes nothing in extended mode.
use Rattle.std.proofs.Common.{sym, ◌∙◌}
use Rattle.std.proofs.lemmas.Result.{on_ok_weaker}
use Rattle.save_groups.specs.Standing.{copies_of}
use Rattle.save_groups.proofs.Assigning.{locally-changed}
use Rattle.save_groups.proofs.env.Env.assign_locally.Goals as goal

pub returns-clause-ok : goal.returns-clause-ok
returns-clause-ok g c =
    on_ok_weaker c.assign_here.result
    (λ done. done ∙ locally-changed c.args.key c.args.value (copies_of c.args.self.now) (sym c.if-changes_nothing.ensures))
    c.assign_here.ensures.ok
