-- What was assigned globally stays.
use Rattle.std.proofs.Common.{◌≡◌, ap, sym, ◌∙◌}
use Rattle.std.proofs.lemmas.Bool.{eqb-true}
use Rattle.save_groups.specs.Environments.{Environment}
use Rattle.save_groups.specs.InForce.{at}
use Rattle.save_groups.proofs.Undoing.{restored-stays}
use Rattle.save_groups.proofs.Held.{holds-replaced}
use Rattle.save_groups.proofs.env.put_back.Goals as goal

pub returns-then-is_global-clause-restored : goal.returns-then-is_global-clause-restored
returns-then-is_global-clause-restored g c other =
    let one : (at c.args.current.now c.args.save.key).level ≡ 1 = eqb-true _ 1 (sym c.is_global.ensures ∙ c.if-is_global.true) in
    c.release.ensures.same other ∙ ap (λ (e : Environment). e other) (sym (restored-stays c.args.save (at c.args.current.now) one))

pub release-requires-else-is_global-clause-held : goal.release-requires-else-is_global-clause-held
release-requires-else-is_global-clause-held g c =
    holds-replaced c.args.current.now c.replace-old.new.self c.args.save.key c.args.save.value c.replace-old.result.value c.requires.held c.replace-old.ensures.held
