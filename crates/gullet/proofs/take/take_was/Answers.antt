-- A step takes what was told by something that was done up.
use Rattle.std.proofs.Common.{IfOk, sym, subst}
use Rattle.std.proofs.lemmas.Result.{IfOk-weaker}
use Rattle.gullet.specs.declared.progress.Progress.{Progress}
use Rattle.gullet.specs.declared.progress.Progress.TheVariants.{Number}
use Rattle.gullet.specs.Progress.{TakesUp}
use Rattle.gullet.specs.Wants.{Was}
use Rattle.gullet.proofs.PlainSteps.{was_is_plain, step_takes_up}
use Rattle.gullet.proofs.take.take_was.Goals as goal

pub returns-in-Number : goal.returns-in-Number
returns-in-Number c =
    let T : Progress → Type 0 = λ p. IfOk c.resume.result (λ want. TakesUp p (Was c.args.told) (Number c.resume.new.scan) want) in
    subst T (sym c.in-Number.is) (IfOk-weaker c.resume.result _ _ (λ want takes. takes c.args.told) c.resume.ensures)

pub returns-in_default : goal.returns-in_default
returns-in_default c =
    step_takes_up c.args.progress.now c.take_plain.new.progress (Was c.args.told) c.take_plain.result
    (was_is_plain c.args.progress.now c.requires c.in_default.not-Number) c.take_plain.ensures.want c.take_plain.ensures.steps c.take_plain.ensures.plain
