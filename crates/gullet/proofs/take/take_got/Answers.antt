-- A step takes what an inner phrase told up.
use Rattle.gullet.specs.Wants.{Got}
use Rattle.gullet.proofs.PlainSteps.{got_is_plain, step_takes_up}
use Rattle.gullet.proofs.take.take_got.Goals as goal

pub returns-in_default : goal.returns-in_default
returns-in_default c =
    step_takes_up c.args.progress.now c.take_plain.new.progress (Got c.args.told) c.take_plain.result
    (got_is_plain c.args.progress.now c.requires c.in_default.not-Number) c.take_plain.ensures.want c.take_plain.ensures.steps c.take_plain.ensures.plain
