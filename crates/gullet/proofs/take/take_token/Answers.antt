-- A step takes a token up.
use Rattle.std.proofs.Common.{sym, subst}
use Rattle.gullet.specs.declared.progress.Progress.{Progress}
use Rattle.gullet.specs.declared.progress.Progress.TheVariants.{Passing, Telling, Call}
use Rattle.gullet.specs.declared.task.Want.{Want}
use Rattle.gullet.specs.declared.task.Want.TheVariants.{Raw}
use Rattle.gullet.specs.Progress.{TakesUp}
use Rattle.gullet.specs.Wants.{Tok}
use Rattle.gullet.proofs.CallSteps.{call_goes_on, call_ends, call_refuses}
use Rattle.gullet.proofs.PassingSteps.{passes, stops}
use Rattle.gullet.proofs.PlainSteps.{token_is_plain, step_takes_up}
use Rattle.gullet.proofs.take.take_token.Goals as goal

pub returns-in-Go : goal.returns-in-Go
returns-in-Go c =
    let T : Progress → Type 0 =
    λ p. TakesUp p (Tok c.args.token c.args.meaning.now) (Passing c.in-Passing.sought c.take.new.scan c.take.new.taken) Raw
    in
    subst T (sym c.in-Passing.is)
    (passes c.in-Passing.sought c.in-Passing.scan c.take.new.scan c.in-Passing.taken c.take.new.taken c.args.token c.args.meaning.now
    c.in_ok-take-in-Passing.ensures.few c.in_ok-take-in-Passing.ensures.counted (rw c.in-Go.is at c.in_ok-take-in-Passing.ensures.tells))

pub returns-in-Stopped : goal.returns-in-Stopped
returns-in-Stopped c =
    let T : Progress → Type 0 = λ p. TakesUp p (Tok c.args.token c.args.meaning.now) Telling c.ended.result in
    let W : Want → Type 0 =
    λ want. TakesUp (Passing c.in-Passing.sought c.in-Passing.scan c.in-Passing.taken) (Tok c.args.token c.args.meaning.now) Telling want
    in
    subst T (sym c.in-Passing.is)
    (subst W (sym c.ended.ensures)
    (stops c.in-Passing.sought c.in-Passing.scan c.take.new.scan c.in-Passing.taken c.in-Stopped.word c.args.token c.args.meaning.now
    c.in_ok-take-in-Passing.ensures.few (rw c.in-Stopped.is at c.in_ok-take-in-Passing.ensures.tells)))

pub returns-in-Need : goal.returns-in-Need
returns-in-Need c =
    let T : Progress → Type 0 = λ p. TakesUp p (Tok c.args.token c.args.meaning.now) (Call c.take-in-Call.new.self) Raw in
    subst T (sym c.in-Call.is)
    (call_goes_on c.in-Call.calling c.take-in-Call.new.self c.args.token c.args.meaning.now c.take-in-Call.ensures.name c.take-in-Call.ensures.called
    (rw c.in-Need.is at c.in_ok-take-in-Call.ensures.tells))

pub returns-in-Done : goal.returns-in-Done
returns-in-Done c =
    let T : Progress → Type 0 = λ p. TakesUp p (Tok c.args.token c.args.meaning.now) c.end_call.new.progress c.whole.result in
    subst T (sym c.in-Call.is)
    (rw (c.end_call.ensures.last, c.whole.ensures)
    (call_ends c.in-Call.calling c.take-in-Call.new.self c.end_call.result c.args.token c.args.meaning.now c.take-in-Call.ensures.called
    c.end_call.ensures.parts (rw c.in-Done.is at c.in_ok-take-in-Call.ensures.tells)))

pub returns-in-Refused : goal.returns-in-Refused
returns-in-Refused c =
    let T : Progress → Type 0 =
    λ p. TakesUp p (Tok c.args.token c.args.meaning.now) c.end_call-in-Refused.new.progress c.refused.result
    in
    subst T (sym c.in-Call.is)
    (rw (c.end_call-in-Refused.ensures.last, c.refused.ensures)
    (call_refuses c.in-Call.calling c.take-in-Call.new.self c.end_call-in-Refused.result c.args.token c.args.meaning.now c.in-Refused.refusal
    c.take-in-Call.ensures.name c.end_call-in-Refused.ensures.parts (rw c.in-Refused.is at c.in_ok-take-in-Call.ensures.tells)))

pub returns-in_default : goal.returns-in_default
returns-in_default c =
    step_takes_up c.args.progress.now c.take_plain.new.progress (Tok c.args.token c.args.meaning.now) c.take_plain.result
    (token_is_plain c.args.progress.now c.in_default.not-Number c.in_default.not-Passing c.in_default.not-Call) c.take_plain.ensures.want
    c.take_plain.ensures.steps c.take_plain.ensures.plain
