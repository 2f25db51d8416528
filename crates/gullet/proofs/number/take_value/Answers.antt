-- The value that a number asked for.
use Rattle.std.proofs.Common.{None, refl, ap, ◌∙◌}
use Rattle.std.proofs.lemmas.Result.{IfOk-weaker}
use Rattle.scan_nums.specs.Taken as scan
use Rattle.gullet.specs.Wants.{Got, last_token, negatable}
use Rattle.gullet.proofs.NumberSteps.{number_takes_up}
use Rattle.gullet.proofs.number.take_value.Goals as goal

pub returns : goal.returns
unfolding last_token
returns c =
    IfOk-weaker c.number_want.result _ _
    (λ want is. number_takes_up c.args.scan.now c.answer-verdict.new.self None (Got c.args.told) (scan.Told c.negatable.result)
    c.answer-verdict.result c.wants_character-is_character.result want
    (record {
      next = c.answer-verdict.ensures.next;
      says = c.answer-verdict.ensures.verdict;
      kept = c.answer-verdict.ensures.kept;
      character = c.wants_character-is_character.ensures;
    })
    (ap scan.Told (c.negatable.ensures.value ∙ ap negatable c.number_told.ensures)) refl is)
    c.number_want.ensures
