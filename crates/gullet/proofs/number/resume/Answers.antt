-- A number goes on.
use Rattle.std.proofs.Common.{None, refl}
use Rattle.std.proofs.lemmas.Result.{IfOk-weaker}
use Rattle.scan_nums.specs.Taken as scan
use Rattle.gullet.specs.Wants.{Was, last_token}
use Rattle.gullet.proofs.NumberSteps.{number_takes_up}
use Rattle.gullet.proofs.number.resume.Goals as goal

pub returns : goal.returns
unfolding last_token
returns c =
    IfOk-weaker c.number_want.result _ _
    (λ want is told. number_takes_up c.args.scan.now c.resume-verdict.new.self None (Was told) scan.Resumed
    c.resume-verdict.result c.wants_character-is_character.result want
    (record {
      next = c.resume-verdict.ensures.next;
      says = c.resume-verdict.ensures.verdict;
      kept = c.resume-verdict.ensures.kept;
      character = c.wants_character-is_character.ensures;
    })
    refl refl is)
    c.number_want.ensures
