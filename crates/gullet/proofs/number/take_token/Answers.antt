-- A token of a number.
use Rattle.std.proofs.Common.{Some, refl}
use Rattle.std.proofs.lemmas.Result.{IfOk-weaker}
use Rattle.scan_nums.specs.Taken as scan
use Rattle.gullet.specs.Wants.{Tok, last_token}
use Rattle.gullet.proofs.NumberSteps.{number_takes_up}
use Rattle.gullet.proofs.number.take_token.Goals as goal

pub returns : goal.returns
unfolding last_token
returns c =
    IfOk-weaker c.number_want.result _ _
    (λ want is. number_takes_up c.args.scan.now c.take-verdict.new.self (Some c.args.token) (Tok c.args.token c.args.meaning.now)
    (scan.Seen c.args.token c.args.meaning.now) c.take-verdict.result c.wants_character-is_character.result want
    (record {
      next = c.take-verdict.ensures.next;
      says = c.take-verdict.ensures.verdict;
      kept = c.take-verdict.ensures.kept;
      character = c.wants_character-is_character.ensures;
    })
    refl refl is)
    c.number_want.ensures
