use Rattle.std.proofs.Common.{◌≡◌, ◌∙◌, ap, true, arith}
use Rattle.std.proofs.lemmas.List.{drop_all}
use Rattle.tokens.specs.Categories.{category}
use Rattle.catcode_eye.specs.Role.{role_of, is_passed}
use Rattle.catcode_eye.specs.Seen.{sight, sight-none, sight-head, sight-passed}
use Rattle.catcode_eye.proofs.sight.first_head.Goals as goal

pub returns-then-not-is_passed-clause-some : goal.returns-then-not-is_passed-clause-some
returns-then-not-is_passed-clause-some c =
    c.loop-next.invariant.0 ∙ sight-head _ _ _ _ _ c.head_at-head.ensures.value

pub loop-next-preserved : goal.loop-next-preserved
loop-next-preserved c =
    let passed : is_passed (role_of (category c.args.cats.now c.head_at-head.result.byte)) c.args.state ≡ true = cc in (
      c.loop-next.invariant.0 ∙ sight-passed _ _ _ _ _ c.head_at-head.ensures.value passed,
      omega (arith, c.head_at-head.ensures.forward),
      c.head_at-head.ensures.within,
    )

pub returns-clause-none : goal.returns-clause-none
returns-clause-none c =
    c.loop-next.invariant.0
    ∙ ap (sight c.args.cats.now c.args.state) (drop_all _ _ c.loop-next-test.false)
    ∙ sight-none c.args.cats.now c.args.state
