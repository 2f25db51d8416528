use Rattle.std.proofs.Common.{◌≡◌, ◌∙◌, sym, arith}
use Rattle.std.proofs.lemmas.List.{drop_all}
use Rattle.tokens.specs.Categories.{category}
use Rattle.catcode_eye.proofs.LetterRows.{bytes-none, rest-none, bytes-last, rest-last, bytes-more, rest-more}
use Rattle.catcode_eye.proofs.name.letters_at.Goals as goal

pub returns-then-get-ne-LETTER-clause-bytes : goal.returns-then-get-ne-LETTER-clause-bytes
returns-then-get-ne-LETTER-clause-bytes c =
    bytes-last _ _ _ _ _ _ c.head_at-head.ensures.value (λ e. c.if-get-ne-LETTER.true (c.get.ensures.value ∙ e)) c.loop-next.invariant.0

pub returns-then-get-ne-LETTER-clause-rest : goal.returns-then-get-ne-LETTER-clause-rest
returns-then-get-ne-LETTER-clause-rest c =
    rest-last _ _ _ _ _ c.head_at-head.ensures.value (λ e. c.if-get-ne-LETTER.true (c.get.ensures.value ∙ e)) c.loop-next.invariant.1

pub loop-next-preserved : goal.loop-next-preserved
loop-next-preserved c =
    let letter : category c.args.cats.now c.head_at-head.result.byte ≡ 11 = sym c.get.ensures.value ∙ c.if-get-ne-LETTER.false in (
      bytes-more _ _ _ _ _ _ _ c.head_at-head.ensures.value letter c.in_ok-push.ensures.items c.loop-next.invariant.0,
      rest-more _ _ _ _ _ c.head_at-head.ensures.value letter c.loop-next.invariant.1,
      omega (arith, c.head_at-head.ensures.forward),
      c.head_at-head.ensures.within,
    )

pub returns-clause-bytes : goal.returns-clause-bytes
returns-clause-bytes c = bytes-none _ _ _ _ (drop_all _ _ c.loop-next-test.false) c.loop-next.invariant.0

pub returns-clause-rest : goal.returns-clause-rest
returns-clause-rest c = rest-none _ _ _ (drop_all _ _ c.loop-next-test.false) c.loop-next.invariant.1
