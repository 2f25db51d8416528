use Rattle.std.proofs.Common.{◌∙◌, arith}
use Rattle.catcode_eye.specs.Superscripts.{reduced-none, reduced-some}
use Rattle.catcode_eye.proofs.head.head_at.Goals as goal

pub loop-form-preserved : goal.loop-form-preserved
loop-form-preserved c =
    (c.loop-form.invariant.0 ∙ reduced-some _ _ _ c.in-Some.ensures.value, omega (arith, c.in-Some.ensures.forward), omega (arith, c.in-Some.ensures.within))

pub returns-clause-value : goal.returns-clause-value
returns-clause-value c = c.loop-form.invariant.0 ∙ reduced-none _ _ c.in_default.ensures.value
