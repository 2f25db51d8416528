-- One place more.
use Rattle.std.proofs.Common.{◌∙◌, sym}
use Rattle.macro_args.proofs.MatchingLaws.{found_different, same_so_far, same_to_the_end}
use Rattle.macro_args.proofs.matching.are_same.Goals as goal

pub returns-then-not-is_same : goal.returns-then-not-is_same
returns-then-not-is_same c =
    found_different _ _ c.loop-i.i _ c.loop-i-test.true c.requires c.loop-i.invariant (sym c.is_same.ensures.value ∙ c.if-not-is_same.true)

pub loop-i-preserved : goal.loop-i-preserved
loop-i-preserved c =
    same_so_far _ _ c.loop-i.i _ c.loop-i-test.true c.requires c.loop-i.invariant (sym c.is_same.ensures.value ∙ c.if-not-is_same.false)

pub returns : goal.returns
returns c = same_to_the_end _ _ c.loop-i.i c.loop-i-test.false c.requires c.loop-i.invariant
