-- A text that is longer than the list.
use Rattle.macro_args.proofs.MatchingLaws.{longer_is_no_end}
use Rattle.macro_args.proofs.matching.ends_with.Goals as goal

pub returns-then-tokens-text : goal.returns-then-tokens-text
returns-then-tokens-text c = longer_is_no_end _ _ c.if-tokens-text.true
