-- No shorter beginning stands at the end.
use Rattle.std.proofs.Common.{◌≡◌, false}
use Rattle.macro_args.specs.BraceCount.{braces_of}
use Rattle.macro_args.specs.Arguments.{is_begun_by}
use Rattle.macro_args.proofs.matching.is_part.Given as goal

abbrev pub invariant-loop-last : goal.invariant-loop-last
invariant-loop-last l = l.braces ≡ braces_of l.tokens → is_begun_by l.last l.delimiter l.tokens ≡ false
