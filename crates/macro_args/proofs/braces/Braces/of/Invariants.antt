-- The braces of the tokens so far.
use Rattle.std.proofs.Common.{◌≡◌, take}
use Rattle.macro_args.specs.BraceCount.{braces_of}
use Rattle.macro_args.proofs.braces.Braces.of.Given as goal

abbrev pub invariant-loop-token : goal.invariant-loop-token
invariant-loop-token l = l.braces ≡ braces_of (take l.token-index l.tokens)
