-- The lists are equal where what is left of them is.
use Rattle.std.proofs.Common.{◌≡◌, drop}
use Rattle.tokens.specs.TokenList.{same_tokens}
use Rattle.macro_args.proofs.matching.are_same.Given as goal

abbrev pub invariant-loop-i : goal.invariant-loop-i
invariant-loop-i l = same_tokens l.tokens l.others ≡ same_tokens (drop l.i l.tokens) (drop l.i l.others)
