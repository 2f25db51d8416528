-- The tokens so far are equal.
use Rattle.std.proofs.Common.{◌≡◌, ℕ, ◌<◌, get_or}
use Rattle.tokens.specs.declared.token.Token.TheVariants.{Arg}
use Rattle.tokens.proofs.list.are_same.Given as goal

abbrev pub invariant-loop-i : goal.invariant-loop-i
invariant-loop-i l = (k : ℕ) → k < l.i → get_or l.tokens k (Arg 0) ≡ get_or l.others k (Arg 0)
