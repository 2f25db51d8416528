-- No name so far is the one that is sought.
use Rattle.std.proofs.Common.{◌≢◌, ℕ, ◌<◌}
use Rattle.tokens.specs.Names.{name_at}
use Rattle.tokens.specs.Primitives.{primitive_names}
use Rattle.tokens.proofs.primitives.primitive_code.Given as goal

abbrev pub invariant-loop-code : goal.invariant-loop-code
invariant-loop-code l = (k : ℕ) → k < l.code → name_at primitive_names k ≢ l.name
