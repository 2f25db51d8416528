-- The names so far are the first primitives.
use Rattle.std.proofs.Common.{◌≡◌, take}
use Rattle.tokens.specs.Primitives.{primitive_names}
use Rattle.tokens.proofs.primitives.primitive_table.Given as goal

abbrev pub invariant-loop-code : goal.invariant-loop-code
invariant-loop-code l = l.names ≡ take l.code primitive_names
