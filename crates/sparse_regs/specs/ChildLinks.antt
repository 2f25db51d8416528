-- How the children of a node are stored.
use Rattle.std.specs.Prelude.{ℕ, Option, None, Some}
use Rattle.std.proofs.Common.{zero, suc}

-- 0 for no child, and 1 more than the index of one
abbrev pub child_of_link : ℕ → Option ℕ
child_of_link zero = None
child_of_link (suc at) = Some at
