-- The bytes of a message that is kept in parts.
use Rattle.std.specs.Prelude.{ℕ, List, ◌++◌}
use Rattle.tokens.specs.declared.wording.Wording.{Wording}

-- the parts, one behind the other
abbrev pub wording_text : Wording → List ℕ
wording_text w = w.front.now ++ w.first.now ++ w.between.now ++ w.second.now
