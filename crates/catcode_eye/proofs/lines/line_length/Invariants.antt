use Rattle.std.proofs.Common.{◌≡◌, ℕ, ◌<◌, get_or, false}
use Rattle.catcode_eye.specs.Lines.{is_mark}
use Rattle.catcode_eye.proofs.lines.line_length.Given as goal

-- no byte so far is the mark
abbrev pub invariant-loop-i : goal.invariant-loop-i
invariant-loop-i l = (k : ℕ) → k < l.i → is_mark l.mark (get_or l.rest k 0) ≡ false
