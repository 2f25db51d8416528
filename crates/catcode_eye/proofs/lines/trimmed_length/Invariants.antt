use Rattle.std.proofs.Common.{◌≡◌, ◌≤◌, length, take}
use Rattle.catcode_eye.specs.Lines.{trimmed}
use Rattle.catcode_eye.proofs.lines.trimmed_length.Given as goal

-- what was passed is lost
abbrev pub invariant-loop-kept : goal.invariant-loop-kept
invariant-loop-kept l = (trimmed (take l.kept l.line) ≡ trimmed l.line) × (l.kept ≤ length l.line)

abbrev pub decreases-loop-kept : goal.decreases-loop-kept
decreases-loop-kept l = l.kept
