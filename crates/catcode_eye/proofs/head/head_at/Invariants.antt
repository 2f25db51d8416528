use Rattle.std.proofs.Common.{◌≡◌, ◌<◌, ◌≤◌, ◌∷◌, length, drop, ◌-◌}
use Rattle.catcode_eye.specs.Superscripts.{reduced}
use Rattle.catcode_eye.proofs.head.head_at.Given as goal

-- the head so far has the same head
abbrev pub invariant-loop-form : goal.invariant-loop-form
invariant-loop-form l =
    (reduced l.cats (drop l.at l.line) ≡ reduced l.cats (l.head.byte ∷ drop l.head.next l.line))
    × (l.at < l.head.next)
    × (l.head.next ≤ length l.line)

abbrev pub decreases-loop-form : goal.decreases-loop-form
decreases-loop-form l = length l.line - l.head.next
