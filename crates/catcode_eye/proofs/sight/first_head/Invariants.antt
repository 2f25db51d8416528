use Rattle.std.proofs.Common.{◌≡◌, ◌≤◌, length, drop, ◌-◌}
use Rattle.catcode_eye.specs.Seen.{sight}
use Rattle.catcode_eye.proofs.sight.first_head.Given as goal

-- what is seen from here on is what is seen from the start on
abbrev pub invariant-loop-next : goal.invariant-loop-next
invariant-loop-next l =
    (sight l.cats l.state (drop l.at l.line) ≡ sight l.cats l.state (drop l.next l.line))
    × (l.at ≤ l.next)
    × (l.next ≤ length l.line)

abbrev pub decreases-loop-next : goal.decreases-loop-next
decreases-loop-next l = length l.line - l.next
