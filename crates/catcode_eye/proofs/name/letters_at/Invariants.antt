use Rattle.std.proofs.Common.{◌≡◌, ◌≤◌, ◌++◌, length, drop, ◌-◌}
use Rattle.catcode_eye.specs.Seen.{letters}
use Rattle.catcode_eye.proofs.name.letters_at.Given as goal

-- the name so far and the letters that are left make up the whole
abbrev pub invariant-loop-next : goal.invariant-loop-next
invariant-loop-next l =
    (l.name.items ++ (letters l.cats (drop l.next l.line)).bytes ≡ l.fn.name.items ++ (letters l.cats (drop l.at l.line)).bytes)
    × ((letters l.cats (drop l.next l.line)).rest ≡ (letters l.cats (drop l.at l.line)).rest)
    × (l.at ≤ l.next)
    × (l.next ≤ length l.line)

abbrev pub decreases-loop-next : goal.decreases-loop-next
decreases-loop-next l = length l.line - l.next
