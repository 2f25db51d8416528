-- The delimiter goes on to here, and further with what is its front.
use Rattle.std.proofs.Common.{◌≡◌, ◌+◌, ◌-◌, ◌≤◌, length, drop}
use Rattle.macro_args.specs.ParameterText.{parts_of}
use Rattle.macro_args.proofs.place.delimiter_end.Given as goal

abbrev pub invariant-loop-end : goal.invariant-loop-end
invariant-loop-end l =
    (l.end ≤ length l.parameters)
    × (l.begin + length (parts_of (drop l.begin l.parameters)).front ≡ l.end + length (parts_of (drop l.end l.parameters)).front)

abbrev pub decreases-loop-end : goal.decreases-loop-end
decreases-loop-end l = length l.parameters - l.end
