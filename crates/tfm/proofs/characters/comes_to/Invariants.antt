use Rattle.std.proofs.Common.{◌≡◌, ◌-◌}
use Rattle.tfm.specs.FontMetricsCharacters.{comes_to}
use Rattle.tfm.proofs.characters.comes_to.Given as goal

-- the chain from here on, in the steps that are left, comes to the top exactly where the whole chain does
abbrev pub invariant-loop-step : goal.invariant-loop-step
invariant-loop-step l =
    comes_to l.bytes l.lengths l.top (l.steps - l._step) l.next ≡ comes_to l.fn.bytes l.fn.lengths l.fn.top l.fn.steps l.fn.first
