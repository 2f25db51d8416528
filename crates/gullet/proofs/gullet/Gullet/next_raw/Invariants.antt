use Rattle.gullet.specs.RawToken.{ends_left}
use Rattle.gullet.specs.State.{state_of}
use Rattle.gullet.proofs.Seeking.{Passes}
use Rattle.gullet.proofs.gullet.Gullet.next_raw.Given as goal

-- the next token from here is the next token from the start
abbrev pub invariant-ends : goal.invariant-ends
invariant-ends l = Passes (state_of l.initial.self l.initial.site) (state_of l.self l.site)

abbrev pub decreases-ends : goal.decreases-ends
decreases-ends l = ends_left l.self.pending
