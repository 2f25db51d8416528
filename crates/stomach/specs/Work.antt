-- How much a run can still do: each step that is left, each token that was put back, each source, and the
-- name that is still to be read.
use Rattle.std.specs.Prelude.{ℕ, ◌+◌, ◌*◌, if◌then◌else◌}
use Rattle.stomach.specs.declared.state.State.{State}
use Rattle.stomach.specs.Pending.{pending_work}

abbrev pub work : State → ℕ
work s = 4 * s.budget.left + pending_work s.pending + (if s.names_file then 2 else 0)
