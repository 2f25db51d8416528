-- The file that a name asks for, and what a run notes of it (tex.web 526 to 537).
use Rattle.std.specs.Prelude.{false, ◌==◌, if◌then◌else◌, ℕ, List, length, Ok}
use Rattle.asking.specs.Did.{Did, ◌>>=◌}
use Rattle.stomach.specs.declared.state.State.{State}
use Rattle.stomach.specs.FileName.{file_of, job_of}
use Rattle.stomach.specs.Name.{file_name}
use Rattle.stomach.specs.Operand.{in_state, reading_of}
use Rattle.stomach.specs.Pending.{begun_behind_word}
use Rattle.stomach.specs.StartValues.{end_line_character}

-- a file is asked for; the first one names the job
abbrev pub wanted : List ℕ → State → State
wanted file s = record s { asked = file; job = (if length s.job == 0 then job_of file else s.job) }

-- the name is read
unfoldable pub named_file : State → Did State (List ℕ)
named_file s = do
  name ← file_name s
  Ok (file_of name.0, wanted (file_of name.0) name.1)

-- the first line is taken, and the eye stands in it as behind \input
unfoldable pub naming_line : State → Did State (Unit {0})
naming_line s = in_state (record s { names_file = false }) (begun_behind_word end_line_character (reading_of s))
