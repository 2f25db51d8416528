-- The names of files and of the job (The TeXbook, chapter 25; tex.web 515 to 537).
use Rattle.std.specs.Prelude.{ℕ, Bool, ◌==◌, ◌&&◌, not, if◌then◌else◌, List, ◌++◌, length, codes}
use Rattle.std.specs.List.{list_any, take_while}
use Rattle.world.specs.Name.{is_good}

-- whether a dot, byte 46, stands in the name
abbrev pub has_dot : List ℕ → Bool
has_dot name = list_any (λ byte. byte == 46) name

-- the file that a name asks for: without a dot, `.tex` is added
abbrev pub file_of : List ℕ → List ℕ
file_of name = if has_dot name then name else name ++ codes ".tex"

-- what stands before the first dot
abbrev pub before_dot : List ℕ → List ℕ
before_dot file = take_while (λ byte. not (byte == 46)) file

-- whether a job of this name can have a log
abbrev pub has_log : List ℕ → Bool
has_log job = not (length job == 0) && is_good (job ++ codes ".log")

-- the job that a run is named by its first file: what stands before the first dot, or `texput` where no log
-- of that name could be written
abbrev pub job_of : List ℕ → List ℕ
job_of file = (if has_log (before_dot file) then before_dot file else codes "texput")

-- the DVI file of a job
abbrev pub dvi_of : List ℕ → List ℕ
dvi_of job = job ++ codes ".dvi"
