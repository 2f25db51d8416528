-- Opening a file (The TeXbook, page 214; tex.web 537 and 538).
use Rattle.std.specs.Prelude.{ℕ, pos, true, nat_lt, if◌then◌else◌, Option, None, Some, List, ◌∷◌, Ok, Err}
use Rattle.tokens.specs.Cap.{cap_limit}
use Rattle.tokens.specs.declared.cap.Cap.TheVariants.{Inputs}
use Rattle.tokens.specs.declared.kind.Kind.TheVariants.{FileNotFound}
use Rattle.tokens.specs.declared.stop.Stop.TheVariants.{Trouble, Capacity}
use Rattle.catcode_eye.specs.Lines.{source_lines}
use Rattle.catcode_eye.specs.Outlook.{Outlook, before_lines}
use Rattle.world.specs.Name.{is_good}
use Rattle.asking.specs.Did.{Did}
use Rattle.asking.specs.Library.{fetching}
use Rattle.asking.specs.Meaning.{Meant, still, within, ◌>>=◌}
use Rattle.asking.specs.Seen.{Outside}
use Rattle.stomach.specs.declared.pending.Item.TheVariants.{From}
use Rattle.stomach.specs.declared.state.State.{State}
use Rattle.stomach.specs.NamedFile.{named_file, naming_line}
use Rattle.stomach.specs.Pending.{open_files}
use Rattle.stomach.specs.Report.{file_begun}
use Rattle.stomach.specs.StartValues.{end_line_character}
use Rattle.stomach.specs.Take.{Looking, looking, first_line}

abbrev pub not_found : {A : Type 0} → List ℕ → State → Did State A
not_found file s = Err (Trouble (FileNotFound file), s)

-- the eye before a file's lines
abbrev pub file_eye : List ℕ → Outlook
file_eye bytes = before_lines (source_lines (pos 10) true bytes)

-- the file is what is read next
abbrev pub with_file : State → Did Looking (Unit {0}) → Did State (Unit {0})
with_file s (Ok (done, r)) =
    Ok (tt, record s { pending = From (record { eye = r.eye; is_file = true }) ∷ s.pending; names = r.names; budget = r.budget })
with_file s (Err (stop, r)) = Err (stop, record s { names = r.names; budget = r.budget })

-- a file's first line is taken at once
unfoldable pub opened : List ℕ → State → Did State (Unit {0})
opened bytes s = with_file s (first_line end_line_character (looking (file_eye bytes) s.names s.budget))

-- no more than fifteen files are open
unfoldable pub begun : List ℕ → State → Did State (Unit {0})
begun bytes s = (if nat_lt (open_files s.pending) (cap_limit Inputs) then opened bytes s else Err (Capacity Inputs, s))

-- a file that is there: it is shown that it is opened
unfoldable pub found : List ℕ → List ℕ → State → Did State (Unit {0})
found file bytes s = begun bytes (record s { printer = file_begun file s.printer })

abbrev pub by_found : List ℕ → Option (List ℕ) × State → Did State (Unit {0})
by_found file (None, s) = not_found file s
by_found file (Some bytes, s) = found file bytes s

-- a file is opened; a name that isn't good stands for no file, and isn't asked for outside
unfoldable pub open_file : Outside → List ℕ → State → Meant State (Unit {0})
open_file o file s =
    (if is_good file
    then within (λ printer. record s { printer = printer }) (fetching o file s.printer) >>= (λ found. still (by_found file found))
    else still (not_found file s))

-- \input: the name is read, and the file is opened
unfoldable pub input : Outside → State → Meant State (Unit {0})
input o s = do
  file ← still (named_file s)
  open_file o file.0 file.1

-- the first line names a file, as if \input stood in front of it
unfoldable pub first_input : Outside → State → Meant State (Unit {0})
first_input o s = do
  line ← still (naming_line s)
  input o line.1
