-- What the calls of a folder's world make of the system's answers.
use Rattle.std.specs.Prelude.{◌≡◌, ℕ, true, if◌then◌else◌, List, [], Option, None, Some, Result, Ok, Err, Vec}
use Rattle.std.specs.Fs.{new_options, with_read, with_write, with_append, with_create, with_truncate}
use Rattle.std.specs.declared.fs.OpenOptions.{OpenOptions}
use Rattle.std.specs.IoError.{error_kind}
use Rattle.std.specs.declared.io.Error.{Error}
use Rattle.world.specs.declared.disk.Outlet.TheVariants.{File}
use Rattle.world.specs.declared.world.WorldError.{WorldError}
use Rattle.world.specs.InTurn.{ReadsAll, WritesAll}
use Rattle.world.specs.Refusal.{refusal_of, is_absence}
use Rattle.world.specs.Trace.{Call}

-- how a file is opened that is to be read, made anew, and added to
abbrev pub to_read : OpenOptions
to_read = with_read new_options true

abbrev pub to_create : OpenOptions
to_create = with_truncate (with_create (with_write new_options true) true) true

abbrev pub to_append : OpenOptions
to_append = with_create (with_append new_options true) true

-- what a call answers whose only call on the system was answered so
abbrev pub done_by : {A : Type 0} → Result A Error → Result (Unit {0}) WorldError
done_by (Ok _) = Ok tt
done_by (Err error) = Err (refusal_of (error_kind error))

-- the bytes that a call answers
abbrev pub bytes_read : {Z : Type 0} → Result (Vec ℕ Z) WorldError → Result (List ℕ) WorldError
bytes_read (Ok found) = Ok found.items
bytes_read (Err refusal) = Err refusal

-- a file that was opened is fetched by these calls, which read it to its end. One that isn't there
-- is absent, and no call follows
abbrev pub FetchedBy : {F Z : Type 0} → Result F Error → List (Call F) → Result (Option (Vec ℕ Z)) WorldError → Type 0
FetchedBy (Ok file) calls (Ok None) = ⊥
FetchedBy (Ok file) calls (Ok (Some found)) = ReadsAll file calls (Ok found.items)
FetchedBy (Ok file) calls (Err refusal) = ReadsAll file calls (Err refusal)
FetchedBy (Err error) calls result = (calls ≡ []) × (result ≡ (if is_absence (error_kind error) then Ok None else Err (refusal_of (error_kind error))))

-- the file that was opened is handed the bytes by these calls
abbrev pub AppendedBy : {F : Type 0} → Result F Error → List ℕ → List (Call F) → Result (Unit {0}) WorldError → Type 0
AppendedBy (Ok file) bytes calls result = WritesAll (File file) bytes calls result
AppendedBy (Err error) bytes calls result = (calls ≡ []) × (result ≡ Err (refusal_of (error_kind error)))
