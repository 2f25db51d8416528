-- Calls on an open file or on the terminal, one after another, by what the system answered to each.
use Rattle.std.specs.Prelude.{◌≡◌, ◌≢◌, ℕ, ◌^◌, ◌<◌, ◌≤◌, List, [], ◌∷◌, ◌++◌, length, take, drop, Result, Ok, Err}
use Rattle.std.specs.IoError.{error_kind}
use Rattle.std.specs.declared.io.Error.{Error}
use Rattle.std.specs.declared.io.ErrorKind.TheVariants.{Interrupted}
use Rattle.world.specs.declared.disk.Outlet.{Outlet}
use Rattle.world.specs.declared.world.WorldError.{WorldError}
use Rattle.world.specs.declared.world.WorldError.TheVariants.{Failed, OutOfMemory}
use Rattle.world.specs.Refusal.{refusal_of}
use Rattle.world.specs.Trace.{Call, SameKind, read_from, wrote_to}

-- the bytes that a read gave, by its count and its buffer
abbrev pub given : Result ℕ Error → List ℕ → Result (List ℕ) Error
given (Ok count) buffer = Ok (take count buffer)
given (Err error) buffer = Err error

-- these reads gave these bytes in all, and left the file so. An interrupted read gave none
pub data Gave {F : Type 0} (file : F) : List (Call F) → List ℕ → F → Type 0 where
  gave_nothing : Gave file [] [] file
  gave_more : {calls : List (Call F)} {bytes : List ℕ} {now : F} (portion : List ℕ) (next : F) → 0 < length portion → Gave file calls bytes now → Gave file (calls ++ read_from now (Ok portion) next ∷ []) (bytes ++ portion) next
  read_again : {calls : List (Call F)} {bytes : List ℕ} {now : F} (error : Error) (next : F) → error_kind error ≡ Interrupted → Gave file calls bytes now → Gave file (calls ++ read_from now (Err error) next ∷ []) bytes next

-- a file is read until a read gives nothing, and what was given before is the answer. It is refused
-- where a read is refused, and fails after 2^40 reads. Memory may be wanted at any time
pub data ReadsAll {F : Type 0} (file : F) : List (Call F) → Result (List ℕ) WorldError → Type 0 where
  read_all : {calls : List (Call F)} {bytes : List ℕ} {now : F} (next : F) → Gave file calls bytes now → length calls < 2 ^ 40 → ReadsAll file (calls ++ read_from now (Ok []) next ∷ []) (Ok bytes)
  read_refused : {calls : List (Call F)} {bytes : List ℕ} {now : F} (error : Error) (next : F) → error_kind error ≢ Interrupted → Gave file calls bytes now → length calls < 2 ^ 40 → ReadsAll file (calls ++ read_from now (Err error) next ∷ []) (Err (refusal_of (error_kind error)))
  read_too_often : {calls : List (Call F)} {bytes : List ℕ} {now : F} → Gave file calls bytes now → length calls ≡ 2 ^ 40 → ReadsAll file calls (Err Failed)
  read_without_memory : {calls : List (Call F)} {bytes : List ℕ} {now : F} → Gave file calls bytes now → length calls ≤ 2 ^ 40 → ReadsAll file calls (Err OutOfMemory)

-- these writes took all of these bytes but the rest, and left the outlet so, which each of them leaves the terminal,
-- or a file. An interrupted write took none
pub data Took {F : Type 0} (outlet : Outlet F) (bytes : List ℕ) : List (Call F) → List ℕ → Outlet F → Type 0 where
  took_nothing : Took outlet bytes [] bytes outlet
  took_more : {calls : List (Call F)} {rest : List ℕ} {now : Outlet F} (count : ℕ) (next : Outlet F) → SameKind now next → 0 < count → Took outlet bytes calls rest now → Took outlet bytes (calls ++ wrote_to now rest (Ok count) next ∷ []) (drop count rest) next
  wrote_again : {calls : List (Call F)} {rest : List ℕ} {now : Outlet F} (error : Error) (next : Outlet F) → SameKind now next → error_kind error ≡ Interrupted → Took outlet bytes calls rest now → Took outlet bytes (calls ++ wrote_to now rest (Err error) next ∷ []) rest next

-- writing is done once no byte is left. It is refused where a write is refused, and fails where a
-- write takes nothing, or where bytes are left after 2^40 writes
pub data WritesAll {F : Type 0} (outlet : Outlet F) (bytes : List ℕ) : List (Call F) → Result (Unit {0}) WorldError → Type 0 where
  wrote_all : {calls : List (Call F)} {now : Outlet F} → Took outlet bytes calls [] now → length calls ≤ 2 ^ 40 → WritesAll outlet bytes calls (Ok tt)
  write_refused : {calls : List (Call F)} {rest : List ℕ} {now : Outlet F} (error : Error) (next : Outlet F) → SameKind now next → error_kind error ≢ Interrupted → 0 < length rest → Took outlet bytes calls rest now → length calls < 2 ^ 40 → WritesAll outlet bytes (calls ++ wrote_to now rest (Err error) next ∷ []) (Err (refusal_of (error_kind error)))
  write_took_nothing : {calls : List (Call F)} {rest : List ℕ} {now : Outlet F} (next : Outlet F) → SameKind now next → 0 < length rest → Took outlet bytes calls rest now → length calls < 2 ^ 40 → WritesAll outlet bytes (calls ++ wrote_to now rest (Ok 0) next ∷ []) (Err Failed)
  wrote_too_often : {calls : List (Call F)} {rest : List ℕ} {now : Outlet F} → 0 < length rest → Took outlet bytes calls rest now → length calls ≡ 2 ^ 40 → WritesAll outlet bytes calls (Err Failed)
