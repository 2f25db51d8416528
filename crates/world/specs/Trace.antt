-- What a folder's world asked of the system: its calls, each with the answer that it had.
use Rattle.std.specs.Prelude.{◌≡◌, ℕ, List, [], ◌∷◌, Option, None, Result}
use Rattle.std.specs.declared.fs.OpenOptions.{OpenOptions}
use Rattle.std.specs.declared.io.Error.{Error}
use Rattle.world.specs.declared.disk.Outlet.{Outlet}
use Rattle.world.specs.declared.disk.Outlet.TheVariants.{Terminal, File}

-- a call with its answer. An open file, and the terminal, stand there as they were before the call
-- and after it. A read answers the bytes that it gave, and a write how many bytes it took
pub data Call (F : Type 0) : Type 0 where
  opened : OpenOptions → List ℕ → Result F Error → Call F
  read_from : F → Result (List ℕ) Error → F → Call F
  wrote_to : Outlet F → List ℕ → Result ℕ Error → Outlet F → Call F

-- from the first state of the system to the last, these calls were made in this order, and no other
abbrev pub Did : {S F : Type 0} → (S → Call F → S → Type 0) → S → List (Call F) → S → Type 0
Did did first [] last = last ≡ first
Did {S} did first (call ∷ calls) last = (next : S) × did first call next × Did did next calls last

-- the terminal stays the terminal, and a file a file
abbrev pub SameKind : {F : Type 0} → Outlet F → Outlet F → Type 0
SameKind Terminal Terminal = Unit {0}
SameKind Terminal (File next) = ⊥
SameKind (File file) Terminal = ⊥
SameKind (File file) (File next) = Unit {0}

-- what is known of the bytes that were written to an outlet. Nothing is known of the terminal
abbrev pub contents_of : {F : Type 0} → (F → Option (List ℕ)) → Outlet F → Option (List ℕ)
contents_of contents Terminal = None
contents_of contents (File file) = contents file
