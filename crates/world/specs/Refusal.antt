-- The world's words for the errors of the system.
use Rattle.std.specs.Prelude.{Bool, true, false}
use Rattle.std.specs.declared.io.ErrorKind.{ErrorKind}
use Rattle.std.specs.declared.io.ErrorKind.TheVariants as kind
use Rattle.world.specs.declared.world.WorldError.{WorldError}
use Rattle.world.specs.declared.world.WorldError.TheVariants.{Failed, OutOfMemory}

-- the system's want of memory is the world's, and each other error is a failure
abbrev pub refusal_of : ErrorKind → WorldError
refusal_of kind.OutOfMemory = OutOfMemory
refusal_of _ = Failed

-- the errors of an opening that say that there is no such file
abbrev pub is_absence : ErrorKind → Bool
is_absence kind.NotFound = true
is_absence kind.NotADirectory = true
is_absence _ = false
