-- The ways in which a TFM file is refused, numbered.
use Rattle.std.specs.Prelude.{ℕ}
use Rattle.tfm.specs.declared.error.TfmError.{TfmError}
use Rattle.tfm.specs.declared.error.TfmError.TheVariants.{TooShort, LengthsDisagree, BadIndex, BadFixword, BadSize, Loop, OutOfMemory}

-- the number of an error
abbrev pub error_number : TfmError → ℕ
error_number TooShort = 1
error_number LengthsDisagree = 2
error_number (BadIndex place) = 3
error_number (BadFixword place) = 4
error_number BadSize = 5
error_number (Loop place) = 6
error_number OutOfMemory = 7
