-- The digits behind a decimal point that are kept.
use Rattle.std.specs.Prelude.{ℕ, List, take}
use Rattle.scan_nums.specs.declared.decimals.Decimals.{Decimals}

abbrev pub digits_of : Decimals → List ℕ
digits_of decimals = take decimals.count decimals.digits
