-- Behind the digit that passed the bound, the word to go on is passed over.
use Rattle.std.proofs.Common.{true, refl}
use Rattle.scan_nums.specs.Taken.{Resumed}
use Rattle.scan_nums.specs.WholeNumber.{constant_end}
use Rattle.scan_nums.proofs.ConstantLaws.{rest_digit}
use Rattle.scan_nums.proofs.int_scan.go_on.Goals as goal

pub returns-in-TooBig-clause-kept : goal.returns-in-TooBig-clause-kept
returns-in-TooBig-clause-kept c =
    λ next more. rw c.in-TooBig.is (rest_digit c.in-TooBig.radix true 2147483648 (constant_end c.in-TooBig.negative) Resumed next more refl)
