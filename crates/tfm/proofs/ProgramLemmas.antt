-- One step along a program of ligatures and kerns.
use Rattle.std.proofs.Common.{◌≡◌, ℕ, zero, suc, ◌+◌, ◌<◌, ◌≤◌, true, false, List, [], ◌∷◌, length, get_or, Some, None, refl, arith}
use Rattle.tfm.specs.declared.quarters.Quarters.{Quarters}
use Rattle.tfm.specs.FontMetricsPrograms.{is_for, ends, instruction_for}

-- the instruction at a place is the one that is looked for
pub instruction_for_found : (right at : ℕ) (words : List Quarters) (d : Quarters) → at < length words → is_for (get_or words at d) right ≡ true → instruction_for right at words ≡ Some (get_or words at d)
instruction_for_found right at [] d h p = absurd (omega arith)
instruction_for_found right zero (word ∷ words) d h p = rw p refl
instruction_for_found right (suc at) (word ∷ words) d h p = instruction_for_found right at words d (omega arith) p

-- the program ends at a place
pub instruction_for_over : (right at : ℕ) (words : List Quarters) (d : Quarters) → at < length words → is_for (get_or words at d) right ≡ false → ends (get_or words at d) ≡ true → instruction_for right at words ≡ None
instruction_for_over right at [] d h p q = absurd (omega arith)
instruction_for_over right zero (word ∷ words) d h p q = rw (p, q) refl
instruction_for_over right (suc at) (word ∷ words) d h p q = instruction_for_over right at words d (omega arith) p q

-- the program goes on from a place
pub instruction_for_on : (right at : ℕ) (words : List Quarters) (d : Quarters) → at < length words → is_for (get_or words at d) right ≡ false → ends (get_or words at d) ≡ false → instruction_for right at words ≡ instruction_for right (at + ((get_or words at d).b0 + 1)) words
instruction_for_on right at [] d h p q = absurd (omega arith)
instruction_for_on right zero (word ∷ words) d h p q =
    let e : 0 + (word.b0 + 1) ≡ suc word.b0 = omega arith in rw (e, p, q) refl
instruction_for_on right (suc at) (word ∷ words) d h p q =
    let e : suc at + ((get_or words at d).b0 + 1) ≡ suc (at + ((get_or words at d).b0 + 1)) = omega arith in
    rw e (instruction_for_on right at words d (omega arith) p q)

pub instruction_for_end : (right at : ℕ) (words : List Quarters) → length words ≤ at → instruction_for right at words ≡ None
instruction_for_end right at [] h = refl
instruction_for_end right zero (word ∷ words) h = absurd (omega arith)
instruction_for_end right (suc at) (word ∷ words) h = instruction_for_end right at words (omega arith)
