-- What is wanted behind a case that is passed over, by what that told.
use Rattle.std.specs.Prelude.{◌≡◌, refl, ℕ, List, [], ◌∷◌, Option}
use Rattle.gullet.specs.Wants.{Taken, told_of, cases_want, cases_left_want}

pub cases_taken : (level : ℕ) (left : Option ℕ) (x : Taken) (xs : List Taken) → cases_want level left (x ∷ xs) ≡ cases_left_want (told_of x) level left xs
cases_taken level left x [] = refl
cases_taken level left x (y ∷ ys) = refl

pub ruleset cases = (cases_taken)
