-- Digits are determined by how many they are and the number that they stand for, and the printed ones by
-- their fraction.
use Rattle.std.proofs.Common.{◌≡◌, ℕ, ◌+◌, ◌*◌, ◌^◌, ◌<◌, ◌≤◌, List, [], ◌∷◌, length, refl, sym, ap, ◌∙◌, arith}
use Rattle.std.proofs.Math.Nat.{pow-suc}
use Rattle.std.proofs.lemmas.List.Elements.{All-head, All-tail}
use Rattle.std.proofs.lemmas.Nat.{mul-le, same_from_place}
use Rattle.scaled.specs.ArithmeticDecimals.{AllAreDigits, number_of, IsPrintedFraction}

number_of-lt : (ds : List ℕ) → AllAreDigits ds → number_of ds < 10 ^ length ds
number_of-lt [] digits = omega arith
number_of-lt (d ∷ ds) digits =
    let low : d ≤ 9 = All-head (λ b. b ≤ 9) d ds digits in
    rw pow-suc (omega (arith, number_of-lt ds (All-tail (λ b. b ≤ 9) d ds digits), mul-le d (10 ^ length ds) 9 (10 ^ length ds) low (omega arith)))

same_digits : (ds es : List ℕ) → AllAreDigits ds → AllAreDigits es → length ds ≡ length es → number_of ds ≡ number_of es → ds ≡ es
same_digits [] [] all_ds all_es long number = refl
same_digits [] (e ∷ es) all_ds all_es long number = absurd (omega (arith, long))
same_digits (d ∷ ds) [] all_ds all_es long number = absurd (omega (arith, long))
same_digits (d ∷ ds) (e ∷ es) all_ds all_es long number =
    let rest_ds = All-tail (λ b. b ≤ 9) d ds all_ds in
    let rest_es = All-tail (λ b. b ≤ 9) e es all_es in
    let as_long : length ds ≡ length es = omega (arith, long) in
    let power : 10 ^ length ds ≡ 10 ^ length es = ap (λ (k : ℕ). 10 ^ k) as_long in
    let below : number_of es < 10 ^ length ds = omega (arith, power, number_of-lt es rest_es) in
    let places : d * 10 ^ length ds + number_of ds ≡ e * 10 ^ length ds + number_of es = number ∙ ap (λ (p : ℕ). e * p + number_of es) (sym power) in
    let parts = same_from_place d (number_of ds) e (number_of es) (10 ^ length ds) (number_of-lt ds rest_ds) below places in
    ap (λ (x : ℕ). x ∷ ds) parts.0 ∙ ap (λ (xs : List ℕ). e ∷ xs) (same_digits ds es rest_ds rest_es as_long parts.1)

-- there is one way to print a fraction
pub IsPrintedFraction-unique : (f : ℕ) (ds es : List ℕ) → IsPrintedFraction f ds → IsPrintedFraction f es → ds ≡ es
IsPrintedFraction-unique f ds es p q =
    let as_long : length ds ≡ length es = omega (arith, p.shortest es q.digits q.some q.read_back, q.shortest ds p.digits p.some p.read_back) in
    let near = p.nearest es q.digits (sym as_long) q.read_back in
    let near' = q.nearest ds p.digits as_long p.read_back in
    same_digits ds es p.digits q.digits as_long
    (omega (arith, p.greatest es q.digits (sym as_long) q.read_back (omega (arith, near, near')), q.greatest ds p.digits as_long p.read_back (omega (arith, near, near'))))
