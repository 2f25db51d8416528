-- Reading a decimal fraction gives the nearest number of sp, and the printed digits are what they should be:
-- Knuth's argument, in exact numbers.
use Rattle.std.proofs.Common.{◌≡◌, ℕ, zero, suc, ◌+◌, ◌-◌, ◌*◌, ◌/◌, ◌%◌, ◌^◌, ◌<◌, ◌≤◌, inl, inr, Bool, true, false, cond, List, [], ◌∷◌, ◌++◌, length, length-append, add-one, pos, refl, sym, ap, ◌∙◌, subst, arith}
use Rattle.std.proofs.Math.Nat.{pow-suc, pow-le-pow_right}
use Rattle.std.proofs.lemmas.Bool.{cases_lt, false≢true, eqb-true, eq-eqb}
use Rattle.std.proofs.lemmas.List.Elements.{All-nil, All-push}
use Rattle.std.proofs.lemmas.Nat.{div-add-mod', mod_below, le-div, div_below, mul-le}
use Rattle.scaled.specs.ArithmeticQuotients.{IsNearest, nearest_whole}
use Rattle.scaled.specs.ArithmeticDecimals.{AllAreDigits, number_of, last_digits, doubled_fraction, fraction_of_digits, IsPrintedFraction, nearest_decimal, is_read_back, printed_places, printed_fraction}
use Rattle.scaled.proofs.QuotientLaws.{IsNearest-nearest_of}

-- ---- reading

pub ten_pos : (k : ℕ) → 0 < 10 ^ k
ten_pos zero = omega arith
ten_pos (suc k) = rw pow-suc (omega (arith, ten_pos k))

step_low : (q a d r p n : ℕ) → q * 10 + r ≡ a + 131072 * d → a * p ≤ 131072 * n → q * (p * 10) ≤ 131072 * (d * p + n)
step_low q a d r p n e h = omega (arith, ap (λ x. x * p) e)

step_high : (q a d r p n : ℕ) → q * 10 + r ≡ a + 131072 * d → r < 10 → 131072 * n < (a + 1) * p → 131072 * (d * p + n) < (q + 1) * (p * 10)
step_high q a d r p n e small h = omega (arith, ap (λ x. x * p) e, mul-le r p 9 p (omega arith) (omega arith))

-- the doubled fraction is the quotient of 131072 times the number by the power of ten
doubled_low : (ds : List ℕ) → doubled_fraction ds * 10 ^ length ds ≤ 131072 * number_of ds
doubled_low [] = omega arith
doubled_low (d ∷ ds) =
    let a = doubled_fraction ds + 131072 * d in
    rw pow-suc (step_low (a / 10) (doubled_fraction ds) d (a % 10) (10 ^ length ds) (number_of ds) (div-add-mod' a 10) (doubled_low ds))

doubled_high : (ds : List ℕ) → 131072 * number_of ds < (doubled_fraction ds + 1) * 10 ^ length ds
doubled_high [] = omega arith
doubled_high (d ∷ ds) =
    let a = doubled_fraction ds + 131072 * d in
    rw pow-suc (step_high (a / 10) (doubled_fraction ds) d (a % 10) (10 ^ length ds) (number_of ds) (div-add-mod' a 10) (mod_below a 10 (omega arith)) (doubled_high ds))

-- f 65536ths are the nearest to n / p, and the greater where two are as near
pub record Reads (f n p : ℕ) : Type 0 where
  pub low : 2 * (f * p) ≤ 131072 * n + p
  pub high : 131072 * n + p < 2 * (f * p) + 2 * p

half_low : (q f s p n : ℕ) → f * 2 + s ≡ q + 1 → q * p ≤ 131072 * n → 2 * (f * p) ≤ 131072 * n + p
half_low q f s p n e h = omega (arith, ap (λ x. x * p) e)

half_high : (q f s p n : ℕ) → f * 2 + s ≡ q + 1 → s < 2 → 131072 * n < (q + 1) * p → 131072 * n + p < 2 * (f * p) + 2 * p
half_high q f s p n e small h = omega (arith, ap (λ x. x * p) e, mul-le s p 1 p (omega arith) (omega arith))

pub Reads-fraction_of_digits : (ds : List ℕ) → Reads (fraction_of_digits ds) (number_of ds) (10 ^ length ds)
Reads-fraction_of_digits ds =
    let q = doubled_fraction ds in record {
      low = half_low q ((q + 1) / 2) ((q + 1) % 2) (10 ^ length ds) (number_of ds) (div-add-mod' (q + 1) 2) (doubled_low ds);
      high = half_high q ((q + 1) / 2) ((q + 1) % 2) (10 ^ length ds) (number_of ds) (div-add-mod' (q + 1) 2) (mod_below (q + 1) 2 (omega arith)) (doubled_high ds);
    }

-- such an f is the program's nearest number, and the other way round
pub nearest_from_Reads : (f n p : ℕ) → 0 < p → Reads f n p → nearest_whole (65536 * n) p ≡ f
nearest_from_Reads f n p h r =
    omega (arith, le-div f (2 * (65536 * n) + p) (2 * p) (omega arith) (omega (arith, r.low)), div_below (2 * (65536 * n) + p) (2 * p) (f + 1) (omega arith) (omega (arith, r.high)))

pub Reads-from_nearest : (f n p : ℕ) → 0 < p → nearest_whole (65536 * n) p ≡ f → Reads f n p
Reads-from_nearest f n p h e =
    let m = 2 * (65536 * n) + p in
    let whole : f * (2 * p) + m % (2 * p) ≡ m = subst (λ (q : ℕ). q * (2 * p) + m % (2 * p) ≡ m) e (div-add-mod' m (2 * p)) in
    record { low = omega (arith, whole); high = omega (arith, whole, mod_below m (2 * p) (omega arith)) }

pub fraction_of_digits-is : (ds : List ℕ) → fraction_of_digits ds ≡ nearest_whole (65536 * number_of ds) (10 ^ length ds)
fraction_of_digits-is ds = sym (nearest_from_Reads (fraction_of_digits ds) (number_of ds) (10 ^ length ds) (ten_pos (length ds)) (Reads-fraction_of_digits ds))

-- what is read is nearest to the exact fraction
pub IsNearest-fraction_of_digits : (ds : List ℕ) → IsNearest (pos (65536 * number_of ds)) (pos (10 ^ length ds)) (pos (fraction_of_digits ds))
IsNearest-fraction_of_digits ds =
    subst (λ (q : ℕ). IsNearest (pos (65536 * number_of ds)) (pos (10 ^ length ds)) (pos q)) (sym (fraction_of_digits-is ds))
    (IsNearest-nearest_of (pos (65536 * number_of ds)) (pos (10 ^ length ds)) (ten_pos (length ds)))

-- ---- digits of a number

length-last_digits : (k n : ℕ) → length (last_digits k n) ≡ k
length-last_digits zero n = refl
length-last_digits (suc k) n = omega (arith, length-append (last_digits k (n / 10)) (n % 10 ∷ []), length-last_digits k (n / 10))

AllAreDigits-last_digits : (k n : ℕ) → AllAreDigits (last_digits k n)
AllAreDigits-last_digits zero n = All-nil (λ d. d ≤ 9)
AllAreDigits-last_digits (suc k) n =
    All-push (λ d. d ≤ 9) (last_digits k (n / 10)) (n % 10) (AllAreDigits-last_digits k (n / 10)) (omega (arith, mod_below n 10 (omega arith)))

-- one more digit
push_value : (x p n d : ℕ) → x * (p * 10) + (n * 10 + d) ≡ (x * p + n) * 10 + d
push_value x p n d = omega arith

number_of-push : (ds : List ℕ) (d : ℕ) → number_of (ds ++ d ∷ []) ≡ number_of ds * 10 + d
number_of-push [] d = omega arith
number_of-push (x ∷ ds) d =
    rw (length-append ds (d ∷ []), add-one, pow-suc, number_of-push ds d) (push_value x (10 ^ length ds) (number_of ds) d)

number_of-last_digits : (k n : ℕ) → n < 10 ^ k → number_of (last_digits k n) ≡ n
number_of-last_digits zero n h = omega (arith, h)
number_of-last_digits (suc k) n h =
    let below : n < 10 ^ k * 10 = rw pow-suc at h in
    rw (number_of-push (last_digits k (n / 10)) (n % 10), number_of-last_digits k (n / 10) (div_below n 10 (10 ^ k) (omega arith) below)) (div-add-mod' n 10)

-- ---- printing

-- whatever has few places and is read as f is the nearest number of so many places
same_decimal : (f k m : ℕ) → 10 ^ k ≤ 10000 → Reads f m (10 ^ k) → m ≡ nearest_decimal f k
same_decimal f k m few r =
    let n = 2 * (f * 10 ^ k) + 65536 in
    omega (arith, few, r.low, r.high, div-add-mod' n 131072, mod_below n 131072 (omega arith))

-- five places are always enough
five_read : (f : ℕ) → Reads f (nearest_decimal f 5) (10 ^ 5)
five_read f =
    let n = 2 * (f * 10 ^ 5) + 65536 in
    record {
      low = omega (arith, div-add-mod' n 131072, mod_below n 131072 (omega arith));
      high = omega (arith, div-add-mod' n 131072, mod_below n 131072 (omega arith));
    }

-- what is read as less than a point has no whole part
below_one : (f n p : ℕ) → f < 65536 → Reads f n p → n < p
below_one f n p h r = omega (arith, r.high, mul-le (f + 1) p 65536 p (omega arith) (omega arith))

-- k is the least number of places that is read back
record Places (f k : ℕ) : Type 0 where
  low : 1 ≤ k
  high : k ≤ 5
  reads : is_read_back f k ≡ true
  least : (j : ℕ) → 1 ≤ j → j < k → is_read_back f j ≡ false

none_below : (f j : ℕ) → 1 ≤ j → j < 1 → is_read_back f j ≡ false
none_below f j h k = absurd (omega arith)

one_below : (f : ℕ) → is_read_back f 1 ≡ false → (j : ℕ) → 1 ≤ j → j < 2 → is_read_back f j ≡ false
one_below f e zero h k = absurd (omega arith)
one_below f e (suc zero) h k = e
one_below f e (suc (suc j)) h k = absurd (omega arith)

one_more : (f n : ℕ) → ((j : ℕ) → 1 ≤ j → j < n → is_read_back f j ≡ false) → is_read_back f n ≡ false → (j : ℕ) → 1 ≤ j → j < n + 1 → is_read_back f j ≡ false
one_more f n before at j h k =
    elim (cases_lt j n) [
      | inl lower ↦ before j h lower
      | inr upper ↦ (let same : j ≡ n = omega arith in subst (λ (i : ℕ). is_read_back f i ≡ false) (sym same) at)
    ]

places_by : (f : ℕ) (a b c d : Bool) → is_read_back f 1 ≡ a → is_read_back f 2 ≡ b → is_read_back f 3 ≡ c → is_read_back f 4 ≡ d → is_read_back f 5 ≡ true → Places f (cond a 1 (cond b 2 (cond c 3 (cond d 4 5))))
places_by f true b c d e1 e2 e3 e4 e5 = record { low = omega arith; high = omega arith; reads = e1; least = none_below f }
places_by f false true c d e1 e2 e3 e4 e5 = record { low = omega arith; high = omega arith; reads = e2; least = one_more f 1 (none_below f) e1 }
places_by f false false true d e1 e2 e3 e4 e5 = record { low = omega arith; high = omega arith; reads = e3; least = one_more f 2 (one_more f 1 (none_below f) e1) e2 }
places_by f false false false true e1 e2 e3 e4 e5 = record { low = omega arith; high = omega arith; reads = e4; least = one_more f 3 (one_more f 2 (one_more f 1 (none_below f) e1) e2) e3 }
places_by f false false false false e1 e2 e3 e4 e5 = record { low = omega arith; high = omega arith; reads = e5; least = one_more f 4 (one_more f 3 (one_more f 2 (one_more f 1 (none_below f) e1) e2) e3) e4 }

is_read_back-from_Reads : (f k : ℕ) → Reads f (nearest_decimal f k) (10 ^ k) → is_read_back f k ≡ true
is_read_back-from_Reads f k r = eq-eqb _ f (nearest_from_Reads f (nearest_decimal f k) (10 ^ k) (ten_pos k) r)

Reads-from_is_read_back : (f k : ℕ) → is_read_back f k ≡ true → Reads f (nearest_decimal f k) (10 ^ k)
Reads-from_is_read_back f k e = Reads-from_nearest f (nearest_decimal f k) (10 ^ k) (ten_pos k) (eqb-true _ f e)

Places-printed_places : (f : ℕ) → Places f (printed_places f)
unfolding printed_places
Places-printed_places f =
    places_by f (is_read_back f 1) (is_read_back f 2) (is_read_back f 3) (is_read_back f 4) refl refl refl refl (is_read_back-from_Reads f 5 (five_read f))

-- powers of ten up to the fourth
small_power : (k : ℕ) → k ≤ 4 → 10 ^ k ≤ 10000
small_power k h = pow-le-pow_right (omega arith) h

-- ---- the printed digits, with k their number and n the number that they stand for

reads_places : (f : ℕ) → Reads f (nearest_decimal f (printed_places f)) (10 ^ printed_places f)
reads_places f = Reads-from_is_read_back f (printed_places f) (Places-printed_places f).reads

length-printed_fraction : (f : ℕ) → length (printed_fraction f) ≡ printed_places f
unfolding printed_fraction
length-printed_fraction f = length-last_digits (printed_places f) (nearest_decimal f (printed_places f))

number_of-printed_fraction : (f : ℕ) → f < 65536 → number_of (printed_fraction f) ≡ nearest_decimal f (printed_places f)
unfolding printed_fraction
number_of-printed_fraction f h =
    number_of-last_digits (printed_places f) (nearest_decimal f (printed_places f)) (below_one f _ _ h (reads_places f))

pub AllAreDigits-printed_fraction : (f : ℕ) → AllAreDigits (printed_fraction f)
unfolding printed_fraction
AllAreDigits-printed_fraction f = AllAreDigits-last_digits (printed_places f) (nearest_decimal f (printed_places f))

-- what is printed is read back
pub fraction_of_digits-printed_fraction : (f : ℕ) → f < 65536 → fraction_of_digits (printed_fraction f) ≡ f
fraction_of_digits-printed_fraction f h =
    rw (fraction_of_digits-is (printed_fraction f), number_of-printed_fraction f h, length-printed_fraction f)
    (nearest_from_Reads f (nearest_decimal f (printed_places f)) (10 ^ printed_places f) (ten_pos (printed_places f)) (reads_places f))

-- digits that are read as f make its power of ten's nearest number, if they are few
read_again : (f : ℕ) (es : List ℕ) → length es ≤ 4 → fraction_of_digits es ≡ f → is_read_back f (length es) ≡ true
read_again f es few e =
    let reads : Reads f (number_of es) (10 ^ length es) = subst (λ (g : ℕ). Reads g (number_of es) (10 ^ length es)) e (Reads-fraction_of_digits es) in
    let same : number_of es ≡ nearest_decimal f (length es) = same_decimal f (length es) (number_of es) (small_power (length es) few) reads in
    is_read_back-from_Reads f (length es) (subst (λ (n : ℕ). Reads f n (10 ^ length es)) same reads)

none_shorter : (f : ℕ) (es : List ℕ) → 0 < length es → fraction_of_digits es ≡ f → printed_places f ≤ length es
none_shorter f es some e =
    elim (cases_lt (length es) (printed_places f)) [
      | inl fewer ↦
          (let found = read_again f es (omega (arith, (Places-printed_places f).high)) e in
          absurd (false≢true (sym ((Places-printed_places f).least (length es) some fewer) ∙ found)))
      | inr enough ↦ enough
    ]

-- the nearest number is nearest, and the greatest that is so near
nearer : (a n m : ℕ) → n ≡ nearest_whole a 65536 → (a - 65536 * n) + (65536 * n - a) ≤ (a - 65536 * m) + (65536 * m - a)
nearer a n m e = omega (arith, e, div-add-mod' (2 * a + 65536) 131072, mod_below (2 * a + 65536) 131072 (omega arith))

greater : (a n m : ℕ) → n ≡ nearest_whole a 65536 → (a - 65536 * m) + (65536 * m - a) ≡ (a - 65536 * n) + (65536 * n - a) → m ≤ n
greater a n m e h = omega (arith, e, h, div-add-mod' (2 * a + 65536) 131072, mod_below (2 * a + 65536) 131072 (omega arith))

-- the program gives the printed digits
pub IsPrintedFraction-printed_fraction : (f : ℕ) → f < 65536 → IsPrintedFraction f (printed_fraction f)
IsPrintedFraction-printed_fraction f h =
    let k = length-printed_fraction f in
    let places = Places-printed_places f in
    let number : number_of (printed_fraction f) ≡ nearest_whole (f * 10 ^ length (printed_fraction f)) 65536 =
    rw k (number_of-printed_fraction f h) in
    record {
      digits = AllAreDigits-printed_fraction f;
      some = omega (arith, k, places.low);
      few = omega (arith, k, places.high);
      read_back = fraction_of_digits-printed_fraction f h;
      shortest = λ es digits some e. omega (arith, k, none_shorter f es some e);
      nearest = λ es digits same e. rw same (nearer (f * 10 ^ length (printed_fraction f)) (number_of (printed_fraction f)) (number_of es) number);
      greatest = λ es digits same e near. greater (f * 10 ^ length (printed_fraction f)) (number_of (printed_fraction f)) (number_of es) number (rw same at near);
    }
