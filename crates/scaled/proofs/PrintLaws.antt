-- A printed number grows by its last digit, and a printed dimension is taken apart at its point.
use Rattle.std.proofs.Common.{◌≡◌, ℕ, zero, suc, ◌+◌, ◌-◌, ◌*◌, ◌/◌, ◌%◌, ◌^◌, ◌<◌, ◌≤◌, false, List, [], ◌∷◌, ◌++◌, length, All, map, take, drop, ℤ, pos, negsuc, neg_ℤ, unsigned_abs, zero-le, refl, sym, ap, ◌∙◌, subst, arith, append_assoc}
use Rattle.std.specs.Prelude.{◌==◌, decimal}
use Rattle.std.specs.List.{position_or_len, before_first, after_first}
use Rattle.std.specs.Str.Parse.{digits_value}
use Rattle.std.proofs.lemmas.List.{map-append}
use Rattle.std.proofs.lemmas.List.Elements.{All-nil, All-cons, All-push, All-head, All-tail, All-weaker}
use Rattle.std.proofs.lemmas.Fmt.{decimal_step, decimal_digit, decimal_by_steps, decimal_is_IsNumeral}
use Rattle.std.proofs.lemmas.Bool.{ne_eqb, le-ltb}
use Rattle.std.proofs.lemmas.Nat.{div-add-mod', mod_below}
use Rattle.std.proofs.Math.Seq.{take-append_seam, drop-append-add}
use Rattle.scaled.specs.ArithmeticDecimals.{last_digits, glyphs, is_point, digits_after_point, magnitude_of_text, dimension_of_text, printed_fraction, points_text, fraction_of_digits, IsPrintedFraction}
use Rattle.scaled.proofs.DecimalLaws.{IsPrintedFraction-printed_fraction, fraction_of_digits-printed_fraction}

-- ---- the last digit

glyphs-last_digits : (k n : ℕ) → 0 < k → glyphs (last_digits k n) ≡ glyphs (last_digits (k - 1) (n / 10)) ++ (48 + n % 10) ∷ []
glyphs-last_digits zero n h = absurd (omega arith)
glyphs-last_digits (suc k) n h =
    let less : suc k - 1 ≡ k = omega arith in
    rw less (map-append (λ d. 48 + d) (last_digits k (n / 10)) (n % 10 ∷ []))

pub push_last_digit : (k n : ℕ) (old mid new : List ℕ) → 0 < k → mid ≡ old ++ glyphs (last_digits (k - 1) (n / 10)) → new ≡ mid ++ (48 + n % 10) ∷ [] → new ≡ old ++ glyphs (last_digits k n)
push_last_digit k n old mid new h e f =
    f ∙ ap (λ (xs : List ℕ). xs ++ (48 + n % 10) ∷ []) e ∙ append_assoc old (glyphs (last_digits (k - 1) (n / 10))) ((48 + n % 10) ∷ []) ∙ ap (λ (xs : List ℕ). old ++ xs) (sym (glyphs-last_digits k n h))

pub push_last_of_many : (n : ℕ) (old mid new : List ℕ) → 10 ≤ n → n < 2 ^ 32 → mid ≡ old ++ decimal (n / 10) → new ≡ mid ++ (48 + n % 10) ∷ [] → new ≡ old ++ decimal n
push_last_of_many n old mid new h small e f =
    f ∙ ap (λ (xs : List ℕ). xs ++ (48 + n % 10) ∷ []) e ∙ append_assoc old (decimal (n / 10)) ((48 + n % 10) ∷ []) ∙ ap (λ (xs : List ℕ). old ++ xs) (sym (decimal_step n h (omega arith)))

pub push_only_digit : (n : ℕ) (old new : List ℕ) → n < 10 → new ≡ old ++ (48 + n % 10) ∷ [] → new ≡ old ++ decimal n
push_only_digit n old new h f =
    let same : n % 10 ≡ n = omega arith in
    f ∙ ap (λ (d : ℕ). old ++ (48 + d) ∷ []) same ∙ ap (λ (xs : List ℕ). old ++ xs) (sym (decimal_digit n h))

-- ---- taking a printed dimension apart

-- the bytes of a number are neither a point nor a sign
decimal_bytes : (n : ℕ) → n < 2 ^ 64 → All (λ b. 48 ≤ b) (decimal n)
decimal_bytes n h =
    decimal_by_steps (λ (m : ℕ) (ds : List ℕ). All (λ b. 48 ≤ b) ds)
    (λ m small. All-push (λ b. 48 ≤ b) [] (48 + m) (All-nil (λ b. 48 ≤ b)) (omega arith))
    (λ m ds large all. All-push (λ b. 48 ≤ b) ds (48 + m % 10) all (omega arith)) n h

other_byte : (x c : ℕ) → 48 ≤ x → c < 48 → (x == c) ≡ false
other_byte x c h k = ne_eqb x c (λ e. omega (arith, e))

not_point : (n : ℕ) → n < 2 ^ 64 → All (λ b. is_point b ≡ false) (decimal n)
not_point n h = All-weaker (λ b. 48 ≤ b) (λ b. is_point b ≡ false) (λ b low. other_byte b 46 low (omega arith)) (decimal n) (decimal_bytes n h)

point_at : (xs ys : List ℕ) → All (λ b. is_point b ≡ false) xs → position_or_len is_point (xs ++ 46 ∷ ys) ≡ length xs
point_at [] ys all = refl
point_at (x ∷ xs) ys all =
    rw (All-head (λ b. is_point b ≡ false) x xs all) (omega (arith, point_at xs ys (All-tail (λ b. is_point b ≡ false) x xs all)))

before_point : (xs ys : List ℕ) → All (λ b. is_point b ≡ false) xs → before_first is_point (xs ++ 46 ∷ ys) ≡ xs
before_point xs ys all = ap (λ (k : ℕ). take k (xs ++ 46 ∷ ys)) (point_at xs ys all) ∙ take-append_seam xs (46 ∷ ys)

after_point : (xs ys : List ℕ) → All (λ b. is_point b ≡ false) xs → after_first is_point (xs ++ 46 ∷ ys) ≡ ys
after_point xs ys all = ap (λ (k : ℕ). drop (k + 1) (xs ++ 46 ∷ ys)) (point_at xs ys all) ∙ drop-append-add xs (46 ∷ ys) 1

values-glyphs : (ds : List ℕ) → map (λ b. b - 48) (glyphs ds) ≡ ds
values-glyphs [] = refl
values-glyphs (d ∷ ds) =
    let first : 48 + d - 48 ≡ d = omega arith in
    ap (λ (x : ℕ). x ∷ map (λ b. b - 48) (glyphs ds)) first ∙ ap (λ (xs : List ℕ). d ∷ xs) (values-glyphs ds)

digits_behind : (xs ds : List ℕ) → All (λ b. is_point b ≡ false) xs → digits_after_point (xs ++ 46 ∷ glyphs ds) ≡ ds
digits_behind xs ds all = ap (map (λ b. b - 48)) (after_point xs (glyphs ds) all) ∙ values-glyphs ds

unsigned_text : (xs ys : List ℕ) → All (λ b. 48 ≤ b) xs → dimension_of_text (xs ++ 46 ∷ ys) ≡ pos (magnitude_of_text (xs ++ 46 ∷ ys))
unsigned_text [] ys all = refl
unsigned_text (x ∷ xs) ys all = rw (other_byte x 45 (All-head (λ b. 48 ≤ b) x xs all) (omega arith)) refl

magnitude_is : (n : ℕ) (ds : List ℕ) → n < 2 ^ 64 → magnitude_of_text (decimal n ++ 46 ∷ glyphs ds) ≡ 65536 * n + fraction_of_digits ds
magnitude_is n ds h =
    let whole : digits_value 10 (before_first is_point (decimal n ++ 46 ∷ glyphs ds)) ≡ n =
    ap (digits_value 10) (before_point (decimal n) (glyphs ds) (not_point n h)) ∙ (decimal_is_IsNumeral n h).1 in
    let rest : fraction_of_digits (digits_after_point (decimal n ++ 46 ∷ glyphs ds)) ≡ fraction_of_digits ds =
    ap fraction_of_digits (digits_behind (decimal n) ds (not_point n h)) in
    omega (arith, whole, rest)

-- the text of a size without its sign
size_text : ℕ → List ℕ
size_text n = decimal (n / 65536) ++ 46 ∷ glyphs (printed_fraction (n % 65536))

points_text-pos : (n : ℕ) → points_text (pos n) ≡ size_text n
unfolding size_text
points_text-pos n =
    rw (le-ltb n 0 zero-le) (append_assoc (decimal (n / 65536)) (46 ∷ []) (glyphs (printed_fraction (n % 65536))))

points_text-negsuc : (n : ℕ) → points_text (negsuc n) ≡ 45 ∷ size_text (suc n)
unfolding size_text
points_text-negsuc n =
    ap (λ (xs : List ℕ). 45 ∷ xs) (append_assoc (decimal (suc n / 65536)) (46 ∷ []) (glyphs (printed_fraction (suc n % 65536))))

size_read : (n : ℕ) → n < 2 ^ 32 → magnitude_of_text (size_text n) ≡ n
unfolding size_text
size_read n h =
    omega (arith, magnitude_is (n / 65536) (printed_fraction (n % 65536)) (omega arith), fraction_of_digits-printed_fraction (n % 65536) (mod_below n 65536 (omega arith)), div-add-mod' n 65536)

size_unsigned : (n : ℕ) → n < 2 ^ 32 → dimension_of_text (size_text n) ≡ pos (magnitude_of_text (size_text n))
unfolding size_text
size_unsigned n h = unsigned_text (decimal (n / 65536)) (glyphs (printed_fraction (n % 65536))) (decimal_bytes (n / 65536) (omega arith))

-- a printed dimension is read as itself
pub dimension_of_text-points_text : (s : ℤ) → unsigned_abs s < 2 ^ 32 → dimension_of_text (points_text s) ≡ s
dimension_of_text-points_text (pos n) h =
    ap dimension_of_text (points_text-pos n) ∙ size_unsigned n h ∙ ap pos (size_read n h)
dimension_of_text-points_text (negsuc n) h =
    ap dimension_of_text (points_text-negsuc n) ∙ ap (λ (k : ℕ). neg_ℤ (pos k)) (size_read (suc n) h)

size_digits : (n : ℕ) → n < 2 ^ 32 → digits_after_point (size_text n) ≡ printed_fraction (n % 65536)
unfolding size_text
size_digits n h = digits_behind (decimal (n / 65536)) (printed_fraction (n % 65536)) (not_point (n / 65536) (omega arith))

signed_digits : (n : ℕ) → n < 2 ^ 32 → digits_after_point (45 ∷ size_text n) ≡ printed_fraction (n % 65536)
unfolding size_text
signed_digits n h =
    digits_behind (45 ∷ decimal (n / 65536)) (printed_fraction (n % 65536)) (All-cons (λ b. is_point b ≡ false) 45 (decimal (n / 65536)) refl (not_point (n / 65536) (omega arith)))

digits-points_text : (s : ℤ) → unsigned_abs s < 2 ^ 32 → digits_after_point (points_text s) ≡ printed_fraction (unsigned_abs s % 65536)
digits-points_text (pos n) h = ap digits_after_point (points_text-pos n) ∙ size_digits n h
digits-points_text (negsuc n) h = ap digits_after_point (points_text-negsuc n) ∙ signed_digits (suc n) h

-- and its digits are those that are printed for its fraction
pub IsPrintedFraction-points_text : (s : ℤ) → unsigned_abs s < 2 ^ 32 → IsPrintedFraction (unsigned_abs s % 65536) (digits_after_point (points_text s))
IsPrintedFraction-points_text s h =
    subst (IsPrintedFraction (unsigned_abs s % 65536)) (sym (digits-points_text s h))
    (IsPrintedFraction-printed_fraction (unsigned_abs s % 65536) (mod_below (unsigned_abs s) 65536 (omega arith)))
