-- What a constant's stretch of digits is, one digit after the other.
use Rattle.std.proofs.Common.{◌≡◌, ℕ, ◌+◌, ◌*◌, ◌<◌, ◌≤◌, Bool, true, false, ◌&&◌, not, cond, min, List, [], ◌∷◌, Option, Some, is_some, refl, sym, ◌∙◌, ap, subst, arith}
use Rattle.std.specs.Option.{unwrap_or}
use Rattle.std.proofs.lemmas.Bool.{lt-ltb, ltb-true, ltb-false, and_parts}
use Rattle.tokens.specs.declared.token.Token.{Token}
use Rattle.tokens.specs.declared.meaning.Meaning.{Meaning}
use Rattle.tokens.specs.declared.kind.Kind.TheVariants.{NumberTooBig}
use Rattle.scan_nums.specs.declared.constant.Constant.{Constant}
use Rattle.scan_nums.specs.declared.constant.Radix.{Radix}
use Rattle.scan_nums.specs.declared.constant.Radix.TheVariants.{Base8, Base10, Base16}
use Rattle.scan_nums.specs.declared.int_scan.IntState.TheVariants.{Signs, Digits, TooBig}
use Rattle.scan_nums.specs.declared.int_scan.IntState.{IntState}
use Rattle.scan_nums.specs.declared.start.Start.TheVariants.{Other}
use Rattle.scan_nums.specs.Starts.{start_of}
use Rattle.scan_nums.specs.declared.verdict.Verdict.{Verdict}
use Rattle.scan_nums.specs.declared.verdict.Verdict.TheVariants.{Need, Ask, Sub, Done, DoneBefore, Trouble, Pass}
use Rattle.scan_nums.specs.Awaited.{WhileOpen}
use Rattle.scan_nums.specs.Taken.{Taken, Seen, Told, Resumed}
use Rattle.scan_nums.specs.Constants.{base, digit_of, is_digit, with_digit, number_behind, is_too_big, capped, passes_bound, without_last, constant_of, rest_of_constant, stretch, behind}
use Rattle.scan_nums.specs.WholeNumber.{constant_end, signed_number}
use Rattle.scan_nums.specs.IntStanding.{StateSteps, grown, grown_state, grown_verdict, grown_value, grows_too_big}

-- ---- one digit more

digit_joins : (radix : Radix) (any : Bool) (n : ℕ) (next : Option ℕ → List Taken → Verdict) (x y : Taken) (ys s r : List Taken) (b : Bool)
    → constant_of radix any n next (x ∷ cond b (y ∷ s) []) (cond b r (y ∷ ys))
    ≡ constant_of radix true (with_digit radix n x) next (cond b (y ∷ s) []) (cond b r (y ∷ ys))
digit_joins radix any n next x y ys s [] true = refl
digit_joins radix any n next x y ys s (z ∷ zs) true = refl
digit_joins radix any n next x y ys s r false = refl

-- a digit in front belongs to the number so far
pub rest_digit : (radix : Radix) (any : Bool) (n : ℕ) (next : Option ℕ → List Taken → Verdict) (x y : Taken) (ys : List Taken)
    → is_digit radix x ≡ true
    → rest_of_constant radix any n next (x ∷ y ∷ ys) ≡ rest_of_constant radix true (with_digit radix n x) next (y ∷ ys)
rest_digit radix any n next x y ys h =
    let P : Bool → Type 0 = λ b.
    constant_of radix any n next (cond b (x ∷ stretch (is_digit radix) (y ∷ ys)) []) (cond b (behind (is_digit radix) (y ∷ ys)) (x ∷ y ∷ ys))
    ≡ rest_of_constant radix true (with_digit radix n x) next (y ∷ ys) in
    subst P (sym h) (digit_joins radix any n next x y ys (stretch (is_digit radix) ys) (behind (is_digit radix) ys) (is_digit radix y))

-- ---- numbers that are too big

with_digit_grows : (radix : Radix) (x : Taken) (n : ℕ) → 2147483647 < n → 2147483647 < with_digit radix n x
with_digit_grows Base8 (Seen t m) n h = omega arith
with_digit_grows Base10 (Seen t m) n h = omega arith
with_digit_grows Base16 (Seen t m) n h = omega arith
with_digit_grows radix (Told _) n h = h
with_digit_grows radix Resumed n h = h

number_grows : (radix : Radix) (digits : List Taken) (n : ℕ) → 2147483647 < n → 2147483647 < number_behind radix n digits
number_grows radix [] n h = h
number_grows radix (x ∷ xs) n h = number_grows radix xs (with_digit radix n x) (with_digit_grows radix x n h)

capped_big : (n : ℕ) → 2147483647 < n → capped n ≡ 2147483647
capped_big n h = omega arith

and_not : (a b : Bool) → b ≡ true → (a && not b) ≡ false
and_not true true h = refl
and_not false true h = refl
and_not true false h = cc
and_not false false h = refl

bound_passed_before : (radix : Radix) (n : ℕ) (digits : List Taken) → 2147483647 < n → passes_bound radix n digits ≡ false
bound_passed_before radix n digits h =
    and_not _ (is_too_big (number_behind radix n (without_last digits))) (lt-ltb _ _ (number_grows radix (without_last digits) n h))

big_joins : (radix : Radix) (n w : ℕ) (next : Option ℕ → List Taken → Verdict) (y : Taken) (ys s r : List Taken) (b : Bool)
    → 2147483647 < n → 2147483647 < w
    → constant_of radix true n next (cond b (y ∷ s) []) (cond b r (y ∷ ys))
    ≡ constant_of radix true w next (cond b (y ∷ s) []) (cond b r (y ∷ ys))
big_joins radix n w next y ys s [] true hn hw =
    let F : Bool → Verdict = λ v. cond v (Pass NumberTooBig 0) Need in
    ap F (bound_passed_before radix n (y ∷ s) hn ∙ sym (bound_passed_before radix w (y ∷ s) hw))
big_joins radix n w next y ys s (z ∷ zs) true hn hw =
    let F : ℕ → Verdict = λ v. next (Some v) (z ∷ zs) in
    ap F (capped_big _ (number_grows radix (y ∷ s) n hn) ∙ sym (capped_big _ (number_grows radix (y ∷ s) w hw)))
big_joins radix n w next y ys s r false hn hw =
    let F : ℕ → Verdict = λ v. next (Some v) (y ∷ ys) in
    ap F (capped_big n hn ∙ sym (capped_big w hw))

-- all numbers that are too big are alike
pub rest_big : (radix : Radix) (n w : ℕ) (next : Option ℕ → List Taken → Verdict) (y : Taken) (ys : List Taken)
    → 2147483647 < n → 2147483647 < w
    → rest_of_constant radix true n next (y ∷ ys) ≡ rest_of_constant radix true w next (y ∷ ys)
rest_big radix n w next y ys hn hw =
    big_joins radix n w next y ys (stretch (is_digit radix) ys) (behind (is_digit radix) ys) (is_digit radix y) hn hw

kept_by : (radix : Radix) (n : ℕ) (next : Option ℕ → List Taken → Verdict) (y : Taken) (ys : List Taken) (b : Bool) → is_too_big n ≡ b
    → rest_of_constant radix true n next (y ∷ ys) ≡ rest_of_constant radix true (min n 2147483648) next (y ∷ ys)
kept_by radix n next y ys true h =
    let big : 2147483647 < n = ltb-true 2147483647 n h in
    rest_big radix n (min n 2147483648) next y ys big (omega arith)
kept_by radix n next y ys false h =
    let small : n ≤ 2147483647 = ltb-false 2147483647 n h in
    let same : n ≡ min n 2147483648 = omega arith in
    let F : ℕ → Verdict = λ v. rest_of_constant radix true v next (y ∷ ys) in
    ap F same

-- so a number need not be kept beyond 2147483648
pub rest_kept : (radix : Radix) (n : ℕ) (next : Option ℕ → List Taken → Verdict) (y : Taken) (ys : List Taken)
    → rest_of_constant radix true n next (y ∷ ys) ≡ rest_of_constant radix true (min n 2147483648) next (y ∷ ys)
rest_kept radix n next y ys = kept_by radix n next y ys (is_too_big n) refl

-- ---- a digit that is taken

-- what a digit makes of the number so far, where the digit is known
pub rest_grown : (radix : Radix) (any : Bool) (n digit : ℕ) (next : Option ℕ → List Taken → Verdict) (t : Token) (m : Meaning) (y : Taken) (ys : List Taken)
    → digit_of radix t ≡ Some digit
    → rest_of_constant radix any n next (Seen t m ∷ y ∷ ys) ≡ rest_of_constant radix true (n * base radix + digit) next (y ∷ ys)
rest_grown radix any n digit next t m y ys h =
    let D : Option ℕ → Bool = λ o. is_some o in
    let F : Option ℕ → Verdict = λ o. rest_of_constant radix true (n * base radix + unwrap_or o 0) next (y ∷ ys) in
    rest_digit radix any n next (Seen t m) y ys (ap D h) ∙ ap F h

steps_by : (negative : Bool) (constant : Constant) (digit : ℕ) (t : Token) (m : Meaning) (b : Bool)
    → digit_of constant.radix t ≡ Some digit → grows_too_big constant digit ≡ b
    → WhileOpen (cond b (Pass NumberTooBig 0) Need)
    (StateSteps (Digits negative constant) (Seen t m) (cond b (TooBig negative constant.radix) (Digits negative (grown constant digit))))
steps_by negative constant digit t m true h e = λ next more.
    let big : 2147483647 < grown_value constant digit =
    ltb-true 2147483647 _ (and_parts (is_too_big (grown_value constant digit)) (not (is_too_big constant.value)) e).0 in
    rest_grown constant.radix constant.has_digit constant.value digit (constant_end negative) t m next more h
    ∙ rest_big constant.radix (constant.value * base constant.radix + digit) 2147483648 (constant_end negative) next more (omega arith) (omega arith)
steps_by negative constant digit t m false h e = λ next more.
    rest_grown constant.radix constant.has_digit constant.value digit (constant_end negative) t m next more h
    ∙ rest_kept constant.radix (constant.value * base constant.radix + digit) (constant_end negative) next more

-- the state behind a digit stands for what is left behind it
pub digit_steps : (negative : Bool) (constant : Constant) (digit : ℕ) (t : Token) (m : Meaning)
    → digit_of constant.radix t ≡ Some digit
    → WhileOpen (grown_verdict constant digit) (StateSteps (Digits negative constant) (Seen t m) (grown_state negative constant digit))
digit_steps negative constant digit t m h = steps_by negative constant digit t m (grows_too_big constant digit) h refl

pub digit_kept : (negative : Bool) (constant : Constant) (digit : ℕ) (t : Token) (m : Meaning) (state : IntState) (verdict : Verdict)
    → digit_of constant.radix t ≡ Some digit → state ≡ grown_state negative constant digit → verdict ≡ grown_verdict constant digit
    → WhileOpen verdict (StateSteps (Digits negative constant) (Seen t m) state)
digit_kept negative constant digit t m state verdict h is_state is_verdict =
    let P : IntState → Type 0 = λ s. WhileOpen verdict (StateSteps (Digits negative constant) (Seen t m) s) in
    let Q : Verdict → Type 0 = λ v. WhileOpen v (StateSteps (Digits negative constant) (Seen t m) (grown_state negative constant digit)) in
    subst P (sym is_state) (subst Q (sym is_verdict) (digit_steps negative constant digit t m h))

-- ---- a digit that stands first

pub while_open_along : (verdict : Verdict) (P Q : Type 0) → (P → Q) → WhileOpen verdict P → WhileOpen verdict Q
while_open_along Need P Q f p = f p
while_open_along (Ask quantity) P Q f p = f p
while_open_along (Sub phrase) P Q f p = f p
while_open_along (Done number) P Q f p = tt
while_open_along (DoneBefore number back) P Q f p = tt
while_open_along (Trouble kind) P Q f p = tt
while_open_along (Pass kind back) P Q f p = f p

-- what is neither sign nor space nor mark nor quantity is read as a decimal constant
pub signs_other : (negative : Bool) (t : Token) (m : Meaning) (more : List Taken) → start_of t m ≡ Other
    → signed_number negative (Seen t m ∷ more) ≡ rest_of_constant Base10 false 0 (constant_end negative) (Seen t m ∷ more)
signs_other negative t m more h = simp h

pub other_kept : (negative : Bool) (t : Token) (m : Meaning) (state : IntState) (verdict : Verdict) → start_of t m ≡ Other
    → WhileOpen verdict (StateSteps (Digits negative (record { radix = Base10; has_digit = false; value = 0 })) (Seen t m) state)
    → WhileOpen verdict (StateSteps (Signs negative) (Seen t m) state)
other_kept negative t m state verdict h =
    while_open_along verdict _ _ (λ steps next more. signs_other negative t m (next ∷ more) h ∙ steps next more)
