-- The way to a register by its four digits.
use Rattle.std.proofs.Common.{◌≡◌, ◌≢◌, ℕ, ◌+◌, ◌-◌, ◌*◌, ◌/◌, ◌%◌, ◌<◌, ◌≤◌, inl, inr, refl, ap, sym, ◌∙◌, subst, arith, suc, zero, List, length}
use Rattle.std.specs.Prelude.{◌⊎◌, Option, None, Some, IfNone, IfSome, slice_index_or, max}
use Rattle.sparse_regs.specs.declared.prefix.Prefix.{Prefix}
use Rattle.sparse_regs.specs.Prefixes.{empty_prefix, longer, whole, digits_of}
use Rattle.sparse_regs.specs.Linked.{of, IsPrefix, IsLinked, shorter}
use Rattle.sparse_regs.proofs.PrefixLemmas.{prefix_ext, shorter-longer}

-- the first digits of a register
abbrev pub first : ℕ → ℕ → Prefix
first zero n = empty_prefix
first (suc zero) n = record { digits = 1; number = n / 4096 }
first (suc (suc zero)) n = record { digits = 2; number = n / 256 }
first (suc (suc (suc zero))) n = record { digits = 3; number = n / 16 }
first (suc (suc (suc (suc k)))) n = whole n

pub first-longer : (k n digit : ℕ) → k < 4 → n < 65536 → digit ≡ slice_index_or (digits_of n) k 0 → longer (first k n) digit ≡ first (k + 1) n
first-longer zero n digit less small e = prefix_ext (longer (first 0 n) digit) (first 1 n) refl (omega arith)
first-longer (suc zero) n digit less small e = prefix_ext (longer (first 1 n) digit) (first 2 n) refl (omega arith)
first-longer (suc (suc zero)) n digit less small e = prefix_ext (longer (first 2 n) digit) (first 3 n) refl (omega arith)
first-longer (suc (suc (suc zero))) n digit less small e = prefix_ext (longer (first 3 n) digit) (first 4 n) refl (omega arith)
first-longer (suc (suc (suc (suc k)))) n digit less small e = absurd (omega arith)

pub digit-small : (k n digit : ℕ) → n < 65536 → digit ≡ slice_index_or (digits_of n) k 0 → digit < 16
digit-small zero n digit small e = omega arith
digit-small (suc zero) n digit small e = omega arith
digit-small (suc (suc zero)) n digit small e = omega arith
digit-small (suc (suc (suc zero))) n digit small e = omega arith
digit-small (suc (suc (suc (suc k)))) n digit small e = omega arith

pub first-digits : (k n : ℕ) → k < 4 → (first k n).digits ≡ k
first-digits zero n less = refl
first-digits (suc zero) n less = refl
first-digits (suc (suc zero)) n less = refl
first-digits (suc (suc (suc zero))) n less = refl
first-digits (suc (suc (suc (suc k)))) n less = absurd (omega arith)

pub first-small : (k n : ℕ) → k < 4 → n < 65536 → (first k n).number < 4096
first-small zero n less small = omega arith
first-small (suc zero) n less small = omega arith
first-small (suc (suc zero)) n less small = omega arith
first-small (suc (suc (suc zero))) n less small = omega arith
first-small (suc (suc (suc (suc k)))) n less small = absurd (omega arith)

pub IsPrefix-first : (k n : ℕ) → k < 4 → n < 65536 → IsPrefix (first (k + 1) n)
IsPrefix-first zero n less small = record { least = omega arith; most = omega arith; one = λ _. omega arith; two = λ _. omega arith; three = λ _. omega arith; four = omega arith }
IsPrefix-first (suc zero) n less small = record { least = omega arith; most = omega arith; one = λ (h : 2 ≤ 1). absurd (omega arith); two = λ _. omega arith; three = λ _. omega arith; four = omega arith }
IsPrefix-first (suc (suc zero)) n less small = record { least = omega arith; most = omega arith; one = λ (h : 3 ≤ 1). absurd (omega arith); two = λ (h : 3 ≤ 2). absurd (omega arith); three = λ _. omega arith; four = omega arith }
IsPrefix-first (suc (suc (suc zero))) n less small = record { least = omega arith; most = omega arith; one = λ (h : 4 ≤ 1). absurd (omega arith); two = λ (h : 4 ≤ 2). absurd (omega arith); three = λ (h : 4 ≤ 3). absurd (omega arith); four = omega arith }
IsPrefix-first (suc (suc (suc (suc k)))) n less small = absurd (omega arith)

-- a node with more than one digit has one above it
above-node : (pre : ℕ → Option Prefix) (par : ℕ → Option ℕ) (chi : Option ℕ → ℕ → Option ℕ) → IsLinked pre par chi
    → (i : ℕ) (p q : Prefix) → pre i ≡ Some p → shorter p ≡ q → 1 ≤ q.digits → (t : ℕ) × (pre t ≡ Some q)
above-node pre par chi h i p q e f some = by_parent (par i) (h.up i p e ∙ ap Some f)
  where
    by_parent : (a : Option ℕ) → of pre a ≡ Some q → (t : ℕ) × (pre t ≡ Some q)
    by_parent None g = let none : empty_prefix ≡ q = cc in absurd (omega (arith, some, ap (λ (p : Prefix). p.digits) none))
    by_parent (Some t) g = (t, g)

-- all prefixes of a leaf stand
pub first-standing : (pre : ℕ → Option Prefix) (par : ℕ → Option ℕ) (chi : Option ℕ → ℕ → Option ℕ) → IsLinked pre par chi
    → (i n : ℕ) → pre i ≡ Some (whole n) → (k : ℕ) → k < 4 → (t : ℕ) × (pre t ≡ Some (first (k + 1) n))
first-standing pre par chi h i n e = at_digit
  where
    three : (t : ℕ) × (pre t ≡ Some (first 3 n))
    three = above-node pre par chi h i (whole n) (first 3 n) e (prefix_ext (shorter (whole n)) (first 3 n) refl refl) (omega arith)

    two : (t : ℕ) × (pre t ≡ Some (first 2 n))
    two = above-node pre par chi h three.0 (first 3 n) (first 2 n) three.1 (prefix_ext (shorter (first 3 n)) (first 2 n) refl (omega arith)) (omega arith)

    one : (t : ℕ) × (pre t ≡ Some (first 1 n))
    one = above-node pre par chi h two.0 (first 2 n) (first 1 n) two.1 (prefix_ext (shorter (first 2 n)) (first 1 n) refl (omega arith)) (omega arith)

    at_digit : (k : ℕ) → k < 4 → (t : ℕ) × (pre t ≡ Some (first (k + 1) n))
    at_digit zero less = one
    at_digit (suc zero) less = two
    at_digit (suc (suc zero)) less = three
    at_digit (suc (suc (suc zero))) less = (i, e)
    at_digit (suc (suc (suc (suc k)))) less = absurd (omega arith)

-- where the way to a register ends, the register has no leaf
pub way-ends : (pre : ℕ → Option Prefix) (par : ℕ → Option ℕ) (chi : Option ℕ → ℕ → Option ℕ) → IsLinked pre par chi
    → (n k digit : ℕ) (node : Option ℕ) → k < 4 → n < 65536 → digit ≡ slice_index_or (digits_of n) k 0 → of pre node ≡ Some (first k n) → chi node digit ≡ None
    → (i : ℕ) → pre i ≡ Some (whole n) → ⊥
way-ends pre par chi h n k digit node less small e above none i here =
    let there = first-standing pre par chi h i n here k less in
    h.none node (first k n) digit there.0 (digit-small k n digit small e) above none (there.1 ∙ ap Some (sym (first-longer k n digit less small e)))

pub if_none : {A : Type 0} (x : Option A) (P : Type 0) → P → IfNone x P
if_none None P p = p
if_none (Some a) P p = tt

-- at the way's end there is the leaf
pub way-found : (pre : ℕ → Option Prefix) (n : ℕ) (node : Option ℕ) → of pre node ≡ Some (whole n) → IfSome node (λ at. pre at ≡ Some (whole n))
way-found pre n None e = tt
way-found pre n (Some at) e = e

pub way-not-lost : (pre : ℕ → Option Prefix) (n : ℕ) (node : Option ℕ) (P : Type 0) → of pre node ≡ Some (whole n) → IfNone node P
way-not-lost pre n None P e =
    let none : empty_prefix ≡ whole n = cc in
    let no : 0 ≡ 4 = ap (λ (p : Prefix). p.digits) none in
    absurd (omega (arith, no))
way-not-lost pre n (Some at) P e = tt

-- the digits that are left to climb
abbrev pub height : Option Prefix → ℕ
height None = 0
height (Some p) = p.digits

pub first-whole : (k n : ℕ) → 4 ≤ k → first k n ≡ whole n
first-whole zero n h = absurd (omega arith)
first-whole (suc zero) n h = absurd (omega arith)
first-whole (suc (suc zero)) n h = absurd (omega arith)
first-whole (suc (suc (suc zero))) n h = absurd (omega arith)
first-whole (suc (suc (suc (suc k)))) n h = refl

-- what is above all nodes isn't a leaf
pub not-above : (pre : ℕ → Option Prefix) (n k : ℕ) (node : Option ℕ) → 4 ≤ k → node ≡ None → of pre node ≡ Some (first k n) → ⊥
not-above pre n k node h none e =
    let empty : Some empty_prefix ≡ Some (whole n) = ap (of pre) (sym none) ∙ e ∙ ap Some (first-whole k n h) in
    let equal : empty_prefix ≡ whole n = cc in
    let no : 0 ≡ 4 = ap (λ (p : Prefix). p.digits) equal in
    omega (arith, no)
