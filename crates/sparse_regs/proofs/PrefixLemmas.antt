-- A prefix is its digits and its number, and a digit more can be told apart and taken away again.
use Rattle.std.proofs.Common.{◌≡◌, ◌≢◌, ℕ, ◌+◌, ◌-◌, ◌*◌, ◌/◌, ◌%◌, ◌<◌, ◌≤◌, inl, inr, refl, ap, sym, ◌∙◌, arith}
use Rattle.std.specs.Prelude.{◌⊎◌, Option, None, Some}
use Rattle.std.proofs.lemmas.Bool.{cases_eq}
use Rattle.sparse_regs.specs.declared.prefix.Prefix.{Prefix}
use Rattle.sparse_regs.specs.Prefixes.{empty_prefix, longer}
use Rattle.sparse_regs.specs.Linked.{IsPrefix, shorter}

pub prefix_ext : (p q : Prefix) → p.digits ≡ q.digits → p.number ≡ q.number → p ≡ q
prefix_ext p q d n =
    let with_digits : p ≡ record { digits = q.digits; number = p.number } = ap (λ (m : ℕ). let r : Prefix = record { digits = m; number = p.number } in r) d in
    with_digits ∙ ap (λ (m : ℕ). let r : Prefix = record { digits = q.digits; number = m } in r) n

pub longer-parts : (p q : Prefix) (d e : ℕ) → d < 16 → e < 16 → longer p d ≡ longer q e → (p ≡ q) × (d ≡ e)
longer-parts p q d e small other h =
    let digits : p.digits + 1 ≡ q.digits + 1 = ap (λ (r : Prefix). r.digits) h in
    let number : 16 * p.number + d ≡ 16 * q.number + e = ap (λ (r : Prefix). r.number) h in
    (prefix_ext p q (omega arith) (omega arith), omega arith)

pub shorter-longer : (p : Prefix) (d : ℕ) → d < 16 → shorter (longer p d) ≡ p
shorter-longer p d small = prefix_ext (shorter (longer p d)) p (omega arith) (omega arith)

pub longer-shorter : (p : Prefix) → 1 ≤ p.digits → longer (shorter p) (p.number % 16) ≡ p
longer-shorter p some = prefix_ext (longer (shorter p) (p.number % 16)) p (omega arith) (omega arith)

pub IsPrefix-longer : (p : Prefix) (d : ℕ) → (p ≡ empty_prefix) ⊎ IsPrefix p → p.digits < 4 → d < 16 → IsPrefix (longer p d)
IsPrefix-longer p d (inl none) short small =
    let digits : p.digits ≡ 0 = ap (λ (r : Prefix). r.digits) none in
    let number : p.number ≡ 0 = ap (λ (r : Prefix). r.number) none in
    record {
      least = omega arith;
      most = omega arith;
      one = λ _. omega arith;
      two = λ _. omega arith;
      three = λ _. omega arith;
      four = omega arith;
    }
IsPrefix-longer p d (inr h) short small = record {
  least = omega arith;
  most = omega arith;
  one = λ (w : p.digits + 1 ≤ 1). absurd (omega (arith, h.least));
  two = λ (w : p.digits + 1 ≤ 2). omega (arith, h.one (omega arith));
  three = λ (w : p.digits + 1 ≤ 3). omega (arith, h.two (omega arith));
  four = omega (arith, h.three (omega arith));
}

-- an index, or none, is another or isn't
pub same_or_not : (a b : Option ℕ) → (a ≡ b) ⊎ (a ≢ b)
same_or_not None None = inl refl
same_or_not None (Some n) = inr (λ e. cc)
same_or_not (Some m) None = inr (λ e. cc)
same_or_not (Some m) (Some n) = elim (cases_eq m n) [ inl e ↦ inl (ap Some e) | inr ne ↦ inr (λ (e : Some m ≡ Some n). ne (cc)) ]
