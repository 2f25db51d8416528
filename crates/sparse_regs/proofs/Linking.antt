-- Nodes stay linked where one is made below another, and where one without children is taken away.
use Rattle.std.proofs.Common.{◌≡◌, ◌≢◌, ℕ, ◌+◌, ◌-◌, ◌*◌, ◌/◌, ◌%◌, ◌<◌, ◌≤◌, inl, inr, refl, ap, sym, ◌∙◌, subst, arith}
use Rattle.std.specs.Prelude.{◌⊎◌, Option, None, Some}
use Rattle.std.proofs.lemmas.Bool.{cases_eq}
use Rattle.sparse_regs.specs.declared.prefix.Prefix.{Prefix}
use Rattle.sparse_regs.specs.Prefixes.{empty_prefix, longer}
use Rattle.sparse_regs.specs.Linked.{of, IsPrefix, shorter, IsLinked}
use Rattle.sparse_regs.proofs.PrefixLemmas.{longer-parts, shorter-longer, longer-shorter, IsPrefix-longer, same_or_not}

-- a new node i below j
pub record IsMade (pre pre' : ℕ → Option Prefix) (par par' : ℕ → Option ℕ) (chi chi' : Option ℕ → ℕ → Option ℕ)
    (j : Option ℕ) (p : Prefix) (digit i : ℕ) : Type 0 where
  pub new : pre' i ≡ Some (longer p digit)
  pub others : (k : ℕ) → k ≢ i → pre' k ≡ pre k
  pub parent : par' i ≡ j
  pub parents : (k : ℕ) → k ≢ i → par' k ≡ par k
  pub linked : chi' j digit ≡ Some i
  pub same : (k : Option ℕ) (d : ℕ) → d ≢ digit → k ≢ Some i → chi' k d ≡ chi k d
  pub elsewhere : (k : Option ℕ) (d : ℕ) → k ≢ j → k ≢ Some i → chi' k d ≡ chi k d
  pub childless : (d : ℕ) → chi' (Some i) d ≡ None

-- a node i below j that goes
pub record IsGone (pre pre' : ℕ → Option Prefix) (par par' : ℕ → Option ℕ) (chi chi' : Option ℕ → ℕ → Option ℕ)
    (j : Option ℕ) (digit i : ℕ) : Type 0 where
  pub gone : pre' i ≡ None
  pub others : (k : ℕ) → k ≢ i → pre' k ≡ pre k
  pub parents : (k : ℕ) → k ≢ i → par' k ≡ par k
  pub unlinked : chi' j digit ≡ None
  pub same : (k : Option ℕ) (d : ℕ) → d ≢ digit → k ≢ Some i → chi' k d ≡ chi k d
  pub elsewhere : (k : Option ℕ) (d : ℕ) → k ≢ j → k ≢ Some i → chi' k d ≡ chi k d

-- the prefix of a node that isn't i stays
of-others : (pre pre' : ℕ → Option Prefix) (i : ℕ) → ((k : ℕ) → k ≢ i → pre' k ≡ pre k) → (k : Option ℕ) → k ≢ Some i → of pre' k ≡ of pre k
of-others pre pre' i others None ne = refl
of-others pre pre' i others (Some k) ne = others k (λ e. ne (ap Some e))

-- two nodes of one prefix are the same
pub of-one : (pre : ℕ → Option Prefix) (par : ℕ → Option ℕ) (chi : Option ℕ → ℕ → Option ℕ) → IsLinked pre par chi
    → (j k : Option ℕ) (p : Prefix) → of pre j ≡ Some p → of pre k ≡ Some p → j ≡ k
of-one pre par chi h None None p e f = refl
of-one pre par chi h None (Some k) p e f =
    let least : 1 ≤ p.digits = (h.shaped k p f).least in
    let none : empty_prefix ≡ p = cc in
    absurd (omega (arith, least, ap (λ (r : Prefix). r.digits) none))
of-one pre par chi h (Some j) None p e f =
    let least : 1 ≤ p.digits = (h.shaped j p e).least in
    let none : empty_prefix ≡ p = cc in
    absurd (omega (arith, least, ap (λ (r : Prefix). r.digits) none))
of-one pre par chi h (Some j) (Some k) p e f = ap Some (h.one j k p e f)

-- what is above a node has a shape that a digit more fits
of-shaped : (pre : ℕ → Option Prefix) (par : ℕ → Option ℕ) (chi : Option ℕ → ℕ → Option ℕ) → IsLinked pre par chi
    → (j : Option ℕ) (p : Prefix) → of pre j ≡ Some p → (p ≡ empty_prefix) ⊎ IsPrefix p
of-shaped pre par chi h None p e = inl (cc)
of-shaped pre par chi h (Some j) p e = inr (h.shaped j p e)

-- the child by a node's last digit is the node
pub child-up : (pre : ℕ → Option Prefix) (par : ℕ → Option ℕ) (chi : Option ℕ → ℕ → Option ℕ) → IsLinked pre par chi
    → (j : Option ℕ) (p : Prefix) (digit i : ℕ) → digit < 16 → of pre j ≡ Some p → pre i ≡ Some (longer p digit) → chi j digit ≡ Some i
child-up pre par chi h j p digit i small above here = by_child (chi j digit) refl
  where
    by_child : (c : Option ℕ) → chi j digit ≡ c → chi j digit ≡ Some i
    by_child None e = absurd (h.none j p digit i small above e here)
    by_child (Some k) e = e ∙ ap Some (h.one k i (longer p digit) (h.some j p digit k small above e) here)

pub IsLinked-made : (pre pre' : ℕ → Option Prefix) (par par' : ℕ → Option ℕ) (chi chi' : Option ℕ → ℕ → Option ℕ)
    (j : Option ℕ) (p : Prefix) (digit i : ℕ) → IsLinked pre par chi → IsMade pre pre' par par' chi chi' j p digit i
    → digit < 16 → p.digits < 4 → of pre j ≡ Some p → pre i ≡ None → chi j digit ≡ None → IsLinked pre' par' chi'
IsLinked-made pre pre' par par' chi chi' j p digit i h m small short above free absent =
    record { shaped = shaped'; one = one'; up = up'; some = some'; none = none' }
  where
    j-other : j ≢ Some i
    j-other e = let there : of pre (Some i) ≡ Some p = ap (of pre) (sym e) ∙ above in cc

    stays : (k : Option ℕ) → k ≢ Some i → of pre' k ≡ of pre k
    stays k ne = of-others pre pre' i m.others k ne

    is_new : (q : Prefix) → pre' i ≡ Some q → longer p digit ≡ q
    is_new q e = let f : Some (longer p digit) ≡ Some q = sym m.new ∙ e in cc

    shaped' : (k : ℕ) (q : Prefix) → pre' k ≡ Some q → IsPrefix q
    shaped' k q e = elim (cases_eq k i) [
      | inl same ↦ subst IsPrefix (is_new q (ap pre' (sym same) ∙ e)) (IsPrefix-longer p digit (of-shaped pre par chi h j p above) short small)
      | inr ne ↦ h.shaped k q (sym (m.others k ne) ∙ e)
    ]

    -- no other node has the new prefix
    alone : (k : ℕ) (q : Prefix) → pre k ≡ Some q → longer p digit ≡ q → ⊥
    alone k q e f = h.none j p digit k small above absent (e ∙ ap Some (sym f))

    one' : (k l : ℕ) (q : Prefix) → pre' k ≡ Some q → pre' l ≡ Some q → k ≡ l
    one' k l q e f = elim (cases_eq k i) [
      | inl here ↦ elim (cases_eq l i) [
        | inl there ↦ here ∙ sym there
        | inr away ↦ absurd (alone l q (sym (m.others l away) ∙ f) (is_new q (ap pre' (sym here) ∙ e)))
      ]
      | inr ne ↦ elim (cases_eq l i) [
        | inl there ↦ absurd (alone k q (sym (m.others k ne) ∙ e) (is_new q (ap pre' (sym there) ∙ f)))
        | inr away ↦ h.one k l q (sym (m.others k ne) ∙ e) (sym (m.others l away) ∙ f)
      ]
    ]

    up' : (k : ℕ) (q : Prefix) → pre' k ≡ Some q → of pre' (par' k) ≡ Some (shorter q)
    up' k q e = elim (cases_eq k i) [
      | inl here ↦
          let prefix : longer p digit ≡ q = is_new q (ap pre' (sym here) ∙ e) in
          let parent : par' k ≡ j = ap par' here ∙ m.parent in
          ap (of pre') parent ∙ stays j j-other ∙ above ∙ ap Some (sym (shorter-longer p digit small) ∙ ap shorter prefix)
      | inr ne ↦
          let was : of pre (par k) ≡ Some (shorter q) = h.up k q (sym (m.others k ne) ∙ e) in
          let other : par k ≢ Some i = λ (f : par k ≡ Some i). (let there : of pre (Some i) ≡ Some (shorter q) = ap (of pre) (sym f) ∙ was in cc) in
          ap (of pre') (m.parents k ne) ∙ stays (par k) other ∙ was
    ]

    -- a child that stood before still does
    still : (k : ℕ) (q : Prefix) → pre k ≡ Some q → pre' k ≡ Some q
    still k q e = m.others k (λ (same : k ≡ i). (let there : pre i ≡ Some q = ap pre (sym same) ∙ e in cc)) ∙ e

    some' : (k : Option ℕ) (q : Prefix) (d l : ℕ) → d < 16 → of pre' k ≡ Some q → chi' k d ≡ Some l → pre' l ≡ Some (longer q d)
    some' k q d l little e f = elim (same_or_not k (Some i)) [
      | inl new ↦ absurd (let no : None ≡ Some l = sym (m.childless d) ∙ ap (λ x. chi' x d) (sym new) ∙ f in cc)
      | inr old ↦
          let was : of pre k ≡ Some q = sym (stays k old) ∙ e in
          elim (same_or_not k j) [
            | inl at_j ↦ elim (cases_eq d digit) [
              | inl same ↦
                  let link : chi' k d ≡ Some i = ap (λ x. chi' k x) same ∙ ap (λ x. chi' x digit) at_j ∙ m.linked in
                  let target : i ≡ l = (let g : Some i ≡ Some l = sym link ∙ f in cc) in
                  let above' : of pre j ≡ Some q = ap (of pre) (sym at_j) ∙ was in
                  let prefix : p ≡ q = (let g : Some p ≡ Some q = sym above ∙ above' in cc) in
                  ap pre' (sym target) ∙ m.new ∙ ap Some (ap (λ x. longer x digit) prefix ∙ ap (longer q) (sym same))
              | inr differ ↦ still l (longer q d) (h.some k q d l little was (sym (m.same k d differ old) ∙ f))
            ]
            | inr away ↦ still l (longer q d) (h.some k q d l little was (sym (m.elsewhere k d away old) ∙ f))
          ]
    ]

    none' : (k : Option ℕ) (q : Prefix) (d l : ℕ) → d < 16 → of pre' k ≡ Some q → chi' k d ≡ None → pre' l ≡ Some (longer q d) → ⊥
    none' k q d l little e f there = elim (same_or_not k (Some i)) [
      | inl new ↦
          let prefix : longer p digit ≡ q = is_new q (ap (of pre') (sym new) ∙ e) in
          elim (cases_eq l i) [
            | inl here ↦
                let twice : longer p digit ≡ longer q d = is_new (longer q d) (ap pre' (sym here) ∙ there) in
                omega (arith, ap (λ (r : Prefix). r.digits) prefix, ap (λ (r : Prefix). r.digits) twice)
            | inr away ↦ below l q prefix (par l) refl (h.up l (longer q d) (sym (m.others l away) ∙ there) ∙ ap Some (shorter-longer q d little))
          ]
      | inr old ↦
          let was : of pre k ≡ Some q = sym (stays k old) ∙ e in
          elim (same_or_not k j) [
            | inl at_j ↦
                let above' : of pre j ≡ Some q = ap (of pre) (sym at_j) ∙ was in
                let prefix : p ≡ q = (let g : Some p ≡ Some q = sym above ∙ above' in cc) in
                elim (cases_eq d digit) [
                  | inl same ↦
                      let link : chi' k d ≡ Some i = ap (λ x. chi' k x) same ∙ ap (λ x. chi' x digit) at_j ∙ m.linked in
                      (let no : None ≡ Some i = sym f ∙ link in cc)
                  | inr differ ↦ elim (cases_eq l i) [
                    | inl here ↦ differ (sym (longer-parts p q digit d small little (is_new (longer q d) (ap pre' (sym here) ∙ there))).1)
                    | inr away ↦ h.none k q d l little was (sym (m.same k d differ old) ∙ f) (sym (m.others l away) ∙ there)
                  ]
                ]
            | inr elsewhere ↦ elim (cases_eq l i) [
              | inl here ↦
                  let prefix : p ≡ q = (longer-parts p q digit d small little (is_new (longer q d) (ap pre' (sym here) ∙ there))).0 in
                  elsewhere (of-one pre par chi h k j q was (above ∙ ap Some prefix))
              | inr away ↦ h.none k q d l little was (sym (m.elsewhere k d elsewhere old) ∙ f) (sym (m.others l away) ∙ there)
            ]
          ]
    ]
      where
        below : (l : ℕ) (q : Prefix) → longer p digit ≡ q → (a : Option ℕ) → par l ≡ a → of pre (par l) ≡ Some q → ⊥
        below l q prefix None e g =
            let none : empty_prefix ≡ q = (let x : Some empty_prefix ≡ Some q = sym (ap (of pre) e) ∙ g in cc) in
            omega (arith, ap (λ (r : Prefix). r.digits) prefix, ap (λ (r : Prefix). r.digits) none)
        below l q prefix (Some t) e g = alone t q (sym (ap (of pre) e) ∙ g) prefix

pub IsLinked-gone : (pre pre' : ℕ → Option Prefix) (par par' : ℕ → Option ℕ) (chi chi' : Option ℕ → ℕ → Option ℕ)
    (j : Option ℕ) (p : Prefix) (digit i : ℕ) → IsLinked pre par chi → IsGone pre pre' par par' chi chi' j digit i
    → digit < 16 → of pre j ≡ Some p → pre i ≡ Some (longer p digit) → ((d : ℕ) → d < 16 → chi (Some i) d ≡ None) → IsLinked pre' par' chi'
IsLinked-gone pre pre' par par' chi chi' j p digit i h m small above here childless =
    record { shaped = shaped'; one = one'; up = up'; some = some'; none = none' }
  where
    not_gone : (k : ℕ) (q : Prefix) → pre' k ≡ Some q → k ≢ i
    not_gone k q e same = let no : None ≡ Some q = sym m.gone ∙ ap pre' (sym same) ∙ e in cc

    was : (k : ℕ) (q : Prefix) → pre' k ≡ Some q → pre k ≡ Some q
    was k q e = sym (m.others k (not_gone k q e)) ∙ e

    of_not_gone : (k : Option ℕ) (q : Prefix) → of pre' k ≡ Some q → k ≢ Some i
    of_not_gone None q e f = cc
    of_not_gone (Some k) q e f = not_gone k q e (cc)

    of_was : (k : Option ℕ) (q : Prefix) → of pre' k ≡ Some q → of pre k ≡ Some q
    of_was k q e = sym (of-others pre pre' i m.others k (of_not_gone k q e)) ∙ e

    shaped' : (k : ℕ) (q : Prefix) → pre' k ≡ Some q → IsPrefix q
    shaped' k q e = h.shaped k q (was k q e)

    one' : (k l : ℕ) (q : Prefix) → pre' k ≡ Some q → pre' l ≡ Some q → k ≡ l
    one' k l q e f = h.one k l q (was k q e) (was l q f)

    up' : (k : ℕ) (q : Prefix) → pre' k ≡ Some q → of pre' (par' k) ≡ Some (shorter q)
    up' k q e =
        let up : of pre (par k) ≡ Some (shorter q) = h.up k q (was k q e) in
        let last : longer (shorter q) (q.number % 16) ≡ q = longer-shorter q (h.shaped k q (was k q e)).least in
        let other : par k ≢ Some i = λ (f : par k ≡ Some i). h.none (Some i) (shorter q) (q.number % 16) k (omega arith) (ap (of pre) (sym f) ∙ up) (childless (q.number % 16) (omega arith)) (was k q e ∙ ap Some (sym last)) in
        ap (of pre') (m.parents k (not_gone k q e)) ∙ of-others pre pre' i m.others (par k) other ∙ up

    -- a child of another node, or by another digit, isn't the one that goes
    apart : (k : Option ℕ) (q : Prefix) (d l : ℕ) → d < 16 → of pre k ≡ Some q → pre l ≡ Some (longer q d) → (k ≢ j) ⊎ (d ≢ digit) → l ≢ i
    apart k q d l little e f (inl away) same =
        let prefix : longer p digit ≡ longer q d = (let g : Some (longer p digit) ≡ Some (longer q d) = sym here ∙ ap pre (sym same) ∙ f in cc) in
        away (of-one pre par chi h k j q e (above ∙ ap Some (longer-parts p q digit d small little prefix).0))
    apart k q d l little e f (inr differ) same =
        let prefix : longer p digit ≡ longer q d = (let g : Some (longer p digit) ≡ Some (longer q d) = sym here ∙ ap pre (sym same) ∙ f in cc) in
        differ (sym (longer-parts p q digit d small little prefix).1)

    some' : (k : Option ℕ) (q : Prefix) (d l : ℕ) → d < 16 → of pre' k ≡ Some q → chi' k d ≡ Some l → pre' l ≡ Some (longer q d)
    some' k q d l little e f =
        let old : k ≢ Some i = of_not_gone k q e in
        elim (cases_eq d digit) [
          | inl same ↦ elim (same_or_not k j) [
            | inl at_j ↦ absurd (let no : None ≡ Some l = sym m.unlinked ∙ ap (λ x. chi' x digit) (sym at_j) ∙ ap (λ x. chi' k x) (sym same) ∙ f in cc)
            | inr away ↦
                let there : pre l ≡ Some (longer q d) = h.some k q d l little (of_was k q e) (sym (m.elsewhere k d away old) ∙ f) in
                m.others l (apart k q d l little (of_was k q e) there (inl away)) ∙ there
          ]
          | inr differ ↦
              let there : pre l ≡ Some (longer q d) = h.some k q d l little (of_was k q e) (sym (m.same k d differ old) ∙ f) in
              m.others l (apart k q d l little (of_was k q e) there (inr differ)) ∙ there
        ]

    none' : (k : Option ℕ) (q : Prefix) (d l : ℕ) → d < 16 → of pre' k ≡ Some q → chi' k d ≡ None → pre' l ≡ Some (longer q d) → ⊥
    none' k q d l little e f there =
        let old : k ≢ Some i = of_not_gone k q e in
        elim (cases_eq d digit) [
          | inl same ↦ elim (same_or_not k j) [
            | inl at_j ↦
                let above' : of pre j ≡ Some q = ap (of pre) (sym at_j) ∙ of_was k q e in
                let prefix : p ≡ q = (let g : Some p ≡ Some q = sym above ∙ above' in cc) in
                let prefixes : longer p digit ≡ longer q d = ap (λ x. longer x digit) prefix ∙ ap (longer q) (sym same) in
                not_gone l (longer q d) there (h.one l i (longer q d) (was l (longer q d) there) (here ∙ ap Some prefixes))
            | inr away ↦ h.none k q d l little (of_was k q e) (sym (m.elsewhere k d away old) ∙ f) (was l (longer q d) there)
          ]
          | inr differ ↦ h.none k q d l little (of_was k q e) (sym (m.same k d differ old) ∙ f) (was l (longer q d) there)
        ]
