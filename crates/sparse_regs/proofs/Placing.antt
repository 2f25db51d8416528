-- One place changed, and a child of its parent with it: what the other places show stays.
use Rattle.std.proofs.Common.{◌≡◌, ◌≢◌, ℕ, ◌+◌, ◌-◌, ◌*◌, ◌<◌, ◌≤◌, inl, inr, refl, ap, sym, ◌∙◌, subst, arith, List, [], ◌∷◌, ◌++◌, length, map, Bool, true, false, suc, zero}
use Rattle.std.specs.Prelude.{◌⊎◌, Option, None, Some, slice_index_or, slice_set, not, count_by, replicate, if◌then◌else◌}
use Rattle.std.specs.Option.{is_some, is_none}
use Rattle.std.specs.List.{list_all}
use Rattle.std.proofs.lemmas.Bool.{cases_eq}
use Rattle.std.proofs.lemmas.List.{get_or-set_same, get_or-set_other, length-set}
use Rattle.std.proofs.Math.ListN.{get_or-eq_default}
use Rattle.sparse_regs.specs.declared.prefix.Prefix.{Prefix}
use Rattle.sparse_regs.specs.declared.node.Register.{Register}
use Rattle.sparse_regs.specs.declared.node.Node.{Node}
use Rattle.sparse_regs.specs.declared.node.Content.{Content}
use Rattle.sparse_regs.specs.declared.node.Content.TheVariants.{Index, Leaf}
use Rattle.sparse_regs.specs.Prefixes.{empty_prefix, longer}
use Rattle.sparse_regs.specs.Registers.{is_kept}
use Rattle.sparse_regs.specs.Linked.{of, IsLinked}
use Rattle.sparse_regs.specs.Places.{node_at, prefix_in, parent_in, child_in, child_in_content, leaf_in, prefix_from, parent_from, child_from, leaf_from, with_child, content_with_child, top_with_child, places_with_child, with_leaf, content_with_leaf, IsFormed, IsFormedContent, stands_in, stands_content, IsTightBut, kept_in}
use Rattle.sparse_regs.proofs.PrefixLemmas.{same_or_not}
use Rattle.sparse_regs.proofs.Linking.{IsMade, IsGone, IsLinked-made, IsLinked-gone}

-- ---- a node with another child

pub prefix_in-with_child : {T : Type 0} (d : ℕ) (c : Option ℕ) (x : Option (Node T)) → prefix_in (with_child d c x) ≡ prefix_in x
prefix_in-with_child d c None = refl
prefix_in-with_child d c (Some node) = refl

pub parent_in-with_child : {T : Type 0} (d : ℕ) (c : Option ℕ) (x : Option (Node T)) → parent_in (with_child d c x) ≡ parent_in x
parent_in-with_child d c None = refl
parent_in-with_child d c (Some node) = refl

pub is_some-with_child : {T : Type 0} (d : ℕ) (c : Option ℕ) (x : Option (Node T)) → is_some (with_child d c x) ≡ is_some x
is_some-with_child d c None = refl
is_some-with_child d c (Some node) = refl

kept_in-with_content : {T : Type 0} (d : ℕ) (c : Option ℕ) (p : Prefix) (above : Option ℕ) (content : Content T)
    → kept_in (with_child d c (Some (record { prefix = p; parent = above; content = content }))) ≡ kept_in (Some (record { prefix = p; parent = above; content = content }))
kept_in-with_content d c p above (Index children) = refl
kept_in-with_content d c p above (Leaf register) = refl

pub kept_in-with_child : {T : Type 0} (d : ℕ) (c : Option ℕ) (x : Option (Node T)) → kept_in (with_child d c x) ≡ kept_in x
kept_in-with_child d c None = refl
kept_in-with_child d c (Some node) = kept_in-with_content d c node.prefix node.parent node.content

child_in_content-other : {T : Type 0} (d e : ℕ) (c : Option ℕ) (content : Content T) → e ≢ d
    → child_in_content (content_with_child d c content) e ≡ child_in_content content e
child_in_content-other d e c (Index children) ne = get_or-set_other children d e c None ne
child_in_content-other d e c (Leaf register) ne = refl

child_in-other : {T : Type 0} (d e : ℕ) (c : Option ℕ) (x : Option (Node T)) → e ≢ d → child_in (with_child d c x) e ≡ child_in x e
child_in-other d e c None ne = refl
child_in-other d e c (Some node) ne = child_in_content-other d e c node.content ne

child_in_content-same : {T : Type 0} (digits d : ℕ) (c : Option ℕ) (content : Content T) → digits < 4 → d < 16 → IsFormedContent digits content
    → child_in_content (content_with_child d c content) d ≡ c
child_in_content-same digits d c (Index children) short small h = get_or-set_same children d c None (omega (arith, h.1))
child_in_content-same digits d c (Leaf register) short small h = absurd (omega (arith, h))

child_in-same : {T : Type 0} (d : ℕ) (c : Option ℕ) (x : Option (Node T)) (p : Prefix) → p.digits < 4 → d < 16 → prefix_in x ≡ Some p → IsFormed x
    → child_in (with_child d c x) d ≡ c
child_in-same d c None p short small e h = cc
child_in-same d c (Some node) p short small e h =
    let same : node.prefix ≡ p = cc in
    child_in_content-same node.prefix.digits d c node.content (omega (arith, ap (λ (q : Prefix). q.digits) same)) small h

formed-content : {T : Type 0} (digits d : ℕ) (c : Option ℕ) (content : Content T) → IsFormedContent digits content → IsFormedContent digits (content_with_child d c content)
formed-content digits d c (Index children) h = (h.0, length-set children d c ∙ h.1)
formed-content digits d c (Leaf register) h = h

formed-with_child : {T : Type 0} (d : ℕ) (c : Option ℕ) (x : Option (Node T)) → IsFormed x → IsFormed (with_child d c x)
formed-with_child d c None h = h
formed-with_child d c (Some node) h = formed-content node.prefix.digits d c node.content h

list_all-set : (xs : List (Option ℕ)) (d i : ℕ) → d < length xs → list_all is_none (slice_set xs d (Some i)) ≡ false
list_all-set [] d i h = absurd (omega arith)
list_all-set (x ∷ xs) zero i h = refl
list_all-set (None ∷ xs) (suc d) i h = list_all-set xs d i (omega arith)
list_all-set (Some k ∷ xs) (suc d) i h = refl

stands-content : {T : Type 0} (is_initial : T → Bool) (digits d i : ℕ) (content : Content T) → digits < 4 → d < 16 → IsFormedContent digits content
    → stands_content is_initial (content_with_child d (Some i) content) ≡ true
stands-content is_initial digits d i (Index children) short small h = ap not (list_all-set children d i (omega (arith, h.1)))
stands-content is_initial digits d i (Leaf register) short small h = absurd (omega (arith, h))

stands-with_child : {T : Type 0} (is_initial : T → Bool) (d i : ℕ) (x : Option (Node T)) (p : Prefix) → p.digits < 4 → d < 16 → prefix_in x ≡ Some p → IsFormed x
    → stands_in is_initial (with_child d (Some i) x) ≡ true
stands-with_child is_initial d i None p short small e h = cc
stands-with_child is_initial d i (Some node) p short small e h =
    let same : node.prefix ≡ p = cc in
    stands-content is_initial node.prefix.digits d i node.content (omega (arith, ap (λ (q : Prefix). q.digits) same)) small h

-- ---- places

pub at-same : {T : Type 0} (places : List (Option (Node T))) (i : ℕ) (x : Option (Node T)) → i < length places → node_at (slice_set places i x) i ≡ x
at-same places i x h = get_or-set_same places i x None h

pub at-other : {T : Type 0} (places : List (Option (Node T))) (i k : ℕ) (x : Option (Node T)) → k ≢ i → node_at (slice_set places i x) k ≡ node_at places k
at-other places i k x ne = get_or-set_other places i k x None ne

-- where a node stands, there is a place
pub at-within : {T : Type 0} (places : List (Option (Node T))) (i : ℕ) (p : Prefix) → prefix_from places i ≡ Some p → i < length places
at-within places i p h = elim (lt_or_le i (length places)) [
  | inl within ↦ within
  | inr beyond ↦ absurd (let no : None ≡ Some p = ap prefix_in (sym (get_or-eq_default places None beyond)) ∙ h in cc)
]
  where
    lt_or_le : (m n : ℕ) → (m < n) ⊎ (n ≤ m)
    lt_or_le m n = grind arith

-- the place `at` and a child of its parent are changed
pub record IsPut {T : Type 0} (old new : List (Option (Node T))) (at : ℕ) (x : Option (Node T)) (parent : Option ℕ) (digit : ℕ) (c : Option ℕ) : Type 0 where
  pub here : node_at new at ≡ x
  pub above : (j : ℕ) → parent ≡ Some j → node_at new j ≡ with_child digit c (node_at old j)
  pub others : (k : ℕ) → k ≢ at → parent ≢ Some k → node_at new k ≡ node_at old k

pub put : {T : Type 0} (old taken : List (Option (Node T))) (at : ℕ) (x : Option (Node T)) (parent : Option ℕ) (p : Prefix) (digit : ℕ) (c : Option ℕ)
    → ((k : ℕ) → node_at taken k ≡ node_at old k) → at < length taken → of (prefix_from old) parent ≡ Some p → parent ≢ Some at
    → IsPut old (places_with_child parent digit c (slice_set taken at x)) at x parent digit c
put old taken at x None p digit c same within above apart = record {
  here = at-same taken at x within;
  above = λ j e. cc;
  others = λ k ne _. at-other taken at k x ne ∙ same k;
}
put old taken at x (Some j) p digit c same within above apart =
    let other : j ≢ at = λ (e : j ≡ at). apart (ap Some e) in
    let y = with_child digit c (node_at (slice_set taken at x) j) in
    let j_old : node_at (slice_set taken at x) j ≡ node_at old j = at-other taken at j x other ∙ same j in
    let j_within : j < length (slice_set taken at x) = at-within (slice_set taken at x) j p (ap prefix_in j_old ∙ above) in
    record {
      here = at-other (slice_set taken at x) j at y (λ (e : at ≡ j). other (sym e)) ∙ at-same taken at x within;
      above = λ k (e : Some j ≡ Some k). (let same_j : j ≡ k = cc in
          ap (node_at (slice_set (slice_set taken at x) j y)) (sym same_j) ∙ at-same (slice_set taken at x) j y j_within ∙ ap (with_child digit c) j_old ∙ ap (λ i. with_child digit c (node_at old i)) same_j);
      others = λ k ne (away : Some j ≢ Some k). at-other (slice_set taken at x) j k y (λ (e : k ≡ j). away (ap Some (sym e))) ∙ at-other taken at k x ne ∙ same k;
    }

put-by : {T : Type 0} {A : Type 0} (f : Option (Node T) → A) (old new : List (Option (Node T))) (at : ℕ) (x : Option (Node T)) (parent : Option ℕ) (digit : ℕ) (c : Option ℕ)
    → ((y : Option (Node T)) → f (with_child digit c y) ≡ f y) → IsPut old new at x parent digit c
    → (k : ℕ) → k ≢ at → f (node_at new k) ≡ f (node_at old k)
put-by f old new at x parent digit c keeps h k ne = elim (same_or_not parent (Some k)) [
  | inl e ↦ ap f (h.above k e) ∙ keeps (node_at old k)
  | inr away ↦ ap f (h.others k ne away)
]

pub put-prefix : {T : Type 0} (old new : List (Option (Node T))) (at : ℕ) (x : Option (Node T)) (parent : Option ℕ) (digit : ℕ) (c : Option ℕ)
    → IsPut old new at x parent digit c → (k : ℕ) → k ≢ at → prefix_from new k ≡ prefix_from old k
put-prefix old new at x parent digit c h k ne = put-by prefix_in old new at x parent digit c (prefix_in-with_child digit c) h k ne

put-parent : {T : Type 0} (old new : List (Option (Node T))) (at : ℕ) (x : Option (Node T)) (parent : Option ℕ) (digit : ℕ) (c : Option ℕ)
    → IsPut old new at x parent digit c → (k : ℕ) → k ≢ at → parent_from new k ≡ parent_from old k
put-parent old new at x parent digit c h k ne = put-by parent_in old new at x parent digit c (parent_in-with_child digit c) h k ne

pub put-formed : {T : Type 0} (old new : List (Option (Node T))) (at : ℕ) (x : Option (Node T)) (parent : Option ℕ) (digit : ℕ) (c : Option ℕ)
    → IsPut old new at x parent digit c → ((i : ℕ) → IsFormed (node_at old i)) → IsFormed x → (i : ℕ) → IsFormed (node_at new i)
put-formed old new at x parent digit c h formed here i = elim (cases_eq i at) [
  | inl e ↦ subst IsFormed (sym h.here ∙ ap (node_at new) (sym e)) here
  | inr ne ↦ elim (same_or_not parent (Some i)) [
    | inl e ↦ subst IsFormed (sym (h.above i e)) (formed-with_child digit c (node_at old i) (formed i))
    | inr away ↦ subst IsFormed (sym (h.others i ne away)) (formed i)
  ]
]

put-child-same : {T : Type 0} (top : List (Option ℕ)) (old new : List (Option (Node T))) (at : ℕ) (x : Option (Node T)) (parent : Option ℕ) (digit : ℕ) (c : Option ℕ)
    → IsPut old new at x parent digit c → (k : Option ℕ) (d : ℕ) → d ≢ digit → k ≢ Some at
    → child_from (top_with_child parent digit c top) new k d ≡ child_from top old k d
put-child-same top old new at x None digit c h None d differ away = get_or-set_other top digit d c None differ
put-child-same top old new at x (Some j) digit c h None d differ away = refl
put-child-same top old new at x parent digit c h (Some k) d differ away =
    put-by (λ y. child_in y d) old new at x parent digit c (λ y. child_in-other digit d c y differ) h k (λ e. away (ap Some e))

put-child-elsewhere : {T : Type 0} (top : List (Option ℕ)) (old new : List (Option (Node T))) (at : ℕ) (x : Option (Node T)) (parent : Option ℕ) (digit : ℕ) (c : Option ℕ)
    → IsPut old new at x parent digit c → (k : Option ℕ) (d : ℕ) → k ≢ parent → k ≢ Some at
    → child_from (top_with_child parent digit c top) new k d ≡ child_from top old k d
put-child-elsewhere top old new at x None digit c h None d other away = absurd (other refl)
put-child-elsewhere top old new at x (Some j) digit c h None d other away = refl
put-child-elsewhere top old new at x parent digit c h (Some k) d other away =
    ap (λ y. child_in y d) (h.others k (λ e. away (ap Some e)) (λ e. other (sym e)))

put-child-linked : {T : Type 0} (top : List (Option ℕ)) (old new : List (Option (Node T))) (at : ℕ) (x : Option (Node T)) (parent : Option ℕ) (p : Prefix) (digit : ℕ) (c : Option ℕ)
    → IsPut old new at x parent digit c → length top ≡ 16 → ((i : ℕ) → IsFormed (node_at old i)) → of (prefix_from old) parent ≡ Some p → p.digits < 4 → digit < 16
    → child_from (top_with_child parent digit c top) new parent digit ≡ c
put-child-linked top old new at x None p digit c h sixteen formed above short small = get_or-set_same top digit c None (omega arith)
put-child-linked top old new at x (Some j) p digit c h sixteen formed above short small =
    ap (λ y. child_in y digit) (h.above j refl) ∙ child_in-same digit c (node_at old j) p short small above (formed j)

pub made-linked : {T : Type 0} (top : List (Option ℕ)) (old new : List (Option (Node T))) (at : ℕ) (node : Node T) (parent : Option ℕ) (p : Prefix) (digit : ℕ)
    → IsPut old new at (Some node) parent digit (Some at) → IsLinked (prefix_from old) (parent_from old) (child_from top old)
    → length top ≡ 16 → ((i : ℕ) → IsFormed (node_at old i)) → of (prefix_from old) parent ≡ Some p → p.digits < 4 → digit < 16
    → node_at old at ≡ None → child_from top old parent digit ≡ None
    → node.prefix ≡ longer p digit → node.parent ≡ parent → ((d : ℕ) → child_in (Some node) d ≡ None)
    → IsLinked (prefix_from new) (parent_from new) (child_from (top_with_child parent digit (Some at) top) new)
made-linked top old new at node parent p digit h linked sixteen formed above short small free absent prefix up childless =
    IsLinked-made (prefix_from old) (prefix_from new) (parent_from old) (parent_from new) (child_from top old) (child_from (top_with_child parent digit (Some at) top) new)
    parent p digit at linked
    (record {
      new = ap prefix_in h.here ∙ ap Some prefix;
      others = put-prefix old new at (Some node) parent digit (Some at) h;
      parent = ap parent_in h.here ∙ up;
      parents = put-parent old new at (Some node) parent digit (Some at) h;
      linked = put-child-linked top old new at (Some node) parent p digit (Some at) h sixteen formed above short small;
      same = put-child-same top old new at (Some node) parent digit (Some at) h;
      elsewhere = put-child-elsewhere top old new at (Some node) parent digit (Some at) h;
      childless = λ d. ap (λ y. child_in y d) h.here ∙ childless d;
    })
    small short above (ap prefix_in free) absent

pub gone-linked : {T : Type 0} (top : List (Option ℕ)) (old new : List (Option (Node T))) (at : ℕ) (parent : Option ℕ) (p : Prefix) (digit : ℕ)
    → IsPut old new at None parent digit None → IsLinked (prefix_from old) (parent_from old) (child_from top old)
    → length top ≡ 16 → ((i : ℕ) → IsFormed (node_at old i)) → of (prefix_from old) parent ≡ Some p → p.digits < 4 → digit < 16
    → prefix_from old at ≡ Some (longer p digit) → ((d : ℕ) → d < 16 → child_in (node_at old at) d ≡ None)
    → IsLinked (prefix_from new) (parent_from new) (child_from (top_with_child parent digit None top) new)
gone-linked top old new at parent p digit h linked sixteen formed above short small here childless =
    IsLinked-gone (prefix_from old) (prefix_from new) (parent_from old) (parent_from new) (child_from top old) (child_from (top_with_child parent digit None top) new)
    parent p digit at linked
    (record {
      gone = ap prefix_in h.here;
      others = put-prefix old new at None parent digit None h;
      parents = put-parent old new at None parent digit None h;
      unlinked = put-child-linked top old new at None parent p digit None h sixteen formed above short small;
      same = put-child-same top old new at None parent digit None h;
      elsewhere = put-child-elsewhere top old new at None parent digit None h;
    })
    small above here childless

pub made-tight : {T : Type 0} (is_initial : T → Bool) (old new : List (Option (Node T))) (at : ℕ) (x : Option (Node T)) (parent : Option ℕ) (p : Prefix) (digit : ℕ)
    → IsPut old new at x parent digit (Some at) → ((i : ℕ) → IsFormed (node_at old i)) → of (prefix_from old) parent ≡ Some p → p.digits < 4 → digit < 16
    → IsTightBut is_initial parent old → IsTightBut is_initial (Some at) new
made-tight is_initial old new at x parent p digit h formed above short small tight i ne = elim (same_or_not parent (Some i)) [
  | inl e ↦ ap (stands_in is_initial) (h.above i e) ∙ stands-with_child is_initial digit at (node_at old i) p short small (ap (of (prefix_from old)) (sym e) ∙ above) (formed i)
  | inr away ↦ ap (stands_in is_initial) (h.others i (λ e. ne (ap Some e)) away) ∙ tight i (λ e. away (sym e))
]

pub gone-tight : {T : Type 0} (is_initial : T → Bool) (old new : List (Option (Node T))) (at : ℕ) (parent : Option ℕ) (digit : ℕ)
    → IsPut old new at None parent digit None → IsTightBut is_initial (Some at) old → IsTightBut is_initial parent new
gone-tight is_initial old new at parent digit h tight i ne = elim (cases_eq i at) [
  | inl e ↦ ap (λ k. stands_in is_initial (node_at new k)) e ∙ ap (stands_in is_initial) h.here
  | inr other ↦ ap (stands_in is_initial) (h.others i other (λ e. ne (sym e))) ∙ tight i (λ (e : Some i ≡ Some at). other (cc))
]
