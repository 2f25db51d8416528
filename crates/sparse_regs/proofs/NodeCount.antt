-- The nodes that stand are as many as there are prefixes of kept registers.
use Rattle.std.proofs.Common.{◌≡◌, ◌≢◌, ℕ, ◌+◌, ◌-◌, ◌*◌, ◌/◌, ◌%◌, ◌<◌, ◌≤◌, inl, inr, refl, ap, sym, ◌∙◌, subst, arith, List, [], ◌∷◌, ◌++◌, length, Bool, true, false, suc, zero}
use Rattle.std.specs.Prelude.{◌⊎◌, ◌==◌, ◌&&◌, ◌||◌, not, Option, None, Some, slice_index_or, IfSome, IfNone, cond, map, IsTrue, if◌then◌else◌}
use Rattle.std.specs.Option.{is_none, is_some}
use Rattle.std.specs.List.{position_or_len, list_any, list_all, IsDistinct}
use Rattle.std.specs.Cmp.{IsEquivalence}
use Rattle.std.specs.Set.{is_member, distinct_count}
use Rattle.std.proofs.lemmas.Bool.{cases_eq, eq-eqb, eqb-true, ne_eqb, false≢true, false_from_ne_true, and_parts, and_from, lt-ltb}
use Rattle.std.proofs.lemmas.Cmp.{nat_eq_equiv}
use Rattle.std.proofs.lemmas.List.Folds.{list_any-append}
use Rattle.std.proofs.lemmas.Map.Made.{length-from_keys}
use Rattle.sparse_regs.specs.declared.prefix.Prefix.{Prefix}
use Rattle.sparse_regs.specs.declared.node.Register.{Register}
use Rattle.sparse_regs.specs.declared.node.Node.{Node}
use Rattle.sparse_regs.specs.declared.node.Content.{Content}
use Rattle.sparse_regs.specs.declared.node.Content.TheVariants.{Index, Leaf}
use Rattle.sparse_regs.specs.Prefixes.{empty_prefix, longer, whole, same_prefix, prefixes, prefixes_of, node_count}
use Rattle.sparse_regs.specs.Registers.{register_among, is_kept, taken_count, ListsKept, index_of, is_place_of}
use Rattle.sparse_regs.specs.Linked.{of, IsPrefix, IsLinked, shorter}
use Rattle.sparse_regs.specs.Places.{node_at, prefix_in, child_in, child_in_content, prefix_from, parent_from, child_from, IsFormed, IsFormedContent, IsStored, stands_in, stands_content, IsTightBut, kept_from, registers_of}
use Rattle.sparse_regs.proofs.PrefixLemmas.{prefix_ext, shorter-longer}
use Rattle.sparse_regs.proofs.Paths.{first, first-standing, first-whole}
use Rattle.sparse_regs.proofs.Shaping.{by_prefix, length-by_prefix, distinct-by_prefix}
use Rattle.sparse_regs.proofs.Changing.{known-stands, kept-leaf, index-prefix, slots-seen}
use Rattle.sparse_regs.proofs.Placing.{at-within}
use Rattle.std.proofs.Math.ListN.{get_or-map}

same_prefix-equal : (p q : Prefix) → same_prefix p q ≡ true → p ≡ q
same_prefix-equal p q e =
    let parts = and_parts (p.digits == q.digits) (p.number == q.number) e in
    prefix_ext p q (eqb-true p.digits q.digits parts.0) (eqb-true p.number q.number parts.1)

same_prefix-refl : (p : Prefix) → same_prefix p p ≡ true
same_prefix-refl p = and_from _ _ (eq-eqb p.digits p.digits refl) (eq-eqb p.number p.number refl)

same_prefix-laws : IsEquivalence same_prefix
same_prefix-laws = record {
  refl = same_prefix-refl;
  symm = λ p q. ap (λ b. b && (p.number == q.number)) (nat_eq_equiv.symm p.digits q.digits) ∙ ap (λ b. (q.digits == p.digits) && b) (nat_eq_equiv.symm p.number q.number);
  congr = λ p q r e. ap (λ x. same_prefix x r) (same_prefix-equal p q e);
}

both : (a b : Bool) → (a ≡ true → b ≡ true) → (b ≡ true → a ≡ true) → a ≡ b
both true b f g = sym (f refl)
both false true f g = g refl
both false false f g = refl

-- ---- the nodes that stand

member-head : (q p : Prefix) (ps : List Prefix) → is_member same_prefix (p ∷ ps) q ≡ true → (q ≡ p) ⊎ (is_member same_prefix ps q ≡ true)
member-head q p ps e = by_test (same_prefix q p) refl
  where
    by_test : (b : Bool) → same_prefix q p ≡ b → (q ≡ p) ⊎ (is_member same_prefix ps q ≡ true)
    by_test true t = inl (same_prefix-equal q p t)
    by_test false t = inr (sym (ap (λ b. b || is_member same_prefix ps q) t) ∙ e)

member-here : (q : Prefix) (ps : List Prefix) → is_member same_prefix (q ∷ ps) q ≡ true
member-here q ps = ap (λ b. b || is_member same_prefix ps q) (same_prefix-refl q)

member-there : (q p : Prefix) (ps : List Prefix) → is_member same_prefix ps q ≡ true → is_member same_prefix (p ∷ ps) q ≡ true
member-there q p ps e = by_test (same_prefix q p)
  where
    by_test : (b : Bool) → (b || is_member same_prefix ps q) ≡ true
    by_test true = refl
    by_test false = e

standing-member : {T : Type 0} (places : List (Option (Node T))) (i : ℕ) (q : Prefix) → prefix_from places i ≡ Some q → is_member same_prefix (by_prefix (λ p. p) places) q ≡ true
unfolding by_prefix
standing-member [] i q e = cc
standing-member (None ∷ places) zero q e = cc
standing-member (None ∷ places) (suc i) q e = standing-member places i q e
standing-member (Some node ∷ places) zero q e =
    let same : node.prefix ≡ q = cc in
    ap (λ p. is_member same_prefix (p ∷ by_prefix (λ p. p) places) q) same ∙ member-here q (by_prefix (λ p. p) places)
standing-member (Some node ∷ places) (suc i) q e = member-there q node.prefix (by_prefix (λ p. p) places) (standing-member places i q e)

member-standing : {T : Type 0} (places : List (Option (Node T))) (q : Prefix) → is_member same_prefix (by_prefix (λ p. p) places) q ≡ true → (i : ℕ) × (prefix_from places i ≡ Some q)
unfolding by_prefix
member-standing [] q e = cc
member-standing (None ∷ places) q e = let rest = member-standing places q e in (suc rest.0, rest.1)
member-standing (Some node ∷ places) q e = elim (member-head q node.prefix (by_prefix (λ p. p) places) e) [
  | inl here ↦ (zero, ap Some (sym here))
  | inr there ↦ let rest = member-standing places q there in (suc rest.0, rest.1)
]

-- ---- the prefixes of some registers

number-member : (numbers : List ℕ) (n : ℕ) (q : Prefix) → list_any (λ m. m == n) numbers ≡ true → is_member same_prefix (prefixes_of n) q ≡ true → is_member same_prefix (prefixes numbers) q ≡ true
number-member [] n q e f = cc
number-member (m ∷ numbers) n q e f = by_test (m == n) refl (number-member numbers n q)
  where
    append : is_member same_prefix (prefixes (m ∷ numbers)) q ≡ (is_member same_prefix (prefixes_of m) q || is_member same_prefix (prefixes numbers) q)
    append = list_any-append (same_prefix q) (prefixes_of m) (prefixes numbers)

    or_second : (a : Bool) → (a || true) ≡ true
    or_second true = refl
    or_second false = refl

    by_test : (b : Bool) → (m == n) ≡ b → (list_any (λ k. k == n) numbers ≡ true → is_member same_prefix (prefixes_of n) q ≡ true → is_member same_prefix (prefixes numbers) q ≡ true) → is_member same_prefix (prefixes (m ∷ numbers)) q ≡ true
    by_test true t rest = append ∙ ap (λ b. b || is_member same_prefix (prefixes numbers) q) (ap (λ k. is_member same_prefix (prefixes_of k) q) (eqb-true m n t) ∙ f)
    by_test false t rest = append ∙ ap (λ b. is_member same_prefix (prefixes_of m) q || b) (rest (sym (ap (λ b. b || list_any (λ k. k == n) numbers) t) ∙ e) f) ∙ or_second (is_member same_prefix (prefixes_of m) q)

member-number : (numbers : List ℕ) (q : Prefix) → is_member same_prefix (prefixes numbers) q ≡ true → (n : ℕ) × (list_any (λ m. m == n) numbers ≡ true) × (is_member same_prefix (prefixes_of n) q ≡ true)
member-number [] q e = cc
member-number (m ∷ numbers) q e = by_test (is_member same_prefix (prefixes_of m) q) refl (member-number numbers q)
  where
    append : is_member same_prefix (prefixes (m ∷ numbers)) q ≡ (is_member same_prefix (prefixes_of m) q || is_member same_prefix (prefixes numbers) q)
    append = list_any-append (same_prefix q) (prefixes_of m) (prefixes numbers)

    or_second : (a : Bool) → (a || true) ≡ true
    or_second true = refl
    or_second false = refl

    by_test : (b : Bool) → is_member same_prefix (prefixes_of m) q ≡ b → (is_member same_prefix (prefixes numbers) q ≡ true → (n : ℕ) × (list_any (λ k. k == n) numbers ≡ true) × (is_member same_prefix (prefixes_of n) q ≡ true))
        → (n : ℕ) × (list_any (λ k. k == n) (m ∷ numbers) ≡ true) × (is_member same_prefix (prefixes_of n) q ≡ true)
    by_test true t rest = (m, ap (λ b. b || list_any (λ k. k == m) numbers) (eq-eqb m m refl), t)
    by_test false t rest =
        let found = rest (sym (ap (λ b. b || is_member same_prefix (prefixes numbers) q) t) ∙ sym append ∙ e) in
        (found.0, ap (λ b. (m == found.0) || b) found.1 ∙ or_second (m == found.0), found.2)

-- the prefixes of a register are its first digits
first-member : (k n : ℕ) (q : Prefix) → k < 4 → q ≡ first (k + 1) n → is_member same_prefix (prefixes_of n) q ≡ true
first-member zero n q less e = ap (is_member same_prefix (prefixes_of n)) e ∙ member-here (first 1 n) (first 2 n ∷ first 3 n ∷ first 4 n ∷ [])
first-member (suc zero) n q less e = ap (is_member same_prefix (prefixes_of n)) e ∙ member-there (first 2 n) (first 1 n) (first 2 n ∷ first 3 n ∷ first 4 n ∷ []) (member-here (first 2 n) (first 3 n ∷ first 4 n ∷ []))
first-member (suc (suc zero)) n q less e = ap (is_member same_prefix (prefixes_of n)) e ∙ member-there (first 3 n) (first 1 n) (first 2 n ∷ first 3 n ∷ first 4 n ∷ []) (member-there (first 3 n) (first 2 n) (first 3 n ∷ first 4 n ∷ []) (member-here (first 3 n) (first 4 n ∷ [])))
first-member (suc (suc (suc zero))) n q less e = ap (is_member same_prefix (prefixes_of n)) e ∙ member-there (first 4 n) (first 1 n) (first 2 n ∷ first 3 n ∷ first 4 n ∷ []) (member-there (first 4 n) (first 2 n) (first 3 n ∷ first 4 n ∷ []) (member-there (first 4 n) (first 3 n) (first 4 n ∷ []) (member-here (first 4 n) [])))
first-member (suc (suc (suc (suc k)))) n q less e = absurd (omega arith)

member-first : (n : ℕ) (q : Prefix) → is_member same_prefix (prefixes_of n) q ≡ true → (k : ℕ) × (k < 4) × (q ≡ first (k + 1) n)
member-first n q e = elim (member-head q (first 1 n) (first 2 n ∷ first 3 n ∷ first 4 n ∷ []) e) [
  | inl one ↦ (0, omega arith, one)
  | inr e2 ↦ elim (member-head q (first 2 n) (first 3 n ∷ first 4 n ∷ []) e2) [
    | inl two ↦ (1, omega arith, two)
    | inr e3 ↦ elim (member-head q (first 3 n) (first 4 n ∷ []) e3) [
      | inl three ↦ (2, omega arith, three)
      | inr e4 ↦ elim (member-head q (first 4 n) [] e4) [ inl four ↦ (3, omega arith, four) | inr never ↦ absurd (cc) ]
    ]
  ]
]

-- ---- below each node stands a leaf

some_child : (children : List (Option ℕ)) → list_all is_none children ≡ false → (d : ℕ) × (k : ℕ) × (d < length children) × (slice_index_or children d None ≡ Some k)
some_child [] e = cc
some_child (None ∷ cs) e = let rest = some_child cs e in (suc rest.0, rest.1, omega (arith, rest.2), rest.3)
some_child (Some k ∷ cs) e = (zero, k, omega arith, refl)

child-standing : {T : Type 0} (is_initial : T → Bool) (digits : ℕ) (content : Content T) → IsFormedContent digits content → digits < 4 → stands_content is_initial content ≡ true
    → (d : ℕ) × (k : ℕ) × (d < 16) × (child_in_content content d ≡ Some k)
child-standing is_initial digits (Index children) h short e =
    let found = some_child children (not_true (list_all is_none children) e) in
    (found.0, found.1, omega (arith, found.2, h.1), found.3)
  where
    not_true : (b : Bool) → not b ≡ true → b ≡ false
    not_true true t = cc
    not_true false t = refl
child-standing is_initial digits (Leaf r) h short e = absurd (omega (arith, h))

node-child : {T : Type 0} (is_initial : T → Bool) (x : Option (Node T)) (q : Prefix) → prefix_in x ≡ Some q → IsFormed x → q.digits < 4 → stands_in is_initial x ≡ true
    → (d : ℕ) × (k : ℕ) × (d < 16) × (child_in x d ≡ Some k)
node-child is_initial None q e h short t = cc
node-child is_initial (Some node) q e h short t =
    let same : node.prefix ≡ q = cc in
    child-standing is_initial node.prefix.digits node.content h (omega (arith, short, ap (λ (p : Prefix). p.digits) same)) t

shorter-first : (m n : ℕ) → 1 ≤ m → m < 4 → shorter (first (m + 1) n) ≡ first m n
shorter-first zero n some less = absurd (omega arith)
shorter-first (suc zero) n some less = prefix_ext (shorter (first 2 n)) (first 1 n) refl (omega arith)
shorter-first (suc (suc zero)) n some less = prefix_ext (shorter (first 3 n)) (first 2 n) refl (omega arith)
shorter-first (suc (suc (suc zero))) n some less = prefix_ext (shorter (first 4 n)) (first 3 n) refl refl
shorter-first (suc (suc (suc (suc k)))) n some less = absurd (omega arith)

up-first : (q : Prefix) (d n m : ℕ) → d < 16 → longer q d ≡ first (m + 1) n → 1 ≤ m → m < 4 → q ≡ first m n
up-first q d n m small e some less = sym (shorter-longer q d small) ∙ ap shorter e ∙ shorter-first m n some less

leaf-below : {T : Type 0} (is_initial : T → Bool) (top : List (Option ℕ)) (places : List (Option (Node T))) (free : List ℕ) → IsStored top places free → IsTightBut is_initial None places
    → (r i : ℕ) (q : Prefix) → prefix_from places i ≡ Some q → q.digits + r ≡ 4 → (n : ℕ) × (t : ℕ) × (prefix_from places t ≡ Some (whole n)) × (q ≡ first q.digits n)
leaf-below is_initial top places free h tight zero i q e four =
    let digits : q.digits ≡ 4 = omega arith in
    let here : q ≡ whole q.number = prefix_ext q (whole q.number) digits refl in
    (q.number, i, e ∙ ap Some here, here ∙ ap (λ m. first m q.number) (sym digits))
leaf-below is_initial top places free h tight (suc r) i q e four =
    let found = node-child is_initial (node_at places i) q e (h.formed i) (omega arith) (tight i (λ (no : Some i ≡ None). cc)) in
    let there : prefix_from places found.1 ≡ Some (longer q found.0) = h.linked.some (Some i) q found.0 found.1 found.2 e found.3 in
    let below = leaf-below is_initial top places free h tight r found.1 (longer q found.0) there (omega arith) in
    (below.0, below.1, below.2, up-first q found.0 below.0 q.digits found.2 below.3 (h.linked.shaped i q e).least (omega arith))

-- the prefixes that stand are those of the registers that are kept
pub standing-prefixes : {T : Type 0} (start : T) (is_initial : T → Bool) (top : List (Option ℕ)) (places : List (Option (Node T))) (free : List ℕ) → IsStored top places free → IsTightBut is_initial None places → is_initial start ≡ true
    → (numbers : List ℕ) → ListsKept start is_initial numbers (registers_of places)
    → (q : Prefix) → is_member same_prefix (by_prefix (λ p. p) places) q ≡ is_member same_prefix (prefixes numbers) q
standing-prefixes {T} start is_initial top places free h tight initial numbers lists q = both _ _ into back
  where
    into : is_member same_prefix (by_prefix (λ p. p) places) q ≡ true → is_member same_prefix (prefixes numbers) q ≡ true
    into e =
        let at = member-standing places q e in
        let shape : IsPrefix q = h.linked.shaped at.0 q at.1 in
        let below = leaf-below is_initial top places free h tight (4 - q.digits) at.0 q at.1 (omega (arith, shape.most)) in
        let kept : is_kept is_initial (register_among start (kept_from places) below.0) ≡ true =
        sym (known-stands start is_initial top places free below.1 below.0 h below.2) ∙ tight below.1 (λ (no : Some below.1 ≡ None). cc) in
        let digits : q.digits ≡ q.digits - 1 + 1 = omega (arith, shape.least) in
        number-member numbers below.0 q (lists below.0 ∙ kept) (first-member (q.digits - 1) below.0 q (omega (arith, shape.least, shape.most)) (below.3 ∙ ap (λ m. first m below.0) digits))

    leaf_of : (n : ℕ) → is_kept is_initial (register_among start (kept_from places) n) ≡ true → (b : Bool) → is_member same_prefix (by_prefix (λ p. p) places) (whole n) ≡ b → (i : ℕ) × (prefix_from places i ≡ Some (whole n))
    leaf_of n kept true t = member-standing places (whole n) t
    leaf_of n kept false t = absurd (kept-leaf start is_initial top places free n h initial kept (λ k e. false≢true (sym t ∙ standing-member places k (whole n) e)))

    back : is_member same_prefix (prefixes numbers) q ≡ true → is_member same_prefix (by_prefix (λ p. p) places) q ≡ true
    back e =
        let found = member-number numbers q e in
        let leaf = leaf_of found.0 (sym (lists found.0) ∙ found.1) (is_member same_prefix (by_prefix (λ p. p) places) (whole found.0)) refl in
        let digits = member-first found.0 q found.2 in
        let node = first-standing (prefix_from places) (parent_from places) (child_from top places) h.linked leaf.0 found.0 leaf.1 digits.0 digits.1 in
        standing-member places node.0 q (node.1 ∙ ap Some (sym digits.2))

pub nodes-counted : {T : Type 0} (start : T) (is_initial : T → Bool) (top : List (Option ℕ)) (places : List (Option (Node T))) (free : List ℕ) → IsStored top places free → IsTightBut is_initial None places → is_initial start ≡ true
    → (numbers : List ℕ) → ListsKept start is_initial numbers (registers_of places) → taken_count places ≡ node_count numbers
nodes-counted {T} start is_initial top places free h tight initial numbers lists =
    sym (length-by_prefix (λ p. p) places)
    ∙ length-from_keys same_prefix-laws (by_prefix (λ p. p) places) (prefixes numbers) (distinct-by_prefix same_prefix (λ p. p) places h.linked.shaped (λ p q _ _ e. same_prefix-equal p q e) h.linked.one)
    (standing-prefixes start is_initial top places free h tight initial numbers lists)

-- ---- the index of a prefix

test-found : {A : Type 0} (test : A → Bool) (xs : List A) (k : ℕ) (rest : A) → k < length xs → test (slice_index_or xs k rest) ≡ true → position_or_len test xs < length xs
test-found test [] k rest h e = absurd (omega arith)
test-found test (x ∷ xs) zero rest h e = omega (arith, ap (λ b. cond (not b) (1 + position_or_len test xs) 0) e)
test-found test (x ∷ xs) (suc k) rest h e = by_test (test x) (test-found test xs k rest (omega arith) e)
  where
    by_test : (b : Bool) → position_or_len test xs < length xs → cond (not b) (1 + position_or_len test xs) 0 < length (x ∷ xs)
    by_test true less = omega arith
    by_test false less = omega arith

-- the index of a prefix that stands is that of its node, since no other has this prefix
pub index-known : {T : Type 0} (places : List (Option (Node T))) (p : Prefix) (i : ℕ)
    → ((k j : ℕ) (q : Prefix) → prefix_from places k ≡ Some q → prefix_from places j ≡ Some q → k ≡ j)
    → prefix_from places i ≡ Some p → index_of (registers_of places) p ≡ Some i
index-known {T} places p i one here = by_index (index_of (registers_of places) p) refl
  where
    seen : is_place_of p (slice_index_or (map prefix_in places) i None) ≡ true
    seen = ap (is_place_of p) (get_or-map prefix_in places i None ∙ here) ∙ same_prefix-refl p

    within : i < length (map prefix_in places)
    within = omega (arith, slots-seen places, at-within places i p here)

    found : index_of (registers_of places) p ≡ Some (position_or_len (is_place_of p) (map prefix_in places))
    found =
        ap (λ b. cond b (Some (position_or_len (is_place_of p) (map prefix_in places))) None)
        (lt-ltb (position_or_len (is_place_of p) (map prefix_in places)) (length (map prefix_in places)) (test-found (is_place_of p) (map prefix_in places) i None within seen))

    by_index : (x : Option ℕ) → index_of (registers_of places) p ≡ x → index_of (registers_of places) p ≡ Some i
    by_index None e = absurd (let no : None ≡ Some (position_or_len (is_place_of p) (map prefix_in places)) = sym e ∙ found in cc)
    by_index (Some j) e = e ∙ ap Some (one j i p (index-prefix places p j e) here)

-- what has this prefix, if anything does, is its index
pub child-index : {T : Type 0} (places : List (Option (Node T))) (p : Prefix) (result : Option ℕ)
    → ((k j : ℕ) (q : Prefix) → prefix_from places k ≡ Some q → prefix_from places j ≡ Some q → k ≡ j)
    → IfSome result (λ i. prefix_from places i ≡ Some p) → IfNone result ((i : ℕ) → prefix_from places i ≢ Some p) → result ≡ index_of (registers_of places) p
child-index {T} places p None one some none = by_index (index_of (registers_of places) p) refl
  where
    by_index : (x : Option ℕ) → index_of (registers_of places) p ≡ x → None ≡ index_of (registers_of places) p
    by_index None e = sym e
    by_index (Some j) e = absurd (none j (index-prefix places p j e))
child-index places p (Some i) one some none = sym (index-known places p i one some)

-- and it stands where it is a prefix of a register that is kept
pub child-stands : {T : Type 0} (places : List (Option (Node T))) (p : Prefix) (result : Option ℕ)
    → IfSome result (λ i. prefix_from places i ≡ Some p) → IfNone result ((i : ℕ) → prefix_from places i ≢ Some p)
    → is_some result ≡ is_member same_prefix (by_prefix (λ q. q) places) p
child-stands {T} places p None some none = by_test (is_member same_prefix (by_prefix (λ q. q) places) p) refl
  where
    by_test : (b : Bool) → is_member same_prefix (by_prefix (λ q. q) places) p ≡ b → false ≡ is_member same_prefix (by_prefix (λ q. q) places) p
    by_test true e = let at = member-standing places p e in absurd (none at.0 at.1)
    by_test false e = sym e
child-stands places p (Some i) some none = sym (standing-member places i p some)
