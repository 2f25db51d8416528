-- What is stored stays in order where a node is made and where one goes.
use Rattle.std.proofs.Common.{◌≡◌, ◌≢◌, ℕ, ◌+◌, ◌-◌, ◌*◌, ◌/◌, ◌%◌, ◌<◌, ◌≤◌, inl, inr, refl, ap, sym, ◌∙◌, subst, arith, List, [], ◌∷◌, ◌++◌, length, map, Bool, true, false, suc, zero, length-append}
use Rattle.std.specs.Prelude.{◌⊎◌, ◌==◌, ◌&&◌, ◌||◌, nat_lt, max, Option, None, Some, IfSome, IsSome, slice_index_or, slice_set, not, replicate, if◌then◌else◌}
use Rattle.std.specs.Option.{is_some, is_none}
use Rattle.std.specs.List.{list_any, list_all, IsDistinct, AllByRecursion}
use Rattle.std.proofs.lemmas.Bool.{cases_eq, eq-eqb, eqb-true, ne_eqb, false≢true, false_from_ne_true, and_parts, and_from, lt-ltb}
use Rattle.std.proofs.lemmas.List.{length-set, get_or_append_left}
use Rattle.std.proofs.Math.Seq.{get_or-append_seam}
use Rattle.std.proofs.Math.ListN.{get_or-append, get_or-eq_default}
use Rattle.std.proofs.lemmas.Map.Keys.{IsDistinct-cons}
use Rattle.std.proofs.lemmas.Map.Steps.{length-le_from_distinct_below}
use Rattle.sparse_regs.specs.declared.prefix.Prefix.{Prefix}
use Rattle.sparse_regs.specs.declared.node.Register.{Register}
use Rattle.sparse_regs.specs.declared.node.Node.{Node}
use Rattle.sparse_regs.specs.declared.node.Content.{Content}
use Rattle.sparse_regs.specs.declared.node.Content.TheVariants.{Index, Leaf}
use Rattle.sparse_regs.specs.declared.arena.Arena.{Arena}
use Rattle.sparse_regs.specs.Prefixes.{empty_prefix, longer, whole, same_prefix}
use Rattle.sparse_regs.specs.Registers.{Numbered, register_among, initial_register, is_kept, taken_count}
use Rattle.sparse_regs.specs.Linked.{of, IsPrefix, IsLinked, shorter}
use Rattle.sparse_regs.specs.Places.{node_at, prefix_in, parent_in, child_in, child_in_content, prefix_from, parent_from, child_from, with_child, top_with_child, places_with_child, new_content, IsFormed, IsFormedContent, IsStored, IsCounted, IsSpare, IsArena, Grew, Shrank, stands_in, stands_content, IsTightBut, kept_in, kept_in_content, kept_from}
use Rattle.sparse_regs.proofs.PrefixLemmas.{prefix_ext, longer-shorter, same_or_not}
use Rattle.sparse_regs.proofs.Paths.{height}
use Rattle.sparse_regs.proofs.Placing.{IsPut, put, at-same, at-other, at-within, put-prefix, put-formed, made-tight, gone-tight, made-linked, gone-linked, is_some-with_child, kept_in-with_child}
use Rattle.sparse_regs.proofs.Counting.{kept-same, count-same, count-taken, count-left, is_leaf_of, leaf-alone, leaf-absent, leaf-made, leaf-gone}

-- ---- an empty place more

pub count-append : {A : Type 0} (xs : List (Option A)) → taken_count (xs ++ None ∷ []) ≡ taken_count xs
count-append [] = refl
count-append (None ∷ xs) = count-append xs
count-append (Some x ∷ xs) = ap (λ n. n + 1) (count-append xs)

pub kept-append : {T : Type 0} (xs : List (Option (Node T))) → kept_from (xs ++ None ∷ []) ≡ kept_from xs
kept-append [] = refl
kept-append (x ∷ xs) = ap (λ ks. kept_in x ++ ks) (kept-append xs)

pub at-append : {T : Type 0} (xs : List (Option (Node T))) (k : ℕ) → node_at (xs ++ None ∷ []) k ≡ node_at xs k
at-append [] zero = refl
at-append [] (suc k) = refl
at-append (x ∷ xs) zero = refl
at-append (x ∷ xs) (suc k) = at-append xs k

-- ---- the nodes that stand are no more than there are prefixes

-- what a function makes of the prefixes that stand
unfoldable pub by_prefix : {T K : Type 0} → (Prefix → K) → List (Option (Node T)) → List K
by_prefix f [] = []
by_prefix f (None ∷ places) = by_prefix f places
by_prefix f (Some node ∷ places) = f node.prefix ∷ by_prefix f places

pub length-by_prefix : {T K : Type 0} (f : Prefix → K) (places : List (Option (Node T))) → length (by_prefix f places) ≡ taken_count places
unfolding by_prefix
length-by_prefix f [] = refl
length-by_prefix f (None ∷ places) = length-by_prefix f places
length-by_prefix f (Some node ∷ places) = omega (arith, length-by_prefix f places)

-- what holds of each node's prefix
pub all-by_prefix : {T K : Type 0} (f : Prefix → K) (P : K → Type 0) (places : List (Option (Node T)))
    → ((k : ℕ) (p : Prefix) → prefix_from places k ≡ Some p → P (f p)) → AllByRecursion P (by_prefix f places)
unfolding by_prefix
all-by_prefix f P [] h = tt
all-by_prefix f P (None ∷ places) h = all-by_prefix f P places (λ k. h (suc k))
all-by_prefix f P (Some node ∷ places) h = (h 0 node.prefix refl, all-by_prefix f P places (λ k. h (suc k)))

-- they are all different
pub distinct-by_prefix : {T K : Type 0} (eq : K → K → Bool) (f : Prefix → K) (places : List (Option (Node T)))
    → ((k : ℕ) (p : Prefix) → prefix_from places k ≡ Some p → IsPrefix p)
    → ((p q : Prefix) → IsPrefix p → IsPrefix q → eq (f p) (f q) ≡ true → p ≡ q)
    → ((k j : ℕ) (p : Prefix) → prefix_from places k ≡ Some p → prefix_from places j ≡ Some p → k ≡ j)
    → IsDistinct eq (by_prefix f places)
unfolding by_prefix IsDistinct
distinct-by_prefix eq f [] shaped same one = tt
distinct-by_prefix eq f (None ∷ places) shaped same one =
    distinct-by_prefix eq f places (λ k. shaped (suc k)) same (λ k j p e g. omega (arith, one (suc k) (suc j) p e g))
distinct-by_prefix eq f (Some node ∷ places) shaped same one = (
  all-by_prefix f (λ y. eq (f node.prefix) y ≡ false) places (λ k p e. false_from_ne_true _ (λ t.
      let equal : node.prefix ≡ p = same node.prefix p (shaped 0 node.prefix refl) (shaped (suc k) p e) t in
      let zero_is : 0 ≡ suc k = one 0 (suc k) p (ap Some equal) e in
      omega (arith, zero_is))),
  distinct-by_prefix eq f places (λ k. shaped (suc k)) same (λ k j p e g. omega (arith, one (suc k) (suc j) p e g)),
)

code : Prefix → ℕ
code p = 65536 * p.digits + p.number

code-same : (p q : Prefix) → IsPrefix p → IsPrefix q → (code p == code q) ≡ true → p ≡ q
unfolding code
code-same p q h g e =
    let equal : 65536 * p.digits + p.number ≡ 65536 * q.digits + q.number = eqb-true _ _ e in
    prefix_ext p q (omega (arith, equal, h.four, g.four)) (omega (arith, equal, h.four, g.four))

below_all : (n q : ℕ) (xs : List ℕ) → AllByRecursion (λ x. x < n) xs → list_any (λ x. q == x) xs ≡ true → q < n
below_all n q [] h e = cc
below_all n q (x ∷ xs) h e = below_head n q x xs h.0 (below_all n q xs h.1) e
  where
    below_head : (n q x : ℕ) (xs : List ℕ) → x < n → (list_any (λ y. q == y) xs ≡ true → q < n) → list_any (λ y. q == y) (x ∷ xs) ≡ true → q < n
    below_head n q x xs here rest e = elim (cases_eq q x) [
      | inl same ↦ omega arith
      | inr ne ↦ rest (sym (ap (λ b. b || list_any (λ y. q == y) xs) (ne_eqb q x ne)) ∙ e)
    ]

code-small : (p : Prefix) → IsPrefix p → code p < 327680
unfolding code
code-small p h = omega (arith, h.four, h.most)

pub few-taken : {T : Type 0} (places : List (Option (Node T))) (par : ℕ → Option ℕ) (chi : Option ℕ → ℕ → Option ℕ)
    → IsLinked (prefix_from places) par chi → taken_count places ≤ 327680
few-taken places par chi h =
    let few : length (by_prefix code places) ≤ 327680 = length-le_from_distinct_below (by_prefix code places) 327680
    (distinct-by_prefix (λ (a b : ℕ). a == b) code places h.shaped code-same h.one)
    (λ q e. below_all 327680 q (by_prefix code places) (all-by_prefix code (λ x. x < 327680) places (λ k p g. code-small p (h.shaped k p g))) e) in
    omega (arith, length-by_prefix code places, few)

-- ---- a node is made

none_by_prefix : {T : Type 0} (x : Option (Node T)) → prefix_in x ≡ None → x ≡ None
none_by_prefix None e = refl
none_by_prefix (Some node) e = cc

abbrev no_child : Option ℕ
no_child = None

nothing_at : (n d : ℕ) → slice_index_or (replicate n no_child) d None ≡ None
nothing_at zero d = refl
nothing_at (suc n) zero = refl
nothing_at (suc n) (suc d) = nothing_at n d

pub new-formed : {T : Type 0} (start : T) (digits : ℕ) → digits ≤ 4 → IsFormedContent digits (new_content start digits)
new-formed start digits h = elim (cases_eq digits 4) [
  | inl e ↦ let P : Bool → Type 0 = λ b. IsFormedContent digits (if b then Leaf (initial_register start) else Index (replicate 16 None)) in subst P (sym (eq-eqb digits 4 e)) e
  | inr ne ↦ let P : Bool → Type 0 = λ b. IsFormedContent digits (if b then Leaf (initial_register start) else Index (replicate 16 None)) in subst P (sym (ne_eqb digits 4 ne)) (omega arith, refl)
]

new-childless : {T : Type 0} (start : T) (digits d : ℕ) → child_in_content (new_content start digits) d ≡ None
new-childless start digits d = by_test (digits == 4)
  where
    by_test : (b : Bool) → child_in_content (if b then Leaf (initial_register start) else Index (replicate 16 None)) d ≡ None
    by_test true = refl
    by_test false = nothing_at 16 d

abbrev content_by : {T : Type 0} → T → Bool → Content T
content_by start b = if b then Leaf (initial_register start) else Index (replicate 16 None)

-- all that is known where a node is made below another
pub record IsMaking {T : Type 0} (start : T) (top top' : List (Option ℕ)) (old taken new : List (Option (Node T))) (free free' : List ℕ) (at : ℕ) (parent : Option ℕ) (prefix : Prefix) : Type 0 where
  pub stored : IsStored top old free
  pub same : (k : ℕ) → node_at taken k ≡ node_at old k
  pub count : taken_count taken ≡ taken_count old
  pub kept : kept_from taken ≡ kept_from old
  pub spare : IsSpare taken free' at
  pub shape : IsPrefix prefix
  pub above : of (prefix_from old) parent ≡ Some (shorter prefix)
  pub absent : child_from top old parent (prefix.number % 16) ≡ None
  pub new_top : top' ≡ top_with_child parent (prefix.number % 16) (Some at) top
  pub new_places : new ≡ places_with_child parent (prefix.number % 16) (Some at) (slice_set taken at (Some (record { prefix = prefix; parent = parent; content = new_content start prefix.digits })))

abbrev pub new_node : {T : Type 0} → T → Option ℕ → Prefix → Node T
new_node start parent prefix = record { prefix = prefix; parent = parent; content = new_content start prefix.digits }

making-vacant : {T : Type 0} (start : T) (top top' : List (Option ℕ)) (old taken new : List (Option (Node T))) (free free' : List ℕ) (at : ℕ) (parent : Option ℕ) (prefix : Prefix)
    → IsMaking start top top' old taken new free free' at parent prefix → node_at old at ≡ None
making-vacant start top top' old taken new free free' at parent prefix h = sym (h.same at) ∙ h.spare.vacant

making-apart : {T : Type 0} (start : T) (top top' : List (Option ℕ)) (old taken new : List (Option (Node T))) (free free' : List ℕ) (at : ℕ) (parent : Option ℕ) (prefix : Prefix)
    → IsMaking start top top' old taken new free free' at parent prefix → parent ≢ Some at
making-apart start top top' old taken new free free' at parent prefix h e =
    let there : prefix_from old at ≡ Some (shorter prefix) = ap (of (prefix_from old)) (sym e) ∙ h.above in
    let none : prefix_from old at ≡ None = ap prefix_in (making-vacant start top top' old taken new free free' at parent prefix h) in
    cc

pub making-put : {T : Type 0} (start : T) (top top' : List (Option ℕ)) (old taken new : List (Option (Node T))) (free free' : List ℕ) (at : ℕ) (parent : Option ℕ) (prefix : Prefix)
    → IsMaking start top top' old taken new free free' at parent prefix → IsPut old new at (Some (new_node start parent prefix)) parent (prefix.number % 16) (Some at)
making-put {T} start top top' old taken new free free' at parent prefix h =
    let P : List (Option (Node T)) → Type 0 = λ xs. IsPut old xs at (Some (record { prefix = prefix; parent = parent; content = new_content start prefix.digits })) parent (prefix.number % 16) (Some at) in
    subst P (sym h.new_places) (put old taken at (Some (record { prefix = prefix; parent = parent; content = new_content start prefix.digits })) parent (shorter prefix) (prefix.number % 16) (Some at) h.same h.spare.here h.above (making-apart start top top' old taken new free free' at parent prefix h))

length-with_child : {T : Type 0} (parent : Option ℕ) (digit : ℕ) (c : Option ℕ) (places : List (Option (Node T))) → length (places_with_child parent digit c places) ≡ length places
length-with_child None digit c places = refl
length-with_child (Some j) digit c places = length-set places j (with_child digit c (node_at places j))

length-top : (parent : Option ℕ) (digit : ℕ) (c : Option ℕ) (top : List (Option ℕ)) → length (top_with_child parent digit c top) ≡ length top
length-top None digit c top = length-set top digit c
length-top (Some j) digit c top = refl

count-with_child : {T : Type 0} (parent : Option ℕ) (digit : ℕ) (c : Option ℕ) (places : List (Option (Node T))) → taken_count (places_with_child parent digit c places) ≡ taken_count places
count-with_child None digit c places = refl
count-with_child (Some j) digit c places = count-same places j (with_child digit c (node_at places j)) (is_some-with_child digit c (node_at places j))

kept-with_child : {T : Type 0} (parent : Option ℕ) (digit : ℕ) (c : Option ℕ) (places : List (Option (Node T))) → kept_from (places_with_child parent digit c places) ≡ kept_from places
kept-with_child None digit c places = refl
kept-with_child (Some j) digit c places = kept-same places j (with_child digit c (node_at places j)) (kept_in-with_child digit c (node_at places j))

pub making-count : {T : Type 0} (start : T) (top top' : List (Option ℕ)) (old taken new : List (Option (Node T))) (free free' : List ℕ) (at : ℕ) (parent : Option ℕ) (prefix : Prefix)
    → IsMaking start top top' old taken new free free' at parent prefix → (taken_count new ≡ taken_count old + 1) × (length new ≡ length taken)
making-count {T} start top top' old taken new free free' at parent prefix h =
    let node : Node T = record { prefix = prefix; parent = parent; content = new_content start prefix.digits } in
    let put_count : taken_count (slice_set taken at (Some node)) ≡ taken_count taken + 1 = count-taken taken at node h.spare.here h.spare.vacant in (
      ap taken_count h.new_places ∙ count-with_child parent (prefix.number % 16) (Some at) (slice_set taken at (Some node)) ∙ put_count ∙ ap (λ n. n + 1) h.count,
      ap length h.new_places ∙ length-with_child parent (prefix.number % 16) (Some at) (slice_set taken at (Some node)) ∙ length-set taken at (Some node),
    )

pub making-stored : {T : Type 0} (start : T) (top top' : List (Option ℕ)) (old taken new : List (Option (Node T))) (free free' : List ℕ) (at : ℕ) (parent : Option ℕ) (prefix : Prefix)
    → IsMaking start top top' old taken new free free' at parent prefix → IsStored top' new free'
making-stored {T} start top top' old taken new free free' at parent prefix h =
    let node : Node T = record { prefix = prefix; parent = parent; content = new_content start prefix.digits } in
    let digit = prefix.number % 16 in
    let placed : IsPut old new at (Some node) parent digit (Some at) = making-put start top top' old taken new free free' at parent prefix h in
    let linked : IsLinked (prefix_from new) (parent_from new) (child_from (top_with_child parent digit (Some at) top) new) =
    made-linked top old new at node parent (shorter prefix) digit placed h.stored.linked h.stored.sixteen h.stored.formed h.above (omega (arith, h.shape.least, h.shape.most)) (omega arith)
    (making-vacant start top top' old taken new free free' at parent prefix h) h.absent (sym (longer-shorter prefix h.shape.least)) refl (λ d. new-childless start prefix.digits d) in
    let counts = making-count start top top' old taken new free free' at parent prefix h in
    let P : List (Option ℕ) → Type 0 = λ t. IsLinked (prefix_from new) (parent_from new) (child_from t new) in
    let free_stays : (k : ℕ) → k < length free' → node_at new (slice_index_or free' k 0) ≡ None = λ k less.
    none_by_prefix _ (put-prefix old new at (Some node) parent digit (Some at) placed (slice_index_or free' k 0) (h.spare.other k less) ∙ ap prefix_in (sym (h.same (slice_index_or free' k 0)) ∙ h.spare.empty k less)) in
    record {
      linked = subst P (sym h.new_top) linked;
      formed = put-formed old new at (Some node) parent digit (Some at) placed h.stored.formed (new-formed start prefix.digits h.shape.most);
      sixteen = ap length h.new_top ∙ length-top parent digit (Some at) top ∙ h.stored.sixteen;
      counted = record {
        count = omega (arith, counts.0, counts.1, h.count, h.spare.count);
        within = λ k less. omega (arith, counts.1, h.spare.within k less);
        empty = free_stays;
        apart = h.spare.apart;
        few = elim (cases_eq (length free') 0) [
          | inl none ↦ omega (arith, counts.0, counts.1, h.count, h.spare.count, few-taken new (parent_from new) _ linked)
          | inr some ↦ omega (arith, counts.1, h.spare.few (omega arith))
        ];
      };
    }

pub making-registers : {T : Type 0} (start : T) (top top' : List (Option ℕ)) (old taken new : List (Option (Node T))) (free free' : List ℕ) (at : ℕ) (parent : Option ℕ) (prefix : Prefix)
    → IsMaking start top top' old taken new free free' at parent prefix → (m : ℕ) → register_among start (kept_from new) m ≡ register_among start (kept_from old) m
making-registers {T} start top top' old taken new free free' at parent prefix h m =
    let node : Node T = record { prefix = prefix; parent = parent; content = new_content start prefix.digits } in
    ap (λ ks. register_among start ks m) (ap kept_from h.new_places ∙ kept-with_child parent (prefix.number % 16) (Some at) (slice_set taken at (Some node)))
    ∙ by_digits
    ∙ ap (λ ks. register_among start ks m) h.kept
  where
    absent : (k : ℕ) → prefix.digits ≡ 4 → prefix_from taken k ≡ Some (whole prefix.number) → ⊥
    absent k four e =
        h.stored.linked.none parent (shorter prefix) (prefix.number % 16) k (omega arith) h.above h.absent
        (ap prefix_in (sym (h.same k)) ∙ e ∙ ap Some (prefix_ext (whole prefix.number) prefix (sym four) refl ∙ sym (longer-shorter prefix h.shape.least)))

    by_digits : register_among start (kept_from (slice_set taken at (Some (record { prefix = prefix; parent = parent; content = new_content start prefix.digits })))) m ≡ register_among start (kept_from taken) m
    by_digits = elim (cases_eq prefix.digits 4) [
      | inl four ↦ leaf-made start prefix.number taken at (Some (record { prefix = prefix; parent = parent; content = new_content start prefix.digits })) h.spare.here
          (leaf-absent prefix.number taken (λ k. subst IsFormed (sym (h.same k)) (h.stored.formed k)) (λ k. absent k four))
          h.spare.vacant (ap (λ b. kept_in_content prefix.number (content_by start b)) (eq-eqb prefix.digits 4 four)) m
      | inr ne ↦ ap (λ ks. register_among start ks m) (kept-same taken at (Some (record { prefix = prefix; parent = parent; content = new_content start prefix.digits }))
          (ap (λ b. kept_in_content prefix.number (content_by start b)) (ne_eqb prefix.digits 4 ne) ∙ ap kept_in (sym h.spare.vacant)))
    ]

-- ---- a node goes

pub record IsGoing {T : Type 0} (is_initial : T → Bool) (top top' : List (Option ℕ)) (old new : List (Option (Node T))) (free free' : List ℕ) (at : ℕ) (node : Node T) : Type 0 where
  pub stored : IsStored top old free
  pub here : node_at old at ≡ Some node
  pub idle : stands_in is_initial (node_at old at) ≡ false
  pub new_free : free' ≡ free ++ at ∷ []
  pub new_top : top' ≡ top_with_child node.parent (node.prefix.number % 16) None top
  pub new_places : new ≡ places_with_child node.parent (node.prefix.number % 16) None (slice_set old at None)

going-prefix : {T : Type 0} (is_initial : T → Bool) (top top' : List (Option ℕ)) (old new : List (Option (Node T))) (free free' : List ℕ) (at : ℕ) (node : Node T)
    → IsGoing is_initial top top' old new free free' at node → prefix_from old at ≡ Some node.prefix
going-prefix is_initial top top' old new free free' at node h = ap prefix_in h.here

pub going-above : {T : Type 0} (is_initial : T → Bool) (top top' : List (Option ℕ)) (old new : List (Option (Node T))) (free free' : List ℕ) (at : ℕ) (node : Node T)
    → IsGoing is_initial top top' old new free free' at node → of (prefix_from old) node.parent ≡ Some (shorter node.prefix)
going-above is_initial top top' old new free free' at node h =
    ap (λ x. of (prefix_from old) (parent_in x)) (sym h.here) ∙ h.stored.linked.up at node.prefix (ap prefix_in h.here)

going-apart : {T : Type 0} (is_initial : T → Bool) (top top' : List (Option ℕ)) (old new : List (Option (Node T))) (free free' : List ℕ) (at : ℕ) (node : Node T)
    → IsGoing is_initial top top' old new free free' at node → node.parent ≢ Some at
going-apart is_initial top top' old new free free' at node h e =
    let there : prefix_from old at ≡ Some (shorter node.prefix) = ap (of (prefix_from old)) (sym e) ∙ going-above is_initial top top' old new free free' at node h in
    let here : prefix_from old at ≡ Some node.prefix = ap prefix_in h.here in
    let same : shorter node.prefix ≡ node.prefix = cc in
    let digits : node.prefix.digits - 1 ≡ node.prefix.digits = ap (λ (p : Prefix). p.digits) same in
    omega (arith, digits, (h.stored.linked.shaped at node.prefix here).least)

pub going-put : {T : Type 0} (is_initial : T → Bool) (top top' : List (Option ℕ)) (old new : List (Option (Node T))) (free free' : List ℕ) (at : ℕ) (node : Node T)
    → IsGoing is_initial top top' old new free free' at node → IsPut old new at None node.parent (node.prefix.number % 16) None
going-put {T} is_initial top top' old new free free' at node h =
    let P : List (Option (Node T)) → Type 0 = λ xs. IsPut old xs at None node.parent (node.prefix.number % 16) None in
    subst P (sym h.new_places) (put old old at None node.parent (shorter node.prefix) (node.prefix.number % 16) None (λ k. refl)
    (at-within old at node.prefix (ap prefix_in h.here)) (going-above is_initial top top' old new free free' at node h) (going-apart is_initial top top' old new free free' at node h))

pub going-count : {T : Type 0} (is_initial : T → Bool) (top top' : List (Option ℕ)) (old new : List (Option (Node T))) (free free' : List ℕ) (at : ℕ) (node : Node T)
    → IsGoing is_initial top top' old new free free' at node → (taken_count new + 1 ≡ taken_count old) × (length new ≡ length old)
going-count is_initial top top' old new free free' at node h = (
  ap (λ n. n + 1) (ap taken_count h.new_places ∙ count-with_child node.parent (node.prefix.number % 16) None (slice_set old at None)) ∙ count-left old at node h.here,
  ap length h.new_places ∙ length-with_child node.parent (node.prefix.number % 16) None (slice_set old at None) ∙ length-set old at None,
)

all_none : (children : List (Option ℕ)) (d : ℕ) → list_all is_none children ≡ true → slice_index_or children d None ≡ None
all_none [] d e = refl
all_none (None ∷ cs) zero e = refl
all_none (None ∷ cs) (suc d) e = all_none cs d e
all_none (Some c ∷ cs) d e = cc

idle-content : {T : Type 0} (is_initial : T → Bool) (content : Content T) (d : ℕ) → stands_content is_initial content ≡ false → child_in_content content d ≡ None
idle-content is_initial (Index children) d e = all_none children d (from_not (list_all is_none children) e)
  where
    from_not : (b : Bool) → not b ≡ false → b ≡ true
    from_not true h = refl
    from_not false h = cc
idle-content is_initial (Leaf register) d e = refl

idle-childless : {T : Type 0} (is_initial : T → Bool) (x : Option (Node T)) (d : ℕ) → stands_in is_initial x ≡ false → child_in x d ≡ None
idle-childless is_initial None d e = refl
idle-childless is_initial (Some node) d e = idle-content is_initial node.content d e

going-counted : {T : Type 0} (old new : List (Option (Node T))) (free free' : List ℕ) (at : ℕ) → IsCounted old free → free' ≡ free ++ at ∷ [] → at < length old
    → ((k : ℕ) → node_at old k ≡ None → k ≢ at) → taken_count new + 1 ≡ taken_count old → length new ≡ length old
    → ((k : ℕ) → (k ≡ at) ⊎ (node_at old k ≡ None) → node_at new k ≡ None) → IsCounted new free'
going-counted old new free free' at h e within taken count len none = record {
  count = omega (arith, h.count, grown);
  within = λ k less. elim (cases_eq k (length free)) [
    | inl last ↦ omega (arith, at_last k last)
    | inr ne ↦ omega (arith, before k (omega (arith, grown)), h.within k (omega (arith, grown)))
  ];
  empty = λ k less. elim (cases_eq k (length free)) [
    | inl last ↦ none _ (inl (at_last k last))
    | inr ne ↦ none _ (inr (ap (node_at old) (before k (omega (arith, grown))) ∙ h.empty k (omega (arith, grown))))
  ];
  apart = λ k l less small same. elim (cases_eq l (length free)) [
    | inl last ↦ taken _ (h.empty k (omega arith)) (sym (before k (omega arith)) ∙ same ∙ at_last l last)
    | inr ne ↦ h.apart k l less (omega (arith, grown)) (sym (before k (omega (arith, grown))) ∙ same ∙ before l (omega (arith, grown)))
  ];
  few = omega (arith, h.few);
}
  where
    grown : length free' ≡ length free + 1
    grown = ap length e ∙ length-append free (at ∷ [])

    before : (k : ℕ) → k < length free → slice_index_or free' k 0 ≡ slice_index_or free k 0
    before k less = ap (λ xs. slice_index_or xs k 0) e ∙ get_or-append free (at ∷ []) 0 k less

    at_last : (k : ℕ) → k ≡ length free → slice_index_or free' k 0 ≡ at
    at_last k last = ap (λ xs. slice_index_or xs k 0) e ∙ ap (λ i. slice_index_or (free ++ at ∷ []) i 0) last ∙ get_or-append_seam free at [] 0

pub going-stored : {T : Type 0} (is_initial : T → Bool) (top top' : List (Option ℕ)) (old new : List (Option (Node T))) (free free' : List ℕ) (at : ℕ) (node : Node T)
    → IsGoing is_initial top top' old new free free' at node → IsStored top' new free'
going-stored is_initial top top' old new free free' at node h =
    let digit = node.prefix.number % 16 in
    let placed : IsPut old new at None node.parent digit None = going-put is_initial top top' old new free free' at node h in
    let above : of (prefix_from old) node.parent ≡ Some (shorter node.prefix) = going-above is_initial top top' old new free free' at node h in
    let here : prefix_from old at ≡ Some node.prefix = ap prefix_in h.here in
    let shape : IsPrefix node.prefix = h.stored.linked.shaped at node.prefix here in
    let linked : IsLinked (prefix_from new) (parent_from new) (child_from (top_with_child node.parent digit None top) new) =
    gone-linked top old new at node.parent (shorter node.prefix) digit placed h.stored.linked h.stored.sixteen h.stored.formed above (omega (arith, shape.least, shape.most)) (omega arith)
    (here ∙ ap Some (sym (longer-shorter node.prefix shape.least))) (λ d _. idle-childless is_initial (node_at old at) d h.idle) in
    let counts = going-count is_initial top top' old new free free' at node h in
    let P : List (Option ℕ) → Type 0 = λ t. IsLinked (prefix_from new) (parent_from new) (child_from t new) in
    record {
      linked = subst P (sym h.new_top) linked;
      formed = put-formed old new at None node.parent digit None placed h.stored.formed tt;
      sixteen = ap length h.new_top ∙ length-top node.parent digit None top ∙ h.stored.sixteen;
      counted = going-counted old new free free' at h.stored.counted h.new_free (at-within old at node.prefix here) here_old counts.0 counts.1 placed_none;
    }
  where
    here_old : (k : ℕ) → node_at old k ≡ None → k ≢ at
    here_old k e same = let no : None ≡ Some node = sym e ∙ ap (node_at old) same ∙ h.here in cc

    placed_none : (k : ℕ) → (k ≡ at) ⊎ (node_at old k ≡ None) → node_at new k ≡ None
    placed_none k (inl same) = ap (node_at new) same ∙ (going-put is_initial top top' old new free free' at node h).here
    placed_none k (inr none) = none_by_prefix _ (put-prefix old new at None node.parent (node.prefix.number % 16) None (going-put is_initial top top' old new free free' at node h) k (here_old k none) ∙ ap prefix_in none)

pub making-stays : {T : Type 0} (start : T) (top top' : List (Option ℕ)) (old taken new : List (Option (Node T))) (free free' : List ℕ) (at : ℕ) (parent : Option ℕ) (prefix : Prefix)
    → IsMaking start top top' old taken new free free' at parent prefix → (i : ℕ) (q : Prefix) → prefix_from old i ≡ Some q → prefix_from new i ≡ Some q
making-stays start top top' old taken new free free' at parent prefix h i q e =
    put-prefix old new at (Some (new_node start parent prefix)) parent (prefix.number % 16) (Some at) (making-put start top top' old taken new free free' at parent prefix h) i
    (λ (same : i ≡ at). (let no : None ≡ Some q = sym (ap prefix_in (making-vacant start top top' old taken new free free' at parent prefix h)) ∙ ap (prefix_from old) (sym same) ∙ e in cc))
    ∙ e

pub making-here : {T : Type 0} (start : T) (top top' : List (Option ℕ)) (old taken new : List (Option (Node T))) (free free' : List ℕ) (at : ℕ) (parent : Option ℕ) (prefix : Prefix)
    → IsMaking start top top' old taken new free free' at parent prefix → prefix_from new at ≡ Some prefix
making-here start top top' old taken new free free' at parent prefix h = ap prefix_in (making-put start top top' old taken new free free' at parent prefix h).here

pub making-tight : {T : Type 0} (start : T) (top top' : List (Option ℕ)) (old taken new : List (Option (Node T))) (free free' : List ℕ) (at : ℕ) (parent : Option ℕ) (prefix : Prefix)
    → IsMaking start top top' old taken new free free' at parent prefix → (is_initial : T → Bool) → IsTightBut is_initial parent old → IsTightBut is_initial (Some at) new
making-tight start top top' old taken new free free' at parent prefix h is_initial tight =
    made-tight is_initial old new at (Some (new_node start parent prefix)) parent (shorter prefix) (prefix.number % 16) (making-put start top top' old taken new free free' at parent prefix h)
    h.stored.formed h.above (omega (arith, h.shape.least, h.shape.most)) (omega arith) tight

or_false : (a b : Bool) → (a || b) ≡ false → (a ≡ false) × (b ≡ false)
or_false true b e = cc
or_false false b e = (refl, e)

not_false : (b : Bool) → not b ≡ false → b ≡ true
not_false true e = refl
not_false false e = cc

-- a register that isn't kept has its value of the start and no holder
pub unkept-initial : {T : Type 0} (start : T) (is_initial : T → Bool) → ((x : T) → is_initial x ≡ true → x ≡ start) → (r : Register T) → is_kept is_initial r ≡ false → r ≡ initial_register start
unkept-initial {T} start is_initial equal r e =
    let parts = or_false (nat_lt 0 r.holders) (not (is_initial r.value)) e in
    let value : r.value ≡ start = equal r.value (not_false (is_initial r.value) parts.1) in
    let holders : r.holders ≡ 0 = elim (cases_eq r.holders 0) [
      | inl none ↦ none
      | inr some ↦ absurd (false≢true (sym parts.0 ∙ lt-ltb 0 r.holders (omega arith)))
    ] in
    let with_value : r ≡ record { value = start; holders = r.holders } = ap (λ (x : T). let q : Register T = record { value = x; holders = r.holders } in q) value in
    with_value ∙ ap (λ (n : ℕ). let q : Register T = record { value = start; holders = n } in q) holders

going-content : {T : Type 0} (start : T) (is_initial : T → Bool) → ((x : T) → is_initial x ≡ true → x ≡ start)
    → (old : List (Option (Node T))) (at : ℕ) (node : Node T) (content : Content T)
    → ((k j : ℕ) (p : Prefix) → prefix_from old k ≡ Some p → prefix_from old j ≡ Some p → k ≡ j) → ((i : ℕ) → IsFormed (node_at old i))
    → node_at old at ≡ Some node → node.content ≡ content → IsFormedContent node.prefix.digits content → stands_content is_initial content ≡ false → kept_in (node_at old at) ≡ kept_in_content node.prefix.number content
    → (m : ℕ) → register_among start (kept_from (slice_set old at None)) m ≡ register_among start (kept_from old) m
going-content start is_initial equal old at node (Index children) one formed here is shape idle kept m =
    ap (λ ks. register_among start ks m) (kept-same old at None (sym kept))
going-content {T} start is_initial equal old at node (Leaf r) one formed here is shape idle kept m =
    let initial : r ≡ initial_register start = unkept-initial start is_initial equal r idle in
    let P : Register T → Type 0 = λ q. kept_in (node_at old at) ≡ record { number = node.prefix.number; register = q } ∷ [] in
    leaf-gone start node.prefix.number old at (at-within old at node.prefix (ap prefix_in here))
    (leaf-alone node.prefix.number old at one formed (ap prefix_in here ∙ ap Some (prefix_ext node.prefix (whole node.prefix.number) shape refl)))
    (subst P initial kept) m

pub going-registers : {T : Type 0} (start : T) (is_initial : T → Bool) → ((x : T) → is_initial x ≡ true → x ≡ start)
    → (top top' : List (Option ℕ)) (old new : List (Option (Node T))) (free free' : List ℕ) (at : ℕ) (node : Node T)
    → IsGoing is_initial top top' old new free free' at node
    → (m : ℕ) → register_among start (kept_from new) m ≡ register_among start (kept_from old) m
going-registers start is_initial equal top top' old new free free' at node h m =
    ap (λ ks. register_among start ks m) (ap kept_from h.new_places ∙ kept-with_child node.parent (node.prefix.number % 16) None (slice_set old at None))
    ∙ going-content start is_initial equal old at node node.content h.stored.linked.one h.stored.formed h.here refl
    (subst IsFormed h.here (h.stored.formed at)) (ap (stands_in is_initial) (sym h.here) ∙ h.idle) (ap kept_in h.here) m

-- an empty place is added where none is free
pub spare-appended : {T : Type 0} (old new : List (Option (Node T))) (free free' : List ℕ) (at : ℕ) → IsCounted old free → length free ≡ 0 → length free' ≡ 0
    → new ≡ old ++ None ∷ [] → at ≡ length old → IsSpare new free' at
spare-appended {T} old new free free' at h none none' e place =
    let grown : length new ≡ length old + 1 = ap length e ∙ length-append old (None ∷ []) in
    let counted : taken_count new ≡ taken_count old = ap taken_count e ∙ count-append old in
    record {
      count = omega (arith, h.count, grown, counted);
      here = omega (arith, grown);
      vacant = ap (λ xs. node_at xs at) e ∙ at-append old at ∙ get_or-eq_default old None (omega (arith, place));
      within = λ k less. absurd (omega (arith, less, none'));
      empty = λ k less. absurd (omega (arith, less, none'));
      apart = λ k l less small. absurd (omega (arith, small, none'));
      other = λ k less. absurd (omega (arith, less, none'));
      few = λ some. absurd (omega (arith, some, none'));
    }

pub kept-appended : {T : Type 0} (old new : List (Option (Node T))) → new ≡ old ++ None ∷ [] → kept_from new ≡ kept_from old
kept-appended old new e = ap kept_from e ∙ kept-append old

pub count-appended : {T : Type 0} (old new : List (Option (Node T))) → new ≡ old ++ None ∷ [] → taken_count new ≡ taken_count old
count-appended old new e = ap taken_count e ∙ count-append old

pub going-stays : {T : Type 0} (is_initial : T → Bool) (top top' : List (Option ℕ)) (old new : List (Option (Node T))) (free free' : List ℕ) (at : ℕ) (node : Node T)
    → IsGoing is_initial top top' old new free free' at node → (i : ℕ) (q : Prefix) → prefix_from new i ≡ Some q → prefix_from old i ≡ Some q
going-stays is_initial top top' old new free free' at node h i q e =
    sym (put-prefix old new at None node.parent (node.prefix.number % 16) None (going-put is_initial top top' old new free free' at node h) i
    (λ (same : i ≡ at). (let no : None ≡ Some q = sym (ap prefix_in (going-put is_initial top top' old new free free' at node h).here) ∙ ap (prefix_from new) (sym same) ∙ e in cc)))
    ∙ e

pub going-above-new : {T : Type 0} (is_initial : T → Bool) (top top' : List (Option ℕ)) (old new : List (Option (Node T))) (free free' : List ℕ) (at : ℕ) (node : Node T)
    → IsGoing is_initial top top' old new free free' at node → of (prefix_from new) node.parent ≡ Some (shorter node.prefix)
going-above-new is_initial top top' old new free free' at node h =
    of_stays node.parent (going-apart is_initial top top' old new free free' at node h) ∙ going-above is_initial top top' old new free free' at node h
  where
    of_stays : (j : Option ℕ) → j ≢ Some at → of (prefix_from new) j ≡ of (prefix_from old) j
    of_stays None ne = refl
    of_stays (Some j) ne = put-prefix old new at None node.parent (node.prefix.number % 16) None (going-put is_initial top top' old new free free' at node h) j (λ e. ne (ap Some e))

pub going-tight : {T : Type 0} (is_initial : T → Bool) (top top' : List (Option ℕ)) (old new : List (Option (Node T))) (free free' : List ℕ) (at : ℕ) (node : Node T)
    → IsGoing is_initial top top' old new free free' at node → IsTightBut is_initial (Some at) old → IsTightBut is_initial node.parent new
going-tight is_initial top top' old new free free' at node h tight =
    gone-tight is_initial old new at node.parent (node.prefix.number % 16) (going-put is_initial top top' old new free free' at node h) tight

-- where the parent of a node stands, there is a place
pub going-within : {T : Type 0} (top : List (Option ℕ)) (places : List (Option (Node T))) (free : List ℕ) (at : ℕ) (node : Node T)
    → IsStored top places free → node_at places at ≡ Some node → (j : ℕ) → node.parent ≡ Some j → j < length places
going-within top places free at node h here j e =
    at-within places j (shorter node.prefix)
    (ap (of (prefix_from places)) (sym e) ∙ ap (λ x. of (prefix_from places) (parent_in x)) (sym here) ∙ h.linked.up at node.prefix (ap prefix_in here))

-- a place that is taken isn't free
pub free-fewer : {T : Type 0} (places : List (Option (Node T))) (free : List ℕ) (at : ℕ) (node : Node T) → IsCounted places free → node_at places at ≡ Some node → length free < length places
free-fewer places free at node h here = omega (arith, h.count, count-left places at node here)

if_each : (x : Option ℕ) (P : ℕ → Type 0) → ((j : ℕ) → x ≡ Some j → P j) → IfSome x P
if_each None P h = tt
if_each (Some j) P h = h j refl

pub parent-within : {T : Type 0} (top : List (Option ℕ)) (places : List (Option (Node T))) (free : List ℕ) (at : ℕ) (node : Node T) (len : ℕ)
    → IsStored top places free → node_at places at ≡ Some node → len ≡ length places → IfSome node.parent (λ j. j < len)
parent-within top places free at node len h here e =
    if_each node.parent (λ j. j < len) (λ j f. omega (arith, e, going-within top places free at node h here j f))

-- ---- several changes in a row

pub grew-refl : {T : Type 0} (start : T) (arena : Arena T) → IsArena arena → Grew start arena arena
grew-refl start arena h = record {
  stays = λ i p e. e;
  registers = λ m. refl;
  slots = omega (arith, h.stored.counted.count);
  more = omega arith;
}

pub grew-trans : {T : Type 0} (start : T) (a b c : Arena T) → Grew start a b → Grew start b c → Grew start a c
grew-trans start a b c first next = record {
  stays = λ i p e. next.stays i p (first.stays i p e);
  registers = λ m. next.registers m ∙ first.registers m;
  slots = omega (arith, first.slots, next.slots, next.more);
  more = omega (arith, first.more, next.more);
}

pub shrank-refl : {T : Type 0} (start : T) (arena : Arena T) → Shrank start arena arena
shrank-refl start arena = record { stays = λ i p e. e; registers = λ m. refl; slots = refl }

pub shrank-trans : {T : Type 0} (start : T) (a b c : Arena T) → Shrank start a b → Shrank start b c → Shrank start a c
shrank-trans start a b c first next = record {
  stays = λ i p e. first.stays i p (next.stays i p e);
  registers = λ m. next.registers m ∙ first.registers m;
  slots = next.slots ∙ first.slots;
}

-- all nodes have to stand where the last one does too
pub tight-all : {T : Type 0} (is_initial : T → Bool) (places : List (Option (Node T))) (at : ℕ) → IsTightBut is_initial (Some at) places → stands_in is_initial (node_at places at) ≡ true
    → IsTightBut is_initial None places
tight-all is_initial places at tight here i ne = elim (cases_eq i at) [
  | inl e ↦ ap (λ k. stands_in is_initial (node_at places k)) e ∙ here
  | inr other ↦ tight i (λ (e : Some i ≡ Some at). other (cc))
]

pub climb-smaller : {T : Type 0} (places : List (Option (Node T))) (at : ℕ) (y : Option Prefix) → IsSome (node_at places at) → ((i : ℕ) (p : Prefix) → prefix_from places i ≡ Some p → IsPrefix p)
    → IfSome (prefix_from places at) (λ p. y ≡ Some (shorter p)) → height y < height (prefix_from places at)
climb-smaller {T} places at y here shaped above = by_node (node_at places at) refl here above
  where
    by_node : (x : Option (Node T)) → node_at places at ≡ x → IsSome x → IfSome (prefix_in x) (λ p. y ≡ Some (shorter p)) → height y < height (prefix_from places at)
    by_node None e h f = absurd (cc)
    by_node (Some node) e h f =
        let shape : IsPrefix node.prefix = shaped at node.prefix (ap prefix_in e) in
        let low : height y ≡ node.prefix.digits - 1 = ap height f in
        let high : height (prefix_from places at) ≡ node.prefix.digits = ap (λ x. height (prefix_in x)) e in
        omega (arith, low, high, shape.least)

some_by_prefix : {T : Type 0} (x : Option (Node T)) (p : Prefix) → prefix_in x ≡ Some p → IsSome x
some_by_prefix None p e = cc
some_by_prefix (Some node) p e = refl

pub climb-here : {T : Type 0} (old new : List (Option (Node T))) (at : ℕ) (next : Option ℕ) → IsSome (node_at old at)
    → IfSome (prefix_from old at) (λ p. of (prefix_from new) next ≡ Some (shorter p)) → IfSome next (λ j. IsSome (node_at new j))
climb-here {T} old new at next here above = by_node (node_at old at) next here above
  where
    by_node : (x : Option (Node T)) (next : Option ℕ) → IsSome x → IfSome (prefix_in x) (λ p. of (prefix_from new) next ≡ Some (shorter p)) → IfSome next (λ j. IsSome (node_at new j))
    by_node None next h f = absurd (cc)
    by_node (Some node) None h f = tt
    by_node (Some node) (Some j) h f = some_by_prefix (node_at new j) (shorter node.prefix) f
