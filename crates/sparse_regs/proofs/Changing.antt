-- A leaf whose register changes, and what the registers and indices that are seen from outside make of all changes.
use Rattle.std.proofs.Common.{◌≡◌, ◌≢◌, ℕ, ◌+◌, ◌-◌, ◌<◌, ◌≤◌, inl, inr, refl, ap, sym, ◌∙◌, subst, arith, List, [], ◌∷◌, length, map, Bool, true, false}
use Rattle.std.specs.Prelude.{◌⊎◌, ◌||◌, ◌==◌, ◌&&◌, nat_lt, max, not, Option, None, Some, IfSome, IfNone, IsSome, IsTrue, slice_index_or, slice_set, position, if◌then◌else◌}
use Rattle.std.specs.Option.{is_some, option_map, option_map_or}
use Rattle.std.proofs.Math.Path.{fun_ext}
use Rattle.std.proofs.lemmas.Bool.{cases_eq, eq-eqb, eqb-true, and_parts, false≢true, lt-ltb}
use Rattle.std.proofs.lemmas.List.{length-set, length-map}
use Rattle.std.proofs.lemmas.List.Quantifiers.{position-Some}
use Rattle.std.proofs.Math.ListN.{get_or-map}
use Rattle.std.proofs.Math.Seq.{map-set_same}
use Rattle.sparse_regs.specs.declared.prefix.Prefix.{Prefix}
use Rattle.sparse_regs.specs.declared.node.Register.{Register}
use Rattle.sparse_regs.specs.declared.node.Node.{Node}
use Rattle.sparse_regs.specs.declared.node.Content.{Content}
use Rattle.sparse_regs.specs.declared.node.Content.TheVariants.{Index, Leaf}
use Rattle.sparse_regs.specs.declared.arena.Arena.{Arena}
use Rattle.sparse_regs.specs.Prefixes.{longer, whole, same_prefix}
use Rattle.sparse_regs.specs.Registers.{Numbered, register_among, register_at, initial_register, is_kept, value_if_kept, prefix_at, prefix_of, updated, taken_count, index_of, is_place_of, KeepsIndices, with_holder, with_resized}
use Rattle.sparse_regs.specs.Linked.{of, IsLinked}
use Rattle.sparse_regs.specs.Places.{node_at, prefix_in, parent_in, child_in, child_in_content, leaf_in, leaf_in_content, prefix_from, parent_from, child_from, with_leaf, content_with_leaf, IsFormed, IsFormedContent, IsStored, IsCounted, stands_in, stands_content, IsTightBut, kept_in, kept_in_content, kept_from, registers_of, SamePrefixes, Grew, Shrank}
use Rattle.sparse_regs.proofs.PrefixLemmas.{prefix_ext}
use Rattle.sparse_regs.proofs.Placing.{at-same, at-other, at-within}
use Rattle.sparse_regs.proofs.Counting.{count-same, count-le, leaf-changed, leaf-register, leaf-alone, leaf-absent, among-none, prefix-leaf}

-- ---- a place with a changed leaf

same_by : {T A : Type 0} (g : Option (Node T) → A) (f : Register T → Register T) → ((x : Option (Node T)) → g (with_leaf f x) ≡ g x)
    → (places : List (Option (Node T))) (at k : ℕ) → at < length places → g (node_at (slice_set places at (with_leaf f (node_at places at))) k) ≡ g (node_at places k)
same_by g f keeps places at k within = elim (cases_eq k at) [
  | inl e ↦ ap (λ j. g (node_at (slice_set places at (with_leaf f (node_at places at))) j)) e ∙ ap g (at-same places at (with_leaf f (node_at places at)) within) ∙ keeps (node_at places at) ∙ ap (λ j. g (node_at places j)) (sym e)
  | inr ne ↦ ap g (at-other places at k (with_leaf f (node_at places at)) ne)
]

leaf-prefix_in : {T : Type 0} (f : Register T → Register T) (x : Option (Node T)) → prefix_in (with_leaf f x) ≡ prefix_in x
leaf-prefix_in f None = refl
leaf-prefix_in f (Some node) = refl

leaf-parent_in : {T : Type 0} (f : Register T → Register T) (x : Option (Node T)) → parent_in (with_leaf f x) ≡ parent_in x
leaf-parent_in f None = refl
leaf-parent_in f (Some node) = refl

leaf-is_some : {T : Type 0} (f : Register T → Register T) (x : Option (Node T)) → is_some (with_leaf f x) ≡ is_some x
leaf-is_some f None = refl
leaf-is_some f (Some node) = refl

leaf-child_content : {T : Type 0} (f : Register T → Register T) (d : ℕ) (content : Content T) → child_in_content (content_with_leaf f content) d ≡ child_in_content content d
leaf-child_content f d (Index children) = refl
leaf-child_content f d (Leaf r) = refl

leaf-child_in : {T : Type 0} (f : Register T → Register T) (d : ℕ) (x : Option (Node T)) → child_in (with_leaf f x) d ≡ child_in x d
leaf-child_in f d None = refl
leaf-child_in f d (Some node) = leaf-child_content f d node.content

leaf-formed_content : {T : Type 0} (f : Register T → Register T) (digits : ℕ) (content : Content T) → IsFormedContent digits content → IsFormedContent digits (content_with_leaf f content)
leaf-formed_content f digits (Index children) h = h
leaf-formed_content f digits (Leaf r) h = h

leaf-formed : {T : Type 0} (f : Register T → Register T) (x : Option (Node T)) → IsFormed x → IsFormed (with_leaf f x)
leaf-formed f None h = h
leaf-formed f (Some node) h = leaf-formed_content f node.prefix.digits node.content h

pub changed-prefix : {T : Type 0} (f : Register T → Register T) (places : List (Option (Node T))) (at k : ℕ) → at < length places
    → prefix_from (slice_set places at (with_leaf f (node_at places at))) k ≡ prefix_from places k
changed-prefix f places at k within = same_by prefix_in f (leaf-prefix_in f) places at k within

changed-child : {T : Type 0} (f : Register T → Register T) (top : List (Option ℕ)) (places : List (Option (Node T))) (at : ℕ) → at < length places → (j : Option ℕ) (d : ℕ)
    → child_from top (slice_set places at (with_leaf f (node_at places at))) j d ≡ child_from top places j d
changed-child f top places at within None d = refl
changed-child f top places at within (Some k) d = same_by (λ x. child_in x d) f (leaf-child_in f d) places at k within

none_stays : {T : Type 0} (f : Register T → Register T) (x : Option (Node T)) → is_some x ≡ false → x ≡ None
none_stays f None e = refl
none_stays f (Some node) e = cc

pub changed-stored : {T : Type 0} (f : Register T → Register T) (top : List (Option ℕ)) (places : List (Option (Node T))) (free : List ℕ) (at : ℕ) → at < length places
    → IsStored top places free → IsStored top (slice_set places at (with_leaf f (node_at places at))) free
changed-stored {T} f top places free at within h =
    let new : List (Option (Node T)) = slice_set places at (with_leaf f (node_at places at)) in
    let pre : prefix_from new ≡ prefix_from places = fun_ext (λ k. changed-prefix f places at k within) in
    let par : parent_from new ≡ parent_from places = fun_ext (λ k. same_by parent_in f (leaf-parent_in f) places at k within) in
    let chi : child_from top new ≡ child_from top places = fun_ext (λ j. fun_ext (λ d. changed-child f top places at within j d)) in
    let P : (ℕ → Option Prefix) → Type 0 = λ x. IsLinked x (parent_from new) (child_from top new) in
    let Q : (ℕ → Option ℕ) → Type 0 = λ x. IsLinked (prefix_from places) x (child_from top new) in
    let R : (Option ℕ → ℕ → Option ℕ) → Type 0 = λ x. IsLinked (prefix_from places) (parent_from places) x in
    let count : taken_count new ≡ taken_count places = count-same places at (with_leaf f (node_at places at)) (leaf-is_some f (node_at places at)) in
    let len : length new ≡ length places = length-set places at (with_leaf f (node_at places at)) in
    record {
      linked = subst P (sym pre) (subst Q (sym par) (subst R (sym chi) h.linked));
      formed = λ i. elim (cases_eq i at) [
        | inl e ↦ subst IsFormed (sym (at-same places at (with_leaf f (node_at places at)) within) ∙ ap (node_at new) (sym e)) (leaf-formed f (node_at places at) (h.formed at))
        | inr ne ↦ subst IsFormed (sym (at-other places at i (with_leaf f (node_at places at)) ne)) (h.formed i)
      ];
      sixteen = h.sixteen;
      counted = record {
        count = omega (arith, count, len, h.counted.count);
        within = λ k less. omega (arith, len, h.counted.within k less);
        empty = λ k less. none_stays f _ (same_by is_some f (leaf-is_some f) places at (slice_index_or free k 0) within ∙ ap is_some (h.counted.empty k less));
        apart = h.counted.apart;
        few = omega (arith, len, h.counted.few);
      };
    }

-- ---- the register of a leaf

leaf-kept_content : {T : Type 0} (f : Register T → Register T) (n : ℕ) (r : Register T) (content : Content T) → leaf_in_content content ≡ Some r
    → kept_in_content n (content_with_leaf f content) ≡ record { number = n; register = f r } ∷ []
leaf-kept_content f n r (Index children) e = cc
leaf-kept_content f n r (Leaf q) e = let same : q ≡ r = cc in ap (λ x. let y : Numbered _ = record { number = n; register = f x } in y ∷ []) same

leaf-kept : {T : Type 0} (f : Register T → Register T) (n : ℕ) (r : Register T) (x : Option (Node T)) → prefix_in x ≡ Some (whole n) → leaf_in x ≡ Some r
    → kept_in (with_leaf f x) ≡ record { number = n; register = f r } ∷ []
leaf-kept f n r None p e = cc
leaf-kept f n r (Some node) p e =
    let same : node.prefix ≡ whole n = cc in
    let number : node.prefix.number ≡ n = ap (λ (q : Prefix). q.number) same in
    ap (λ m. kept_in_content m (content_with_leaf f node.content)) number ∙ leaf-kept_content f n r node.content e

-- at a register's leaf stands what is known of the register
pub leaf-known : {T : Type 0} (start : T) (top : List (Option ℕ)) (places : List (Option (Node T))) (free : List ℕ) (at n : ℕ) → IsStored top places free → prefix_from places at ≡ Some (whole n)
    → leaf_in (node_at places at) ≡ Some (register_among start (kept_from places) n)
leaf-known start top places free at n h here =
    let leaf = prefix-leaf n (node_at places at) (h.formed at) here in
    leaf.2 ∙ ap Some (sym (leaf-register start n places at leaf.0 (leaf-alone n places at h.linked.one h.formed here) leaf.1))

pub changed-registers : {T : Type 0} (start : T) (f : Register T → Register T) (top : List (Option ℕ)) (places : List (Option (Node T))) (free : List ℕ) (at n : ℕ) → IsStored top places free → prefix_from places at ≡ Some (whole n)
    → (m : ℕ) → register_among start (kept_from (slice_set places at (with_leaf f (node_at places at)))) m ≡ updated n (f (register_among start (kept_from places) n)) (register_among start (kept_from places)) m
changed-registers {T} start f top places free at n h here m =
    let leaf = prefix-leaf n (node_at places at) (h.formed at) here in
    let known : leaf.0 ≡ register_among start (kept_from places) n = sym (leaf-register start n places at leaf.0 (leaf-alone n places at h.linked.one h.formed here) leaf.1) in
    leaf-changed start n places at (with_leaf f (node_at places at)) leaf.0 (f leaf.0) (at-within places at (whole n) here)
    (leaf-alone n places at h.linked.one h.formed here) leaf.1 (leaf-kept f n leaf.0 (node_at places at) here leaf.2) m
    ∙ ap (λ (r : Register T). updated n (f r) (register_among start (kept_from places)) m) known

pub changed-tight : {T : Type 0} (is_initial : T → Bool) (f : Register T → Register T) (places : List (Option (Node T))) (at : ℕ) → IsTightBut is_initial (Some at) places
    → IsTightBut is_initial (Some at) (slice_set places at (with_leaf f (node_at places at)))
changed-tight is_initial f places at tight i ne =
    ap (stands_in is_initial) (at-other places at i (with_leaf f (node_at places at)) (λ e. ne (ap Some e))) ∙ tight i ne

leaf-stands_content : {T : Type 0} (is_initial : T → Bool) (f : Register T → Register T) (r : Register T) (content : Content T) → leaf_in_content content ≡ Some r
    → stands_content is_initial (content_with_leaf f content) ≡ is_kept is_initial (f r)
leaf-stands_content is_initial f r (Index children) e = cc
leaf-stands_content is_initial f r (Leaf q) e = let same : q ≡ r = cc in ap (λ x. is_kept is_initial (f x)) same

leaf-stands : {T : Type 0} (is_initial : T → Bool) (f : Register T → Register T) (r : Register T) (x : Option (Node T)) → leaf_in x ≡ Some r
    → stands_in is_initial (with_leaf f x) ≡ is_kept is_initial (f r)
leaf-stands is_initial f r None e = cc
leaf-stands is_initial f r (Some node) e = leaf-stands_content is_initial f r node.content e

leaf-stands_plain : {T : Type 0} (is_initial : T → Bool) (r : Register T) (content : Content T) → leaf_in_content content ≡ Some r → stands_content is_initial content ≡ is_kept is_initial r
leaf-stands_plain is_initial r (Index children) e = cc
leaf-stands_plain is_initial r (Leaf q) e = let same : q ≡ r = cc in ap (is_kept is_initial) same

-- whether the changed leaf has to stand is what its register says
pub changed-stands : {T : Type 0} (is_initial : T → Bool) (f : Register T → Register T) (r : Register T) (places : List (Option (Node T))) (at : ℕ) → at < length places → leaf_in (node_at places at) ≡ Some r
    → stands_in is_initial (node_at (slice_set places at (with_leaf f (node_at places at))) at) ≡ is_kept is_initial (f r)
changed-stands is_initial f r places at within e =
    ap (stands_in is_initial) (at-same places at (with_leaf f (node_at places at)) within) ∙ leaf-stands is_initial f r (node_at places at) e

pub held-kept : {T : Type 0} (is_initial : T → Bool) (r : Register T) → 0 < r.holders → is_kept is_initial r ≡ true
held-kept is_initial r h = ap (λ b. b || not (is_initial r.value)) (lt-ltb 0 r.holders h)

-- a register that is kept has a leaf
pub kept-leaf : {T : Type 0} (start : T) (is_initial : T → Bool) (top : List (Option ℕ)) (places : List (Option (Node T))) (free : List ℕ) (n : ℕ) → IsStored top places free
    → is_initial start ≡ true → is_kept is_initial (register_among start (kept_from places) n) ≡ true → ((k : ℕ) → prefix_from places k ≡ Some (whole n) → ⊥) → ⊥
kept-leaf start is_initial top places free n h initial kept absent =
    let none : register_among start (kept_from places) n ≡ initial_register start = among-none start n places (leaf-absent n places h.formed absent) in
    false≢true (sym (ap not initial) ∙ sym (ap (is_kept is_initial) none) ∙ kept)

-- ---- as seen from outside

pub nodes-seen : {T : Type 0} (places : List (Option (Node T))) → taken_count (map prefix_in places) ≡ taken_count places
nodes-seen [] = refl
nodes-seen (None ∷ places) = nodes-seen places
nodes-seen (Some node ∷ places) = ap (λ n. n + 1) (nodes-seen places)

place-prefix : (p : Prefix) (x : Option Prefix) → is_place_of p x ≡ true → x ≡ Some p
place-prefix p None e = cc
place-prefix p (Some q) e =
    let parts = and_parts (p.digits == q.digits) (p.number == q.number) e in
    ap Some (sym (prefix_ext p q (eqb-true p.digits q.digits parts.0) (eqb-true p.number q.number parts.1)))

-- a prefix's index has a node with this prefix
pub index-prefix : {T : Type 0} (places : List (Option (Node T))) (p : Prefix) (i : ℕ) → index_of (registers_of places) p ≡ Some i → prefix_from places i ≡ Some p
index-prefix places p i e =
    sym (get_or-map prefix_in places i None) ∙ place-prefix p _ (position-Some (is_place_of p) (map prefix_in places) i None e).1

pub keeps-indices : {T : Type 0} (old new : List (Option (Node T))) → ((i j : ℕ) (p : Prefix) → prefix_from old i ≡ Some p → prefix_from new j ≡ Some p → j ≡ i)
    → KeepsIndices (registers_of old) (registers_of new)
keeps-indices old new same p i j e f = same i j p (index-prefix old p i e) (index-prefix new p j f)

pub updated-alike : {T : Type 0} (n : ℕ) (f : Register T → Register T) (old mid : ℕ → Register T) → ((m : ℕ) → mid m ≡ old m) → (m : ℕ) → updated n (f (mid n)) mid m ≡ updated n (f (old n)) old m
updated-alike n f old mid same m = ap (λ r. updated n (f r) mid m) (same n) ∙ ap (λ r. if m == n then f (old n) else r) (same m)

pub slots-seen : {T : Type 0} (places : List (Option (Node T))) → length (map prefix_in places) ≡ length places
slots-seen [] = refl
slots-seen (x ∷ places) = omega (arith, slots-seen places)

pub changed-same : {T : Type 0} (f : Register T → Register T) (old new : List (Option (Node T))) (at : ℕ) → at < length old → new ≡ slice_set old at (with_leaf f (node_at old at)) → SamePrefixes old new
changed-same f old new at within e = record {
  prefixes = λ i. ap (λ xs. prefix_from xs i) e ∙ changed-prefix f old at i within;
  slots = ap length e ∙ length-set old at (with_leaf f (node_at old at));
  count = ap taken_count e ∙ count-same old at (with_leaf f (node_at old at)) (leaf-is_some f (node_at old at));
}

-- indices stay where nodes are made before a leaf changes
pub grew-indices : {T : Type 0} (start : T) (old mid : Arena T) (new : List (Option (Node T))) (par : ℕ → Option ℕ) (chi : Option ℕ → ℕ → Option ℕ) → IsLinked (prefix_from new) par chi
    → Grew start old mid → SamePrefixes mid.places.items new → KeepsIndices (registers_of old.places.items) (registers_of new)
grew-indices start old mid new par chi linked grew same =
    keeps-indices old.places.items new (λ i j p e f. linked.one j i p f (same.prefixes i ∙ grew.stays i p e))

-- and where nodes go after it did
pub shrank-indices : {T : Type 0} (start : T) (old : List (Option (Node T))) (mid new : Arena T) (par : ℕ → Option ℕ) (chi : Option ℕ → ℕ → Option ℕ) → IsLinked (prefix_from old) par chi
    → SamePrefixes old mid.places.items → Shrank start mid new → KeepsIndices (registers_of old) (registers_of new.places.items)
shrank-indices start old mid new par chi linked same shrank =
    keeps-indices old new.places.items (λ i j p e f. linked.one j i p (sym (same.prefixes j) ∙ shrank.stays j p f) e)

pub grew-slots : {T : Type 0} (start : T) (old mid : Arena T) (new : List (Option (Node T))) → Grew start old mid → SamePrefixes mid.places.items new
    → length (map prefix_in new) ≡ max (length (map prefix_in old.places.items)) (taken_count (map prefix_in new))
grew-slots start old mid new grew same = omega (arith, slots-seen new, slots-seen old.places.items, nodes-seen new, same.slots, same.count, grew.slots)

pub shrank-slots : {T : Type 0} (start : T) (old : List (Option (Node T))) (mid new : Arena T) → SamePrefixes old mid.places.items → Shrank start mid new
    → length (map prefix_in new.places.items) ≡ max (length (map prefix_in old)) (taken_count (map prefix_in new.places.items))
shrank-slots start old mid new same shrank = omega (arith, slots-seen new.places.items, slots-seen old, nodes-seen new.places.items, same.slots, shrank.slots, count-le new.places.items)

pub resized-stands : {T : Type 0} (is_initial : T → Bool) (g : T → T) (r : Register T) → is_initial (g r.value) ≡ is_initial r.value → is_kept is_initial (record { value = g r.value; holders = r.holders }) ≡ is_kept is_initial r
resized-stands is_initial g r e = ap (λ b. nat_lt 0 r.holders || not b) e

pub tight-but : {T : Type 0} (is_initial : T → Bool) (places : List (Option (Node T))) (at : ℕ) → IsTightBut is_initial None places → IsTightBut is_initial (Some at) places
tight-but is_initial places at tight i ne = tight i (λ e. cc)

pub option_value : {A : Type 0} {x y : A} → Some x ≡ Some y → x ≡ y
option_value {A} {x} {y} e = cc

-- a register's leaf has to stand where the register says so
pub known-stands : {T : Type 0} (start : T) (is_initial : T → Bool) (top : List (Option ℕ)) (places : List (Option (Node T))) (free : List ℕ) (at n : ℕ) → IsStored top places free → prefix_from places at ≡ Some (whole n)
    → stands_in is_initial (node_at places at) ≡ is_kept is_initial (register_among start (kept_from places) n)
known-stands {T} start is_initial top places free at n h here = by_leaf (node_at places at) (register_among start (kept_from places) n) (leaf-known start top places free at n h here)
  where
    by_leaf : (x : Option (Node T)) (r : Register T) → leaf_in x ≡ Some r → stands_in is_initial x ≡ is_kept is_initial r
    by_leaf None r e = cc
    by_leaf (Some node) r e = leaf-stands_plain is_initial r node.content e

updated-here : {T : Type 0} (n : ℕ) (r : Register T) (all : ℕ → Register T) → updated n r all n ≡ r
updated-here n r all = ap (λ b. if b then r else all n) (eq-eqb n n refl)

pub held-stands : {T : Type 0} (is_initial : T → Bool) (n : ℕ) (q r : Register T) (all : ℕ → Register T) → r ≡ updated n (with_holder q) all n → is_kept is_initial r ≡ true
held-stands is_initial n q r all e = ap (is_kept is_initial) (e ∙ updated-here n (with_holder q) all) ∙ held-kept is_initial (with_holder q) (omega arith)

pub resized-stands-too : {T : Type 0} (is_initial : T → Bool) (n : ℕ) (g : T → T) (q r : Register T) (all : ℕ → Register T) → r ≡ updated n (with_resized g q) all n
    → is_initial (g q.value) ≡ is_initial q.value → is_kept is_initial q ≡ true → is_kept is_initial r ≡ true
resized-stands-too is_initial n g q r all e initial kept =
    ap (is_kept is_initial) (e ∙ updated-here n (with_resized g q) all) ∙ resized-stands is_initial g q initial ∙ kept

-- what is read of a register by its leaf, and of one without
pub value-found : {T : Type 0} (start : T) (is_initial : T → Bool) (top : List (Option ℕ)) (places : List (Option (Node T))) (free : List ℕ) (at n : ℕ) → IsStored top places free → prefix_from places at ≡ Some (whole n)
    → IsTightBut is_initial None places → option_map (λ (r : Register T). r.value) (leaf_in (node_at places at)) ≡ value_if_kept is_initial (register_among start (kept_from places) n)
value-found {T} start is_initial top places free at n h here tight =
    let kept : is_kept is_initial (register_among start (kept_from places) n) ≡ true =
    sym (known-stands start is_initial top places free at n h here) ∙ tight at (λ e. cc) in
    ap (option_map (λ (r : Register T). r.value)) (leaf-known start top places free at n h here)
    ∙ sym (ap (λ b. if b then Some (register_among start (kept_from places) n).value else None) kept)

pub value-missing : {T : Type 0} (start : T) (is_initial : T → Bool) (top : List (Option ℕ)) (places : List (Option (Node T))) (free : List ℕ) (n : ℕ) → IsStored top places free → is_initial start ≡ true
    → ((k : ℕ) → prefix_from places k ≡ Some (whole n) → ⊥) → None ≡ value_if_kept is_initial (register_among start (kept_from places) n)
value-missing start is_initial top places free n h initial absent =
    sym (ap (value_if_kept is_initial) (among-none start n places (leaf-absent n places h.formed absent))
    ∙ ap (λ b. if not b then Some start else None) initial)

pub holders-found : {T : Type 0} (start : T) (top : List (Option ℕ)) (places : List (Option (Node T))) (free : List ℕ) (at n : ℕ) → IsStored top places free → prefix_from places at ≡ Some (whole n)
    → option_map_or (λ (r : Register T). r.holders) (leaf_in (node_at places at)) 0 ≡ (register_among start (kept_from places) n).holders
holders-found {T} start top places free at n h here = ap (λ x. option_map_or (λ (r : Register T). r.holders) x 0) (leaf-known start top places free at n h here)

pub holders-missing : {T : Type 0} (start : T) (top : List (Option ℕ)) (places : List (Option (Node T))) (free : List ℕ) (n : ℕ) → IsStored top places free
    → ((k : ℕ) → prefix_from places k ≡ Some (whole n) → ⊥) → 0 ≡ (register_among start (kept_from places) n).holders
holders-missing {T} start top places free n h absent = sym (ap (λ (r : Register T). r.holders) (among-none start n places (leaf-absent n places h.formed absent)))

pub seen-prefix : {T : Type 0} (places : List (Option (Node T))) (i : ℕ) → prefix_at (registers_of places) i ≡ prefix_from places i
seen-prefix places i = get_or-map prefix_in places i None

pub seen-of : {T : Type 0} (places : List (Option (Node T))) (j : Option ℕ) → prefix_of (registers_of places) j ≡ of (prefix_from places) j
seen-of places None = refl
seen-of places (Some i) = seen-prefix places i

if_some_seen : {T : Type 0} (places : List (Option (Node T))) (q : Prefix) (r : Option ℕ) → IfSome r (λ i. prefix_from places i ≡ Some q) → IfSome r (λ i. prefix_at (registers_of places) i ≡ Some q)
if_some_seen places q None h = tt
if_some_seen places q (Some i) h = seen-prefix places i ∙ h

if_none_seen : {T : Type 0} (places : List (Option (Node T))) (q : Prefix) (r : Option ℕ) → IfNone r ((i : ℕ) → prefix_from places i ≢ Some q) → IfNone r ((i : ℕ) → prefix_at (registers_of places) i ≢ Some q)
if_none_seen places q None h = λ i e. h i (sym (seen-prefix places i) ∙ e)
if_none_seen places q (Some i) h = tt

pub child-some : {T : Type 0} (places : List (Option (Node T))) (parent r : Option ℕ) (digit : ℕ)
    → ((p : Prefix) → of (prefix_from places) parent ≡ Some p → IfSome r (λ i. prefix_from places i ≡ Some (longer p digit)))
    → (p : Prefix) → prefix_of (registers_of places) parent ≡ Some p → IfSome r (λ i. prefix_at (registers_of places) i ≡ Some (longer p digit))
child-some places parent r digit h p e = if_some_seen places (longer p digit) r (h p (sym (seen-of places parent) ∙ e))

pub child-none : {T : Type 0} (places : List (Option (Node T))) (parent r : Option ℕ) (digit : ℕ)
    → ((p : Prefix) → of (prefix_from places) parent ≡ Some p → IfNone r ((i : ℕ) → prefix_from places i ≢ Some (longer p digit)))
    → (p : Prefix) → prefix_of (registers_of places) parent ≡ Some p → IfNone r ((i : ℕ) → prefix_at (registers_of places) i ≢ Some (longer p digit))
child-none places parent r digit h p e = if_none_seen places (longer p digit) r (h p (sym (seen-of places parent) ∙ e))

pub linked-some : (pre : ℕ → Option Prefix) (par : ℕ → Option ℕ) (chi : Option ℕ → ℕ → Option ℕ) → IsLinked pre par chi → (parent r : Option ℕ) (digit : ℕ) → digit < 16 → r ≡ chi parent digit
    → (p : Prefix) → of pre parent ≡ Some p → IfSome r (λ i. pre i ≡ Some (longer p digit))
linked-some pre par chi h parent None digit small e p above = tt
linked-some pre par chi h parent (Some i) digit small e p above = h.some parent p digit i small above (sym e)

pub linked-none : (pre : ℕ → Option Prefix) (par : ℕ → Option ℕ) (chi : Option ℕ → ℕ → Option ℕ) → IsLinked pre par chi → (parent r : Option ℕ) (digit : ℕ) → digit < 16 → r ≡ chi parent digit
    → (p : Prefix) → of pre parent ≡ Some p → IfNone r ((i : ℕ) → pre i ≢ Some (longer p digit))
linked-none pre par chi h parent None digit small e p above = λ i there. h.none parent p digit i small above (sym e) there
linked-none pre par chi h parent (Some i) digit small e p above = tt

pub changed-prefixes : {T : Type 0} (f : Register T → Register T) (old new : List (Option (Node T))) (at : ℕ) → new ≡ slice_set old at (with_leaf f (node_at old at)) → map prefix_in new ≡ map prefix_in old
changed-prefixes f old new at e = ap (map prefix_in) e ∙ map-set_same prefix_in old at (with_leaf f (node_at old at)) None (leaf-prefix_in f (node_at old at))
