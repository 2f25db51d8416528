-- What a change of one place does to the registers that stand and to the count of nodes.
use Rattle.std.proofs.Common.{◌≡◌, ◌≢◌, ℕ, ◌+◌, ◌-◌, ◌*◌, ◌/◌, ◌<◌, ◌≤◌, inl, inr, refl, ap, sym, ◌∙◌, subst, arith, List, [], ◌∷◌, ◌++◌, length, map, Bool, true, false, suc, zero}
use Rattle.std.specs.Prelude.{◌⊎◌, ◌==◌, Option, None, Some, slice_index_or, slice_set, not, if◌then◌else◌}
use Rattle.std.specs.Option.{is_some}
use Rattle.std.proofs.lemmas.Bool.{cases_eq, eq-eqb, eqb-true, ne_eqb, false≢true, false_from_ne_true}
use Rattle.sparse_regs.specs.declared.prefix.Prefix.{Prefix}
use Rattle.sparse_regs.specs.declared.node.Register.{Register}
use Rattle.sparse_regs.specs.declared.node.Node.{Node}
use Rattle.sparse_regs.specs.declared.node.Content.{Content}
use Rattle.sparse_regs.specs.declared.node.Content.TheVariants.{Index, Leaf}
use Rattle.sparse_regs.specs.Prefixes.{whole}
use Rattle.sparse_regs.specs.Registers.{Numbered, register_among, initial_register, updated, taken_count}
use Rattle.sparse_regs.specs.Linked.{IsLinked}
use Rattle.sparse_regs.specs.Places.{node_at, prefix_in, leaf_in, prefix_from, parent_from, child_from, leaf_from, with_leaf, content_with_leaf, IsFormed, IsFormedContent, kept_in, kept_in_content, kept_from}
use Rattle.sparse_regs.proofs.PrefixLemmas.{prefix_ext}
use Rattle.sparse_regs.proofs.Placing.{at-same, at-other}

-- ---- lists of places

pub kept-same : {T : Type 0} (places : List (Option (Node T))) (i : ℕ) (x : Option (Node T)) → kept_in x ≡ kept_in (node_at places i)
    → kept_from (slice_set places i x) ≡ kept_from places
kept-same [] i x e = refl
kept-same (p ∷ ps) zero x e = ap (λ ks. ks ++ kept_from ps) e
kept-same (p ∷ ps) (suc i) x e = ap (λ ks. kept_in p ++ ks) (kept-same ps i x e)

pub count-same : {T : Type 0} (places : List (Option (Node T))) (i : ℕ) (x : Option (Node T)) → is_some x ≡ is_some (node_at places i)
    → taken_count (slice_set places i x) ≡ taken_count places
count-same [] i x e = refl
count-same (None ∷ ps) zero None e = refl
count-same (None ∷ ps) zero (Some n) e = cc
count-same (Some p ∷ ps) zero None e = cc
count-same (Some p ∷ ps) zero (Some n) e = refl
count-same (None ∷ ps) (suc i) x e = count-same ps i x e
count-same (Some p ∷ ps) (suc i) x e = ap (λ n. n + 1) (count-same ps i x e)

pub count-taken : {T : Type 0} (places : List (Option (Node T))) (i : ℕ) (node : Node T) → i < length places → node_at places i ≡ None
    → taken_count (slice_set places i (Some node)) ≡ taken_count places + 1
count-taken [] i node h e = absurd (omega arith)
count-taken (None ∷ ps) zero node h e = refl
count-taken (Some p ∷ ps) zero node h e = cc
count-taken (None ∷ ps) (suc i) node h e = count-taken ps i node (omega arith) e
count-taken (Some p ∷ ps) (suc i) node h e = ap (λ n. n + 1) (count-taken ps i node (omega arith) e)

pub count-left : {T : Type 0} (places : List (Option (Node T))) (i : ℕ) (node : Node T) → node_at places i ≡ Some node
    → taken_count (slice_set places i None) + 1 ≡ taken_count places
count-left [] i node e = cc
count-left (None ∷ ps) zero node e = cc
count-left (Some p ∷ ps) zero node e = refl
count-left (None ∷ ps) (suc i) node e = count-left ps i node e
count-left (Some p ∷ ps) (suc i) node e = ap (λ n. n + 1) (count-left ps i node e)

pub count-le : {A : Type 0} (xs : List (Option A)) → taken_count xs ≤ length xs
count-le [] = omega arith
count-le (None ∷ xs) = omega (arith, count-le xs)
count-le (Some x ∷ xs) = omega (arith, count-le xs)

-- ---- leaves

abbrev pub is_leaf_content : {T : Type 0} → ℕ → ℕ → Content T → Bool
is_leaf_content n number (Index children) = false
is_leaf_content n number (Leaf register) = number == n

-- whether the leaf of a register stands at a place
abbrev pub is_leaf_of : {T : Type 0} → ℕ → Option (Node T) → Bool
is_leaf_of n None = false
is_leaf_of n (Some node) = is_leaf_content n node.prefix.number node.content

content-skip : {T : Type 0} (start : T) (n number : ℕ) (content : Content T) (rest : List (Numbered T)) → is_leaf_content n number content ≡ false
    → register_among start (kept_in_content number content ++ rest) n ≡ register_among start rest n
content-skip start n number (Index children) rest h = refl
content-skip start n number (Leaf register) rest h = ap (λ b. if b then register else register_among start rest n) h

among-skip : {T : Type 0} (start : T) (n : ℕ) (x : Option (Node T)) (rest : List (Numbered T)) → is_leaf_of n x ≡ false
    → register_among start (kept_in x ++ rest) n ≡ register_among start rest n
among-skip start n None rest h = refl
among-skip start n (Some node) rest h = content-skip start n node.prefix.number node.content rest h

content-last : {T : Type 0} (start : T) (n number : ℕ) (content : Content T) (rest : List (Numbered T)) → register_among start rest n ≡ initial_register start
    → register_among start (kept_in_content number content ++ rest) n ≡ register_among start (kept_in_content number content) n
content-last start n number (Index children) rest h = h
content-last start n number (Leaf register) rest h = ap (λ r. if number == n then register else r) h

among-last : {T : Type 0} (start : T) (n : ℕ) (x : Option (Node T)) (rest : List (Numbered T)) → register_among start rest n ≡ initial_register start
    → register_among start (kept_in x ++ rest) n ≡ register_among start (kept_in x) n
among-last start n None rest h = h
among-last start n (Some node) rest h = content-last start n node.prefix.number node.content rest h

content-tail : {T : Type 0} (start : T) (n number : ℕ) (content : Content T) (rest other : List (Numbered T)) → register_among start rest n ≡ register_among start other n
    → register_among start (kept_in_content number content ++ rest) n ≡ register_among start (kept_in_content number content ++ other) n
content-tail start n number (Index children) rest other h = h
content-tail start n number (Leaf register) rest other h = ap (λ r. if number == n then register else r) h

among-tail : {T : Type 0} (start : T) (n : ℕ) (x : Option (Node T)) (rest other : List (Numbered T)) → register_among start rest n ≡ register_among start other n
    → register_among start (kept_in x ++ rest) n ≡ register_among start (kept_in x ++ other) n
among-tail start n None rest other h = h
among-tail start n (Some node) rest other h = content-tail start n node.prefix.number node.content rest other h

-- a register without a leaf has its value of the start
pub among-none : {T : Type 0} (start : T) (n : ℕ) (places : List (Option (Node T))) → ((k : ℕ) → is_leaf_of n (node_at places k) ≡ false)
    → register_among start (kept_from places) n ≡ initial_register start
among-none start n [] h = refl
among-none start n (p ∷ ps) h = among-skip start n p (kept_from ps) (h 0) ∙ among-none start n ps (λ k. h (suc k))

-- where no other place has a leaf of a register, the one place has what is known of it
among-only : {T : Type 0} (start : T) (n : ℕ) (places : List (Option (Node T))) (i : ℕ) → ((k : ℕ) → k ≢ i → is_leaf_of n (node_at places k) ≡ false)
    → register_among start (kept_from places) n ≡ register_among start (kept_in (node_at places i)) n
among-only start n [] i h = refl
among-only start n (p ∷ ps) zero h = among-last start n p (kept_from ps) (among-none start n ps (λ k. h (suc k) (omega arith)))
among-only start n (p ∷ ps) (suc i) h = among-skip start n p (kept_from ps) (h 0 (omega arith)) ∙ among-only start n ps i (λ k (ne : k ≢ i). h (suc k) (λ e. ne (omega arith)))

-- a place that changes leaves the registers as they are that have their leaves elsewhere
among-other : {T : Type 0} (start : T) (m : ℕ) (places : List (Option (Node T))) (i : ℕ) (x : Option (Node T)) → is_leaf_of m x ≡ false → is_leaf_of m (node_at places i) ≡ false
    → register_among start (kept_from (slice_set places i x)) m ≡ register_among start (kept_from places) m
among-other start m [] i x new old = refl
among-other start m (p ∷ ps) zero x new old = among-skip start m x (kept_from ps) new ∙ sym (among-skip start m p (kept_from ps) old)
among-other start m (p ∷ ps) (suc i) x new old = among-tail start m p (kept_from (slice_set ps i x)) (kept_from ps) (among-other start m ps i x new old)

-- ---- leaves of linked nodes

content-prefix : {T : Type 0} (n digits number : ℕ) (content : Content T) → IsFormedContent digits content → is_leaf_content n number content ≡ true → (digits ≡ 4) × (number ≡ n)
content-prefix n digits number (Index children) h e = cc
content-prefix n digits number (Leaf register) h e = (h, eqb-true number n e)

-- a leaf has all digits of its register
pub leaf-prefix : {T : Type 0} (n : ℕ) (x : Option (Node T)) → IsFormed x → is_leaf_of n x ≡ true → prefix_in x ≡ Some (whole n)
leaf-prefix n None h e = cc
leaf-prefix n (Some node) h e =
    let parts = content-prefix n node.prefix.digits node.prefix.number node.content h e in
    ap Some (prefix_ext node.prefix (whole n) parts.0 parts.1)

-- a node with all digits is a leaf
content-leaf : {T : Type 0} (n digits number : ℕ) (content : Content T) → IsFormedContent digits content → digits ≡ 4 → number ≡ n
    → (r : Register T) × (kept_in_content number content ≡ record { number = n; register = r } ∷ []) × (content ≡ Leaf r)
content-leaf n digits number (Index children) h d e = absurd (omega (arith, h.0))
content-leaf n digits number (Leaf r) h d e = (r, ap (λ m. let x : Numbered _ = record { number = m; register = r } in x ∷ []) e, refl)

pub prefix-leaf : {T : Type 0} (n : ℕ) (x : Option (Node T)) → IsFormed x → prefix_in x ≡ Some (whole n)
    → (r : Register T) × (kept_in x ≡ record { number = n; register = r } ∷ []) × (leaf_in x ≡ Some r)
prefix-leaf n None h e = cc
prefix-leaf n (Some node) h e =
    let same : node.prefix ≡ whole n = cc in
    let leaf = content-leaf n node.prefix.digits node.prefix.number node.content h (ap (λ (q : Prefix). q.digits) same) (ap (λ (q : Prefix). q.number) same) in
    (leaf.0, leaf.1, ap (λ c. leaf_in (Some (record node { content = c }))) leaf.2)

-- no other place has the leaf of a register
pub leaf-alone : {T : Type 0} (n : ℕ) (places : List (Option (Node T))) (i : ℕ)
    → ((k j : ℕ) (p : Prefix) → prefix_from places k ≡ Some p → prefix_from places j ≡ Some p → k ≡ j)
    → ((k : ℕ) → IsFormed (node_at places k)) → prefix_from places i ≡ Some (whole n) → (k : ℕ) → k ≢ i → is_leaf_of n (node_at places k) ≡ false
leaf-alone n places i one formed here k ne =
    false_from_ne_true _ (λ e. ne (one k i (whole n) (leaf-prefix n (node_at places k) (formed k) e) here))

-- without a node of all its digits there is no leaf of a register
pub leaf-absent : {T : Type 0} (n : ℕ) (places : List (Option (Node T)))
    → ((k : ℕ) → IsFormed (node_at places k)) → ((k : ℕ) → prefix_from places k ≡ Some (whole n) → ⊥) → (k : ℕ) → is_leaf_of n (node_at places k) ≡ false
leaf-absent n places formed absent k =
    false_from_ne_true _ (λ e. absent k (leaf-prefix n (node_at places k) (formed k) e))

among-one : {T : Type 0} (start : T) (n : ℕ) (x : Option (Node T)) (r : Register T) → kept_in x ≡ record { number = n; register = r } ∷ [] → register_among start (kept_in x) n ≡ r
among-one start n x r e =
    ap (λ ks. register_among start ks n) e ∙ ap (λ b. if b then r else initial_register start) (eq-eqb n n refl)

-- what is known of a register is what its leaf has
pub leaf-register : {T : Type 0} (start : T) (n : ℕ) (places : List (Option (Node T))) (i : ℕ) (r : Register T)
    → ((k : ℕ) → k ≢ i → is_leaf_of n (node_at places k) ≡ false) → kept_in (node_at places i) ≡ record { number = n; register = r } ∷ []
    → register_among start (kept_from places) n ≡ r
leaf-register start n places i r alone here = among-only start n places i alone ∙ among-one start n (node_at places i) r here

abbrev first_number : {T : Type 0} → List (Numbered T) → ℕ
first_number [] = 0
first_number (k ∷ ks) = k.number

content-not_leaf : {T : Type 0} (n m : ℕ) (r : Register T) (number : ℕ) (content : Content T) → kept_in_content number content ≡ record { number = n; register = r } ∷ [] → m ≢ n
    → is_leaf_content m number content ≡ false
content-not_leaf n m r number (Index children) h ne = refl
content-not_leaf n m r number (Leaf register) h ne =
    let same : number ≡ n = ap first_number h in
    ne_eqb number m (λ e. ne (sym e ∙ same))

not_leaf : {T : Type 0} (n m : ℕ) (x : Option (Node T)) (r : Register T) → kept_in x ≡ record { number = n; register = r } ∷ [] → m ≢ n → is_leaf_of m x ≡ false
not_leaf n m None r e ne = refl
not_leaf n m (Some node) r e ne = content-not_leaf n m r node.prefix.number node.content e ne

-- a leaf whose register changes
pub leaf-changed : {T : Type 0} (start : T) (n : ℕ) (places : List (Option (Node T))) (i : ℕ) (x : Option (Node T)) (old new : Register T) → i < length places
    → ((k : ℕ) → k ≢ i → is_leaf_of n (node_at places k) ≡ false)
    → kept_in (node_at places i) ≡ record { number = n; register = old } ∷ [] → kept_in x ≡ record { number = n; register = new } ∷ []
    → (m : ℕ) → register_among start (kept_from (slice_set places i x)) m ≡ updated n new (register_among start (kept_from places)) m
leaf-changed start n places i x old new within alone before after m = elim (cases_eq m n) [
  | inl e ↦
      ap (register_among start (kept_from (slice_set places i x))) e
      ∙ leaf-register start n (slice_set places i x) i new (λ k ne. ap (is_leaf_of n) (at-other places i k x ne) ∙ alone k ne) (ap kept_in (at-same places i x within) ∙ after)
      ∙ ap (λ b. if b then new else register_among start (kept_from places) m) (sym (eq-eqb m n e))
  | inr ne ↦
      among-other start m places i x (not_leaf n m x new after ne) (not_leaf n m (node_at places i) old before ne)
      ∙ ap (λ b. if b then new else register_among start (kept_from places) m) (sym (ne_eqb m n ne))
]

-- a leaf with its value of the start and no holder is made, or goes
pub leaf-made : {T : Type 0} (start : T) (n : ℕ) (places : List (Option (Node T))) (i : ℕ) (x : Option (Node T)) → i < length places
    → ((k : ℕ) → is_leaf_of n (node_at places k) ≡ false) → node_at places i ≡ None → kept_in x ≡ record { number = n; register = initial_register start } ∷ []
    → (m : ℕ) → register_among start (kept_from (slice_set places i x)) m ≡ register_among start (kept_from places) m
leaf-made start n places i x within absent free after m = elim (cases_eq m n) [
  | inl e ↦
      ap (register_among start (kept_from (slice_set places i x))) e
      ∙ leaf-register start n (slice_set places i x) i (initial_register start) (λ k ne. ap (is_leaf_of n) (at-other places i k x ne) ∙ absent k) (ap kept_in (at-same places i x within) ∙ after)
      ∙ sym (among-none start n places absent) ∙ ap (register_among start (kept_from places)) (sym e)
  | inr ne ↦ among-other start m places i x (not_leaf n m x (initial_register start) after ne) (ap (is_leaf_of m) free)
]

pub leaf-gone : {T : Type 0} (start : T) (n : ℕ) (places : List (Option (Node T))) (i : ℕ) → i < length places
    → ((k : ℕ) → k ≢ i → is_leaf_of n (node_at places k) ≡ false) → kept_in (node_at places i) ≡ record { number = n; register = initial_register start } ∷ []
    → (m : ℕ) → register_among start (kept_from (slice_set places i None)) m ≡ register_among start (kept_from places) m
leaf-gone start n places i within alone before m = elim (cases_eq m n) [
  | inl e ↦
      ap (register_among start (kept_from (slice_set places i None))) e
      ∙ among-none start n (slice_set places i None) none
      ∙ sym (leaf-register start n places i (initial_register start) alone before) ∙ ap (register_among start (kept_from places)) (sym e)
  | inr ne ↦ among-other start m places i None refl (not_leaf n m (node_at places i) (initial_register start) before ne)
]
  where
    none : (k : ℕ) → is_leaf_of n (node_at (slice_set places i None) k) ≡ false
    none k = elim (cases_eq k i) [
      | inl e ↦ ap (λ j. is_leaf_of n (node_at (slice_set places i None) j)) e ∙ ap (is_leaf_of n) (at-same places i None within)
      | inr ne ↦ ap (is_leaf_of n) (at-other places i k None ne) ∙ alone k ne
    ]
