-- A map of byte vectors answers as the files that it keeps, before and after each change.
use Rattle.std.proofs.Common.{◌≡◌, ℕ, Bool, true, false, cond, is_some, List, [], ◌∷◌, ◌++◌, map, unwrap_or, Option, None, Some, refl, sym, ap, ◌∙◌, subst}
use Rattle.std.specs.Prelude.{Vec, option_map, slice_get, ◌&&◌, IsTrue, T}
use Rattle.std.proofs.Common.{Ordering, Less, Equal, Greater}
use Rattle.std.specs.Ordering.{nat_cmp, is_eq, is_lt, eq_by_cmp, match_ordering}
use Rattle.std.specs.Cmp.Lexicographic.{slice_cmp, nat_list_cmp_total}
use Rattle.std.specs.FinMap as tree
use Rattle.std.specs.FinMap.{IsAntisymmetric, nat_cmp-IsAntisymmetric, slice_cmp-IsAntisymmetric, same_map, get-from_entries, get-insert, from_entries, from_sorted, get-from_sorted, entries-from_sorted}
use Rattle.std.specs.FinMap.Entries.{find, put, find-put, is_sorted, by_order, below_all}
use Rattle.std.specs.BTreeMap.{insert_entry, is_at}
use Rattle.std.specs.Map.{lookup, set_value, keys_of}
use Rattle.std.specs.List.{AllByRecursion}
use Rattle.std.proofs.lemmas.Option.{slice_get-map}
use Rattle.std.specs.List.Sorted.{IsStrictlySortedBy}
use Rattle.world.specs.Told.{Files}
use Rattle.world.specs.Memory.{bytes_of, files_of}

-- the order of names
abbrev pub order : List ℕ → List ℕ → Ordering
order = slice_cmp nat_cmp

order_exact : IsAntisymmetric order
order_exact = slice_cmp-IsAntisymmetric nat_cmp-IsAntisymmetric

-- files that answer alike are equal
pub same_files : (m n : Files) → ((q : List ℕ) → tree.get m q ≡ tree.get n q) → m ≡ n
same_files m n h = same_map nat_list_cmp_total order_exact m n h

-- a test that is made twice
shadowed : {A : Type 0} (b : Bool) (x y z : A) → cond b x z ≡ cond b x (cond b y z)
shadowed true x y z = refl
shadowed false x y z = refl

-- two tests that don't both hold
swapped : {A : Type 0} (a b : Bool) (x y z : A) → (T a → T b → ⊥) → cond a x (cond b y z) ≡ cond b y (cond a x z)
swapped true true x y z apart = absurd (apart tt tt)
swapped true false x y z apart = refl
swapped false b x y z apart = refl

tied : (o : Ordering) → T (is_eq o) → o ≡ Equal
tied Less h = absurd h
tied Equal h = refl
tied Greater h = absurd h

-- names that tie are equal
equal_names : (x y : List ℕ) → T (eq_by_cmp order x y) → x ≡ y
equal_names x y h = order_exact x y (tied (order x y) h)

-- a file put again as it stands
pub insert_same : (m : Files) (name bytes : List ℕ) → tree.get m name ≡ Some bytes → tree.insert m name bytes ≡ m
insert_same m name bytes e =
    same_files _ _ (λ q. get-insert nat_list_cmp_total m name bytes q
    ∙ elim (eq_by_cmp order q name) as (λ b. eq_by_cmp order q name ≡ b → cond b (Some bytes) (tree.get m q) ≡ tree.get m q) [
      | true ↦ λ t. sym (subst (λ (n : List ℕ). tree.get m n ≡ Some bytes) (sym (equal_names q name (subst T (sym t) tt))) e)
      | false ↦ λ _. refl
    ] refl)

both : (a b : Bool) → T a → T b → T (a && b)
both true b p q = q
both false b p q = p

-- the first value at a key is the one value where the keys rise
from_sorted_entries : (es : List (List ℕ × List ℕ)) → T (is_sorted order es) → from_entries {R = order} es ≡ from_sorted {R = order} es
from_sorted_entries es h = same_files _ _ (λ q. get-from_entries nat_list_cmp_total es q ∙ sym (get-from_sorted order es q h))

-- the entries of a map
abbrev pub Entries : Type 0 → Type 0
Entries Z = List (Vec ℕ Z × Vec ℕ Z)

module _ {Z : Type 0} where
  -- the order of the map's keys
  abbrev pub key_order : Vec ℕ Z → Vec ℕ Z → Ordering
  key_order x y = order x.items y.items

  -- whether a key has the name
  abbrev pub has_name : List ℕ → Vec ℕ Z → Bool
  has_name name = is_at (λ k. order name k.items)

  find-bytes_of : (name : List ℕ) (es : Entries Z) → find order name (bytes_of es) ≡ option_map (λ v. v.items) (lookup (has_name name) es)
  find-bytes_of name [] = refl
  find-bytes_of name (e ∷ es) =
      elim (is_eq (order name e.0.items)) as (λ b. cond b (Some e.1.items) (find order name (bytes_of es)) ≡ option_map (λ v. v.items) (cond b (Some e.1) (lookup (has_name name) es))) [
        | true ↦ refl
        | false ↦ find-bytes_of name es
      ]

  -- a look-up in the map is one in the files
  pub get-files_of : (name : List ℕ) (es : Entries Z) → tree.get (files_of es) name ≡ option_map (λ v. v.items) (lookup (has_name name) es)
  unfolding files_of
  get-files_of name es = get-from_entries nat_list_cmp_total (bytes_of es) name ∙ find-bytes_of name es

  bytes_of-insert_entry : (es : Entries Z) (k v : Vec ℕ Z) → bytes_of (insert_entry key_order es k v) ≡ put order k.items v.items (bytes_of es)
  bytes_of-insert_entry [] k v = refl
  bytes_of-insert_entry (e ∷ es) k v =
      elim (order k.items e.0.items) as (λ o. bytes_of (match_ordering o ((k, v) ∷ e ∷ es) ((e.0, v) ∷ es) (e ∷ insert_entry key_order es k v))
      ≡ by_order o ((k.items, v.items) ∷ bytes_of (e ∷ es)) ((e.0.items, v.items) ∷ bytes_of es) ((e.0.items, e.1.items) ∷ put order k.items v.items (bytes_of es))) [
        | Less ↦ refl
        | Equal ↦ refl
        | Greater ↦ ap (λ (rest : List (List ℕ × List ℕ)). (e.0.items, e.1.items) ∷ rest) (bytes_of-insert_entry es k v)
      ]

  -- an insert into the map is one into the files
  pub files_of-insert_entry : (es : Entries Z) (k v : Vec ℕ Z) → files_of (insert_entry key_order es k v) ≡ tree.insert (files_of es) k.items v.items
  unfolding files_of
  files_of-insert_entry es k v =
      same_files _ _ (λ q.
      get-from_entries nat_list_cmp_total (bytes_of (insert_entry key_order es k v)) q
      ∙ ap (find order q) (bytes_of-insert_entry es k v)
      ∙ find-put order nat_list_cmp_total q k.items v.items (bytes_of es)
      ∙ sym (get-insert nat_list_cmp_total (from_entries (bytes_of es)) k.items v.items q
      ∙ ap (cond (eq_by_cmp order q k.items) (Some v.items)) (get-from_entries nat_list_cmp_total (bytes_of es) q)))

  -- the entries with w at the name are those of the files with w at the name
  find-set_value : (name q : List ℕ) (w : Vec ℕ Z) (es : Entries Z) → IsTrue (is_some (lookup (has_name name) es))
      → find order q (bytes_of (set_value (has_name name) es w)) ≡ cond (eq_by_cmp order q name) (Some w.items) (find order q (bytes_of es))
  find-set_value name q w [] h = cc
  find-set_value name q w (e ∷ es) h =
      elim (is_eq (order name e.0.items)) as (λ b. is_eq (order name e.0.items) ≡ b → IsTrue (is_some (cond b (Some e.1) (lookup (has_name name) es)))
      → find order q (bytes_of (cond b ((e.0, w) ∷ es) (e ∷ set_value (has_name name) es w))) ≡ cond (eq_by_cmp order q name) (Some w.items) (cond (eq_by_cmp order q e.0.items) (Some e.1.items) (find order q (bytes_of es)))) [
        | true ↦ λ t _.
            let same : name ≡ e.0.items = equal_names name e.0.items (subst T (sym t) tt) in
            subst (λ (n : List ℕ). cond (eq_by_cmp order q n) (Some w.items) (find order q (bytes_of es)) ≡ cond (eq_by_cmp order q name) (Some w.items) (cond (eq_by_cmp order q n) (Some e.1.items) (find order q (bytes_of es)))) same
            (shadowed (eq_by_cmp order q name) (Some w.items) (Some e.1.items) (find order q (bytes_of es)))
        | false ↦ λ t there.
            ap (cond (eq_by_cmp order q e.0.items) (Some e.1.items)) (find-set_value name q w es there)
            ∙ swapped (eq_by_cmp order q e.0.items) (eq_by_cmp order q name) (Some e.1.items) (Some w.items) (find order q (bytes_of es))
            (λ a b. subst T t (subst (λ (n : List ℕ). T (is_eq (order n e.0.items))) (equal_names q name b) a))
      ] refl h

  -- a value written through is one put into the files
  pub files_of-set_value : (name : List ℕ) (w : Vec ℕ Z) (es : Entries Z) → IsTrue (is_some (lookup (has_name name) es))
      → files_of (set_value (has_name name) es w) ≡ tree.insert (files_of es) name w.items
  unfolding files_of
  files_of-set_value name w es h =
      same_files _ _ (λ q.
      get-from_entries nat_list_cmp_total (bytes_of (set_value (has_name name) es w)) q
      ∙ find-set_value name q w es h
      ∙ sym (get-insert nat_list_cmp_total (from_entries (bytes_of es)) name w.items q
      ∙ ap (cond (eq_by_cmp order q name) (Some w.items)) (get-from_entries nat_list_cmp_total (bytes_of es) q)))

  -- what a name stands for, where the map has its key
  pub get-kept : (name : List ℕ) (es : Entries Z) (kept : Vec ℕ Z) → Some kept ≡ lookup (has_name name) es → tree.get (files_of es) name ≡ Some kept.items
  get-kept name es kept e = get-files_of name es ∙ ap (option_map (λ (v : Vec ℕ Z). v.items)) (sym e)

  -- entries with another value at a name
  pub files_of-written : (name : List ℕ) (es fs : Entries Z) (kept w : Vec ℕ Z) → Some kept ≡ lookup (has_name name) es → fs ≡ set_value (has_name name) es w
      → files_of fs ≡ tree.insert (files_of es) name w.items
  files_of-written name es fs kept w e f =
      let there : IsTrue (is_some (lookup (has_name name) es)) = ap is_some (sym e) in
      ap files_of f ∙ files_of-set_value name w es there

  -- the value at a name with bytes behind it
  pub files_of-longer : (name bytes : List ℕ) (es fs : Entries Z) (kept w : Vec ℕ Z) → Some kept ≡ lookup (has_name name) es → fs ≡ set_value (has_name name) es w → w.items ≡ kept.items ++ bytes
      → files_of fs ≡ tree.insert (files_of es) name (unwrap_or (tree.get (files_of es) name) [] ++ bytes)
  files_of-longer name bytes es fs kept w e f g =
      files_of-written name es fs kept w e f
      ∙ ap (tree.insert (files_of es) name) (g ∙ ap (λ (found : Option (List ℕ)). unwrap_or found [] ++ bytes) (sym (get-kept name es kept e)))

  -- the value at a name put back as it was
  pub files_of-same : (name : List ℕ) (es fs : Entries Z) (kept w : Vec ℕ Z) → Some kept ≡ lookup (has_name name) es → fs ≡ set_value (has_name name) es w → w.items ≡ kept.items
      → files_of fs ≡ files_of es
  files_of-same name es fs kept w e f g =
      files_of-written name es fs kept w e f
      ∙ insert_same (files_of es) name w.items (get-kept name es kept e ∙ ap Some (sym g))

  -- a file put where its name was absent
  pub files_of-fresh : (name bytes : List ℕ) (es fs : Entries Z) (new : Files) → fs ≡ es → None ≡ lookup (has_name name) es → new ≡ tree.insert (files_of fs) name bytes
      → new ≡ tree.insert (files_of es) name (unwrap_or (tree.get (files_of es) name) [] ++ bytes)
  files_of-fresh name bytes es fs new same none e =
      e ∙ ap (λ (entries : Entries Z). tree.insert (files_of entries) name bytes) same
      ∙ ap (λ (found : Option (List ℕ)). tree.insert (files_of es) name (unwrap_or found [] ++ bytes))
      (sym (get-files_of name es ∙ ap (option_map (λ (v : Vec ℕ Z). v.items)) (sym none)))

  names_of_keys : (es : Entries Z) → map (λ (e : List ℕ × List ℕ). e.0) (bytes_of es) ≡ map (λ (k : Vec ℕ Z). k.items) (keys_of es)
  names_of_keys [] = refl
  names_of_keys (e ∷ es) = ap (λ (rest : List (List ℕ)). e.0.items ∷ rest) (names_of_keys es)

  below : (k : Vec ℕ Z) (es : Entries Z) → AllByRecursion (λ y. key_order k y ≡ Less) (keys_of es) → T (below_all order k.items (bytes_of es))
  below k [] h = tt
  below k (e ∷ es) h = both _ _ (subst (λ o. T (is_lt o)) (sym h.0) tt) (below k es h.1)

  sorted : (es : Entries Z) → IsStrictlySortedBy key_order (keys_of es) → T (is_sorted order (bytes_of es))
  unfolding IsStrictlySortedBy
  sorted [] h = tt
  sorted (e ∷ es) h = both _ _ (below e.0 es h.0) (sorted es h.1)

  -- the names of the files are the keys of the map
  pub keys-files_of : (es : Entries Z) → IsStrictlySortedBy key_order (keys_of es) → tree.keys (files_of es) ≡ map (λ (k : Vec ℕ Z). k.items) (keys_of es)
  unfolding files_of
  keys-files_of es h =
      ap tree.keys (from_sorted_entries (bytes_of es) (sorted es h))
      ∙ ap (map (λ (e : List ℕ × List ℕ). e.0)) (entries-from_sorted order (bytes_of es) (sorted es h))
      ∙ names_of_keys es

  -- the name at a place
  pub name_at : (es : Entries Z) (n : ℕ) (found : Option (Vec ℕ Z)) → IsStrictlySortedBy key_order (keys_of es) → found ≡ slice_get (keys_of es) n
      → option_map (λ (k : Vec ℕ Z). k.items) found ≡ slice_get (tree.keys (files_of es)) n
  name_at es n found h e =
      ap (option_map (λ (k : Vec ℕ Z). k.items)) e
      ∙ sym (slice_get-map (λ (k : Vec ℕ Z). k.items) (keys_of es) n)
      ∙ ap (λ (names : List (List ℕ)). slice_get names n) (sym (keys-files_of es h))
