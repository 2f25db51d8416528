-- The hash table of names: which bucket a name falls into, and what its chains hold. The chain of a bucket
-- begins at the newest of its names and leads from each name to the next older one. A place in a chain
-- is one more than the id of a name, or 0 at its end.
use Rattle.std.specs.Prelude.{◌≡◌, ◌≢◌, ℕ, ◌+◌, ◌*◌, ◌-◌, ◌%◌, ◌^◌, ◌<◌, ◌≤◌, ◌==◌, Bool, true, false, List, length, fold, map, slice_index, slice_set, refl}
use Rattle.std.proofs.Common.{arith, sym, ◌∙◌, ap, subst, below_more}
use Rattle.std.proofs.lemmas.List.{get_or-set_same, get_or-set_other}
use Rattle.std.proofs.lemmas.Bool.{eqb-true, eqb-false}
use Rattle.tokens.specs.declared.buckets.Entry.{Entry}
use Rattle.tokens.specs.Names.{name_at, AreDistinct}

-- the names of some entries
abbrev pub names_of : List Entry → List (List ℕ)
names_of entries = map (λ e. e.name.items) entries

-- their links
abbrev pub links_of : List Entry → List ℕ
links_of entries = map (λ e. e.link) entries

-- the hash of a name: a number of 32 bits in base 31
unfoldable pub name_hash : List ℕ → ℕ
name_hash name = fold (λ hash byte. (hash * 31 % 2 ^ 32 + byte) % 2 ^ 32) 0 name

-- the bucket of a name
unfoldable pub bucket_of : ℕ → List ℕ → ℕ
bucket_of buckets name = name_hash name % buckets

-- `place` is that of the newest of the first `count` names in the bucket, or 0 where none is there
pub record IsNewest (buckets : ℕ) (names : List (List ℕ)) (count bucket place : ℕ) : Type 0 where
  pub within : place ≤ count
  pub here : 0 < place → bucket_of buckets (name_at names (place - 1)) ≡ bucket
  pub last : (k : ℕ) → place ≤ k → k < count → bucket_of buckets (name_at names k) ≢ bucket

-- the chains of the first `count` names
pub record AreChains (buckets count : ℕ) (names : List (List ℕ)) (links heads : List ℕ) : Type 0 where
  pub linked : (k : ℕ) → k < count → IsNewest buckets names k (bucket_of buckets (name_at names k)) (slice_index links k)
  pub headed : (bucket : ℕ) → bucket < buckets → IsNewest buckets names count bucket (slice_index heads bucket)

-- the chains of all names, in as many buckets as there are heads
pub record IsTable (names : List (List ℕ)) (links heads : List ℕ) : Type 0 where
  pub chains : AreChains (length heads) (length names) names links heads

-- what the hash table keeps: no name twice, chains of all names, at least as many buckets as names
pub record IsNameTable (entries : List Entry) (heads : List ℕ) : Type 0 where
  pub distinct : AreDistinct (names_of entries)
  pub table : IsTable (names_of entries) (links_of entries) heads
  pub room : length entries ≤ length heads

-- the place is the same where the names are
newest_along : (buckets : ℕ) (names others : List (List ℕ)) (count bucket place : ℕ)
    → ((k : ℕ) → k < count → name_at others k ≡ name_at names k)
    → IsNewest buckets names count bucket place → IsNewest buckets others count bucket place
newest_along buckets names others count bucket place same h = record {
  within = h.within;
  here = λ some. ap (bucket_of buckets) (same (place - 1) (omega (arith, h.within))) ∙ h.here some;
  last = λ k from below e. h.last k from below (ap (bucket_of buckets) (sym (same k below)) ∙ e);
}

-- one more name, which falls into another bucket
newest_past : (buckets : ℕ) (names : List (List ℕ)) (count bucket place : ℕ)
    → bucket_of buckets (name_at names count) ≢ bucket
    → IsNewest buckets names count bucket place → IsNewest buckets names (count + 1) bucket place
newest_past buckets names count bucket place apart h = record {
  within = omega (arith, h.within);
  here = h.here;
  last = λ k from below.
      below_more (λ j. place ≤ j → bucket_of buckets (name_at names j) ≢ bucket) count
      (λ j under above. h.last j above under) (λ above. apart) k below from;
}

-- the name that came last is the newest of its bucket
newest_itself : (buckets : ℕ) (names : List (List ℕ)) (count bucket : ℕ)
    → bucket_of buckets (name_at names count) ≡ bucket
    → IsNewest buckets names (count + 1) bucket (count + 1)
newest_itself buckets names count bucket there = record {
  within = omega arith;
  here = λ some. let same : count + 1 - 1 ≡ count = omega arith in ap (λ k. bucket_of buckets (name_at names k)) same ∙ there;
  last = λ k from below e. absurd (omega arith);
}

-- the head of each bucket, once a name was put in front of the chain of its bucket
headed_by : (buckets count : ℕ) (names others : List (List ℕ)) (heads : List ℕ) (bucket : ℕ)
    → ((k : ℕ) → k < count → name_at others k ≡ name_at names k)
    → bucket_of buckets (name_at others count) ≡ bucket → length heads ≡ buckets
    → (c : ℕ) → c < buckets → IsNewest buckets names count c (slice_index heads c)
    → (b : Bool) → (c == bucket) ≡ b
    → IsNewest buckets others (count + 1) c (slice_index (slice_set heads bucket (count + 1)) c)
headed_by buckets count names others heads bucket same_names there size c under h true e =
    let is : c ≡ bucket = eqb-true c bucket e in
    let inside : c < length heads = omega arith in
    let Q : ℕ → Type 0 = λ v. IsNewest buckets others (count + 1) c v in
    subst Q (sym (ap (λ j. slice_index (slice_set heads j (count + 1)) c) (sym is) ∙ get_or-set_same heads c (count + 1) 0 inside))
    (newest_itself buckets others count c (there ∙ sym is))
headed_by buckets count names others heads bucket same_names there size c under h false e =
    let apart : c ≡ bucket → ⊥ = eqb-false c bucket e in
    let Q : ℕ → Type 0 = λ v. IsNewest buckets others (count + 1) c v in
    subst Q (sym (get_or-set_other heads bucket c (count + 1) 0 apart))
    (newest_past buckets others count c _ (λ same. apart (sym same ∙ there))
    (newest_along buckets names others count c _ same_names h))

-- one more name is put in front of the chain of its bucket
pub chained : (buckets count : ℕ) (names others : List (List ℕ)) (links more heads : List ℕ) (bucket : ℕ)
    → ((k : ℕ) → k < count → name_at others k ≡ name_at names k)
    → ((k : ℕ) → k < count → slice_index more k ≡ slice_index links k)
    → bucket_of buckets (name_at others count) ≡ bucket → bucket < buckets → length heads ≡ buckets
    → slice_index more count ≡ slice_index heads bucket
    → AreChains buckets count names links heads
    → AreChains buckets (count + 1) others more (slice_set heads bucket (count + 1))
chained buckets count names others links more heads bucket same_names same_links there below size link h = record {
  linked = below_more
      (λ k. IsNewest buckets others k (bucket_of buckets (name_at others k)) (slice_index more k)) count
      (λ k under.
      let P : ℕ → Type 0 = λ b. IsNewest buckets others k b (slice_index more k) in
      let Q : ℕ → Type 0 = λ v. IsNewest buckets others k (bucket_of buckets (name_at names k)) v in
      subst P (ap (bucket_of buckets) (sym (same_names k under)))
      (subst Q (sym (same_links k under))
      (newest_along buckets names others k _ _ (λ j lower. same_names j (omega arith)) (h.linked k under))))
      (let P : ℕ → Type 0 = λ b. IsNewest buckets others count b (slice_index more count) in
      let Q : ℕ → Type 0 = λ v. IsNewest buckets others count bucket v in
      subst P (sym there)
      (subst Q (sym link) (newest_along buckets names others count bucket _ same_names (h.headed bucket below))));
  headed = λ c under. headed_by buckets count names others heads bucket same_names there size c under (h.headed c under) (c == bucket) refl;
}

-- the chains of all names make the table
pub table_of : (buckets count : ℕ) (names : List (List ℕ)) (links heads : List ℕ)
    → length heads ≡ buckets → length names ≡ count → AreChains buckets count names links heads → IsTable names links heads
table_of buckets count names links heads size whole h =
    let P : ℕ → Type 0 = λ m. AreChains m (length names) names links heads in
    let Q : ℕ → Type 0 = λ n. AreChains buckets n names links heads in
    record { chains = subst P (sym size) (subst Q (sym whole) h) }
