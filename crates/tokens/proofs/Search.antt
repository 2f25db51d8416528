-- The search along a chain: nothing from the place on is the name that is sought.
use Rattle.std.proofs.Common.{◌≡◌, ◌≢◌, ℕ, ◌-◌, ◌<◌, ◌≤◌, List, length, slice_index, arith, sym, ◌∙◌, ap, subst, get_or, inl, inr}
use Rattle.std.proofs.lemmas.Bool.{cases_lt}
use Rattle.tokens.specs.Names.{name_at}
use Rattle.tokens.specs.declared.buckets.Entry.{Entry}
use Rattle.tokens.specs.Buckets.{bucket_of, IsTable, names_of, links_of}
use Rattle.tokens.proofs.Linking.{name_at-entry, link_at-entry, length-names_of}

-- `place` is 0 or that of a name in the bucket of `name`, which stands nowhere from `place` on
pub record IsSearch (buckets : ℕ) (names : List (List ℕ)) (name : List ℕ) (place : ℕ) : Type 0 where
  pub within : place ≤ length names
  pub here : 0 < place → bucket_of buckets (name_at names (place - 1)) ≡ bucket_of buckets name
  pub absent : (k : ℕ) → place ≤ k → k < length names → name_at names k ≢ name

-- the search begins at the head of the bucket
pub begins : (names : List (List ℕ)) (links heads : List ℕ) (name : List ℕ) (bucket : ℕ)
    → IsTable names links heads → bucket ≡ bucket_of (length heads) name → bucket < length heads
    → IsSearch (length heads) names name (slice_index heads bucket)
begins names links heads name bucket t is below =
    let newest = t.chains.headed bucket below in
    record {
      within = newest.within;
      here = λ some. newest.here some ∙ is;
      absent = λ k from under e. newest.last k from under (ap (bucket_of (length heads)) e ∙ sym is);
    }

-- it goes on at the link
pub goes_on : (names : List (List ℕ)) (links heads : List ℕ) (name : List ℕ) (place : ℕ)
    → IsTable names links heads → 0 < place → name_at names (place - 1) ≢ name
    → IsSearch (length heads) names name place
    → IsSearch (length heads) names name (slice_index links (place - 1))
goes_on names links heads name place t some differs h =
    let below : place - 1 < length names = omega (arith, h.within) in
    let newest = t.chains.linked (place - 1) below in
    record {
      within = omega (arith, newest.within);
      here = λ more. newest.here more ∙ h.here some;
      absent = λ k from under.
          elim (cases_lt k (place - 1)) [
            | inl lower ↦ λ e. newest.last k from lower (ap (bucket_of (length heads)) e ∙ sym (h.here some))
            | inr upper ↦ elim (cases_lt (place - 1) k) [
              | inl above ↦ h.absent k (omega (arith, above)) under
              | inr still ↦ (let same : k ≡ place - 1 = omega (arith, upper, still) in λ e. differs (sym (ap (name_at names) same) ∙ e))
            ]
          ];
    }

-- the same, at an entry that was read
pub goes_on_at : (entries : List Entry) (heads : List ℕ) (name : List ℕ) (place : ℕ) (entry : Entry)
    → IsTable (names_of entries) (links_of entries) heads → 0 < place → entry ≡ get_or entries (place - 1) entry
    → entry.name.items ≢ name
    → IsSearch (length heads) (names_of entries) name place
    → IsSearch (length heads) (names_of entries) name entry.link
goes_on_at entries heads name place entry t some is differs h =
    let inside : place - 1 < length entries = omega (arith, h.within, length-names_of entries) in
    let P : ℕ → Type 0 = λ p. IsSearch (length heads) (names_of entries) name p in
    subst P (link_at-entry entries (place - 1) entry inside is)
    (goes_on (names_of entries) (links_of entries) heads name place t some
    (λ e. differs (sym (name_at-entry entries (place - 1) entry inside is) ∙ e)) h)
