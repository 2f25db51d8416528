-- Linking entries: all of them anew, from the oldest on, and one at the end.
use Rattle.std.proofs.Common.{◌≡◌, ◌≢◌, ℕ, ◌+◌, ◌<◌, List, [], ◌∷◌, ◌++◌, length, slice_index, slice_set, get_or, arith, refl, sym, ◌∙◌, ap, subst, length-append}
use Rattle.std.proofs.Math.Seq.{map-set_same}
use Rattle.std.proofs.lemmas.List.{map-set, map-append, length-map, get_or-map, get_or-set_same, get_or-set_other, get_or_append_left, get_or_push, length-set}
use Rattle.tokens.specs.declared.buckets.Entry.{Entry}
use Rattle.tokens.specs.Names.{name_at}
use Rattle.tokens.specs.Buckets.{AreChains, IsTable, names_of, links_of, bucket_of, chained, table_of}

-- the name of an entry that was read
pub name_at-entry : (entries : List Entry) (k : ℕ) (entry : Entry) → k < length entries → entry ≡ get_or entries k entry
    → name_at (names_of entries) k ≡ entry.name.items
name_at-entry entries k entry below is =
    get_or-map (λ (e : Entry). e.name.items) entries k entry [] below ∙ ap (λ (e : Entry). e.name.items) (sym is)

-- its link
pub link_at-entry : (entries : List Entry) (k : ℕ) (entry : Entry) → k < length entries → entry ≡ get_or entries k entry
    → slice_index (links_of entries) k ≡ entry.link
link_at-entry entries k entry below is =
    get_or-map (λ (e : Entry). e.link) entries k entry 0 below ∙ ap (λ (e : Entry). e.link) (sym is)

-- there are as many names as entries
pub length-names_of : (entries : List Entry) → length (names_of entries) ≡ length entries
length-names_of entries = length-map entries (λ (e : Entry). e.name.items)

-- and as many links
pub length-links_of : (entries : List Entry) → length (links_of entries) ≡ length entries
length-links_of entries = length-map entries (λ (e : Entry). e.link)

-- the first `count` entries are linked, and the names are as they were
pub record IsLinkedSoFar (names : List (List ℕ)) (entries : List Entry) (heads : List ℕ) (buckets count : ℕ) : Type 0 where
  pub names_stay : names_of entries ≡ names
  pub chains : AreChains buckets count (names_of entries) (links_of entries) heads

-- none is, where all buckets are empty
pub linked_none : (entries : List Entry) (heads : List ℕ)
    → ((bucket : ℕ) → bucket < length heads → slice_index heads bucket ≡ 0)
    → IsLinkedSoFar (names_of entries) entries heads (length heads) 0
linked_none entries heads blank = record {
  names_stay = refl;
  chains = record {
    linked = λ k h. absurd (omega arith);
    headed = λ b below.
        let zero : slice_index heads b ≡ 0 = blank b below in
        record {
          within = omega arith;
          here = λ some. absurd (omega arith);
          last = λ k from under e. absurd (omega arith);
        };
  };
}

-- one more is, where its link is the head of its bucket and the head is its place
pub linked_one_more : (names : List (List ℕ)) (entries : List Entry) (heads : List ℕ) (buckets count bucket : ℕ) (entry last : Entry)
    → count < length entries → entry ≡ get_or entries count entry
    → last.name.items ≡ entry.name.items → last.link ≡ slice_index heads bucket
    → bucket ≡ bucket_of buckets entry.name.items → bucket < buckets → length heads ≡ buckets
    → IsLinkedSoFar names entries heads buckets count
    → IsLinkedSoFar names (slice_set entries count last) (slice_set heads bucket (count + 1)) buckets (count + 1)
linked_one_more names entries heads buckets count bucket entry last inside is same_name link there below size h =
    let same_names : names_of (slice_set entries count last) ≡ names_of entries =
    map-set_same (λ (e : Entry). e.name.items) entries count last entry
    (same_name ∙ ap (λ (e : Entry). e.name.items) is) in
    let links : links_of (slice_set entries count last) ≡ slice_set (links_of entries) count last.link =
    map-set (λ (e : Entry). e.link) entries count last in
    let inside_links : count < length (links_of entries) = omega (arith, length-links_of entries) in
    record {
      names_stay = same_names ∙ h.names_stay;
      chains = chained buckets count (names_of entries) (names_of (slice_set entries count last))
          (links_of entries) (links_of (slice_set entries count last)) heads bucket
          (λ k _. ap (λ ns. name_at ns k) same_names)
          (λ k under.
          let apart : k ≢ count = omega arith in
          ap (λ ls. slice_index ls k) links ∙ get_or-set_other (links_of entries) count k last.link 0 apart)
          (ap (λ ns. bucket_of buckets (name_at ns count)) same_names
          ∙ ap (bucket_of buckets) (name_at-entry entries count entry inside is) ∙ sym there)
          below size
          (ap (λ ls. slice_index ls count) links ∙ get_or-set_same (links_of entries) count last.link 0 inside_links ∙ link)
          h.chains;
    }

-- an entry at the end, where its link is the head of its bucket and the head becomes its place
pub linked_at_end : (entries : List Entry) (heads : List ℕ) (count bucket : ℕ) (entry : Entry)
    → length entries ≡ count → bucket ≡ bucket_of (length heads) entry.name.items → bucket < length heads
    → entry.link ≡ slice_index heads bucket
    → IsTable (names_of entries) (links_of entries) heads
    → IsTable (names_of (entries ++ entry ∷ [])) (links_of (entries ++ entry ∷ [])) (slice_set heads bucket (count + 1))
linked_at_end entries heads count bucket entry size there below link h =
    let names = names_of entries in
    let links = links_of entries in
    let all_names : names_of (entries ++ entry ∷ []) ≡ names ++ entry.name.items ∷ [] =
    map-append (λ (e : Entry). e.name.items) entries (entry ∷ []) in
    let all_links : links_of (entries ++ entry ∷ []) ≡ links ++ entry.link ∷ [] =
    map-append (λ (e : Entry). e.link) entries (entry ∷ []) in
    let name_count : length names ≡ count = length-names_of entries ∙ size in
    let link_count : length links ≡ count = length-links_of entries ∙ size in
    let P : ℕ → Type 0 = λ n. AreChains (length heads) n names links heads in
    table_of (length heads) (count + 1) (names_of (entries ++ entry ∷ [])) (links_of (entries ++ entry ∷ []))
    (slice_set heads bucket (count + 1))
    (length-set heads bucket (count + 1))
    (length-names_of (entries ++ entry ∷ []) ∙ length-append entries (entry ∷ []) ∙ ap (λ n. n + 1) size)
    (chained (length heads) count names (names_of (entries ++ entry ∷ [])) links (links_of (entries ++ entry ∷ [])) heads bucket
    (λ k under.
    let inside : k < length names = omega arith in
    ap (λ ns. name_at ns k) all_names ∙ get_or_append_left names (entry.name.items ∷ []) [] k inside)
    (λ k under.
    let inside : k < length links = omega arith in
    ap (λ ls. slice_index ls k) all_links ∙ get_or_append_left links (entry.link ∷ []) 0 k inside)
    (ap (bucket_of (length heads)) (ap (λ ns. name_at ns count) all_names ∙ get_or_push names entry.name.items [] count name_count) ∙ sym there)
    below refl
    (ap (λ ls. slice_index ls count) all_links ∙ get_or_push links entry.link 0 count link_count ∙ link)
    (subst P name_count h.chains))
