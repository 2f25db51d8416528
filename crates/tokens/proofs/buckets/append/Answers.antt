-- The new name is in front of the chain of its bucket.
use Rattle.std.proofs.Common.{List, subst, sym, refl, ◌∙◌, slice_set, ◌+◌, ap, rules}
use Rattle.tokens.specs.declared.buckets.Entry.{Entry}
use Rattle.tokens.specs.Buckets.{IsTable, names_of, links_of, bucket_of}
use Rattle.tokens.proofs.Linking.{linked_at_end}
use Rattle.tokens.proofs.buckets.append.Goals as goal

pub returns-clause-table : goal.returns-clause-table
returns-clause-table c =
    let P : List Entry → Type 0 = λ entries. IsTable (names_of entries) (links_of entries)
    (slice_set c.args.heads.now c.bucket-at.result (c.len-count.result + 1)) in
    subst P (sym c.in_ok-push.ensures.items)
    (linked_at_end c.args.entries.now.items c.args.heads.now c.len-count.result c.bucket-at.result _ (search rules) (c.bucket-at.ensures.value ∙ ap (bucket_of _) c.as_slice.ensures.value) c.bucket-at.ensures.bound refl c.requires.table)
