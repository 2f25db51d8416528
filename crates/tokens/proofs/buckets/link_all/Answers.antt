-- No entry is linked at the beginning, and each turn links one more.
use Rattle.std.proofs.Common.{◌≡◌, arith, refl, sym, ◌∙◌, ap, get_or}
use Rattle.tokens.specs.declared.buckets.Entry.{Entry}
use Rattle.tokens.specs.Buckets.{bucket_of}
use Rattle.tokens.proofs.Linking.{linked_none, linked_one_more}
use Rattle.tokens.proofs.buckets.link_all.Goals as goal

pub loop-i-init : goal.loop-i-init
loop-i-init c = linked_none _ _ c.requires.blank

pub loop-i-preserved : goal.loop-i-preserved
loop-i-preserved c =
    let entry : Entry = c.index-entries-i.result in
    let same_name : (get_or c.loop-i.entries c.loop-i.i entry).name.items ≡ entry.name.items =
    ap (λ (e : Entry). e.name.items) (sym c.index-entries-i.is) in
    linked_one_more _ c.loop-i.entries c.loop-i.heads _ c.loop-i.i c.bucket-at.result entry _ (omega arith)
    c.index-entries-i.is same_name refl
    (c.bucket-at.ensures.value ∙ ap (bucket_of _) (c.as_slice.ensures.value ∙ same_name))
    c.bucket-at.ensures.bound c.loop-i.auto.heads c.loop-i.invariant
