-- An entry that was read is compared by its bytes, and the search goes on at its link.
use Rattle.std.proofs.Common.{arith, sym, ◌∙◌, ◌<◌, ◌-◌, length}
use Rattle.std.proofs.lemmas.Bool.{false≢true}
use Rattle.std.proofs.lemmas.Slice.Eq.{bytes_eq-Decides}
use Rattle.tokens.proofs.Linking.{name_at-entry, length-names_of}
use Rattle.tokens.proofs.Search.{goes_on_at}
use Rattle.tokens.proofs.buckets.find.Goals as goal

pub returns-then-eq : goal.returns-then-eq
returns-then-eq c =
    let inside : c.loop-place.place - 1 < length c.args.entries.now =
    omega (arith, c.loop-place.invariant.within, length-names_of c.args.entries.now) in (
      omega (arith, c.loop-place.invariant.within),
      name_at-entry _ _ c.index-entries-place.result inside c.index-entries-place.is
          ∙ sym c.as_slice.ensures.value ∙ (bytes_eq-Decides _ _).0 (sym c.eq.ensures ∙ c.if-eq.true),
    )

pub loop-place-preserved : goal.loop-place-preserved
loop-place-preserved c =
    goes_on_at _ _ _ _ _ c.requires.table c.loop-place-test.true c.index-entries-place.is
    (λ e. false≢true (sym c.if-eq.false ∙ c.eq.ensures ∙ (bytes_eq-Decides _ _).1 (c.as_slice.ensures.value ∙ e)))
    c.loop-place.invariant
