use Rattle.std.proofs.Common.{◌≡◌, ◌+ℤ◌, ◌-ℤ◌, Ok, Err, ◌∙◌, ap, sym, rules}
use Rattle.std.proofs.lemmas.Int.{to_z-of_z}
use mir.Syntax.{w32, w64}
use mir.Val.{to_z, of_z}
use Rattle.box_pack.specs.PackingLimits.{limited_extent}
use Rattle.box_pack.specs.PackingBoxes.{moved_extent}
use Rattle.box_pack.proofs.Results.{same_extent, moved_to-stops, moved_to-fits}
use Rattle.box_pack.proofs.vertical.moved_to.Goals as goal

pub returns-in_err-extent : goal.returns-in_err-extent
returns-in_err-extent c =
    let width : to_z w64 (of_z w64 c.from-width.result) ≡ c.args.packed.boxed.width =
    to_z-of_z w64 c.from-width.result (search rules) ∙ c.from-width.ensures
    ∙ to_z-of_z w32 c.args.packed.boxed.width (search rules) in
    let height : to_z w64 (of_z w64 c.from.result) ≡ c.args.top =
    to_z-of_z w64 c.from.result (search rules) ∙ c.from.ensures ∙ to_z-of_z w32 c.args.top c.ranges.top in
    let top_fits = c.ranges.top in
    let depth : to_z w64 (of_z w64 c.below.result) ≡ c.args.packed.boxed.height +ℤ c.args.packed.boxed.depth -ℤ c.args.top =
    to_z-of_z w64 c.below.result (search rules) ∙ (simp to_z-of_z at c.below.ensures) in
    let stops : limited_extent (moved_extent c.args.top c.args.packed) ≡ Err c.in_err-extent.field-0.0 =
    ap limited_extent (same_extent _ _ _ _ _ _ (sym width) (sym height) (sym depth))
    ∙ sym c.limited_extent.ensures ∙ c.in_err-extent.was in
    let answer : c.from_residual.result ≡ Err c.in_err-extent.field-0.0 = search rules in
    answer ∙ sym (moved_to-stops c.args.top c.args.packed c.in_err-extent.field-0.0 stops)

pub returns : goal.returns
returns c =
    let width : to_z w64 (of_z w64 c.from-width.result) ≡ c.args.packed.boxed.width =
    to_z-of_z w64 c.from-width.result (search rules) ∙ c.from-width.ensures
    ∙ to_z-of_z w32 c.args.packed.boxed.width (search rules) in
    let height : to_z w64 (of_z w64 c.from.result) ≡ c.args.top =
    to_z-of_z w64 c.from.result (search rules) ∙ c.from.ensures ∙ to_z-of_z w32 c.args.top c.ranges.top in
    let top_fits = c.ranges.top in
    let depth : to_z w64 (of_z w64 c.below.result) ≡ c.args.packed.boxed.height +ℤ c.args.packed.boxed.depth -ℤ c.args.top =
    to_z-of_z w64 c.below.result (search rules) ∙ (simp to_z-of_z at c.below.ensures) in
    let fits : limited_extent (moved_extent c.args.top c.args.packed) ≡ Ok c.in_ok-extent.extent =
    ap limited_extent (same_extent _ _ _ _ _ _ (sym width) (sym height) (sym depth))
    ∙ sym c.limited_extent.ensures ∙ c.in_ok-extent.was in
    ap Ok c.with_extent.ensures ∙ sym (moved_to-fits c.args.top c.args.packed c.in_ok-extent.extent fits)
