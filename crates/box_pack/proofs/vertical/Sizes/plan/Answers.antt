use Rattle.std.proofs.Common.{◌≡◌, ℤ, ◌-ℤ◌, Ok, Err, ◌∙◌, ap, sym, rules}
use Rattle.std.proofs.lemmas.Int.{to_z-of_z}
use Rattle.std.specs.Int.{int_min}
use Rattle.std.specs.Int.RustNames.{FitsSigned}
use mir.Syntax.{w32, w64}
use mir.Val.{to_z, of_z}
use Rattle.box_pack.specs.PackingLimits.{limited, limited_extent}
use Rattle.box_pack.specs.PackingBoxes.{size_for}
use Rattle.box_pack.proofs.Results.{limited-is, limited_extent-is, extent_made, same_extent, plan_for-stops, plan_for-unnatural, plan_for-fits}
use Rattle.box_pack.proofs.vertical.Sizes.plan.Goals as goal

pub returns-in_err-extent-clause-plan : goal.returns-in_err-extent-clause-plan
returns-in_err-extent-clause-plan c =
    let bound_fits = c.ranges.max_depth in
    let hanging_fits : FitsSigned w64 c.args.self.now.hanging = search rules in
    let depth_fits : FitsSigned w64 c.depth_within-depth.result = search rules in
    let hanging = int_min c.args.self.now.hanging c.args.max_depth in
    let depth : to_z w64 (of_z w64 c.depth_within-depth.result) ≡ hanging =
    to_z-of_z w64 c.depth_within-depth.result depth_fits ∙ (simp to_z-of_z at c.depth_within-depth.ensures.value) in
    let above = c.args.self.now.length -ℤ hanging in
    let above_is : to_z w64 (of_z w64 c.height_above.result) ≡ above =
    to_z-of_z w64 c.height_above.result (search rules) ∙ c.height_above.ensures
    ∙ ap (λ (d : ℤ). c.args.self.now.length -ℤ d) depth in
    let natural : limited above ≡ Ok c.in_ok-natural.natural =
    ap limited (sym above_is) ∙ sym c.limited.ensures ∙ c.in_ok-natural.was in
    let height : size_for c.args.goal above ≡ to_z w64 (of_z w64 c.size_for.result) =
    ap (size_for c.args.goal) (limited-is above c.in_ok-natural.natural natural
    ∙ sym (to_z-of_z w32 c.in_ok-natural.natural (search rules)))
    ∙ sym c.size_for.ensures ∙ sym (to_z-of_z w64 c.size_for.result (search rules)) in
    let meant = extent_made c.args.self.now.width (size_for c.args.goal above) hanging in
    let stops : limited_extent meant ≡ Err c.in_err-extent.field-0.0 =
    ap limited_extent (same_extent _ _ _ _ _ _ (sym (to_z-of_z w64 c.args.self.now.width (search rules))) height (sym depth))
    ∙ sym c.limited_extent.ensures ∙ c.in_err-extent.was in
    let answer : c.from_residual-in_err-extent.result ≡ Err c.in_err-extent.field-0.0 = search rules in
    answer ∙ sym (plan_for-stops above (size_for c.args.goal above) meant c.in_err-extent.field-0.0 stops)

pub returns-in_err-natural-clause-plan : goal.returns-in_err-natural-clause-plan
returns-in_err-natural-clause-plan c =
    let bound_fits = c.ranges.max_depth in
    let hanging_fits : FitsSigned w64 c.args.self.now.hanging = search rules in
    let depth_fits : FitsSigned w64 c.depth_within-depth.result = search rules in
    let hanging = int_min c.args.self.now.hanging c.args.max_depth in
    let depth : to_z w64 (of_z w64 c.depth_within-depth.result) ≡ hanging =
    to_z-of_z w64 c.depth_within-depth.result depth_fits ∙ (simp to_z-of_z at c.depth_within-depth.ensures.value) in
    let above = c.args.self.now.length -ℤ hanging in
    let above_is : to_z w64 (of_z w64 c.height_above.result) ≡ above =
    to_z-of_z w64 c.height_above.result (search rules) ∙ c.height_above.ensures
    ∙ ap (λ (d : ℤ). c.args.self.now.length -ℤ d) depth in
    let stops : limited above ≡ Err c.in_err-natural.field-0.0 =
    ap limited (sym above_is) ∙ sym c.limited.ensures ∙ c.in_err-natural.was in
    let meant = extent_made c.args.self.now.width (size_for c.args.goal above) hanging in
    let answer : c.from_residual.result ≡ Err c.in_err-natural.field-0.0 = search rules in
    answer ∙ sym (plan_for-unnatural above (size_for c.args.goal above) meant c.in_err-natural.field-0.0 stops)

pub returns-clause-plan : goal.returns-clause-plan
returns-clause-plan c =
    let bound_fits = c.ranges.max_depth in
    let hanging_fits : FitsSigned w64 c.args.self.now.hanging = search rules in
    let depth_fits : FitsSigned w64 c.depth_within-depth.result = search rules in
    let hanging = int_min c.args.self.now.hanging c.args.max_depth in
    let depth : to_z w64 (of_z w64 c.depth_within-depth.result) ≡ hanging =
    to_z-of_z w64 c.depth_within-depth.result depth_fits ∙ (simp to_z-of_z at c.depth_within-depth.ensures.value) in
    let above = c.args.self.now.length -ℤ hanging in
    let above_is : to_z w64 (of_z w64 c.height_above.result) ≡ above =
    to_z-of_z w64 c.height_above.result (search rules) ∙ c.height_above.ensures
    ∙ ap (λ (d : ℤ). c.args.self.now.length -ℤ d) depth in
    let natural : limited above ≡ Ok c.in_ok-natural.natural =
    ap limited (sym above_is) ∙ sym c.limited.ensures ∙ c.in_ok-natural.was in
    let natural_is = limited-is above c.in_ok-natural.natural natural in
    let natural_fits : FitsSigned w32 c.in_ok-natural.natural = search rules in
    let height_fits : FitsSigned w32 c.in_ok-extent.extent.height = search rules in
    let height : size_for c.args.goal above ≡ to_z w64 (of_z w64 c.size_for.result) =
    ap (size_for c.args.goal) (natural_is ∙ sym (to_z-of_z w32 c.in_ok-natural.natural natural_fits))
    ∙ sym c.size_for.ensures ∙ sym (to_z-of_z w64 c.size_for.result (search rules)) in
    let meant = extent_made c.args.self.now.width (size_for c.args.goal above) hanging in
    let fits : limited_extent meant ≡ Ok c.in_ok-extent.extent =
    ap limited_extent (same_extent _ _ _ _ _ _ (sym (to_z-of_z w64 c.args.self.now.width (search rules))) height (sym depth))
    ∙ sym c.limited_extent.ensures ∙ c.in_ok-extent.was in
    let excess : size_for c.args.goal above -ℤ above ≡ to_z w64 (of_z w64 c.excess-excess.result) =
    ap (λ (h : ℤ). h -ℤ above) (ap (λ e. e.height) (limited_extent-is meant c.in_ok-extent.extent fits))
    ∙ ap (λ (n : ℤ). c.in_ok-extent.extent.height -ℤ n) natural_is
    ∙ sym (simp to_z-of_z at c.excess-excess.ensures.value) ∙ sym (to_z-of_z w64 c.excess-excess.result (search rules)) in
    sym (plan_for-fits above c.in_ok-natural.natural (size_for c.args.goal above)
    (to_z w64 (of_z w64 c.excess-excess.result)) meant c.in_ok-extent.extent natural fits excess)
