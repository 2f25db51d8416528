use Rattle.std.proofs.Common.{◌≡◌, ℤ, ◌-ℤ◌, Ok, Err, ◌∙◌, ap, sym, rules}
use Rattle.std.proofs.lemmas.Int.{to_z-of_z}
use Rattle.std.specs.Int.RustNames.{FitsSigned}
use mir.Syntax.{w32, w64}
use mir.Val.{to_z, of_z}
use Rattle.box_pack.specs.PackingLimits.{limited, limited_extent}
use Rattle.box_pack.specs.PackingBoxes.{size_for}
use Rattle.box_pack.proofs.Results.{limited-is, limited_extent-is, extent_made, same_extent, plan_for-stops, plan_for-fits}
use Rattle.box_pack.proofs.horizontal.Sizes.plan.Goals as goal

pub returns-in_err-extent-clause-plan : goal.returns-in_err-extent-clause-plan
returns-in_err-extent-clause-plan c =
    let natural : limited c.args.self.now.width ≡ Ok c.in_ok-natural.natural =
    ap limited (sym (to_z-of_z w64 c.args.self.now.width (search rules))) ∙ sym c.limited.ensures ∙ c.in_ok-natural.was in
    let width : size_for c.args.goal c.args.self.now.width ≡ to_z w64 (of_z w64 c.size_for.result) =
    ap (size_for c.args.goal) (limited-is c.args.self.now.width c.in_ok-natural.natural natural
    ∙ sym (to_z-of_z w32 c.in_ok-natural.natural (search rules)))
    ∙ sym c.size_for.ensures ∙ sym (to_z-of_z w64 c.size_for.result (search rules)) in
    let meant = extent_made (size_for c.args.goal c.args.self.now.width) c.args.self.now.height c.args.self.now.depth in
    let stops : limited_extent meant ≡ Err c.in_err-extent.field-0.0 =
    ap limited_extent (same_extent _ _ _ _ _ _ width (sym (to_z-of_z w64 c.args.self.now.height (search rules)))
    (sym (to_z-of_z w64 c.args.self.now.depth (search rules))))
    ∙ sym c.limited_extent.ensures ∙ c.in_err-extent.was in
    let answer : c.from_residual-in_err-extent.result ≡ Err c.in_err-extent.field-0.0 = search rules in
    answer ∙ sym (plan_for-stops c.args.self.now.width (size_for c.args.goal c.args.self.now.width) meant c.in_err-extent.field-0.0 stops)

pub returns-clause-plan : goal.returns-clause-plan
returns-clause-plan c =
    let natural : limited c.args.self.now.width ≡ Ok c.in_ok-natural.natural =
    ap limited (sym (to_z-of_z w64 c.args.self.now.width (search rules))) ∙ sym c.limited.ensures ∙ c.in_ok-natural.was in
    let natural_is = limited-is c.args.self.now.width c.in_ok-natural.natural natural in
    let natural_fits : FitsSigned w32 c.in_ok-natural.natural = search rules in
    let width_fits : FitsSigned w32 c.in_ok-extent.extent.width = search rules in
    let width : size_for c.args.goal c.args.self.now.width ≡ to_z w64 (of_z w64 c.size_for.result) =
    ap (size_for c.args.goal) (natural_is ∙ sym (to_z-of_z w32 c.in_ok-natural.natural natural_fits))
    ∙ sym c.size_for.ensures ∙ sym (to_z-of_z w64 c.size_for.result (search rules)) in
    let meant = extent_made (size_for c.args.goal c.args.self.now.width) c.args.self.now.height c.args.self.now.depth in
    let fits : limited_extent meant ≡ Ok c.in_ok-extent.extent =
    ap limited_extent (same_extent _ _ _ _ _ _ width (sym (to_z-of_z w64 c.args.self.now.height (search rules)))
    (sym (to_z-of_z w64 c.args.self.now.depth (search rules))))
    ∙ sym c.limited_extent.ensures ∙ c.in_ok-extent.was in
    let excess : size_for c.args.goal c.args.self.now.width -ℤ c.args.self.now.width ≡ to_z w64 (of_z w64 c.excess-excess.result) =
    ap (λ (w : ℤ). w -ℤ c.args.self.now.width) (ap (λ e. e.width) (limited_extent-is meant c.in_ok-extent.extent fits))
    ∙ ap (λ (n : ℤ). c.in_ok-extent.extent.width -ℤ n) natural_is
    ∙ sym (simp to_z-of_z at c.excess-excess.ensures.value) ∙ sym (to_z-of_z w64 c.excess-excess.result (search rules)) in
    sym (plan_for-fits c.args.self.now.width c.in_ok-natural.natural (size_for c.args.goal c.args.self.now.width)
    (to_z w64 (of_z w64 c.excess-excess.result)) meant c.in_ok-extent.extent natural fits excess)
