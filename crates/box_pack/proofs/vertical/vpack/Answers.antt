use Rattle.std.proofs.Common.{◌≡◌, ℤ, Ok, Err, ◌∙◌, ap, sym, rules}
use Rattle.std.proofs.lemmas.Int.{to_z-of_z}
use mir.Syntax.{w32}
use Rattle.box_pack.specs.VerticalSizes.{vertical_sums, vertical_plan}
use Rattle.box_pack.proofs.Results.{vertical_sums-are, vpacked-refused, vpacked-stops, vpacked-fits}
use Rattle.box_pack.proofs.vertical.vpack.Goals as goal

pub new-requires-clause-nesting : goal.new-requires-clause-nesting
new-requires-clause-nesting c =
    let sums : vertical_sums c.args.list.items ≡ Ok c.in_ok-sums.sums =
    ap vertical_sums (sym c.as_slice.ensures.value) ∙ sym c.sums_of.ensures.value ∙ c.in_ok-sums.was in
    sym (ap (λ s. s.measure.nesting) (vertical_sums-are c.args.list.items c.in_ok-sums.sums sums))

pub new-requires-clause-count : goal.new-requires-clause-count
new-requires-clause-count c =
    let sums : vertical_sums c.args.list.items ≡ Ok c.in_ok-sums.sums =
    ap vertical_sums (sym c.as_slice.ensures.value) ∙ sym c.sums_of.ensures.value ∙ c.in_ok-sums.was in
    sym (ap (λ s. s.measure.count) (vertical_sums-are c.args.list.items c.in_ok-sums.sums sums))

pub new-requires-clause-glue : goal.new-requires-clause-glue
new-requires-clause-glue c =
    let sums : vertical_sums c.args.list.items ≡ Ok c.in_ok-sums.sums =
    ap vertical_sums (sym c.as_slice.ensures.value) ∙ sym c.sums_of.ensures.value ∙ c.in_ok-sums.was in
    sym (ap (λ s. s.sizes.glue) (vertical_sums-are c.args.list.items c.in_ok-sums.sums sums))

pub returns-in_err-sums : goal.returns-in_err-sums
returns-in_err-sums c =
    let stops : vertical_sums c.args.list.items ≡ Err c.in_err-sums.field-0.0 =
    ap vertical_sums (sym c.as_slice.ensures.value) ∙ sym c.sums_of.ensures.value ∙ c.in_err-sums.was in
    let answer : c.from_residual.result ≡ Err c.in_err-sums.field-0.0 = search rules in
    answer ∙ sym (vpacked-refused c.args.list.items c.args.goal c.args.max_depth c.in_err-sums.field-0.0 stops)

pub returns-in_err-plan : goal.returns-in_err-plan
returns-in_err-plan c =
    let sums : vertical_sums c.args.list.items ≡ Ok c.in_ok-sums.sums =
    ap vertical_sums (sym c.as_slice.ensures.value) ∙ sym c.sums_of.ensures.value ∙ c.in_ok-sums.was in
    let plan : vertical_plan c.args.goal c.args.max_depth c.in_ok-sums.sums.sizes ≡ Err c.in_err-plan.field-0.0 =
    ap (λ (b : ℤ). vertical_plan c.args.goal b c.in_ok-sums.sums.sizes) (sym (to_z-of_z w32 c.args.max_depth c.ranges.max_depth))
    ∙ sym c.plan.ensures.plan ∙ c.in_err-plan.was in
    let answer : c.from_residual-in_err-plan.result ≡ Err c.in_err-plan.field-0.0 = search rules in
    answer ∙ sym (vpacked-stops c.args.list.items c.args.goal c.args.max_depth c.in_ok-sums.sums c.in_err-plan.field-0.0 sums plan)

pub returns : goal.returns
returns c =
    let sums : vertical_sums c.args.list.items ≡ Ok c.in_ok-sums.sums =
    ap vertical_sums (sym c.as_slice.ensures.value) ∙ sym c.sums_of.ensures.value ∙ c.in_ok-sums.was in
    let plan : vertical_plan c.args.goal c.args.max_depth c.in_ok-sums.sums.sizes ≡ Ok c.in_ok-plan.plan =
    ap (λ (b : ℤ). vertical_plan c.args.goal b c.in_ok-sums.sums.sizes) (sym (to_z-of_z w32 c.args.max_depth c.ranges.max_depth))
    ∙ sym c.plan.ensures.plan ∙ c.in_ok-plan.was in
    ap Ok c.new.ensures ∙ sym (vpacked-fits c.args.list.items c.args.goal c.args.max_depth c.in_ok-sums.sums c.in_ok-plan.plan sums plan)
