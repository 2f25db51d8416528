use Rattle.std.proofs.Common.{◌≡◌, Ok, Err, ◌∙◌, ap, sym, rules}
use Rattle.box_pack.specs.HorizontalSizes.{horizontal_sums, horizontal_plan}
use Rattle.box_pack.proofs.Results.{horizontal_sums-are, hpacked-refused, hpacked-stops, hpacked-fits}
use Rattle.box_pack.proofs.horizontal.hpack.Goals as goal

pub new-requires-clause-nesting : goal.new-requires-clause-nesting
new-requires-clause-nesting c =
    let sums : horizontal_sums c.args.list.items ≡ Ok c.in_ok-sums.sums =
    ap horizontal_sums (sym c.as_slice.ensures.value) ∙ sym c.sums_of.ensures.value ∙ c.in_ok-sums.was in
    sym (ap (λ s. s.measure.nesting) (horizontal_sums-are c.args.list.items c.in_ok-sums.sums sums))

pub new-requires-clause-count : goal.new-requires-clause-count
new-requires-clause-count c =
    let sums : horizontal_sums c.args.list.items ≡ Ok c.in_ok-sums.sums =
    ap horizontal_sums (sym c.as_slice.ensures.value) ∙ sym c.sums_of.ensures.value ∙ c.in_ok-sums.was in
    sym (ap (λ s. s.measure.count) (horizontal_sums-are c.args.list.items c.in_ok-sums.sums sums))

pub new-requires-clause-glue : goal.new-requires-clause-glue
new-requires-clause-glue c =
    let sums : horizontal_sums c.args.list.items ≡ Ok c.in_ok-sums.sums =
    ap horizontal_sums (sym c.as_slice.ensures.value) ∙ sym c.sums_of.ensures.value ∙ c.in_ok-sums.was in
    sym (ap (λ s. s.sizes.glue) (horizontal_sums-are c.args.list.items c.in_ok-sums.sums sums))

pub returns-in_err-sums : goal.returns-in_err-sums
returns-in_err-sums c =
    let stops : horizontal_sums c.args.list.items ≡ Err c.in_err-sums.field-0.0 =
    ap horizontal_sums (sym c.as_slice.ensures.value) ∙ sym c.sums_of.ensures.value ∙ c.in_err-sums.was in
    let answer : c.from_residual.result ≡ Err c.in_err-sums.field-0.0 = search rules in
    answer ∙ sym (hpacked-refused c.args.list.items c.args.goal c.in_err-sums.field-0.0 stops)

pub returns-in_err-plan : goal.returns-in_err-plan
returns-in_err-plan c =
    let sums : horizontal_sums c.args.list.items ≡ Ok c.in_ok-sums.sums =
    ap horizontal_sums (sym c.as_slice.ensures.value) ∙ sym c.sums_of.ensures.value ∙ c.in_ok-sums.was in
    let plan : horizontal_plan c.args.goal c.in_ok-sums.sums.sizes ≡ Err c.in_err-plan.field-0.0 =
    sym c.plan.ensures.plan ∙ c.in_err-plan.was in
    let answer : c.from_residual-in_err-plan.result ≡ Err c.in_err-plan.field-0.0 = search rules in
    answer ∙ sym (hpacked-stops c.args.list.items c.args.goal c.in_ok-sums.sums c.in_err-plan.field-0.0 sums plan)

pub returns : goal.returns
returns c =
    let sums : horizontal_sums c.args.list.items ≡ Ok c.in_ok-sums.sums =
    ap horizontal_sums (sym c.as_slice.ensures.value) ∙ sym c.sums_of.ensures.value ∙ c.in_ok-sums.was in
    let plan : horizontal_plan c.args.goal c.in_ok-sums.sums.sizes ≡ Ok c.in_ok-plan.plan =
    sym c.plan.ensures.plan ∙ c.in_ok-plan.was in
    ap Ok c.new.ensures ∙ sym (hpacked-fits c.args.list.items c.args.goal c.in_ok-sums.sums c.in_ok-plan.plan sums plan)
