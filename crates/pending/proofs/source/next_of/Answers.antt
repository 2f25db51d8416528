-- What the calls of the eye answer is what comes next of the source.
use Rattle.std.proofs.Common.{◌≡◌, ℤ, Ok, Err, sym, ◌∙◌, subst}
use Rattle.std.specs.Int.{w32}
use Rattle.std.proofs.lemmas.Int.{to_z-of_z}
use Rattle.tokens.specs.Budget.{after_step}
use Rattle.tokens.specs.declared.stop.Stop.TheVariants.{Spent}
use Rattle.pending.specs.declared.source.Sight.TheVariants.{End}
use Rattle.pending.specs.declared.source.Source.{Source}
use Rattle.pending.specs.Did.{Does, Ended}
use Rattle.pending.specs.Origin.{next_number}
use Rattle.pending.specs.Take.{looking, source_with, next_sight}
use Rattle.pending.proofs.Looking.{spent_after, unpaid_first, at_ending, at_last, line_spent, line_taken, line_refused_at, glance_gives}
use Rattle.pending.proofs.source.next_of.Goals as goal

pub returns-then-is_unpaid : goal.returns-then-is_unpaid
returns-then-is_unpaid c =
    let first : Source = source_with c.args.eye.now c.args.origin c.args.line.now c.args.is_ending.now in
    let source : Source = source_with c.lines.eye c.args.origin c.lines.line c.lines.is_ending in
    let P : ℤ → Type 0 = λ z. next_sight c.args.categories.now z (looking first c.args.names.now c.args.budget.now) ≡ Err (Spent, looking source c.lines.names c.lines.budget) in
    record {
      does =
          subst P (to_z-of_z w32 c.args.end_line c.ranges.end_line)
          (sym c.lines.invariant ∙ unpaid_first c.args.categories.now _ source c.lines.eye c.lines.names c.lines.budget (sym c.if-is_unpaid.ensures));
    }

pub returns-then-is_ending : goal.returns-then-is_ending
returns-then-is_ending c =
    let first : Source = source_with c.args.eye.now c.args.origin c.args.line.now c.args.is_ending.now in
    let source : Source = source_with c.lines.eye c.args.origin c.lines.line c.lines.is_ending in
    let after : Source = source_with c.glance-glance.new.self c.args.origin c.lines.line c.lines.is_ending in
    let P : ℤ → Type 0 = λ z. next_sight c.args.categories.now z (looking first c.args.names.now c.args.budget.now) ≡ Ok (End, looking after c.lines.names c.lines.budget) in
    record {
      does =
          subst P (to_z-of_z w32 c.args.end_line c.ranges.end_line)
          (sym c.lines.invariant ∙ at_ending c.args.categories.now _ source c.glance-glance.new.self c.lines.names c.lines.budget c.in-LineEnd.ensures.sees c.if-is_ending.true);
    }

pub returns-then-not-has_line : goal.returns-then-not-has_line
returns-then-not-has_line c =
    let first : Source = source_with c.args.eye.now c.args.origin c.args.line.now c.args.is_ending.now in
    let source : Source = source_with c.lines.eye c.args.origin c.lines.line c.lines.is_ending in
    let after : Source = source_with c.glance-glance.new.self c.args.origin c.used_up.new.line c.used_up.new.is_ending in
    let P : ℤ → Type 0 = λ z. next_sight c.args.categories.now z (looking first c.args.names.now c.args.budget.now) ≡ Ok (c.used_up.result, looking after c.lines.names c.lines.budget) in
    record {
      does =
          subst P (to_z-of_z w32 c.args.end_line c.ranges.end_line)
          (sym c.lines.invariant
          ∙ at_last c.args.categories.now _ source c.glance-glance.new.self c.lines.names c.lines.budget c.in-LineEnd.ensures.sees c.if-is_ending.false (sym c.if-not-has_line.ensures)
          ∙ c.used_up.ensures c.glance-glance.new.self c.lines.names c.lines.budget);
    }

pub returns-then-spent : goal.returns-then-spent
returns-then-spent c =
    let first : Source = source_with c.args.eye.now c.args.origin c.args.line.now c.args.is_ending.now in
    let source : Source = source_with c.lines.eye c.args.origin c.lines.line c.lines.is_ending in
    let after : Source = source_with c.glance-glance.new.self c.args.origin c.lines.line c.lines.is_ending in
    let P : ℤ → Type 0 = λ z. next_sight c.args.categories.now z (looking first c.args.names.now c.args.budget.now) ≡ Err (Spent, looking after c.lines.names c.lines.budget) in
    record {
      does =
          subst P (to_z-of_z w32 c.args.end_line c.ranges.end_line)
          (sym c.lines.invariant
          ∙ line_spent c.args.categories.now _ source c.glance-glance.new.self c.lines.names c.lines.budget c.in-LineEnd.ensures.sees c.if-is_ending.false
          (sym c.if-not-has_line.ensures) (sym c.if-spent.ensures));
    }

pub returns-in-Err : goal.returns-in-Err
returns-in-Err c =
    let first : Source = source_with c.args.eye.now c.args.origin c.args.line.now c.args.is_ending.now in
    let source : Source = source_with c.lines.eye c.args.origin c.lines.line c.lines.is_ending in
    let after : Source = source_with c.next_line.new.self c.args.origin c.lines.line c.lines.is_ending in
    let P : ℤ → Type 0 = λ z. Ended c.in-Err.stop (looking after c.lines.names c.lines.budget) (next_sight c.args.categories.now z (looking first c.args.names.now c.args.budget.now)) in
    record {
      does =
          subst P (to_z-of_z w32 c.args.end_line c.ranges.end_line)
          (rw (← c.lines.invariant)
          (line_refused_at c.args.categories.now _ source c.glance-glance.new.self c.lines.names c.lines.budget c.next_line.new.self c.in-Err.stop c.in-LineEnd.ensures.sees
          c.if-is_ending.false (sym c.if-not-has_line.ensures) (sym c.if-spent.ensures) c.in-Err.ensures.ends c.in-Err.ensures.kept));
    }

pub lines-preserved : goal.lines-preserved
lines-preserved c =
    let source : Source = source_with c.lines.eye c.args.origin c.lines.line c.lines.is_ending in
    let spent : c.spend.new.self ≡ after_step c.lines.budget =
    spent_after c.spend.result c.lines.budget c.spend.new.self c.spend.ensures.taken (sym c.if-spent.ensures) c.spend.ensures.after in
    let number : c.saturating_add.result ≡ next_number c.lines.line = c.saturating_add.ensures in
    rw (spent, number)
    (sym (line_taken c.args.categories.now _ source c.glance-glance.new.self c.lines.names c.lines.budget _ c.next_line.new.self c.in-LineEnd.ensures.sees
    c.if-is_ending.false (sym c.if-not-has_line.ensures) (sym c.if-spent.ensures) c.in-Ok.ensures.gives)
    ∙ c.lines.invariant)

pub returns-in_default-glance : goal.returns-in_default-glance
returns-in_default-glance c =
    let first : Source = source_with c.args.eye.now c.args.origin c.args.line.now c.args.is_ending.now in
    let source : Source = source_with c.lines.eye c.args.origin c.lines.line c.lines.is_ending in
    let after : Source = source_with c.glance-glance.new.self c.args.origin c.lines.line c.lines.is_ending in
    let P : ℤ → Type 0 =
    λ z. Does c.token_of.result (looking after c.token_of.new.names c.token_of.new.budget)
    (next_sight c.args.categories.now z (looking first c.args.names.now c.args.budget.now)) in
    record {
      does =
          subst P (to_z-of_z w32 c.args.end_line c.ranges.end_line)
          (rw (← c.lines.invariant)
          (glance_gives c.args.categories.now _ source c.glance-glance.new.self c.lines.names c.lines.budget c.glance-glance.result c.glance-glance.new.name.items
          c.token_of.result _ c.in_default-glance.not-LineEnd c.in_default.not-OutOfMemory (sym c.if-is_unpaid.ensures) c.glance-glance.ensures.sees
          (λ unspent. rw c.deref.ensures.value at (c.token_of.ensures.does after unspent))));
    }
