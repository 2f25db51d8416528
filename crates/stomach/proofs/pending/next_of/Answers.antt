use Rattle.std.proofs.Common.{◌≡◌, ◌+◌, ◌≤◌, ◌*◌, List, Ok, ap, sym, subst, take, arith}
use Rattle.std.specs.Prelude.{reverse}
use Rattle.std.specs.Int.{w32}
use Rattle.std.proofs.lemmas.Int.{to_z-of_z}
use Rattle.asking.specs.Did.{Did, Does, Ended}
use Rattle.stomach.specs.declared.pending.Event.{Event}
use Rattle.stomach.specs.declared.pending.Event.TheVariants.{Token}
use Rattle.stomach.specs.declared.pending.Item.{Item}
use Rattle.stomach.specs.declared.pending.Item.TheVariants.{From, Inserted}
use Rattle.stomach.specs.Again.{Ended-by}
use Rattle.stomach.specs.Pending.{Reading, reading, next_event, by_token, pending_work}
use Rattle.stomach.proofs.Items.{in_place, once_gone, work-inserted, over-less}
use Rattle.stomach.proofs.pending.next_of.Goals as goal

pub returns-in-Ok-Some-clause-does : goal.returns-in-Ok-Some-clause-does
returns-in-Ok-Some-clause-does c =
    in_place (λ (was now : List Item). next_event c.args.categories.now c.args.end_line (reading was c.args.names.now c.args.budget.now)
    ≡ Ok (Token c.in-Ok-Some.token, reading now c.token_from.new.names c.token_from.new.budget))
    c.in-Some.last c.args.items.now.items (From c.in-From.source) _ (omega arith) (cc c.index_mut.ensures.value)
    (ap (by_token c.in-From.source.is_file _) (rw (to_z-of_z w32 c.args.end_line c.ranges.end_line, c.in-Ok-Some.field-0-is) at c.in-Ok-Some.ensures.does))

pub returns-in-Ok-Some-clause-less : goal.returns-in-Ok-Some-clause-less
returns-in-Ok-Some-clause-less c =
    let fewer : c.token_from.new.budget.left + 1 ≤ c.args.budget.now.left = rw c.in-Ok-Some.field-0-is at c.in-Ok-Some.ensures.less in
    in_place (λ (was now : List Item). 4 * c.token_from.new.budget.left + pending_work now + 3 ≤ 4 * c.args.budget.now.left + pending_work was)
    c.in-Some.last c.args.items.now.items (From c.in-From.source) _ (omega arith) (cc c.index_mut.ensures.value) (omega (arith, fewer))

pub returns-in-Ok-None-clause-does : goal.returns-in-Ok-None-clause-does
returns-in-Ok-None-clause-does c =
    let r = reading (reverse (take c.in-Some.last c.args.items.now.items)) c.token_from.new.names c.token_from.new.budget in
    let P : Did Reading Event → Type 0 = λ m. Does c.source_over.result r m in
    once_gone (λ (was now : List Item). Does c.source_over.result (reading now c.token_from.new.names c.token_from.new.budget)
    (next_event c.args.categories.now c.args.end_line (reading was c.args.names.now c.args.budget.now)))
    c.in-Some.last c.args.items.now.items (From c.in-From.source) _ _ (omega arith) (cc c.index_mut.ensures.value) c.drop_first-in-Ok-None.ensures
    (subst P (sym (ap (by_token c.in-From.source.is_file _) (rw (to_z-of_z w32 c.args.end_line c.ranges.end_line, c.in-Ok-None.field-0-is) at c.in-Ok-None.ensures.does)))
    (c.source_over.ensures.does r))

pub returns-in-Ok-None-clause-less : goal.returns-in-Ok-None-clause-less
returns-in-Ok-None-clause-less c =
    let fewer : c.token_from.new.budget.left + 0 ≤ c.args.budget.now.left = rw c.in-Ok-None.field-0-is at c.in-Ok-None.ensures.less in
    over-less c.source_over.result _ _ c.source_over.ensures.least
    (once_gone (λ (was now : List Item). 4 * c.token_from.new.budget.left + pending_work now + 1 ≤ 4 * c.args.budget.now.left + pending_work was)
    c.in-Some.last c.args.items.now.items (From c.in-From.source) _ _ (omega arith) (cc c.index_mut.ensures.value) c.drop_first-in-Ok-None.ensures (omega (arith, fewer)))

pub returns-in-Err-clause-does : goal.returns-in-Err-clause-does
returns-in-Err-clause-does c =
    in_place (λ (was now : List Item). Ended c.in-Err.stop (reading now c.token_from.new.names c.token_from.new.budget)
    (next_event c.args.categories.now c.args.end_line (reading was c.args.names.now c.args.budget.now)))
    c.in-Some.last c.args.items.now.items (From c.in-From.source) _ (omega arith) (cc c.index_mut.ensures.value)
    (Ended-by c.in-Err.stop _ _ _ _ (ap (by_token c.in-From.source.is_file _)) (rw (to_z-of_z w32 c.args.end_line c.ranges.end_line) at c.in-Err.ensures.does))

pub returns-else-not-spend-clause-less : goal.returns-else-not-spend-clause-less
returns-else-not-spend-clause-less c =
    once_gone (λ (was now : List Item). 4 * c.spend.new.self.left + pending_work now + 3 ≤ 4 * c.args.budget.now.left + pending_work was)
    c.in-Some.last c.args.items.now.items (Inserted c.in-Inserted.token) (Inserted c.in-Inserted.token) _ (omega arith) (cc c.index_mut.ensures.value) c.drop_first-in-Inserted.ensures
    (work-inserted c.args.budget.now c.spend.new.self (reverse (take c.in-Some.last c.args.items.now.items)) c.if-not-spend.ensures.taken c.if-not-spend.ensures.after)
