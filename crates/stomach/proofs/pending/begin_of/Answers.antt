use Rattle.std.proofs.Common.{◌≡◌, ℤ, List, arith, subst, refl}
use Rattle.std.specs.Int.{w32}
use Rattle.std.proofs.lemmas.Int.{to_z-of_z}
use Rattle.asking.specs.Did.{Does}
use Rattle.stomach.specs.declared.pending.Item.{Item}
use Rattle.stomach.specs.declared.pending.Item.TheVariants.{From}
use Rattle.stomach.specs.Pending.{reading, begun_behind_word, pending_work}
use Rattle.stomach.specs.Take.{looking, line_behind_word}
use Rattle.stomach.proofs.Items.{in_place, source_begun, on-ok}
use Rattle.stomach.proofs.pending.begin_of.Goals as goal

pub returns-in-From-clause-does : goal.returns-in-From-clause-does
returns-in-From-clause-does c =
    let P : ℤ → Type 0 = λ z. Does c.line_behind_word.result (looking c.line_behind_word.new.eye c.args.names.now c.line_behind_word.new.budget)
    (line_behind_word z (looking c.in-From.source.eye c.args.names.now c.args.budget.now)) in
    in_place (λ (was now : List Item). Does c.line_behind_word.result (reading now c.args.names.now c.line_behind_word.new.budget)
    (begun_behind_word c.args.end_line (reading was c.args.names.now c.args.budget.now)))
    c.in-Some.last c.args.items.now.items (From c.in-From.source) _ (omega arith) (cc c.index_mut.ensures.value)
    (source_begun c.in-From.source.is_file _ c.line_behind_word.result c.line_behind_word.new.eye c.args.names.now c.line_behind_word.new.budget _
    (subst P (to_z-of_z w32 c.args.end_line c.ranges.end_line) c.line_behind_word.ensures.does))

pub returns-in-From-clause-less : goal.returns-in-From-clause-less
returns-in-From-clause-less c =
    let stays = in_place (λ (was now : List Item). pending_work now ≡ pending_work was) c.in-Some.last c.args.items.now.items (From c.in-From.source)
    (From (record { eye = c.line_behind_word.new.eye; is_file = c.in-From.source.is_file })) (omega arith) (cc c.index_mut.ensures.value) refl in
    on-ok c.line_behind_word.result _ _ (λ fewer. omega (arith, stays, fewer)) c.line_behind_word.ensures.less
