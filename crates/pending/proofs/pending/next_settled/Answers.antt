-- The levels stand for the same list.
use Rattle.std.proofs.Common.{◌∷◌}
use Rattle.std.specs.Prelude.{reverse}
use Rattle.pending.specs.Levels.{all_sources}
use Rattle.pending.proofs.Nexts.{settled-paid}
use Rattle.pending.proofs.pending.next_settled.Goals as goal

pub returns-else-not-pay : goal.returns-else-not-pay
returns-else-not-pay c = record {
  does = rw (c.event_of.ensures, c.pass.ensures)
      (settled-paid c.args.categories.now c.args.end_line (c.args.top.now ∷ reverse c.args.below.now.items) c.settle.new.top (reverse c.settle.new.below.items)
      (all_sources c.args.source.now c.args.outer.now.items) c.args.names.now c.args.budget.now c.pay.new.budget c.in-Ok-Ready.ensures.same
      c.in-Ok-Ready.waiting (rw c.in-Ok-Ready.field-0-is at c.in-Ok-Ready.ensures.front) c.if-not-pay.ensures);
}
