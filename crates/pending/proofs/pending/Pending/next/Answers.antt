-- The token in front of the innermost level is that of the flat list.
use Rattle.std.proofs.Common.{◌≡◌, None, sym}
use Rattle.pending.proofs.Nexts.{next-level}
use Rattle.pending.proofs.pending.Pending.next.Goals as goal

pub returns-in-Ready : goal.returns-in-Ready
returns-in-Ready c =
    let p = c.self.inside in
    let none : None ≡ p.front = cc (c.in_default.is) in
    record {
      does = next-level c.args.categories.now c.args.end_line p.front p.top c.pass.new.level p.below.items p.source p.outer.items c.args.names.now c.args.budget.now
          c.pay-in-Ready.new.budget c.in-Ready.waiting c.event_of-in-Ready.result c.args.self.now c.self.view_is none (sym c.in-Ready.ensures) c.pass.ensures
          c.event_of-in-Ready.ensures c.if-not-pay-2.ensures;
    }
