use Rattle.std.proofs.Common.{true, false, Ok, Err, None, arith, sym, ◌∙◌}
use Rattle.std.specs.Int.{w32}
use Rattle.std.proofs.lemmas.Int.{to_z-of_z}
use Rattle.stomach.specs.Again.{Ended-by}
use Rattle.stomach.specs.Take.{looking}
use Rattle.stomach.proofs.Looking.{by_line, glance_does, from_start}
use Rattle.stomach.proofs.source.token_from.Goals as goal

pub lines-preserved : goal.lines-preserved
lines-preserved c = record {
  same = sym (by_line c.args.categories.now _ _ c.glance-glance.new.self c.lines.names c.lines.budget (Ok (true, looking c.take_line.new.eye c.lines.names c.take_line.new.budget))
      c.in-LineEnd.ensures.sees (rw c.in-Ok-true.field-0-test at c.in-Ok-true.ensures.does)) ∙ c.lines.invariant.same;
  fewer = let less = rw c.in-Ok-true.field-0-test at c.in-Ok-true.ensures.less in omega (arith, less, c.lines.invariant.fewer);
}

pub returns-in-Ok-false-clause-does : goal.returns-in-Ok-false-clause-does
returns-in-Ok-false-clause-does c =
    from_start (Ok None) (looking c.take_line.new.eye c.lines.names c.take_line.new.budget) c.args.categories.now _ c.args.end_line _ _
    (to_z-of_z w32 c.args.end_line c.ranges.end_line) c.lines.invariant.same
    (by_line c.args.categories.now _ _ c.glance-glance.new.self c.lines.names c.lines.budget (Ok (false, looking c.take_line.new.eye c.lines.names c.take_line.new.budget))
    c.in-LineEnd.ensures.sees (rw c.in-Ok-false.field-0-test at c.in-Ok-false.ensures.does))

pub returns-in_default-clause-does : goal.returns-in_default-clause-does
returns-in_default-clause-does c =
    from_start c.token_of.result (looking c.glance-glance.new.self c.token_of.new.names c.token_of.new.budget) c.args.categories.now _ c.args.end_line _ _
    (to_z-of_z w32 c.args.end_line c.ranges.end_line) c.lines.invariant.same
    (glance_does c.args.categories.now _ _ c.glance-glance.new.self c.lines.names c.lines.budget c.glance-glance.result c.glance-glance.new.name.items c.token_of.result _
    c.in_default.not-LineEnd c.token_of.ensures.memory c.glance-glance.ensures.sees (rw c.deref.ensures.value at (c.token_of.ensures.does c.glance-glance.new.self)))

pub returns-in-Err-clause-does : goal.returns-in-Err-clause-does
returns-in-Err-clause-does c =
    let t = looking c.take_line.new.eye c.lines.names c.take_line.new.budget in
    from_start (Err c.in-Err.stop) t c.args.categories.now _ c.args.end_line _ _ (to_z-of_z w32 c.args.end_line c.ranges.end_line) c.lines.invariant.same
    (Ended-by c.in-Err.stop t t _ _
    (by_line c.args.categories.now _ _ c.glance-glance.new.self c.lines.names c.lines.budget (Err (c.in-Err.stop, t)) c.in-LineEnd.ensures.sees) c.in-Err.ensures.does)
