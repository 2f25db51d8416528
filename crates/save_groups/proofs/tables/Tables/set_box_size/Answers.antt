-- A void box stays as it is.
use Rattle.std.proofs.Common.{◌≡◌, ap, ◌∙◌, arith}
use Rattle.std.specs.Prelude.{None}
use Rattle.tokens.specs.declared.meaning.RegKind.TheVariants.{Box}
use Rattle.save_groups.specs.declared.key.Key.TheVariants.{Register}
use Rattle.save_groups.specs.declared.value.Value.TheVariants.{Boxed}
use Rattle.save_groups.specs.InPlace.{box_in}
use Rattle.save_groups.specs.InsideTables.{entries_of}
use Rattle.save_groups.specs.Entries.{at}
use Rattle.save_groups.proofs.Reaching.{unreached_void, reached, refilled-same, resized-void}
use Rattle.save_groups.proofs.tables.Tables.set_box_size.Goals as goal

pub returns-then-len-number-clause-new : goal.returns-then-len-number-clause-new
returns-then-len-number-clause-new c =
    resized-void (at c.args.self.now) c.args.number c.args.part c.args.size
    (unreached_void (entries_of c.self.inside) c.args.self.now c.args.number c.self.view_is (omega (arith, c.len.ensures, c.if-len-number.true, c.self.inside.boxes.ok.0)))

pub refill_box-void-requires : goal.refill_box-void-requires
refill_box-void-requires c =
    c.refill_box.ensures.kept (Register Box c.args.number)
    (reached (entries_of c.self.inside) c.args.self.now c.args.number c.self.view_is (omega (arith, c.len.ensures, c.if-len-number.false, c.self.inside.boxes.ok.0)))

pub returns-in-None-clause-new : goal.returns-in-None-clause-new
returns-in-None-clause-new c other =
    let void : (at c.args.self.now (Register Box c.args.number)).value ≡ Boxed None = c.refill_box.ensures.old ∙ ap Boxed c.in-None.is in
    c.refill_box.ensures.new other ∙ refilled-same (at c.args.self.now) (Register Box c.args.number) (Boxed None) void other
    ∙ resized-void (at c.args.self.now) c.args.number c.args.part c.args.size (ap box_in void) other
