-- A glue that the tree doesn't know is that of the start.
use Rattle.std.proofs.Common.{ap, sym, ◌∙◌}
use Rattle.std.specs.Option.{option_copied}
use Rattle.scaled.specs.declared.spacing.Glue.{Glue}
use Rattle.sparse_regs.specs.Registers.{register_at}
use Rattle.save_groups.specs.declared.value.Value.TheVariants as value
use Rattle.save_groups.specs.declared.entry.Entry.{Entry}
use Rattle.save_groups.specs.StartValues.{zero_glue}
use Rattle.save_groups.specs.Entries.{fresh}
use Rattle.save_groups.specs.InTrees.{cell, entry_or}
use Rattle.save_groups.proofs.Cells.{found-glue}
use Rattle.save_groups.proofs.trees.Trees.glue.Goals as goal

pub returns-in-Skip : goal.returns-in-Skip
returns-in-Skip c =
    let found = found-glue (register_at (fresh zero_glue) c.args.self.now.skip c.args.n) (option_copied c.get.result) c.get.ensures in
    ap (λ k. (cell c.args.self.now k c.args.n).value.value) c.in-Skip.is
    ∙ ap (λ (e : Entry Glue). value.Glue e.value) (sym found)
    ∙ ap value.Glue (sym (c.value_or.ensures ∙ ap (λ start. (entry_or start (option_copied c.get.result)).value) c.initial.ensures))

pub returns-in-Muskip : goal.returns-in-Muskip
returns-in-Muskip c =
    let found = found-glue (register_at (fresh zero_glue) c.args.self.now.muskip c.args.n) (option_copied c.get-in-Muskip.result) c.get-in-Muskip.ensures in
    ap (λ k. (cell c.args.self.now k c.args.n).value.value) c.in-Muskip.is
    ∙ ap (λ (e : Entry Glue). value.Glue e.value) (sym found)
    ∙ ap value.Glue (sym (c.value_or-in-Muskip.ensures ∙ ap (λ start. (entry_or start (option_copied c.get-in-Muskip.result)).value) c.initial-in-Muskip.ensures))
