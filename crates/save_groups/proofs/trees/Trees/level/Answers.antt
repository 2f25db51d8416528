-- An entry that the tree doesn't know has the level of the start.
use Rattle.std.proofs.Common.{ap, sym, ◌∙◌, List, []}
use Rattle.std.specs.Prelude.{ℤ, pos, Option, None}
use Rattle.std.specs.Option.{option_copied}
use Rattle.scaled.specs.declared.spacing.Glue.{Glue}
use Rattle.tokens.specs.declared.token.Token.{Token}
use Rattle.nodes.specs.declared.boxes.BoxNode.{BoxNode}
use Rattle.nodes.specs.declared.node.Node.{Node}
use Rattle.sparse_regs.specs.Registers.{register_at}
use Rattle.save_groups.specs.declared.entry.Entry.{Entry}
use Rattle.save_groups.specs.StartValues.{zero_glue}
use Rattle.save_groups.specs.Entries.{fresh}
use Rattle.save_groups.specs.InTrees.{cell}
use Rattle.save_groups.proofs.Cells.{found-number, found-glue, found-box, found-list}
use Rattle.save_groups.proofs.trees.Trees.level.Goals as goal

pub returns-in-Count : goal.returns-in-Count
returns-in-Count c =
    c.level_or.ensures (pos 0)
    ∙ ap (λ (e : Entry ℤ). e.level) (found-number (register_at (fresh (pos 0)) c.args.self.now.count c.args.n) (option_copied c.get.result) c.get.ensures)
    ∙ sym (ap (λ k. (cell c.args.self.now k c.args.n).value.level) c.in-Count.is)

pub returns-in-Dimen : goal.returns-in-Dimen
returns-in-Dimen c =
    c.level_or-in-Dimen.ensures (pos 0)
    ∙ ap (λ (e : Entry ℤ). e.level) (found-number (register_at (fresh (pos 0)) c.args.self.now.dimen c.args.n) (option_copied c.get-in-Dimen.result) c.get-in-Dimen.ensures)
    ∙ sym (ap (λ k. (cell c.args.self.now k c.args.n).value.level) c.in-Dimen.is)

pub returns-in-Skip : goal.returns-in-Skip
returns-in-Skip c =
    c.level_or-in-Skip.ensures zero_glue
    ∙ ap (λ (e : Entry Glue). e.level) (found-glue (register_at (fresh zero_glue) c.args.self.now.skip c.args.n) (option_copied c.get-in-Skip.result) c.get-in-Skip.ensures)
    ∙ sym (ap (λ k. (cell c.args.self.now k c.args.n).value.level) c.in-Skip.is)

pub returns-in-Muskip : goal.returns-in-Muskip
returns-in-Muskip c =
    c.level_or-in-Muskip.ensures zero_glue
    ∙ ap (λ (e : Entry Glue). e.level) (found-glue (register_at (fresh zero_glue) c.args.self.now.muskip c.args.n) (option_copied c.get-in-Muskip.result) c.get-in-Muskip.ensures)
    ∙ sym (ap (λ k. (cell c.args.self.now k c.args.n).value.level) c.in-Muskip.is)

pub returns-in-Box : goal.returns-in-Box
returns-in-Box c =
    c.level_or-in-Box.ensures None
    ∙ ap (λ (e : Entry (Option (BoxNode (List Node)))). e.level) (found-box (register_at (fresh None) c.args.self.now.boxes c.args.n) (option_copied c.get-in-Box.result) c.get-in-Box.ensures)
    ∙ sym (ap (λ k. (cell c.args.self.now k c.args.n).value.level) c.in-Box.is)

pub returns-in-Toks : goal.returns-in-Toks
returns-in-Toks c =
    c.level_or-in-Toks.ensures []
    ∙ ap (λ (e : Entry (List Token)). e.level) (found-list (register_at (fresh []) c.args.self.now.toks c.args.n) (option_copied c.get-in-Toks.result) c.get-in-Toks.ensures)
    ∙ sym (ap (λ k. (cell c.args.self.now k c.args.n).value.level) c.in-Toks.is)
