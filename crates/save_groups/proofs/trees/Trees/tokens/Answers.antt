-- A list that the tree doesn't know is that of the start.
use Rattle.std.proofs.Common.{ap, sym, ◌∙◌, List, []}
use Rattle.std.specs.Option.{option_copied}
use Rattle.tokens.specs.declared.token.Token.{Token}
use Rattle.sparse_regs.specs.Registers.{register_at}
use Rattle.save_groups.specs.declared.value.Value.TheVariants as value
use Rattle.save_groups.specs.declared.entry.Entry.{Entry}
use Rattle.save_groups.specs.Entries.{fresh}
use Rattle.save_groups.specs.InTrees.{entry_or}
use Rattle.save_groups.proofs.Cells.{found-list}
use Rattle.save_groups.proofs.trees.Trees.tokens.Goals as goal

pub returns : goal.returns
returns c =
    let found = found-list (register_at (fresh []) c.args.self.now.toks c.args.n) (option_copied c.get.result) c.get.ensures in
    ap (λ (e : Entry (List Token)). value.Tokens e.value) (sym found)
    ∙ ap value.Tokens (sym (c.value_or.ensures ∙ ap (λ start. (entry_or start (option_copied c.get.result)).value) c.requires))
