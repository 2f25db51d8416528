-- A box stands in a table or in a tree.
use Rattle.std.proofs.Common.{◌≡◌, ℕ, ◌≤◌, rules, arith}
use Rattle.std.proofs.lemmas.Bool.{le-leb}
use Rattle.tokens.specs.declared.meaning.RegKind.{RegKind}
use Rattle.tokens.specs.declared.meaning.RegKind.TheVariants.{Box}
use Rattle.save_groups.specs.declared.key.Key.{Key}
use Rattle.save_groups.specs.Entries as tables
use Rattle.save_groups.specs.InPlace.{resized_here}
use Rattle.save_groups.specs.InTrees.{cell, with_cell, with_sized}
use Rattle.save_groups.proofs.Held.{reached-further, resized-in-table, resized-in-tree}
use Rattle.save_groups.proofs.current.Current.set_box_size.Goals as goal

pub returns-then-number-lt-FIRST_IN_TREE-clause-new : goal.returns-then-number-lt-FIRST_IN_TREE-clause-new
returns-then-number-lt-FIRST_IN_TREE-clause-new c =
    let changed : (other : Key) → tables.at c.set_box_size.new.self other ≡ resized_here c.args.number c.args.part c.args.size (tables.at c.args.self.now.tables) other = search rules in
    resized-in-table c.args.self.now c.set_box_size.new.self c.args.number c.args.part c.args.size c.if-number-lt-FIRST_IN_TREE.true changed

pub returns-then-number-lt-FIRST_IN_TREE-clause-kept : goal.returns-then-number-lt-FIRST_IN_TREE-clause-kept
returns-then-number-lt-FIRST_IN_TREE-clause-kept c = reached-further c.args.self.now.tables c.set_box_size.new.self c.set_box_size.ensures.kept

pub returns-else-number-lt-FIRST_IN_TREE-clause-new : goal.returns-else-number-lt-FIRST_IN_TREE-clause-new
returns-else-number-lt-FIRST_IN_TREE-clause-new c =
    let changed : (k : RegKind) (m : ℕ) → cell c.set_box_size-else-number-lt-FIRST_IN_TREE.new.self k m
    ≡ with_cell Box c.args.number (with_sized c.args.part c.args.size (cell c.args.self.now.trees Box c.args.number)) (cell c.args.self.now.trees) k m = search rules in
    let inside : 256 ≤ c.args.number = omega (arith, c.if-number-lt-FIRST_IN_TREE.false) in
    resized-in-tree c.args.self.now c.set_box_size-else-number-lt-FIRST_IN_TREE.new.self c.args.number c.args.part c.args.size (le-leb 256 c.args.number inside) changed
