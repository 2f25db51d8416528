-- The table keeps its size, and each entry is a category.
use Rattle.std.proofs.Common.{◌∙◌}
use Rattle.std.proofs.lemmas.List.{length-set}
use Rattle.tokens.specs.Categories.{are_categories-set}
use Rattle.tokens.proofs.categories.CatTable.set.Goals as goal

pub invariant_of-self : goal.invariant_of-self
invariant_of-self c =
    (length-set _ _ _ ∙ c.self.invariant.0, are_categories-set _ c.args.byte _ c.self.invariant.1 c.requires)
