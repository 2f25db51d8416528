-- There are no children where each link is free.
use Rattle.std.proofs.Common.{◌≡◌, ap, sym, ◌∙◌}
use Rattle.std.specs.Prelude.{Option, ℕ}
use Rattle.std.specs.Option.{is_none}
use Rattle.std.specs.List.{list_all}
use Rattle.std.proofs.lemmas.List.Folds.{list_all-map}
use Rattle.sparse_regs.specs.ChildLinks.{child_of_link}
use Rattle.sparse_regs.proofs.children.Children.is_empty.Goals as goal

pub returns : goal.returns
returns c =
    c.are_empty.ensures
    ∙ sym (list_all-map (is_none {T = ℕ}) child_of_link c.self.inside.links)
    ∙ ap (list_all (is_none {T = ℕ})) c.self.view_is
