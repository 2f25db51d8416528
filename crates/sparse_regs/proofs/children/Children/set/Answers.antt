-- A child is set in the list of children where its link is set among the links.
use Rattle.std.proofs.Common.{◌≡◌, ap, sym, ◌∙◌}
use Rattle.std.specs.Prelude.{slice_set}
use Rattle.std.proofs.lemmas.List.{map-set}
use Rattle.sparse_regs.specs.ChildLinks.{child_of_link}
use Rattle.sparse_regs.proofs.children.Children.set.Goals as goal

pub returns : goal.returns
returns c =
    map-set child_of_link c.self.inside.links c.args.digit c.link_of.result
    ∙ ap (slice_set _ c.args.digit) c.link_of.ensures
    ∙ ap (λ xs. slice_set xs c.args.digit c.args.child) c.self.view_is
