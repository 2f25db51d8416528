-- The boxes that packing makes tell what their lists give.
-- From: the limits `box nesting` and `list items`, which are rules of this program.
use Rattle.std.specs.Prelude.{◌≡◌, ℤ, List, All, IfOk}
use Rattle.nodes.specs.declared.node.Node.{Node}
use Rattle.nodes.specs.declared.node.Node.TheVariants.{Boxed}
use Rattle.nodes.specs.PackingTree.{TellsOfItsList, IsTold}
use Rattle.box_pack.specs.declared.goal.Goal.{Goal}
use Rattle.box_pack.specs.declared.packed.Packed.{Packed}
use Rattle.box_pack.specs.PackingBoxes.{hpacked, vpacked, vtopped}

-- A box over a list that tells what the list gives. Where each box in the trees of the list does so, each box in its own
-- tree does so.
pub record TellsOf (list : List Node) (packed : Packed) : Type 0 where
  pub over : packed.boxed.list ≡ list
  pub box : TellsOfItsList packed.boxed
  pub tree : All IsTold list → IsTold (Boxed packed.boxed)

-- so does every box that a list is packed to
abbrev pub HboxesTell : Type 0
HboxesTell = (list : List Node) (goal : Goal) → IfOk (hpacked list goal) (TellsOf list)

abbrev pub VboxesTell : Type 0
VboxesTell = (list : List Node) (goal : Goal) (bound : ℤ) → IfOk (vpacked list goal bound) (TellsOf list)

abbrev pub VtopsTell : Type 0
VtopsTell = (list : List Node) (goal : Goal) (bound : ℤ) → IfOk (vtopped list goal bound) (TellsOf list)
