-- Packed boxes tell what their lists give.
use Rattle.std.proofs.Common.{◌≡◌, Bool, true, false, ◌||◌, ℤ, ◌-ℤ◌, List, Result, Ok, Err, IfOk, All, if◌then◌else◌, refl, subst, sym, arith}
use Rattle.std.proofs.lemmas.Bool.Decides.{nat_tests}
use Rattle.tokens.specs.declared.cap.Cap.TheVariants.{BoxNesting, Items, BoxSize}
use Rattle.tokens.specs.declared.stop.Stop.{Stop}
use Rattle.tokens.specs.declared.stop.Stop.TheVariants.{Capacity}
use Rattle.nodes.specs.declared.node.Node.{Node}
use Rattle.nodes.specs.declared.node.Node.TheOpen.{Node-F}
use Rattle.nodes.specs.declared.node.Node.TheVariants.{Boxed, rolls-Boxed}
use Rattle.nodes.specs.PackingTree.{TellsOfItsList, IsTold}
use Rattle.nodes.specs.PackingTold.{told_trees_are_built}
use Rattle.box_pack.specs.declared.extent.Extent.{Extent}
use Rattle.box_pack.specs.declared.packed.Packed.{Packed}
use Rattle.box_pack.specs.PackingHorizontal.{natural_width}
use Rattle.box_pack.specs.PackingVertical.{height_within, top_height}
use Rattle.box_pack.specs.PackingLimits.{is_too_deep, is_too_long, is_too_large, is_large}
use Rattle.box_pack.specs.PackingBoxes.{size_for, packed_over, hbox_extent, vbox_extent, vpacked, moved_extent, moved_down, with_extent}
use Rattle.box_pack.specs.PackingTells.{TellsOf, HboxesTell, VboxesTell, VtopsTell}

tells_of : (list : List Node) (packed : Packed) → packed.boxed.list ≡ list → TellsOfItsList packed.boxed → TellsOf list packed
tells_of list packed is tells = record {
  over = is;
  box = tells;
  tree = λ told. subst IsTold (rolls-Boxed packed.boxed)
      ((told_trees_are_built (Node-F.Boxed packed.boxed)).1 (tells, subst (All IsTold) (sym is) told));
}

over_list : (list : List Node) (vertical : Bool) (extent : Extent) (excess : ℤ) → is_too_deep list ≡ false →
    is_too_long list ≡ false → TellsOf list (packed_over list vertical extent excess)
over_list list vertical extent excess shallow short =
    tells_of list (packed_over list vertical extent excess) refl (record {
      nesting = grind (arith, nat_tests, shallow);
      count = grind (arith, nat_tests, short);
    })

within : (deep long large : Bool) (list : List Node) (vertical : Bool) (extent : Extent) (excess : ℤ) →
    is_too_deep list ≡ deep → is_too_long list ≡ long →
    IfOk (if deep then Err (Capacity BoxNesting) else
    (if long then Err (Capacity Items) else
    (if large then Err (Capacity BoxSize) else Ok (packed_over list vertical extent excess)))) (TellsOf list)
within true long large list vertical extent excess is also = tt
within false true large list vertical extent excess is also = tt
within false false true list vertical extent excess is also = tt
within false false false list vertical extent excess is also = over_list list vertical extent excess is also

pub hboxes_tell : HboxesTell
hboxes_tell list goal =
    within (is_too_deep list) (is_too_long list) (is_too_large (natural_width list) || is_large (hbox_extent list goal)) list false
    (hbox_extent list goal) (size_for goal (natural_width list) -ℤ natural_width list) refl refl

pub vboxes_tell : VboxesTell
vboxes_tell list goal bound =
    within (is_too_deep list) (is_too_long list) (is_too_large (height_within bound list) || is_large (vbox_extent list goal bound))
    list true (vbox_extent list goal bound) (size_for goal (height_within bound list) -ℤ height_within bound list) refl refl

moved : (large : Bool) (list : List Node) (extent : Extent) (packed : Packed) → TellsOf list packed →
    IfOk (if large then Err (Capacity BoxSize) else Ok (with_extent extent packed)) (TellsOf list)
moved true list extent packed tells = tt
moved false list extent packed tells =
    tells_of list (with_extent extent packed) tells.over (record { nesting = tells.box.nesting; count = tells.box.count })

down : (list : List Node) (height : ℤ) (result : Result Packed Stop) → IfOk result (TellsOf list) →
    IfOk (moved_down height result) (TellsOf list)
down list height (Ok packed) tells = moved (is_large (moved_extent height packed)) list (moved_extent height packed) packed tells
down list height (Err stop) tells = tt

pub vtops_tell : VtopsTell
vtops_tell list goal bound = down list (top_height list) (vpacked list goal bound) (vboxes_tell list goal bound)
