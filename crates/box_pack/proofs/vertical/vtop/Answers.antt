use Rattle.std.proofs.Common.{◌≡◌, ℤ, Ok, ◌∙◌, ap, sym, rules}
use Rattle.std.proofs.lemmas.Int.{to_z-of_z}
use mir.Syntax.{w32}
use mir.Val.{to_z, of_z}
use Rattle.box_pack.specs.PackingVertical.{top_height}
use Rattle.box_pack.specs.PackingBoxes.{vpacked, moved_to, moved_down}
use Rattle.box_pack.proofs.vertical.vtop.Goals as goal

pub returns : goal.returns
returns c =
    let packed : vpacked c.args.list.items c.args.goal c.args.max_depth ≡ Ok c.in_ok-packed.packed =
    ap (λ (b : ℤ). vpacked c.args.list.items c.args.goal b) (sym (to_z-of_z w32 c.args.max_depth c.ranges.max_depth))
    ∙ sym c.vpack.ensures ∙ c.in_ok-packed.was in
    let top : to_z w32 (of_z w32 c.top_height-top.result) ≡ top_height c.args.list.items =
    to_z-of_z w32 c.top_height-top.result (search rules) ∙ c.top_height-top.ensures
    ∙ ap top_height c.as_slice.ensures.value in
    c.moved_to.ensures ∙ ap (λ (t : ℤ). moved_to t c.in_ok-packed.packed) top
    ∙ sym (ap (moved_down (top_height c.args.list.items)) packed)
