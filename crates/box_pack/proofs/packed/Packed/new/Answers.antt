use Rattle.std.proofs.Common.{◌==◌, length, ◌∙◌, ap, rules}
use Rattle.std.proofs.lemmas.Int.{to_z-of_z}
use mir.Syntax.{w32, w64}
use mir.Val.{to_z, of_z}
use Rattle.box_pack.specs.PackingBoxes.{is_empty}
use Rattle.box_pack.specs.GlueSums.{glue_totals}
use Rattle.box_pack.proofs.Results.{packed_over-is, same_fit, length_none}
use Rattle.box_pack.proofs.packed.Packed.new.Goals as goal

pub returns : goal.returns
returns c =
    packed_over-is c.args.list.items c.from_vec.result c.args.vertical (to_z w32 (of_z w32 c.args.plan.extent.width))
    (to_z w32 (of_z w32 c.args.plan.extent.height)) (to_z w32 (of_z w32 c.args.plan.extent.depth))
    c.args.plan.extent c.args.plan.excess c.new-fit.result c.args.measure.nesting c.args.measure.count
    c.from_vec.ensures
    (to_z-of_z w32 c.args.plan.extent.width (search rules))
    (to_z-of_z w32 c.args.plan.extent.height (search rules))
    (to_z-of_z w32 c.args.plan.extent.depth (search rules))
    (c.new-fit.ensures
    ∙ same_fit c.is_empty.result (is_empty c.args.list.items) (to_z w64 (of_z w64 c.args.plan.excess)) c.args.plan.excess
    c.args.glue.now (glue_totals c.args.list.items)
    (c.is_empty.ensures ∙ ap (λ l. length l == 0) c.as_slice.ensures.value ∙ length_none c.args.list.items)
    (to_z-of_z w64 c.args.plan.excess (search rules)) c.requires.glue)
    c.requires.nesting c.requires.count
