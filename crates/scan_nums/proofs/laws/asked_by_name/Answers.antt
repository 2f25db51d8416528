-- The names are computed.
use Rattle.std.proofs.Common.{refl}
use Rattle.tokens.specs.Primitives.{primitive_names, compatibility_names, extended_names, expandable_names, integer_parameters, dimension_parameters, glue_parameters, token_parameters, quantity_names, assignment_names, group_names, box_names, left_out_names, etex_expandable_names, etex_quantity_names, etex_other_names, etex_left_out_names}
use Rattle.scan_nums.proofs.laws.asked_by_name.Goals as goal

pub returns : goal.returns
unfolding primitive_names compatibility_names extended_names expandable_names integer_parameters dimension_parameters glue_parameters token_parameters quantity_names assignment_names group_names box_names left_out_names etex_expandable_names etex_quantity_names etex_other_names etex_left_out_names
returns c = refl
