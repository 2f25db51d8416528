-- The names stand in the tables at these places.
use Rattle.tokens.specs.Primitives.{primitive_names, compatibility_names, extended_names, expandable_names, integer_parameters, dimension_parameters, glue_parameters, token_parameters, quantity_names, assignment_names, group_names, box_names, left_out_names, etex_expandable_names, etex_quantity_names, etex_other_names, etex_left_out_names}
use Rattle.std.proofs.Common.{refl}
use Rattle.conditionals.proofs.laws.words_law.Goals as goal

pub returns : goal.returns
unfolding primitive_names compatibility_names extended_names expandable_names integer_parameters dimension_parameters glue_parameters token_parameters quantity_names assignment_names group_names box_names left_out_names etex_expandable_names etex_quantity_names etex_other_names etex_left_out_names
returns c = record {
  openers_named = refl;
  or_named = refl;
  else_named = refl;
  fi_named = refl;
  openers_open = refl;
}
