-- The tables are those of the start.
use Rattle.std.proofs.Common.{◌+◌, ap, ◌∙◌, refl, length, arith}
use Rattle.save_groups.proofs.Starting.{at_start, length-start_numbers, length-start_codes, length-start_levels, length-start_boxes, length-start_penalties, length-initial_categories}
use Rattle.save_groups.specs.StartTables.{start_names}
use Rattle.save_groups.specs.Holding.{named_in}
use Rattle.save_groups.proofs.Naming.{named-start}
use Rattle.save_groups.proofs.tables.Tables.new.Goals as goal

pub invariant_of-result : goal.invariant_of-result
invariant_of-result c = record {
  parameters = ap length c.in_ok-start_numbers.ensures ∙ length-start_numbers;
  categories = ap length c.initial.ensures ∙ length-initial_categories;
  category_levels = ap length c.start_levels.ensures ∙ length-start_levels;
  codes = ap length c.in_ok-start_codes.ensures ∙ length-start_codes;
  penalties = ap length c.in_ok-start_penalties.ensures ∙ length-start_penalties;
  no_tokens = c.empty.ensures;
  undefined = refl;
  boxes = omega (arith, ap length c.in_ok-start_boxes.ensures ∙ length-start_boxes);
}

pub returns-clause-start : goal.returns-clause-start
returns-clause-start c = at_start c.args.extended _ (record {
  counts = c.new.ensures.items;
  dimens = c.new-2.ensures.items;
  skips = c.new-3.ensures.items;
  muskips = c.new-4.ensures.items;
  boxes = c.in_ok-start_boxes.ensures;
  lists = c.new-5.ensures.items;
  number_parameters = c.in_ok-start_numbers.ensures;
  glue_parameters = c.new-6.ensures.items;
  token_parameters = c.new-7.ensures.items;
  categories = c.initial.ensures;
  category_levels = c.start_levels.ensures;
  codes = c.in_ok-start_codes.ensures;
  names = c.in_ok-start_names.ensures;
  actives = c.new-8.ensures.items;
  font = refl;
  families = c.new-9.ensures.items;
  shape = c.table_entry.ensures;
  penalties = c.in_ok-start_penalties.ensures;
})

pub returns-clause-named : goal.returns-clause-named
returns-clause-named c key =
    ap (λ table. named_in key table + named_in key c.new-8.result.items) c.in_ok-start_names.ensures
    ∙ ap (λ table. named_in key (start_names c.args.extended) + named_in key table) c.new-8.ensures.items
    ∙ ap (λ n. n + 0) (named-start key c.args.extended)
