-- What the tables of the environment that is in force hold, and how far they reach.
use Rattle.std.specs.Prelude.{◌≡◌, ◌≤◌, [], length}
use Rattle.tokens.specs.declared.meaning.Meaning.TheVariants.{Undefined}
use Rattle.save_groups.specs.declared.tables.Tables.TheInside.{Inside}
use Rattle.std.specs.Coded.{Coded, codes}
use Rattle.nodes.specs.contracts.node.Node as node
use Rattle.save_groups.specs.Entries.{Entries}

-- tables are told apart by their parts, those of nodes too
pub entries_code : Coded Entries
entries_code = Prim.hlevel (codes, node.the_row.coded)

abbrev pub entries_of : Inside → Entries
entries_of c = record {
  counts = c.counts.items;
  dimens = c.dimens.items;
  skips = c.skips.items;
  muskips = c.muskips.items;
  boxes = c.boxes.items;
  lists = c.lists.items;
  number_parameters = c.number_parameters.items;
  glue_parameters = c.glue_parameters.items;
  token_parameters = c.token_parameters.items;
  categories = c.categories;
  category_levels = c.category_levels;
  codes = c.codes.items;
  names = c.names.items;
  actives = c.actives.items;
  font = c.font;
  families = c.families.items;
  shape = c.shape;
  penalties = c.penalties.items;
}

-- the parameters that are numbers, the codes and the arrays of penalties are all there
pub record AreFull (c : Inside) : Type 0 where
  pub parameters : length c.number_parameters.items ≡ 111
  pub categories : length c.categories ≡ 256
  pub category_levels : length c.category_levels ≡ 256
  pub codes : length c.codes.items ≡ 1280
  pub penalties : length c.penalties.items ≡ 4
  pub no_tokens : c.no_tokens ≡ []
  pub undefined : c.undefined ≡ Undefined
  -- boxes 0 to 255 are always there
  pub boxes : 256 ≤ length c.boxes.items
