-- What the automaton keeps: of each expression whose end wasn't read its sort, and the values of the sum and of the
-- product in front of what comes next (level.rt).
use Rattle.std.specs.Prelude.{List}
use Rattle.etex_exprs.specs.declared.sort.Sort.{Sort}
use Rattle.etex_exprs.specs.declared.sort.Sort.TheVariants.{Whole}
use Rattle.etex_exprs.specs.declared.level.Lead as lead
use Rattle.etex_exprs.specs.declared.level.Product as product
use Rattle.etex_exprs.specs.declared.level.Product.TheVariants as products
use Rattle.etex_exprs.specs.declared.level.Level.{Level}
use Rattle.etex_exprs.specs.declared.place.Place.{Place}

-- the innermost level, those outside it from the inside, and the place in the innermost
pub record State : Type 0 where
  pub level : Level
  pub outer : List Level
  pub place : Place

abbrev pub level_with : Sort → lead.Lead → product.Product → Level
level_with sort l p = record { sort = sort; lead = l; product = p }

-- the sort of the factor behind a product
abbrev pub sort_behind : product.Product → Sort → Sort
sort_behind products.Nothing sort = sort
sort_behind (products.Times g) sort = Whole
sort_behind (products.Over g) sort = Whole
sort_behind (products.Fraction g n) sort = Whole

abbrev pub factor_sort : Level → Sort
factor_sort l = sort_behind l.product l.sort
