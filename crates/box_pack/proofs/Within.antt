-- A number within a bound is within a greater one.
use Rattle.std.proofs.Common.{◌≡◌, ℕ, ◌≤◌, ℤ, arith}
use Rattle.std.proofs.lemmas.Int.{ints}
use mir.Syntax.{w64}
use mir.Val.{to_z, of_z}
use Rattle.box_pack.specs.declared.flexibility.Flexibility.{Flexibility}
use Rattle.box_pack.specs.declared.flexibility.GlueTotals.{GlueTotals}
use Rattle.box_pack.specs.declared.horizontal.Sizes as horizontal
use Rattle.box_pack.specs.declared.vertical.Sizes as vertical
use Rattle.box_pack.specs.GlueSums.{IsWithin, EachWithin, BothWithin}
use Rattle.box_pack.specs.HorizontalSizes as hbox
use Rattle.box_pack.specs.VerticalSizes as vbox

-- a number that is stored in 64 bits
pub stored : (z : ℤ) → IsWithin 2305843009213693952 z → to_z w64 (of_z w64 z) ≡ z
stored z within = let low = within.low in let high = within.high in omega (arith, ints)

pub IsWithin-le : (m n : ℕ) (z : ℤ) → m ≤ n → IsWithin m z → IsWithin n z
IsWithin-le m n z le within = record {
  low = let low = within.low in omega (arith, ints);
  high = let high = within.high in omega (arith, ints);
}

pub EachWithin-le : (m n : ℕ) (flexibility : Flexibility) → m ≤ n → EachWithin m flexibility → EachWithin n flexibility
EachWithin-le m n flexibility le within = record {
  normal = IsWithin-le m n flexibility.normal le within.normal;
  fil = IsWithin-le m n flexibility.fil le within.fil;
  fill = IsWithin-le m n flexibility.fill le within.fill;
  filll = IsWithin-le m n flexibility.filll le within.filll;
}

pub BothWithin-le : (m n : ℕ) (totals : GlueTotals) → m ≤ n → BothWithin m totals → BothWithin n totals
BothWithin-le m n totals le within = record {
  stretch = EachWithin-le m n totals.stretch le within.stretch;
  shrink = EachWithin-le m n totals.shrink le within.shrink;
}

pub HorizontalWithin-le : (m n : ℕ) (sizes : horizontal.Sizes) → m ≤ n → hbox.AreWithin m sizes → hbox.AreWithin n sizes
HorizontalWithin-le m n sizes le within = record {
  width = IsWithin-le m n sizes.width le within.width;
  high = within.high;
  deep = within.deep;
  glue = BothWithin-le m n sizes.glue le within.glue;
}

pub VerticalWithin-le : (m n : ℕ) (sizes : vertical.Sizes) → m ≤ n → vbox.AreWithin m sizes → vbox.AreWithin n sizes
VerticalWithin-le m n sizes le within = record {
  length = IsWithin-le m n sizes.length le within.length;
  wide = within.wide;
  hanging = within.hanging;
  glue = BothWithin-le m n sizes.glue le within.glue;
}
