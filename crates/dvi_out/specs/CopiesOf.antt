-- The copies that a value of `Spread` holds.
use Rattle.dvi_out.specs.declared.growth.Spread.{Spread}
use Rattle.dvi_out.specs.SpellingWalk.{Copies, copies}

abbrev pub counted : Spread → Copies
counted spread = copies spread.first spread.count spread.between
