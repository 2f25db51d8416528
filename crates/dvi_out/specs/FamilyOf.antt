-- The family that a value of `Movements` holds.
use Rattle.dvi_out.specs.declared.movements.Movements.{Movements}
use Rattle.dvi_out.specs.SpellingMovements.{Family, family}

abbrev pub family_of : Movements → Family
family_of movements = family movements.moves.items movements.open_places.items movements.began.items
