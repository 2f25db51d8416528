-- A name that is there keeps its id.
use Rattle.tokens.specs.Names.{interned-known}
use Rattle.tokens.proofs.names.NameTable.intern.Goals as goal

pub returns-in-Some-clause-ok : goal.returns-in-Some-clause-ok
returns-in-Some-clause-ok c =
    interned-known _ _ _ c.in-Some.ensures.distinct c.in-Some.ensures.place.0 c.in-Some.ensures.place.1
