use Rattle.tokens.specs.Parameters.{places-counted_through, kinds-follow}
use Rattle.tokens.proofs.laws.parameters_have_their_places.Goals as goal

pub returns-clause-places : goal.returns-clause-places
returns-clause-places c = places-counted_through

pub returns-clause-kinds : goal.returns-clause-kinds
returns-clause-kinds c = kinds-follow
