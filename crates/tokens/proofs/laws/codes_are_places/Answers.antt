use Rattle.tokens.specs.NamedCodes.{codes-counted_through}
use Rattle.tokens.proofs.laws.codes_are_places.Goals as goal

pub returns : goal.returns
returns c = codes-counted_through
