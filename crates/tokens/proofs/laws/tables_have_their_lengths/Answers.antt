use Rattle.tokens.specs.Primitives.{length-compatibility_names, length-primitive_names}
use Rattle.tokens.proofs.laws.tables_have_their_lengths.Goals as goal

pub returns-clause-tables : goal.returns-clause-tables
returns-clause-tables c = (length-compatibility_names, length-primitive_names)
