-- Behind the last primitive there is no name.
use Rattle.std.proofs.Common.{[], arith, sym}
use Rattle.std.proofs.lemmas.List.{get_or_past}
use Rattle.tokens.specs.Primitives.{primitive_names, length-primitive_names}
use Rattle.tokens.proofs.primitives.name_bytes.Goals as goal

pub returns-else-code-lt-PRIMITIVE_COUNT : goal.returns-else-code-lt-PRIMITIVE_COUNT
returns-else-code-lt-PRIMITIVE_COUNT c =
    sym (get_or_past primitive_names c.args.code [] (omega (arith, length-primitive_names)))
