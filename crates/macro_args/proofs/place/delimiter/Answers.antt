-- The delimiter is what stands between the places, also where they lie past the end.
use Rattle.macro_args.proofs.PlaceLaws.{delimiter_there, delimiter_past}
use Rattle.macro_args.proofs.place.delimiter.Goals as goal

pub returns-then-end-parameters : goal.returns-then-end-parameters
returns-then-end-parameters c = delimiter_there c.args.parameters.now c.args.begin c.args.end

pub returns-else-begin-end : goal.returns-else-begin-end
returns-else-begin-end c = λ placed. delimiter_past c.args.parameters.now c.args.begin c.args.end placed c.else-begin-end.either
