use Rattle.world.specs.Output.{with_strip-followed, after_print-append}
use Rattle.world.proofs.LaidOut.{laid_out-printed}
use Rattle.world.proofs.laws.printing_laws.Goals as goal

pub returns-clause-compose : goal.returns-clause-compose
returns-clause-compose c = with_strip-followed

pub returns-clause-portions : goal.returns-clause-portions
returns-clause-portions c = after_print-append

pub returns-clause-lines : goal.returns-clause-lines
returns-clause-lines c = laid_out-printed
