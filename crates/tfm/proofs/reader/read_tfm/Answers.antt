use Rattle.std.proofs.Common.{arith}
use Rattle.std.proofs.lemmas.Grind.{common_steps}
use Rattle.tfm.specs.FontMetrics.{metrics_of}
use Rattle.tfm.specs.FontMetricsLaws.{characters_of_metrics}
use Rattle.tfm.specs.FontMetricsLengths.{file_of}
use Rattle.tfm.proofs.reader.read_tfm.Goals as goal

pub returns-clause-characters : goal.returns-clause-characters
unfolding metrics_of file_of
returns-clause-characters c =
    characters_of_metrics c.args.bytes.now c.args.size c.in_ok-decode.field-0 (grind (arith, common_steps))
