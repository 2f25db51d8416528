-- What one token does to the reader is what it does to the whole list.
use Rattle.std.proofs.lemmas.Result.{IfOk-weaker}
use Rattle.macro_args.proofs.ScanLaws.{scan_tells, scan_waits}
use Rattle.macro_args.proofs.scan.ArgScan.take.Goals as goal

pub returns : goal.returns
returns c = record {
  tells = IfOk-weaker c.step.result _ _
      (λ verdict steps rules parameters taken stands.
      scan_tells rules parameters taken _ _ _ verdict stands (steps stands.sound (scan_waits rules parameters taken _ stands)))
      c.step.ensures;
}
