-- A reader whose parameter text is at its end waits for nothing.
use Rattle.macro_args.proofs.ScanLaws.{none_at_end}
use Rattle.macro_args.proofs.scan.ArgScan.step.Goals as goal

pub returns-in-End : goal.returns-in-End
returns-in-End c = λ sound waits. none_at_end _ _ c.self.view_is c.in-End.is waits
