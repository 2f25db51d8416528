-- A reader of nothing.
use Rattle.std.specs.Prelude.{[]}
use Rattle.macro_args.proofs.ScanLaws.{scan_new}
use Rattle.macro_args.proofs.scan.ArgScan.new.Goals as goal

pub returns : goal.returns
returns c =
    scan_new c.args.rules c.args.parameters c.place_at-place.result _ c.requires (cc)
    (λ more. rw c.as_slice.ensures at (c.place_at-place.ensures.rest c.args.rules [] more))
    (rw c.as_slice.ensures at c.place_at-place.ensures.placed)
