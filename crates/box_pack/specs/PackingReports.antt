-- How bad a box is, and what is to be reported of it.
-- From: The TeXbook, chapters 12 and 27; tex.web, sections 646, 658, 660, 664, 666, 667, 673, 674, 676, 677 and 678.
-- Whether something is printed is asked by whoever packed the box, by parameters that aren't known here: stretched and
-- shrunk boxes where their badness is above \hbadness or \vbadness, which may be negative, so that a badness of 0 is told
-- too; overfull ones where their excess is above \hfuzz or \vfuzz, or where \hbadness or \vbadness is below 100.
use Rattle.std.specs.Prelude.{ℕ, ℤ, pos, neg_ℤ, ◌-ℤ◌, nat_lt, if◌then◌else◌}
use Rattle.std.specs.Int.{int_min}
use Rattle.scaled.specs.declared.spacing.Order.TheVariants.{Normal, Fil, Fill, Filll}
use Rattle.scaled.specs.ArithmeticBadness.{badness_of}
use Rattle.box_pack.specs.declared.report.Report.{Report}
use Rattle.box_pack.specs.declared.report.Report.TheVariants.{None, Loose, Under, Tight, Over}
use Rattle.box_pack.specs.PackingSetting.{Setting, AsItIs, Stretched, Shrunk, Overfull}

-- what is said of a box whose finite glue stretches with this badness
abbrev pub stretched_report : ℕ → Report
stretched_report badness = if nat_lt 100 badness then Under badness else Loose badness

-- by how much an overfull box is too large, all its shrink used up; shown up to 2147483647
abbrev pub too_large : ℤ → ℤ → ℤ
too_large excess shrink = int_min (neg_ℤ excess -ℤ shrink) (pos 2147483647)

-- nothing is bad where infinite glue is used, or where glue stays as it is
abbrev pub badness_by : ℤ → Setting → ℕ
badness_by excess AsItIs = 0
badness_by excess (Stretched Normal total) = badness_of excess total
badness_by excess (Stretched Fil total) = 0
badness_by excess (Stretched Fill total) = 0
badness_by excess (Stretched Filll total) = 0
badness_by excess (Shrunk Normal total) = badness_of (neg_ℤ excess) total
badness_by excess (Shrunk Fil total) = 0
badness_by excess (Shrunk Fill total) = 0
badness_by excess (Shrunk Filll total) = 0
badness_by excess (Overfull total) = 1000000

-- and there nothing is to be reported
abbrev pub report_by : ℤ → Setting → Report
report_by excess AsItIs = None
report_by excess (Stretched Normal total) = stretched_report (badness_of excess total)
report_by excess (Stretched Fil total) = None
report_by excess (Stretched Fill total) = None
report_by excess (Stretched Filll total) = None
report_by excess (Shrunk Normal total) = Tight (badness_of (neg_ℤ excess) total)
report_by excess (Shrunk Fil total) = None
report_by excess (Shrunk Fill total) = None
report_by excess (Shrunk Filll total) = None
report_by excess (Overfull total) = Over (too_large excess total)
