-- What a setting makes of the glue of a box, with what is told of it.
-- From: tex.web, sections 657 to 667 and 672 to 678.
use Rattle.std.specs.Prelude.{ℤ}
use Rattle.box_pack.specs.declared.fit.Fit.{Fit}
use Rattle.box_pack.specs.PackingSetting.{Setting, glue_set_of}
use Rattle.box_pack.specs.PackingReports.{report_by, badness_by}

abbrev pub fit_of : ℤ → Setting → Fit
fit_of excess setting = record {
  set = glue_set_of excess setting;
  report = report_by excess setting;
  badness = badness_by excess setting;
}
