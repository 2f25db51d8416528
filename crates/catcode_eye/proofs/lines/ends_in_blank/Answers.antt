use Rattle.catcode_eye.proofs.Trimmed.{OnTrue-blank, OnFalse-kept}
use Rattle.catcode_eye.proofs.lines.ends_in_blank.Goals as goal

pub returns-then-count-gt0-clause-blank : goal.returns-then-count-gt0-clause-blank
returns-then-count-gt0-clause-blank c =
    OnTrue-blank _ _ c.if-count-gt0.true c.requires _ c.is_blank.ensures

pub returns-then-count-gt0-clause-kept : goal.returns-then-count-gt0-clause-kept
returns-then-count-gt0-clause-kept c =
    OnFalse-kept _ _ c.if-count-gt0.true c.requires _ c.is_blank.ensures
