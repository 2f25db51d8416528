-- What begins with no quantity to be asked for begins with the width.
use Rattle.std.proofs.Common.{false, ◌∷◌, sym, ◌∙◌}
use Rattle.scan_nums.specs.Taken.{Seen}
use Rattle.scan_nums.specs.Dimension.{signed_dimension}
use Rattle.scan_nums.specs.Glue.{behind_width, signed_glue}
use Rattle.scan_nums.proofs.GlueLaws.{glue_accent, glue_octal, glue_hexadecimal, glue_given, glue_other, glue_along}
use Rattle.scan_nums.proofs.glue_scan.begin.Goals as goal

pub returns-in-Accent-clause-leads : goal.returns-in-Accent-clause-leads
returns-in-Accent-clause-leads c =
    glue_along c.args.mu (λ more. signed_glue c.args.mu c.args.negative (Seen c.args.token c.args.meaning.now ∷ more))
    (λ more. signed_dimension c.args.mu false c.args.negative (behind_width c.args.mu) (Seen c.args.token c.args.meaning.now ∷ more)) _
    (λ more. glue_accent c.args.mu c.args.negative c.args.token c.args.meaning.now more (sym c.requires ∙ c.in-Accent.is)) c.begin_width.ensures.leads

pub returns-in-Octal-clause-leads : goal.returns-in-Octal-clause-leads
returns-in-Octal-clause-leads c =
    glue_along c.args.mu (λ more. signed_glue c.args.mu c.args.negative (Seen c.args.token c.args.meaning.now ∷ more))
    (λ more. signed_dimension c.args.mu false c.args.negative (behind_width c.args.mu) (Seen c.args.token c.args.meaning.now ∷ more)) _
    (λ more. glue_octal c.args.mu c.args.negative c.args.token c.args.meaning.now more (sym c.requires ∙ c.in-Octal.is)) c.begin_width-in-Octal.ensures.leads

pub returns-in-Hexadecimal-clause-leads : goal.returns-in-Hexadecimal-clause-leads
returns-in-Hexadecimal-clause-leads c =
    glue_along c.args.mu (λ more. signed_glue c.args.mu c.args.negative (Seen c.args.token c.args.meaning.now ∷ more))
    (λ more. signed_dimension c.args.mu false c.args.negative (behind_width c.args.mu) (Seen c.args.token c.args.meaning.now ∷ more)) _
    (λ more. glue_hexadecimal c.args.mu c.args.negative c.args.token c.args.meaning.now more (sym c.requires ∙ c.in-Hexadecimal.is)) c.begin_width-in-Hexadecimal.ensures.leads

pub returns-in-Given-clause-leads : goal.returns-in-Given-clause-leads
returns-in-Given-clause-leads c =
    glue_along c.args.mu (λ more. signed_glue c.args.mu c.args.negative (Seen c.args.token c.args.meaning.now ∷ more))
    (λ more. signed_dimension c.args.mu false c.args.negative (behind_width c.args.mu) (Seen c.args.token c.args.meaning.now ∷ more)) _
    (λ more. glue_given c.args.mu c.args.negative c.args.token c.args.meaning.now more c.in-Given.field-0 (sym c.requires ∙ c.in-Given.is)) c.begin_width-in-Given.ensures.leads

pub returns-in-Other-clause-leads : goal.returns-in-Other-clause-leads
returns-in-Other-clause-leads c =
    glue_along c.args.mu (λ more. signed_glue c.args.mu c.args.negative (Seen c.args.token c.args.meaning.now ∷ more))
    (λ more. signed_dimension c.args.mu false c.args.negative (behind_width c.args.mu) (Seen c.args.token c.args.meaning.now ∷ more)) _
    (λ more. glue_other c.args.mu c.args.negative c.args.token c.args.meaning.now more (sym c.requires ∙ c.in-Other.is)) c.begin_width-in-Other.ensures.leads
