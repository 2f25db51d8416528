-- Each state hands its token to its function.
use Rattle.std.proofs.Common.{◌≡◌, ◌∷◌, rules}
use Rattle.scaled.specs.declared.spacing.Order.TheVariants as order
use Rattle.scan_nums.specs.Taken.{Seen}
use Rattle.scan_nums.specs.Glue.{behind_stretch, behind_width}
use Rattle.scan_nums.specs.GlueStanding.{glue_rest, stretch_step, width_step, word_step}
use Rattle.scan_nums.specs.declared.glue_state.GlueState.TheVariants.{Signs, Part, BehindWidth, BehindStretch, Word}
use Rattle.scan_nums.proofs.GlueLaws.{glue_state, glue_to, width_leads, stretch_leads, word_leads, width_step_waits, stretch_step_waits, word_step_waits}
use Rattle.scan_nums.proofs.glue_scan.take_token.Goals as goal

pub returns-in-Signs-clause-leads : goal.returns-in-Signs-clause-leads
returns-in-Signs-clause-leads c =
    glue_state c.args.mu c.args.state (Signs c.in-Signs.negative) (Seen c.args.token c.args.meaning.now) _ c.in-Signs.is c.begin.ensures.leads

pub returns-in-Part-clause-leads : goal.returns-in-Part-clause-leads
returns-in-Part-clause-leads c =
    glue_state c.args.mu c.args.state (Part c.in-Part.part c.in-Part.state) (Seen c.args.token c.args.meaning.now) _ c.in-Part.is c.take_in_part.ensures.leads

pub returns-in-BehindWidth-clause-leads : goal.returns-in-BehindWidth-clause-leads
returns-in-BehindWidth-clause-leads c =
    let e : c.behind_width.result ≡ width_step c.args.mu c.in-BehindWidth.width c.is_space.result c.letter_of.result = search rules in
    glue_state c.args.mu c.args.state (BehindWidth c.in-BehindWidth.width) (Seen c.args.token c.args.meaning.now) _ c.in-BehindWidth.is
    (glue_to c.args.mu (λ more. behind_width c.args.mu c.in-BehindWidth.width order.Normal (Seen c.args.token c.args.meaning.now ∷ more)) c.behind_width.result _ e
    (width_leads c.args.mu c.in-BehindWidth.width order.Normal (Seen c.args.token c.args.meaning.now) c.is_space.result c.letter_of.result c.is_space.ensures c.letter_of.ensures))

pub returns-in-BehindStretch-clause-leads : goal.returns-in-BehindStretch-clause-leads
returns-in-BehindStretch-clause-leads c =
    let e : c.behind_stretch.result ≡ stretch_step c.args.mu c.in-BehindStretch.width c.in-BehindStretch.stretch c.in-BehindStretch.order c.is_space-in-BehindStretch.result c.letter_of-in-BehindStretch.result = search rules in
    glue_state c.args.mu c.args.state (BehindStretch c.in-BehindStretch.width c.in-BehindStretch.stretch c.in-BehindStretch.order) (Seen c.args.token c.args.meaning.now) _ c.in-BehindStretch.is
    (glue_to c.args.mu (λ more. behind_stretch c.args.mu c.in-BehindStretch.width c.in-BehindStretch.stretch c.in-BehindStretch.order (Seen c.args.token c.args.meaning.now ∷ more)) c.behind_stretch.result _ e
    (stretch_leads c.args.mu c.in-BehindStretch.width c.in-BehindStretch.stretch c.in-BehindStretch.order (Seen c.args.token c.args.meaning.now) c.is_space-in-BehindStretch.result c.letter_of-in-BehindStretch.result c.is_space-in-BehindStretch.ensures c.letter_of-in-BehindStretch.ensures))

pub returns-in-Word-clause-leads : goal.returns-in-Word-clause-leads
returns-in-Word-clause-leads c =
    glue_state c.args.mu c.args.state (Word c.in-Word.part c.in-Word.letters) (Seen c.args.token c.args.meaning.now) _ c.in-Word.is
    (glue_to c.args.mu (λ more. glue_rest c.args.mu (Word c.in-Word.part c.in-Word.letters) (Seen c.args.token c.args.meaning.now) more) c.behind_letters.result _ c.behind_letters.ensures
    (word_leads c.args.mu c.in-Word.part c.in-Word.letters (Seen c.args.token c.args.meaning.now) c.letter_of-in-Word.result c.letter_of-in-Word.ensures))

pub returns-in-BehindWidth-clause-awaits : goal.returns-in-BehindWidth-clause-awaits
returns-in-BehindWidth-clause-awaits c =
    let e : c.behind_width.result ≡ width_step c.args.mu c.in-BehindWidth.width c.is_space.result c.letter_of.result = search rules in
    width_step_waits c.args.mu c.in-BehindWidth.width c.is_space.result c.letter_of.result c.behind_width.result e

pub returns-in-BehindStretch-clause-awaits : goal.returns-in-BehindStretch-clause-awaits
returns-in-BehindStretch-clause-awaits c =
    let e : c.behind_stretch.result ≡ stretch_step c.args.mu c.in-BehindStretch.width c.in-BehindStretch.stretch c.in-BehindStretch.order c.is_space-in-BehindStretch.result c.letter_of-in-BehindStretch.result = search rules in
    stretch_step_waits c.args.mu c.in-BehindStretch.width c.in-BehindStretch.stretch c.in-BehindStretch.order c.is_space-in-BehindStretch.result c.letter_of-in-BehindStretch.result c.behind_stretch.result e

pub returns-in-Word-clause-awaits : goal.returns-in-Word-clause-awaits
returns-in-Word-clause-awaits c =
    word_step_waits c.args.mu c.in-Word.part c.in-Word.letters c.letter_of-in-Word.result c.behind_letters.result c.behind_letters.ensures
