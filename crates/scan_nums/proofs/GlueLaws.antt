-- What one thing more leads a reader of glue to.
use Rattle.std.proofs.Common.{◌≡◌, ℕ, ◌+◌, ◌==◌, Bool, true, false, cond, ℤ, pos, Option, Some, None, List, [], ◌∷◌, ◌++◌, refl, sym, ◌∙◌, ap, subst, append_assoc}
use Rattle.std.specs.Prelude.{codes}
use Rattle.scaled.specs.declared.spacing.Order.{Order}
use Rattle.scaled.specs.declared.spacing.Order.TheVariants as order
use Rattle.tokens.specs.declared.token.Token.{Token}
use Rattle.tokens.specs.declared.meaning.Meaning.{Meaning}
use Rattle.scan_nums.specs.declared.start.Start.TheVariants.{Accent, Octal, Hexadecimal, Given, Other}
use Rattle.scan_nums.specs.declared.verdict.Verdict.{Verdict}
use Rattle.scan_nums.specs.declared.verdict.Verdict.TheVariants.{Need, DoneBefore}
use Rattle.scan_nums.specs.declared.dimen_state.DimenKind.{DimenKind}
use Rattle.scan_nums.specs.declared.dimen_state.DimenState.{DimenState}
use Rattle.scan_nums.specs.declared.dimen_state.DimenState.TheVariants as dimen
use Rattle.scan_nums.specs.declared.dimen_state.DimenStep.{DimenStep}
use Rattle.scan_nums.specs.declared.dimen_state.DimenStep.TheVariants.{Going, Finished}
use Rattle.scan_nums.specs.declared.glue_state.GluePart.{GluePart}
use Rattle.scan_nums.specs.declared.glue_state.GluePart.TheVariants.{Width, Stretch, Shrink}
use Rattle.scan_nums.specs.declared.glue_state.PartLetters.{PartLetters}
use Rattle.scan_nums.specs.declared.glue_state.PartLetters.TheVariants as letters
use Rattle.scan_nums.specs.declared.glue_state.GlueState.{GlueState}
use Rattle.scan_nums.specs.declared.glue_state.GlueState.TheVariants.{Word, Ended}
use Rattle.scan_nums.specs.Awaited.{awaited_after, WhileOpen}
use Rattle.scan_nums.specs.Taken.{Taken, Seen}
use Rattle.scan_nums.specs.Starts.{start_of}
use Rattle.scan_nums.specs.Constants.{behind, taken_space}
use Rattle.scan_nums.specs.Keywords.{Words, Whole, NoWord, alone, words_of, after_letter, at_letter, behind_letter, keyword, taken_letter}
use Rattle.scan_nums.specs.Dimension.{signed_dimension}
use Rattle.scan_nums.specs.DimenStanding.{Says, Leads, StepAwaits, state_rest}
use Rattle.scan_nums.specs.Glue.{Behind, glue_of, behind_width, behind_stretch, stretch_part, shrink_part, signed_glue, glue}
use Rattle.scan_nums.specs.GlueStanding.{orders_of, next_of, part_says, glue_without, word_left, part_letters_read, glue_awaits, glue_rest, GlueStands, GlueLeads, broken_step, part_step, width_letter_step, width_step, stretch_letter_step, stretch_step, word_step, ended_step, ended_before_step, followed_step}
use Rattle.scan_nums.proofs.ConstantLaws.{while_open_along}

-- ---- one saying for another

pub glue_along : (mu : Bool) (says others : Behind) (step : GlueState × Verdict) → ((more : List Taken) → says more ≡ others more)
    → GlueLeads mu others step → GlueLeads mu says step
glue_along mu says others step same leads =
    (same [] ∙ leads.0, while_open_along step.1 _ _ (λ kept y more. same (y ∷ more) ∙ kept y more) leads.1)

pub glue_to : (mu : Bool) (says : Behind) (step same : GlueState × Verdict) → step ≡ same → GlueLeads mu says same → GlueLeads mu says step
glue_to mu says step same e leads = let P : GlueState × Verdict → Type 0 = λ s. GlueLeads mu says s in subst P (sym e) leads

pub glue_state : (mu : Bool) (before same : GlueState) (x : Taken) (step : GlueState × Verdict) → before ≡ same
    → GlueLeads mu (λ more. glue_rest mu same x more) step → GlueLeads mu (λ more. glue_rest mu before x more) step
glue_state mu before same x step e leads =
    let P : GlueState → Type 0 = λ s. GlueLeads mu (λ more. glue_rest mu s x more) step in subst P (sym e) leads

-- ---- keywords

-- the letters so far may be followed, or not
broken_or_more : (mu : Bool) (part : GluePart) (ls : PartLetters) (words : Words Behind) (read : ℕ) (b : Bool)
    → GlueLeads mu (λ more. after_letter words (DoneBefore (glue_without mu part) read) (λ says. says more)
    (keyword words read (λ says rest. says rest) (λ n rest. DoneBefore (glue_without mu part) n) more)) (Word part ls, Need)
    → GlueLeads mu (λ more. after_letter (cond b words NoWord) (DoneBefore (glue_without mu part) read) (λ says. says more)
    (keyword (cond b words NoWord) read (λ says rest. says rest) (λ n rest. DoneBefore (glue_without mu part) n) more)) (cond b (Word part ls, Need) (broken_step mu part read))
broken_or_more mu part ls words read true leads = leads
broken_or_more mu part ls words read false leads = (refl, tt)

part_begins : (mu : Bool) (part : GluePart) → GlueLeads mu (part_says mu part) (part_step part)
part_begins mu Width = (refl, λ y more. refl)
part_begins mu (Stretch w) = (refl, λ y more. refl)
part_begins mu (Shrink w s so) = (refl, λ y more. refl)

broken_or_whole : (mu : Bool) (part : GluePart) (read : ℕ) (b : Bool)
    → GlueLeads mu (λ more. after_letter (cond b (Whole (part_says mu part)) NoWord) (DoneBefore (glue_without mu part) read) (λ says. says more)
    (keyword (cond b (Whole (part_says mu part)) NoWord) read (λ says rest. says rest) (λ n rest. DoneBefore (glue_without mu part) n) more)) (cond b (part_step part) (broken_step mu part read))
broken_or_whole mu part read true = part_begins mu part
broken_or_whole mu part read false = (refl, tt)

abbrev letter_says : Bool → GluePart → PartLetters → Option ℕ → Behind
letter_says mu part ls letter more =
    after_letter (behind_letter letter (word_left ls (part_says mu part))) (DoneBefore (glue_without mu part) (part_letters_read ls + 1)) (λ says. says more)
    (keyword (behind_letter letter (word_left ls (part_says mu part))) (part_letters_read ls + 1) (λ says rest. says rest) (λ n rest. DoneBefore (glue_without mu part) n) more)

letter_leads : (mu : Bool) (part : GluePart) (ls : PartLetters) (letter : Option ℕ) → GlueLeads mu (letter_says mu part ls letter) (word_step mu part ls letter)
letter_leads mu part letters.P None = (refl, tt)
letter_leads mu part letters.Pl None = (refl, tt)
letter_leads mu part letters.Plu None = (refl, tt)
letter_leads mu part letters.M None = (refl, tt)
letter_leads mu part letters.Mi None = (refl, tt)
letter_leads mu part letters.Min None = (refl, tt)
letter_leads mu part letters.Minu None = (refl, tt)
letter_leads mu part letters.P (Some l) = broken_or_more mu part letters.Pl (alone (codes "us") (part_says mu part)) 2 (l == 108) (refl, λ y more. refl)
letter_leads mu part letters.Pl (Some l) = broken_or_more mu part letters.Plu (alone (codes "s") (part_says mu part)) 3 (l == 117) (refl, λ y more. refl)
letter_leads mu part letters.Plu (Some l) = broken_or_whole mu part 4 (l == 115)
letter_leads mu part letters.M (Some l) = broken_or_more mu part letters.Mi (alone (codes "nus") (part_says mu part)) 2 (l == 105) (refl, λ y more. refl)
letter_leads mu part letters.Mi (Some l) = broken_or_more mu part letters.Min (alone (codes "us") (part_says mu part)) 3 (l == 110) (refl, λ y more. refl)
letter_leads mu part letters.Min (Some l) = broken_or_more mu part letters.Minu (alone (codes "s") (part_says mu part)) 4 (l == 117) (refl, λ y more. refl)
letter_leads mu part letters.Minu (Some l) = broken_or_whole mu part 5 (l == 115)

pub word_leads : (mu : Bool) (part : GluePart) (ls : PartLetters) (x : Taken) (letter : Option ℕ) → letter ≡ taken_letter x
    → GlueLeads mu (λ more. glue_rest mu (Word part ls) x more) (word_step mu part ls letter)
word_leads mu part ls x letter e =
    let P : Option ℕ → Type 0 = λ l. GlueLeads mu (λ more. glue_rest mu (Word part ls) x more) (word_step mu part ls l) in
    subst P (sym e) (letter_leads mu part ls (taken_letter x))

-- ---- behind a width and a stretch

abbrev width_words : Bool → ℤ → Words Behind
width_words mu w = words_of ((codes "plus", stretch_part mu w) ∷ (codes "minus", shrink_part mu w (pos 0) order.Normal) ∷ [])

abbrev stretch_words : Bool → ℤ → ℤ → Order → Words Behind
stretch_words mu w s so = words_of ((codes "minus", shrink_part mu w s so) ∷ [])

abbrev first_says : Words Behind → Bool → GluePart → Behind
first_says words mu part more =
    after_letter words (DoneBefore (glue_without mu part) 1) (λ says. says more)
    (keyword words 1 (λ says rest. says rest) (λ n rest. DoneBefore (glue_without mu part) n) more)

width_by : (mu : Bool) (w : ℤ) (p m : Bool)
    → GlueLeads mu (first_says (cond p (alone (codes "lus") (stretch_part mu w)) (cond m (alone (codes "inus") (shrink_part mu w (pos 0) order.Normal)) NoWord)) mu (Stretch w))
    (cond p (Word (Stretch w) letters.P, Need) (cond m (Word (Shrink w (pos 0) order.Normal) letters.M, Need) (broken_step mu (Stretch w) 1)))
width_by mu w true m = (refl, λ y more. refl)
width_by mu w false true = (refl, λ y more. refl)
width_by mu w false false = (refl, tt)

width_letter : (mu : Bool) (w : ℤ) (letter : Option ℕ) → GlueLeads mu (first_says (behind_letter letter (width_words mu w)) mu (Stretch w)) (width_letter_step mu w letter)
width_letter mu w None = (refl, tt)
width_letter mu w (Some l) = width_by mu w (l == 112) (l == 109)

width_space : (mu : Bool) (w : ℤ) (o : Order) (x : Taken) (space : Bool)
    → GlueLeads mu (λ more. keyword (width_words mu w) 0 (λ says rest. says rest) (λ n rest. DoneBefore (glue_without mu (Stretch w)) n) (cond space (behind taken_space more) (x ∷ more)))
    (width_step mu w space (taken_letter x))
width_space mu w o x true = (refl, λ y more. refl)
width_space mu w o x false = width_letter mu w (taken_letter x)

pub width_leads : (mu : Bool) (w : ℤ) (o : Order) (x : Taken) (space : Bool) (letter : Option ℕ) → space ≡ taken_space x → letter ≡ taken_letter x
    → GlueLeads mu (λ more. behind_width mu w o (x ∷ more)) (width_step mu w space letter)
width_leads mu w o x space letter e f =
    let P : Bool → Type 0 = λ b. GlueLeads mu (λ more. behind_width mu w o (x ∷ more)) (width_step mu w b letter) in
    let Q : Option ℕ → Type 0 = λ l. GlueLeads mu (λ more. behind_width mu w o (x ∷ more)) (width_step mu w (taken_space x) l) in
    subst P (sym e) (subst Q (sym f) (width_space mu w o x (taken_space x)))

stretch_by : (mu : Bool) (w s : ℤ) (so : Order) (m : Bool)
    → GlueLeads mu (first_says (cond m (alone (codes "inus") (shrink_part mu w s so)) NoWord) mu (Shrink w s so))
    (cond m (Word (Shrink w s so) letters.M, Need) (broken_step mu (Shrink w s so) 1))
stretch_by mu w s so true = (refl, λ y more. refl)
stretch_by mu w s so false = (refl, tt)

stretch_letter : (mu : Bool) (w s : ℤ) (so : Order) (letter : Option ℕ)
    → GlueLeads mu (first_says (behind_letter letter (stretch_words mu w s so)) mu (Shrink w s so)) (stretch_letter_step mu (Shrink w s so) letter)
stretch_letter mu w s so None = (refl, tt)
stretch_letter mu w s so (Some l) = stretch_by mu w s so (l == 109)

stretch_space : (mu : Bool) (w s : ℤ) (so : Order) (x : Taken) (space : Bool)
    → GlueLeads mu (λ more. keyword (stretch_words mu w s so) 0 (λ says rest. says rest) (λ n rest. DoneBefore (glue_without mu (Shrink w s so)) n) (cond space (behind taken_space more) (x ∷ more)))
    (stretch_step mu w s so space (taken_letter x))
stretch_space mu w s so x true = (refl, λ y more. refl)
stretch_space mu w s so x false = stretch_letter mu w s so (taken_letter x)

pub stretch_leads : (mu : Bool) (w s : ℤ) (so : Order) (x : Taken) (space : Bool) (letter : Option ℕ) → space ≡ taken_space x → letter ≡ taken_letter x
    → GlueLeads mu (λ more. behind_stretch mu w s so (x ∷ more)) (stretch_step mu w s so space letter)
stretch_leads mu w s so x space letter e f =
    let P : Bool → Type 0 = λ b. GlueLeads mu (λ more. behind_stretch mu w s so (x ∷ more)) (stretch_step mu w s so b letter) in
    let Q : Option ℕ → Type 0 = λ l. GlueLeads mu (λ more. behind_stretch mu w s so (x ∷ more)) (stretch_step mu w s so (taken_space x) l) in
    subst P (sym e) (subst Q (sym f) (stretch_space mu w s so x (taken_space x)))

-- ---- the end of a part

ended_leads : (mu : Bool) (part : GluePart) (v : ℤ) (o : Order) → GlueLeads mu (next_of mu part v o) (ended_step mu part v o)
ended_leads mu Width v o = (refl, λ y more. refl)
ended_leads mu (Stretch w) v o = (refl, λ y more. refl)
ended_leads mu (Shrink w s so) v o = (refl, tt)

ended_before_leads : (mu : Bool) (part : GluePart) (v : ℤ) (o : Order) (x : Taken) (space : Bool) (letter : Option ℕ) → space ≡ taken_space x → letter ≡ taken_letter x
    → GlueLeads mu (λ more. next_of mu part v o (x ∷ more)) (ended_before_step mu part v o space letter)
ended_before_leads mu Width v o x space letter e f = width_leads mu v o x space letter e f
ended_before_leads mu (Stretch w) v o x space letter e f = stretch_leads mu w v o x space letter e f
ended_before_leads mu (Shrink w s so) v o x space letter e f = (refl, tt)

followed_leads : (mu : Bool) (part : GluePart) (says : Says) (x : Taken) (space : Bool) (letter : Option ℕ) (step : DimenStep)
    → space ≡ taken_space x → letter ≡ taken_letter x → Leads mu (orders_of part) says x step
    → GlueLeads mu (says (next_of mu part)) (followed_step mu part step space letter)
followed_leads mu part says x space letter (Going after verdict) e f leads =
    (leads.0 (next_of mu part), while_open_along verdict _ _ (λ kept y more. kept (next_of mu part) y more) leads.1)
followed_leads mu part says x space letter (Finished v o false) e f leads =
    glue_along mu (says (next_of mu part)) (next_of mu part v o) (ended_step mu part v o) (λ more. leads (next_of mu part) more) (ended_leads mu part v o)
followed_leads mu part says x space letter (Finished v o true) e f leads =
    glue_along mu (says (next_of mu part)) (λ more. next_of mu part v o (x ∷ more)) (ended_before_step mu part v o space letter) (λ more. leads (next_of mu part) more) (ended_before_leads mu part v o x space letter e f)

-- where a step of a part leads
pub part_leads : (mu orders : Bool) (part : GluePart) (state : DimenState) (x : Taken) (space : Bool) (letter : Option ℕ) (step : DimenStep) (result : GlueState × Verdict)
    → orders ≡ orders_of part → space ≡ taken_space x → letter ≡ taken_letter x
    → Leads mu orders (λ next more. state_rest mu orders state next x more) x step
    → result ≡ followed_step mu part step space letter
    → GlueLeads mu (λ more. state_rest mu (orders_of part) state (next_of mu part) x more) result
part_leads mu orders part state x space letter step result same e f leads is =
    let P : Bool → Type 0 = λ b. Leads mu b (λ next more. state_rest mu b state next x more) x step in
    glue_to mu (λ more. state_rest mu (orders_of part) state (next_of mu part) x more) result (followed_step mu part step space letter) is
    (followed_leads mu part (λ next more. state_rest mu (orders_of part) state next x more) x space letter step e f (subst P same leads))

pub kind_leads : (mu : Bool) (kind : DimenKind) (part : GluePart) (state : DimenState) (x : Taken) (space : Bool) (letter : Option ℕ) (step : DimenStep) (result : GlueState × Verdict)
    → kind ≡ record { mu = mu; orders = orders_of part } → space ≡ taken_space x → letter ≡ taken_letter x
    → Leads kind.mu kind.orders (λ next more. state_rest kind.mu kind.orders state next x more) x step
    → result ≡ followed_step mu part step space letter
    → GlueLeads mu (λ more. state_rest mu (orders_of part) state (next_of mu part) x more) result
kind_leads mu kind part state x space letter step result same e f leads is =
    let P : DimenKind → Type 0 = λ k. Leads k.mu k.orders (λ next more. state_rest k.mu k.orders state next x more) x step in
    part_leads mu (orders_of part) part state x space letter step result refl e f (subst P same leads) is

-- ---- what is awaited

abbrev Waits : GlueState × Verdict → Type 0
Waits step = glue_awaits step.0 ≡ awaited_after step.1

word_waits_by : (mu : Bool) (part : GluePart) (next : GluePart) (ls : PartLetters) (b : Bool) (other : GlueState × Verdict) → Waits other
    → Waits (cond b (Word next ls, Need) other)
word_waits_by mu part next ls true other w = refl
word_waits_by mu part next ls false other w = w

width_waits : (mu : Bool) (w : ℤ) (space : Bool) (letter : Option ℕ) → Waits (width_step mu w space letter)
width_waits mu w true letter = refl
width_waits mu w false None = refl
width_waits mu w false (Some l) =
    word_waits_by mu (Stretch w) (Stretch w) letters.P (l == 112) _ (word_waits_by mu (Stretch w) (Shrink w (pos 0) order.Normal) letters.M (l == 109) (broken_step mu (Stretch w) 1) refl)

stretch_waits : (mu : Bool) (w s : ℤ) (so : Order) (space : Bool) (letter : Option ℕ) → Waits (stretch_step mu w s so space letter)
stretch_waits mu w s so true letter = refl
stretch_waits mu w s so false None = refl
stretch_waits mu w s so false (Some l) = word_waits_by mu (Shrink w s so) (Shrink w s so) letters.M (l == 109) (broken_step mu (Shrink w s so) 1) refl

followed_waits : (mu : Bool) (part : GluePart) (step : DimenStep) (space : Bool) (letter : Option ℕ) → StepAwaits step → Waits (followed_step mu part step space letter)
followed_waits mu part (Going after verdict) space letter h = h.0
followed_waits mu Width (Finished v o false) space letter h = refl
followed_waits mu (Stretch w) (Finished v o false) space letter h = refl
followed_waits mu (Shrink w s so) (Finished v o false) space letter h = refl
followed_waits mu Width (Finished v o true) space letter h = width_waits mu v space letter
followed_waits mu (Stretch w) (Finished v o true) space letter h = stretch_waits mu w v o space letter
followed_waits mu (Shrink w s so) (Finished v o true) space letter h = refl

pub part_waits : (mu : Bool) (part : GluePart) (step : DimenStep) (space : Bool) (letter : Option ℕ) (result : GlueState × Verdict)
    → StepAwaits step → result ≡ followed_step mu part step space letter → glue_awaits result.0 ≡ awaited_after result.1
part_waits mu part step space letter result h is =
    let P : GlueState × Verdict → Type 0 = λ s. Waits s in subst P (sym is) (followed_waits mu part step space letter h)

pub width_step_waits : (mu : Bool) (w : ℤ) (space : Bool) (letter : Option ℕ) (result : GlueState × Verdict)
    → result ≡ width_step mu w space letter → glue_awaits result.0 ≡ awaited_after result.1
width_step_waits mu w space letter result is =
    let P : GlueState × Verdict → Type 0 = λ s. Waits s in subst P (sym is) (width_waits mu w space letter)

pub stretch_step_waits : (mu : Bool) (w s : ℤ) (so : Order) (space : Bool) (letter : Option ℕ) (result : GlueState × Verdict)
    → result ≡ stretch_step mu w s so space letter → glue_awaits result.0 ≡ awaited_after result.1
stretch_step_waits mu w s so space letter result is =
    let P : GlueState × Verdict → Type 0 = λ s. Waits s in subst P (sym is) (stretch_waits mu w s so space letter)

whole_or_broken : (mu : Bool) (part : GluePart) (back : ℕ) (b : Bool) → Waits (cond b (part_step part) (broken_step mu part back))
whole_or_broken mu part back true = refl
whole_or_broken mu part back false = refl

word_waits : (mu : Bool) (part : GluePart) (ls : PartLetters) (letter : Option ℕ) → Waits (word_step mu part ls letter)
word_waits mu part ls None = refl
word_waits mu part letters.P (Some l) = word_waits_by mu part part letters.Pl (l == 108) (broken_step mu part 2) refl
word_waits mu part letters.Pl (Some l) = word_waits_by mu part part letters.Plu (l == 117) (broken_step mu part 3) refl
word_waits mu part letters.Plu (Some l) = whole_or_broken mu part 4 (l == 115)
word_waits mu part letters.M (Some l) = word_waits_by mu part part letters.Mi (l == 105) (broken_step mu part 2) refl
word_waits mu part letters.Mi (Some l) = word_waits_by mu part part letters.Min (l == 110) (broken_step mu part 3) refl
word_waits mu part letters.Min (Some l) = word_waits_by mu part part letters.Minu (l == 117) (broken_step mu part 4) refl
word_waits mu part letters.Minu (Some l) = whole_or_broken mu part 5 (l == 115)

pub word_step_waits : (mu : Bool) (part : GluePart) (ls : PartLetters) (letter : Option ℕ) (result : GlueState × Verdict)
    → result ≡ word_step mu part ls letter → glue_awaits result.0 ≡ awaited_after result.1
word_step_waits mu part ls letter result is =
    let P : GlueState × Verdict → Type 0 = λ s. Waits s in subst P (sym is) (word_waits mu part ls letter)

-- ---- what a glue begins with

pub glue_accent : (mu negative : Bool) (t : Token) (m : Meaning) (more : List Taken) → start_of t m ≡ Accent
    → signed_glue mu negative (Seen t m ∷ more) ≡ signed_dimension mu false negative (behind_width mu) (Seen t m ∷ more)
glue_accent mu negative t m more h = simp h

pub glue_octal : (mu negative : Bool) (t : Token) (m : Meaning) (more : List Taken) → start_of t m ≡ Octal
    → signed_glue mu negative (Seen t m ∷ more) ≡ signed_dimension mu false negative (behind_width mu) (Seen t m ∷ more)
glue_octal mu negative t m more h = simp h

pub glue_hexadecimal : (mu negative : Bool) (t : Token) (m : Meaning) (more : List Taken) → start_of t m ≡ Hexadecimal
    → signed_glue mu negative (Seen t m ∷ more) ≡ signed_dimension mu false negative (behind_width mu) (Seen t m ∷ more)
glue_hexadecimal mu negative t m more h = simp h

pub glue_given : (mu negative : Bool) (t : Token) (m : Meaning) (more : List Taken) (n : ℕ) → start_of t m ≡ Given n
    → signed_glue mu negative (Seen t m ∷ more) ≡ signed_dimension mu false negative (behind_width mu) (Seen t m ∷ more)
glue_given mu negative t m more n h = simp h

pub glue_other : (mu negative : Bool) (t : Token) (m : Meaning) (more : List Taken) → start_of t m ≡ Other
    → signed_glue mu negative (Seen t m ∷ more) ≡ signed_dimension mu false negative (behind_width mu) (Seen t m ∷ more)
glue_other mu negative t m more h = simp h

-- ---- the whole list

pub verdict_behind : (mu : Bool) (state : GlueState) (step : GlueState × Verdict) (x : Taken) (taken : List Taken)
    → GlueLeads mu (λ more. glue_rest mu state x more) step → GlueStands mu state taken → step.1 ≡ glue mu (taken ++ x ∷ [])
verdict_behind mu state step x taken leads stands = sym (stands x [] ∙ leads.0)

pub kept_behind : (mu : Bool) (state : GlueState) (step : GlueState × Verdict) (x : Taken) (taken : List Taken)
    → GlueLeads mu (λ more. glue_rest mu state x more) step → GlueStands mu state taken
    → WhileOpen step.1 (GlueStands mu step.0 (taken ++ x ∷ []))
kept_behind mu state step x taken leads stands =
    let W : List Taken → Verdict = λ l. glue mu l in
    while_open_along step.1 _ _ (λ kept y more. ap W (append_assoc taken (x ∷ []) (y ∷ more)) ∙ stands x (y ∷ more) ∙ kept y more) leads.1
