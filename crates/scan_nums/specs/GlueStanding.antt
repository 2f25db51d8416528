-- What a state of the automaton for glue stands for, and what one thing more leads to.
use Rattle.std.specs.Prelude.{◌≡◌, ℕ, Bool, true, false, not, ◌==◌, ◌&&◌, ℤ, pos, Option, Some, None, List, [], ◌∷◌, ◌++◌, codes, if◌then◌else◌}
use Rattle.scaled.specs.declared.spacing.Order.{Order}
use Rattle.scaled.specs.declared.spacing.Order.TheVariants as order
use Rattle.tokens.specs.declared.token.Token.TheVariants as token
use Rattle.tokens.specs.declared.meaning.Meaning.TheVariants as meaning
use Rattle.tokens.specs.declared.kind.Kind.{Kind}
use Rattle.scan_nums.specs.declared.number.Number.{Number}
use Rattle.scan_nums.specs.declared.verdict.Verdict.{Verdict}
use Rattle.scan_nums.specs.declared.verdict.Verdict.TheVariants.{Need, Ask, Sub, Done, DoneBefore, Trouble, Pass}
use Rattle.scan_nums.specs.declared.dimen_state.DimenState.{DimenState}
use Rattle.scan_nums.specs.declared.dimen_state.DimenState.TheVariants as dimen
use Rattle.scan_nums.specs.declared.dimen_state.DimenStep.{DimenStep}
use Rattle.scan_nums.specs.declared.dimen_state.DimenStep.TheVariants.{Going, Finished}
use Rattle.scan_nums.specs.declared.glue_state.GluePart.{GluePart}
use Rattle.scan_nums.specs.declared.glue_state.GluePart.TheVariants.{Width, Stretch, Shrink}
use Rattle.scan_nums.specs.declared.glue_state.PartLetters.{PartLetters}
use Rattle.scan_nums.specs.declared.glue_state.PartLetters.TheVariants as letters
use Rattle.scan_nums.specs.declared.glue_state.GlueState.{GlueState}
use Rattle.scan_nums.specs.declared.glue_state.GlueState.TheVariants.{Signs, Asked, Part, BehindWidth, BehindStretch, Word, Ended}
use Rattle.scan_nums.specs.Awaited.{Awaited, NextToken, Answer, Nothing, WhileOpen}
use Rattle.scan_nums.specs.Taken.{Taken}
use Rattle.scan_nums.specs.Keywords.{Words, alone, keyword}
use Rattle.scan_nums.specs.Dimension.{Next, told, dimension_then}
use Rattle.scan_nums.specs.DimenStanding.{is_at_character, state_awaits, state_rest}
use Rattle.scan_nums.specs.Glue.{Behind, glue_of, behind_width, behind_stretch, behind_shrink, stretch_part, shrink_part, glue_begins_with, signed_glue, glue}

-- ---- parts

abbrev pub orders_of : GluePart → Bool
orders_of Width = false
orders_of (Stretch w) = true
orders_of (Shrink w s so) = true

-- what goes on behind the part
abbrev pub next_of : Bool → GluePart → Next
next_of mu Width = behind_width mu
next_of mu (Stretch w) = behind_stretch mu w
next_of mu (Shrink w s so) = behind_shrink mu w s so

-- the part and all behind it
abbrev pub part_says : Bool → GluePart → Behind
part_says mu Width = dimension_then mu false (behind_width mu)
part_says mu (Stretch w) = stretch_part mu w
part_says mu (Shrink w s so) = shrink_part mu w s so

-- the glue without the part
abbrev pub glue_without : Bool → GluePart → Number
glue_without mu Width = glue_of mu (pos 0) (pos 0) order.Normal (pos 0) order.Normal
glue_without mu (Stretch w) = glue_of mu w (pos 0) order.Normal (pos 0) order.Normal
glue_without mu (Shrink w s so) = glue_of mu w s so (pos 0) order.Normal

-- ---- letters

abbrev pub expected_letter : PartLetters → ℕ
expected_letter letters.P = 108
expected_letter letters.Pl = 117
expected_letter letters.Plu = 115
expected_letter letters.M = 105
expected_letter letters.Mi = 110
expected_letter letters.Min = 117
expected_letter letters.Minu = 115

abbrev pub following_letters : PartLetters → Option PartLetters
following_letters letters.P = Some letters.Pl
following_letters letters.Pl = Some letters.Plu
following_letters letters.Plu = None
following_letters letters.M = Some letters.Mi
following_letters letters.Mi = Some letters.Min
following_letters letters.Min = Some letters.Minu
following_letters letters.Minu = None

abbrev pub given_back : PartLetters → ℕ
given_back letters.P = 2
given_back letters.Pl = 3
given_back letters.Plu = 4
given_back letters.M = 2
given_back letters.Mi = 3
given_back letters.Min = 4
given_back letters.Minu = 5

abbrev pub part_letters_read : PartLetters → ℕ
part_letters_read letters.P = 1
part_letters_read letters.Pl = 2
part_letters_read letters.Plu = 3
part_letters_read letters.M = 1
part_letters_read letters.Mi = 2
part_letters_read letters.Min = 3
part_letters_read letters.Minu = 4

-- the rest of the keyword
abbrev pub word_left : {A : Type 0} → PartLetters → A → Words A
word_left letters.P what = alone (codes "lus") what
word_left letters.Pl what = alone (codes "us") what
word_left letters.Plu what = alone (codes "s") what
word_left letters.M what = alone (codes "inus") what
word_left letters.Mi what = alone (codes "nus") what
word_left letters.Min what = alone (codes "us") what
word_left letters.Minu what = alone (codes "s") what

-- ---- states

abbrev pub glue_awaits : GlueState → Awaited
glue_awaits (Signs negative) = NextToken
glue_awaits (Asked negative) = Answer
glue_awaits (Part part state) = state_awaits state
glue_awaits (BehindWidth w) = NextToken
glue_awaits (BehindStretch w s so) = NextToken
glue_awaits (Word part ls) = NextToken
glue_awaits Ended = Nothing

-- what the grammar says of the next thing taken and all behind it
abbrev pub glue_rest : Bool → GlueState → Taken → List Taken → Verdict
glue_rest mu (Signs negative) x more = signed_glue mu negative (x ∷ more)
glue_rest mu (Asked negative) x more = told (glue_begins_with mu negative) x more
glue_rest mu (Part part state) x more = state_rest mu (orders_of part) state (next_of mu part) x more
glue_rest mu (BehindWidth w) x more = behind_width mu w order.Normal (x ∷ more)
glue_rest mu (BehindStretch w s so) x more = behind_stretch mu w s so (x ∷ more)
glue_rest mu (Word part ls) x more =
    keyword (word_left ls (part_says mu part)) (part_letters_read ls) (λ says rest. says rest) (λ read rest. DoneBefore (glue_without mu part) read) (x ∷ more)
glue_rest mu Ended x more = Need

-- the mark of a character constant was taken
abbrev pub glue_at_character : GlueState → Bool
glue_at_character (Signs negative) = false
glue_at_character (Asked negative) = false
glue_at_character (Part part state) = is_at_character state
glue_at_character (BehindWidth w) = false
glue_at_character (BehindStretch w s so) = false
glue_at_character (Word part ls) = false
glue_at_character Ended = false

-- the state is one behind this list: whatever comes next, the grammar says of the whole what the state says of the rest
abbrev pub GlueStands : Bool → GlueState → List Taken → Type 0
GlueStands mu state taken = (x : Taken) (more : List Taken) → glue mu (taken ++ x ∷ more) ≡ glue_rest mu state x more

-- ---- one thing more

-- one thing more was taken, with which the grammar says this of what is behind it: the verdict is the grammar's, and the
-- state behind it says of the rest what the grammar says
abbrev pub GlueLeads : Bool → Behind → GlueState × Verdict → Type 0
GlueLeads mu says step =
    (says [] ≡ step.1) × WhileOpen step.1 ((y : Taken) (more : List Taken) → says (y ∷ more) ≡ glue_rest mu step.0 y more)

-- no keyword goes on with what was taken, and so many tokens are read again
abbrev pub broken_step : Bool → GluePart → ℕ → GlueState × Verdict
broken_step mu part back = (Ended, DoneBefore (glue_without mu part) back)

-- a part begins
abbrev pub part_step : GluePart → GlueState × Verdict
part_step part = (Part part (dimen.Signs false), Need)

-- behind the width, by whether a space was taken, or which letter
abbrev pub width_letter_step : Bool → ℤ → Option ℕ → GlueState × Verdict
width_letter_step mu w None = broken_step mu (Stretch w) 1
width_letter_step mu w (Some l) =
    if l == 112 then (Word (Stretch w) letters.P, Need)
    else if l == 109 then (Word (Shrink w (pos 0) order.Normal) letters.M, Need)
    else broken_step mu (Stretch w) 1

abbrev pub width_step : Bool → ℤ → Bool → Option ℕ → GlueState × Verdict
width_step mu w space l = if space then (BehindWidth w, Need) else width_letter_step mu w l

-- behind the stretch
abbrev pub stretch_letter_step : Bool → GluePart → Option ℕ → GlueState × Verdict
stretch_letter_step mu part None = broken_step mu part 1
stretch_letter_step mu part (Some l) = if l == 109 then (Word part letters.M, Need) else broken_step mu part 1

abbrev pub stretch_step : Bool → ℤ → ℤ → Order → Bool → Option ℕ → GlueState × Verdict
stretch_step mu w s so space l = if space then (BehindStretch w s so, Need) else stretch_letter_step mu (Shrink w s so) l

-- behind letters of a keyword
abbrev pub following_step : GluePart → Option PartLetters → GlueState × Verdict
following_step part None = part_step part
following_step part (Some ls) = (Word part ls, Need)

abbrev pub word_step : Bool → GluePart → PartLetters → Option ℕ → GlueState × Verdict
word_step mu part ls None = broken_step mu part (given_back ls)
word_step mu part ls (Some l) =
    if l == expected_letter ls then following_step part (following_letters ls) else broken_step mu part (given_back ls)

-- a part has ended with what was taken last, or before it
abbrev pub ended_step : Bool → GluePart → ℤ → Order → GlueState × Verdict
ended_step mu Width v o = (BehindWidth v, Need)
ended_step mu (Stretch w) v o = (BehindStretch w v o, Need)
ended_step mu (Shrink w s so) v o = (Ended, Done (glue_of mu w s so v o))

abbrev pub ended_before_step : Bool → GluePart → ℤ → Order → Bool → Option ℕ → GlueState × Verdict
ended_before_step mu Width v o space l = width_step mu v space l
ended_before_step mu (Stretch w) v o space l = stretch_step mu w v o space l
ended_before_step mu (Shrink w s so) v o space l = (Ended, DoneBefore (glue_of mu w s so v o) 1)

abbrev pub followed_step : Bool → GluePart → DimenStep → Bool → Option ℕ → GlueState × Verdict
followed_step mu part (Going state verdict) space l = (Part part state, verdict)
followed_step mu part (Finished v o false) space l = ended_step mu part v o
followed_step mu part (Finished v o true) space l = ended_before_step mu part v o space l
