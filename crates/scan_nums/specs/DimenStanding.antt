-- What a state of the automaton for dimensions stands for: the lists behind which the dimension goes on as the state
-- says.
use Rattle.std.specs.Prelude.{◌≡◌, ℕ, Bool, true, false, pos, List, [], ◌∷◌, ◌++◌, if◌then◌else◌}
use Rattle.tokens.specs.declared.kind.Kind.TheVariants.{NumberTooBig}
use Rattle.scaled.specs.declared.spacing.Order.TheVariants as order
use Rattle.scan_nums.specs.declared.verdict.Verdict.{Verdict}
use Rattle.scan_nums.specs.declared.verdict.Verdict.TheVariants.{Need, Ask, Sub, Done, DoneBefore, Trouble, Pass}
use Rattle.scan_nums.specs.declared.constant.Constant.{Constant}
use Rattle.scan_nums.specs.declared.dimen_state.DimenState.{DimenState}
use Rattle.scan_nums.specs.declared.dimen_state.DimenState.TheVariants.{Signs, Character, Digits, TooBig, Missing, Fraction, Asked, AtUnit, Word, UnitAsked, FontAsked, MagAsked, Physical, PhysicalWord, Fil, Space, NoUnit, TooLarge, Ended}
use Rattle.scan_nums.specs.declared.dimen_state.DimenStep.{DimenStep}
use Rattle.scan_nums.specs.declared.dimen_state.DimenStep.TheVariants.{Going, Finished}
use Rattle.scan_nums.specs.Awaited.{Awaited, NextToken, Answer, Resumption, Nothing, awaited_after, WhileOpen}
use Rattle.scan_nums.specs.Taken.{Taken}
use Rattle.scan_nums.specs.Constants.{is_leading, character, rest_of_constant}
use Rattle.scan_nums.specs.WholeNumber.{are_leading, wants_character}
use Rattle.scan_nums.specs.Keywords.{keyword}
use Rattle.scan_nums.specs.UnitWords.{words_behind, letters_read}
use Rattle.scan_nums.specs.Decimals.{digits_of}
use Rattle.scan_nums.specs.Dimension.{Next, told, greatest, ends, space_ends, no_unit, fil, physical_found, physical_unit, true_unit, font_unit, unit_found, quantity_unit, unit, fraction, integer_end, behind_constant, begins_with, signed_dimension, dimension_then}
use Rattle.scan_nums.specs.IntStanding.{grown, grows_too_big}

-- what the state waits for
abbrev pub state_awaits : DimenState → Awaited
state_awaits (Signs negative) = NextToken
state_awaits (Character negative) = NextToken
state_awaits (Digits negative constant) = NextToken
state_awaits (TooBig negative radix) = Resumption
state_awaits (Missing negative) = Resumption
state_awaits (Fraction negative whole decimals) = NextToken
state_awaits (Asked negative) = Answer
state_awaits (AtUnit negative factor) = NextToken
state_awaits (Word negative factor letters) = NextToken
state_awaits (UnitAsked negative factor) = Answer
state_awaits (FontAsked negative factor) = Answer
state_awaits (MagAsked negative factor) = Answer
state_awaits (Physical negative factor) = NextToken
state_awaits (PhysicalWord negative factor letters) = NextToken
state_awaits (Fil e o) = NextToken
state_awaits (Space e o) = NextToken
state_awaits (NoUnit e) = Resumption
state_awaits (TooLarge negative o) = Resumption
state_awaits Ended = Nothing

-- what the grammar says of the next thing taken and all behind it
abbrev pub state_rest : Bool → Bool → DimenState → Next → Taken → List Taken → Verdict
state_rest mu orders (Signs negative) next x more = signed_dimension mu orders negative next (x ∷ more)
state_rest mu orders (Character negative) next x more = character (integer_end mu orders negative next) (x ∷ more)
state_rest mu orders (Digits negative constant) next x more =
    rest_of_constant constant.radix constant.has_digit constant.value (behind_constant constant.radix mu orders negative next) (x ∷ more)
state_rest mu orders (TooBig negative radix) next x more =
    rest_of_constant radix true 2147483648 (behind_constant radix mu orders negative next) (x ∷ more)
state_rest mu orders (Missing negative) next x more = unit mu orders negative 0 0 next more
state_rest mu orders (Fraction negative whole decimals) next x more =
    fraction mu orders negative whole (digits_of decimals) next (x ∷ more)
state_rest mu orders (Asked negative) next x more = told (begins_with mu orders negative next) x more
state_rest mu orders (AtUnit negative factor) next x more =
    unit mu orders negative factor.whole factor.fraction next (x ∷ more)
state_rest mu orders (Word negative factor letters) next x more =
    keyword (words_behind letters) (letters_read letters) (unit_found negative factor.whole factor.fraction next)
    (no_unit negative factor.whole factor.fraction next) (x ∷ more)
state_rest mu orders (UnitAsked negative factor) next x more =
    told (quantity_unit mu negative factor.whole factor.fraction next) x more
state_rest mu orders (FontAsked negative factor) next x more =
    told (font_unit negative factor.whole factor.fraction next) x more
state_rest mu orders (MagAsked negative factor) next x more =
    told (true_unit negative factor.whole factor.fraction next) x more
state_rest mu orders (Physical negative factor) next x more =
    physical_unit negative factor.whole factor.fraction next (x ∷ more)
state_rest mu orders (PhysicalWord negative factor letters) next x more =
    keyword (words_behind letters) (letters_read letters) (physical_found negative factor.whole factor.fraction next)
    (no_unit negative factor.whole factor.fraction next) (x ∷ more)
state_rest mu orders (Fil e o) next x more = fil e o next (x ∷ more)
state_rest mu orders (Space e o) next x more = space_ends e o next (x ∷ more)
state_rest mu orders (NoUnit e) next x more = ends e order.Normal next more
state_rest mu orders (TooLarge negative o) next x more = next (greatest negative) o more
state_rest mu orders Ended next x more = Need

abbrev pub is_at_signs : DimenState → Bool
is_at_signs (Signs negative) = true
is_at_signs (Character negative) = false
is_at_signs (Digits negative constant) = false
is_at_signs (TooBig negative radix) = false
is_at_signs (Missing negative) = false
is_at_signs (Fraction negative whole decimals) = false
is_at_signs (Asked negative) = false
is_at_signs (AtUnit negative factor) = false
is_at_signs (Word negative factor letters) = false
is_at_signs (UnitAsked negative factor) = false
is_at_signs (FontAsked negative factor) = false
is_at_signs (MagAsked negative factor) = false
is_at_signs (Physical negative factor) = false
is_at_signs (PhysicalWord negative factor letters) = false
is_at_signs (Fil e o) = false
is_at_signs (Space e o) = false
is_at_signs (NoUnit e) = false
is_at_signs (TooLarge negative o) = false
is_at_signs Ended = false

abbrev pub is_at_character : DimenState → Bool
is_at_character (Signs negative) = false
is_at_character (Character negative) = true
is_at_character (Digits negative constant) = false
is_at_character (TooBig negative radix) = false
is_at_character (Missing negative) = false
is_at_character (Fraction negative whole decimals) = false
is_at_character (Asked negative) = false
is_at_character (AtUnit negative factor) = false
is_at_character (Word negative factor letters) = false
is_at_character (UnitAsked negative factor) = false
is_at_character (FontAsked negative factor) = false
is_at_character (MagAsked negative factor) = false
is_at_character (Physical negative factor) = false
is_at_character (PhysicalWord negative factor letters) = false
is_at_character (Fil e o) = false
is_at_character (Space e o) = false
is_at_character (NoUnit e) = false
is_at_character (TooLarge negative o) = false
is_at_character Ended = false

-- the state is one behind this list: whatever comes next and whatever goes on behind the dimension, the grammar says of
-- the whole what the state says of the rest; and the next token is taken without expansion where the grammar says so
pub record StateStands (mu orders : Bool) (state : DimenState) (taken : List Taken) : Type 0 where
  pub rest : (next : Next) (x : Taken) (more : List Taken) → dimension_then mu orders next (taken ++ x ∷ more) ≡ state_rest mu orders state next x more
  pub signs : is_at_signs state ≡ are_leading taken
  pub character : is_at_character state ≡ wants_character taken

-- ---- one thing more

-- what the grammar says of a list, by what goes on behind the dimension
abbrev pub Says : Type 0
Says = Next → List Taken → Verdict

-- one thing more was taken, with which the grammar says this of what is behind it: the verdict is the grammar's, and
-- the state behind it says of the rest what the grammar says; or the dimension has ended there
abbrev pub Leads : Bool → Bool → Says → Taken → DimenStep → Type 0
Leads mu orders says x (Going after verdict) =
    ((next : Next) → says next [] ≡ verdict)
    × WhileOpen verdict ((next : Next) (y : Taken) (more : List Taken) → says next (y ∷ more) ≡ state_rest mu orders after next y more)
Leads mu orders says x (Finished v o false) = (next : Next) (more : List Taken) → says next more ≡ next v o more
Leads mu orders says x (Finished v o true) = (next : Next) (more : List Taken) → says next more ≡ next v o (x ∷ more)

-- the verdict isn't the last one, or is a trouble
abbrev pub IsNoEnd : Verdict → Type 0
IsNoEnd Need = Unit {0}
IsNoEnd (Ask q) = Unit {0}
IsNoEnd (Sub p) = Unit {0}
IsNoEnd (Done n) = ⊥
IsNoEnd (DoneBefore n back) = ⊥
IsNoEnd (Trouble k) = Unit {0}
IsNoEnd (Pass k back) = Unit {0}

-- the state waits for what the verdict asks
abbrev pub StepAwaits : DimenStep → Type 0
StepAwaits (Going after verdict) = (state_awaits after ≡ awaited_after verdict) × IsNoEnd verdict
StepAwaits (Finished v o given_back) = Unit {0}

abbrev pub step_at_signs : DimenStep → Bool
step_at_signs (Going after verdict) = is_at_signs after
step_at_signs (Finished v o given_back) = false

abbrev pub step_at_character : DimenStep → Bool
step_at_character (Going after verdict) = is_at_character after
step_at_character (Finished v o given_back) = false

-- the signs and the mark of a character constant are behind it
pub record IsSettled (step : DimenStep) : Type 0 where
  pub awaits : StepAwaits step
  pub signs : step_at_signs step ≡ false
  pub character : step_at_character step ≡ false

-- a digit more of a constant
abbrev pub grown_step : Bool → Constant → ℕ → DimenStep
grown_step negative constant digit =
    if grows_too_big constant digit then Going (TooBig negative constant.radix) (Pass NumberTooBig 0)
    else Going (Digits negative (grown constant digit)) Need
