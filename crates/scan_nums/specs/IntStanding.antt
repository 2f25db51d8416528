-- What a state of the automaton for whole numbers stands for: the lists behind which the number goes on as
-- the state says.
use Rattle.std.specs.Prelude.{◌≡◌, ℕ, ◌+◌, ◌*◌, min, Bool, true, false, ◌&&◌, not, pos, List, ◌∷◌, ◌++◌, if◌then◌else◌}
use Rattle.scan_nums.specs.declared.number.Number.TheVariants as number
use Rattle.scan_nums.specs.declared.verdict.Verdict.{Verdict}
use Rattle.scan_nums.specs.declared.verdict.Verdict.TheVariants.{Need, Done, Pass}
use Rattle.tokens.specs.declared.kind.Kind.TheVariants.{NumberTooBig}
use Rattle.scan_nums.specs.declared.constant.Constant.{Constant}
use Rattle.scan_nums.specs.declared.int_scan.IntState.{IntState}
use Rattle.scan_nums.specs.declared.int_scan.IntState.TheVariants.{Signs, Character, Digits, Space, Asked, TooBig, Missing, Ended}
use Rattle.scan_nums.specs.Awaited.{Awaited, NextToken, Answer, Resumption, Nothing}
use Rattle.scan_nums.specs.Taken.{Taken}
use Rattle.scan_nums.specs.Constants.{character, rest_of_constant, optional_space, base, is_too_big}
use Rattle.scan_nums.specs.WholeNumber.{whole_number, are_leading, wants_character, signed_number, constant_end, value_taken}

-- what the state waits for
abbrev pub state_awaits : IntState → Awaited
state_awaits (Signs negative) = NextToken
state_awaits (Character negative) = NextToken
state_awaits (Digits negative constant) = NextToken
state_awaits (Space n) = NextToken
state_awaits (Asked negative) = Answer
state_awaits (TooBig negative radix) = Resumption
state_awaits Missing = Resumption
state_awaits Ended = Nothing

-- what the grammar says of the next thing taken and all behind it
abbrev pub state_rest : IntState → Taken → List Taken → Verdict
state_rest (Signs negative) x more = signed_number negative (x ∷ more)
state_rest (Character negative) x more = character (constant_end negative) (x ∷ more)
state_rest (Digits negative constant) x more =
    rest_of_constant constant.radix constant.has_digit constant.value (constant_end negative) (x ∷ more)
state_rest (Space n) x more = optional_space (number.Int n) (x ∷ more)
state_rest (Asked negative) x more = value_taken negative x
state_rest (TooBig negative radix) x more =
    rest_of_constant radix true 2147483648 (constant_end negative) (x ∷ more)
state_rest Missing x more = Done (number.Int (pos 0))
state_rest Ended x more = Need

abbrev pub is_at_signs : IntState → Bool
is_at_signs (Signs negative) = true
is_at_signs (Character negative) = false
is_at_signs (Digits negative constant) = false
is_at_signs (Space n) = false
is_at_signs (Asked negative) = false
is_at_signs (TooBig negative radix) = false
is_at_signs Missing = false
is_at_signs Ended = false

abbrev pub is_at_character : IntState → Bool
is_at_character (Signs negative) = false
is_at_character (Character negative) = true
is_at_character (Digits negative constant) = false
is_at_character (Space n) = false
is_at_character (Asked negative) = false
is_at_character (TooBig negative radix) = false
is_at_character Missing = false
is_at_character Ended = false

-- the state is one behind this list: whatever comes next, the grammar says of the whole what the state
-- says of the rest, and the next token is taken without expansion where the grammar says so
pub record StateStands (state : IntState) (taken : List Taken) : Type 0 where
  pub rest : (next : Taken) (more : List Taken) → whole_number (taken ++ next ∷ more) ≡ state_rest state next more
  pub signs : is_at_signs state ≡ are_leading taken
  pub character : is_at_character state ≡ wants_character taken

-- one thing more was taken: what the grammar says of the rest, seen from the state before, is what it says
-- seen from the state behind
abbrev pub StateSteps : IntState → Taken → IntState → Type 0
StateSteps before x after =
    (next : Taken) (more : List Taken) → state_rest before x (next ∷ more) ≡ state_rest after next more

-- a constant of which one digit more was read: from 2147483648 on its number isn't kept
abbrev pub grown_value : Constant → ℕ → ℕ
grown_value constant digit = min (constant.value * base constant.radix + digit) 2147483648

-- whether it is too big from this digit on
abbrev pub grows_too_big : Constant → ℕ → Bool
grows_too_big constant digit = is_too_big (grown_value constant digit) && not (is_too_big constant.value)

abbrev pub grown : Constant → ℕ → Constant
grown constant digit = record { radix = constant.radix; has_digit = true; value = grown_value constant digit }

abbrev pub grown_state : Bool → Constant → ℕ → IntState
grown_state negative constant digit =
    if grows_too_big constant digit then TooBig negative constant.radix else Digits negative (grown constant digit)

abbrev pub grown_verdict : Constant → ℕ → Verdict
grown_verdict constant digit = if grows_too_big constant digit then Pass NumberTooBig 0 else Need
