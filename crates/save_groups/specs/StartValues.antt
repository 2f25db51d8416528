-- The values of INITEX, before any assignment (The TeXbook, chapters 7, 24 and appendix B; tex.web 232, 240,
-- 250): the categories, the pairs of letters, and the few parameters that aren't zero.
use Rattle.std.specs.Prelude.{ℕ, ℤ, pos, negsuc, ◌+◌, ◌-◌, ◌==◌, nat_le, Bool, true, false, ◌&&◌, [], None, if◌then◌else◌}
use Rattle.std.proofs.Common.{zero, suc}
use Rattle.scaled.specs.declared.spacing.Glue.{Glue}
use Rattle.scaled.specs.declared.spacing.Order.TheVariants.{Normal}
use Rattle.tokens.specs.Categories.{initial_category}
use Rattle.tokens.specs.Primitives.{start_meaning}
use Rattle.tokens.specs.declared.meaning.Meaning.TheVariants.{Undefined}
use Rattle.tokens.specs.declared.meaning.RegKind.TheVariants.{Count, Dimen, Skip, Muskip, Box, Toks}
use Rattle.save_groups.specs.declared.key.Key.{Key}
use Rattle.save_groups.specs.declared.key.Key.TheVariants.{Register, Parameter, Code, Name, Active, CurrentFont, Family, Shape, Penalties}
use Rattle.save_groups.specs.declared.value.Value.{Value}
use Rattle.save_groups.specs.declared.value.Value.TheVariants as value
use Rattle.tokens.specs.Parameters.{tolerance_place, mag_place, time_place, day_place, month_place, year_place, maxdeadcycles_place, hangafter_place, escapechar_place, endlinechar_place}
use Rattle.save_groups.specs.Keys.{is_glue_parameter, is_token_parameter}

abbrev pub is_capital : ℕ → Bool
is_capital byte = nat_le 65 byte && nat_le byte 90

abbrev pub is_small : ℕ → Bool
is_small byte = nat_le 97 byte && nat_le byte 122

abbrev pub is_digit : ℕ → Bool
is_digit byte = nat_le 48 byte && nat_le byte 57

-- \lccode: the small letter of a letter
abbrev pub start_lccode : ℕ → ℕ
start_lccode byte = if is_capital byte then byte + 32 else if is_small byte then byte else 0

-- \uccode: the capital letter of a letter
abbrev pub start_uccode : ℕ → ℕ
start_uccode byte = if is_capital byte then byte else if is_small byte then byte - 32 else 0

-- \sfcode: a space behind a capital letter is no end of a sentence
abbrev pub start_sfcode : ℕ → ℕ
start_sfcode byte = if is_capital byte then 999 else 1000

-- \mathcode: the byte, for letters of class 7 and family 1, for digits of class 7
abbrev pub start_mathcode : ℕ → ℕ
start_mathcode byte =
    if is_capital byte then byte + 28928
    else if is_small byte then byte + 28928
    else if is_digit byte then byte + 28672
    else byte

-- \delcode: none, but for the full stop, which is a delimiter that isn't there
abbrev pub start_delcode : ℕ → ℤ
start_delcode byte = if byte == 46 then pos 0 else negsuc 0

-- the code of a byte in each of the six tables
abbrev pub start_code : ℕ → ℕ → ℤ
start_code zero byte = pos (initial_category byte)
start_code (suc zero) byte = pos (start_lccode byte)
start_code (suc (suc zero)) byte = pos (start_uccode byte)
start_code (suc (suc (suc zero))) byte = pos (start_sfcode byte)
start_code (suc (suc (suc (suc zero)))) byte = pos (start_mathcode byte)
start_code (suc (suc (suc (suc (suc table))))) byte = start_delcode byte

-- the integer and dimension parameters
abbrev pub start_number : ℕ → ℕ
start_number place =
    if place == tolerance_place then 10000
    else if place == mag_place then 1000
    else if place == time_place then 720
    else if place == day_place then 4
    else if place == month_place then 7
    else if place == year_place then 1776
    else if place == maxdeadcycles_place then 25
    else if place == hangafter_place then 1
    else if place == escapechar_place then 92
    else if place == endlinechar_place then 13
    else 0

-- a glue that is nothing
abbrev pub zero_glue : Glue
zero_glue = record { width = pos 0; stretch = pos 0; stretch_order = Normal; shrink = pos 0; shrink_order = Normal }

-- a parameter that is a glue, a list of tokens or a number
abbrev pub start_parameter_by : ℕ → Bool → Bool → Value
start_parameter_by place true is_list = value.Glue zero_glue
start_parameter_by place false true = value.Tokens []
start_parameter_by place false false = value.Number (pos (start_number place))

abbrev pub start_parameter : ℕ → Value
start_parameter place = start_parameter_by place (is_glue_parameter place) (is_token_parameter place)

-- the value of every entry at the start. Names are those of the primitives, entered in the order of their tables
abbrev pub start_value : Bool → Key → Value
start_value extended (Register Count number) = value.Number (pos 0)
start_value extended (Register Dimen number) = value.Number (pos 0)
start_value extended (Register Skip number) = value.Glue zero_glue
start_value extended (Register Muskip number) = value.Glue zero_glue
start_value extended (Register Box number) = value.Boxed None
start_value extended (Register Toks number) = value.Tokens []
start_value extended (Parameter place) = start_parameter place
start_value extended (Code table byte) = value.Number (start_code table byte)
start_value extended (Name id) = value.Meaning (start_meaning extended id.0)
start_value extended (Active byte) = value.Meaning Undefined
start_value extended CurrentFont = value.Number (pos 0)
start_value extended (Family size number) = value.Number (pos 0)
start_value extended Shape = value.Table []
start_value extended (Penalties array) = value.Table []
