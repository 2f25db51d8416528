-- What an environment has an entry for (The TeXbook, chapter 24; tex.web, part 17; the e-TeX manual, on
-- registers), and which kind of value it holds.
use Rattle.std.specs.Prelude.{ℕ, ◌==◌, nat_lt, nat_le, Bool, true, false, ◌&&◌, ◌||◌, not, if◌then◌else◌}
use Rattle.tokens.specs.declared.meaning.RegKind.TheVariants.{Count, Dimen, Skip, Muskip, Box, Toks}
use Rattle.tokens.specs.Meaning.{same_reg_kind}
use Rattle.save_groups.specs.declared.key.Key.{Key}
use Rattle.save_groups.specs.declared.key.Key.TheVariants.{Register, Parameter, Code, Name, Active, CurrentFont, Family, Shape, Penalties}
use Rattle.tokens.specs.Parameters.{first_glue_place, first_token_place, first_extended_place, everyeof_place, all_parameter_count}

-- whether two keys name one entry
abbrev pub same_key : Key → Key → Bool
same_key (Register kind number) (Register k n) = same_reg_kind kind k && (number == n)
same_key (Register _ _) (Parameter _) = false
same_key (Register _ _) (Code _ _) = false
same_key (Register _ _) (Name _) = false
same_key (Register _ _) (Active _) = false
same_key (Register _ _) CurrentFont = false
same_key (Register _ _) (Family _ _) = false
same_key (Register _ _) Shape = false
same_key (Register _ _) (Penalties _) = false
same_key (Parameter _) (Register _ _) = false
same_key (Parameter place) (Parameter p) = place == p
same_key (Parameter _) (Code _ _) = false
same_key (Parameter _) (Name _) = false
same_key (Parameter _) (Active _) = false
same_key (Parameter _) CurrentFont = false
same_key (Parameter _) (Family _ _) = false
same_key (Parameter _) Shape = false
same_key (Parameter _) (Penalties _) = false
same_key (Code _ _) (Register _ _) = false
same_key (Code _ _) (Parameter _) = false
same_key (Code table byte) (Code t b) = (table == t) && (byte == b)
same_key (Code _ _) (Name _) = false
same_key (Code _ _) (Active _) = false
same_key (Code _ _) CurrentFont = false
same_key (Code _ _) (Family _ _) = false
same_key (Code _ _) Shape = false
same_key (Code _ _) (Penalties _) = false
same_key (Name _) (Register _ _) = false
same_key (Name _) (Parameter _) = false
same_key (Name _) (Code _ _) = false
same_key (Name id) (Name i) = id.0 == i.0
same_key (Name _) (Active _) = false
same_key (Name _) CurrentFont = false
same_key (Name _) (Family _ _) = false
same_key (Name _) Shape = false
same_key (Name _) (Penalties _) = false
same_key (Active _) (Register _ _) = false
same_key (Active _) (Parameter _) = false
same_key (Active _) (Code _ _) = false
same_key (Active _) (Name _) = false
same_key (Active byte) (Active b) = byte == b
same_key (Active _) CurrentFont = false
same_key (Active _) (Family _ _) = false
same_key (Active _) Shape = false
same_key (Active _) (Penalties _) = false
same_key CurrentFont (Register _ _) = false
same_key CurrentFont (Parameter _) = false
same_key CurrentFont (Code _ _) = false
same_key CurrentFont (Name _) = false
same_key CurrentFont (Active _) = false
same_key CurrentFont CurrentFont = true
same_key CurrentFont (Family _ _) = false
same_key CurrentFont Shape = false
same_key CurrentFont (Penalties _) = false
same_key (Family _ _) (Register _ _) = false
same_key (Family _ _) (Parameter _) = false
same_key (Family _ _) (Code _ _) = false
same_key (Family _ _) (Name _) = false
same_key (Family _ _) (Active _) = false
same_key (Family _ _) CurrentFont = false
same_key (Family size number) (Family s n) = (size == s) && (number == n)
same_key (Family _ _) Shape = false
same_key (Family _ _) (Penalties _) = false
same_key Shape (Register _ _) = false
same_key Shape (Parameter _) = false
same_key Shape (Code _ _) = false
same_key Shape (Name _) = false
same_key Shape (Active _) = false
same_key Shape CurrentFont = false
same_key Shape (Family _ _) = false
same_key Shape Shape = true
same_key Shape (Penalties _) = false
same_key (Penalties _) (Register _ _) = false
same_key (Penalties _) (Parameter _) = false
same_key (Penalties _) (Code _ _) = false
same_key (Penalties _) (Name _) = false
same_key (Penalties _) (Active _) = false
same_key (Penalties _) CurrentFont = false
same_key (Penalties _) (Family _ _) = false
same_key (Penalties _) Shape = false
same_key (Penalties array) (Penalties a) = array == a

-- the parameters of which kind: the extended integer parameters come behind the token parameters
abbrev pub is_glue_parameter : ℕ → Bool
is_glue_parameter place = nat_le first_glue_place place && nat_lt place first_token_place

abbrev pub is_token_parameter : ℕ → Bool
is_token_parameter place = (nat_le first_token_place place && nat_lt place first_extended_place) || (place == everyeof_place)

-- whether an entry holds a number
abbrev pub holds_number : Key → Bool
holds_number (Register Count number) = true
holds_number (Register Dimen number) = true
holds_number (Register Skip number) = false
holds_number (Register Muskip number) = false
holds_number (Register Box number) = false
holds_number (Register Toks number) = false
holds_number (Parameter place) = not (is_glue_parameter place || is_token_parameter place)
holds_number (Code table byte) = true
holds_number (Name id) = false
holds_number (Active byte) = false
holds_number CurrentFont = true
holds_number (Family size number) = true
holds_number Shape = false
holds_number (Penalties array) = false

-- whether it holds a glue
abbrev pub holds_glue : Key → Bool
holds_glue (Register Count number) = false
holds_glue (Register Dimen number) = false
holds_glue (Register Skip number) = true
holds_glue (Register Muskip number) = true
holds_glue (Register Box number) = false
holds_glue (Register Toks number) = false
holds_glue (Parameter place) = is_glue_parameter place
holds_glue (Code table byte) = false
holds_glue (Name id) = false
holds_glue (Active byte) = false
holds_glue CurrentFont = false
holds_glue (Family size number) = false
holds_glue Shape = false
holds_glue (Penalties array) = false

-- whether it holds a list of tokens
abbrev pub holds_tokens : Key → Bool
holds_tokens (Register Count number) = false
holds_tokens (Register Dimen number) = false
holds_tokens (Register Skip number) = false
holds_tokens (Register Muskip number) = false
holds_tokens (Register Box number) = false
holds_tokens (Register Toks number) = true
holds_tokens (Parameter place) = is_token_parameter place
holds_tokens (Code table byte) = false
holds_tokens (Name id) = false
holds_tokens (Active byte) = false
holds_tokens CurrentFont = false
holds_tokens (Family size number) = false
holds_tokens Shape = false
holds_tokens (Penalties array) = false

-- whether it holds a meaning
abbrev pub holds_meaning : Key → Bool
holds_meaning (Register Count number) = false
holds_meaning (Register Dimen number) = false
holds_meaning (Register Skip number) = false
holds_meaning (Register Muskip number) = false
holds_meaning (Register Box number) = false
holds_meaning (Register Toks number) = false
holds_meaning (Parameter place) = false
holds_meaning (Code table byte) = false
holds_meaning (Name id) = true
holds_meaning (Active byte) = true
holds_meaning CurrentFont = false
holds_meaning (Family size number) = false
holds_meaning Shape = false
holds_meaning (Penalties array) = false

-- whether it holds a box, or nothing
abbrev pub holds_box : Key → Bool
holds_box (Register Count number) = false
holds_box (Register Dimen number) = false
holds_box (Register Skip number) = false
holds_box (Register Muskip number) = false
holds_box (Register Box number) = true
holds_box (Register Toks number) = false
holds_box (Parameter place) = false
holds_box (Code table byte) = false
holds_box (Name id) = false
holds_box (Active byte) = false
holds_box CurrentFont = false
holds_box (Family size number) = false
holds_box Shape = false
holds_box (Penalties array) = false

-- whether it holds a table of numbers: lines with their indents, or penalties
abbrev pub holds_table : Key → Bool
holds_table (Register Count number) = false
holds_table (Register Dimen number) = false
holds_table (Register Skip number) = false
holds_table (Register Muskip number) = false
holds_table (Register Box number) = false
holds_table (Register Toks number) = false
holds_table (Parameter place) = false
holds_table (Code table byte) = false
holds_table (Name id) = false
holds_table (Active byte) = false
holds_table CurrentFont = false
holds_table (Family size number) = false
holds_table Shape = true
holds_table (Penalties array) = true

-- the greatest number of a register
abbrev pub register_limit : Bool → ℕ
register_limit extended = if extended then 32767 else 255

-- how many parameters there are
abbrev pub parameter_count : Bool → ℕ
parameter_count extended = if extended then all_parameter_count else first_extended_place

-- whether a mode has this entry
abbrev pub is_key : Bool → Key → Bool
is_key extended (Register Count number) = nat_le number (register_limit extended)
is_key extended (Register Dimen number) = nat_le number (register_limit extended)
is_key extended (Register Skip number) = nat_le number (register_limit extended)
is_key extended (Register Muskip number) = nat_le number (register_limit extended)
is_key extended (Register Box number) = nat_le number (register_limit extended)
is_key extended (Register Toks number) = nat_le number (register_limit extended)
is_key extended (Parameter place) = nat_lt place (parameter_count extended)
is_key extended (Code table byte) = nat_lt table 6 && nat_lt byte 256
is_key extended (Name id) = true
is_key extended (Active byte) = nat_lt byte 256
is_key extended CurrentFont = true
is_key extended (Family size number) = nat_lt size 3 && nat_lt number 16
is_key extended Shape = true
is_key extended (Penalties array) = extended && nat_lt array 4
