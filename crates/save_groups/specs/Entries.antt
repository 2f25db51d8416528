-- How the environment that is in force is stored: tables by number, place, byte and id, where an entry that no
-- table reaches has its value of the start and the level 1.
use Rattle.std.specs.Prelude.{ℕ, ℤ, pos, negsuc, ◌+◌, ◌*◌, nat_lt, Bool, true, false, ◌&&◌, List, [], Option, None, length, slice_index, slice_index_or, slice_set, if◌then◌else◌}
use Rattle.std.proofs.Common.{zero, suc}
use Rattle.scaled.specs.declared.spacing.Glue.{Glue}
use Rattle.tokens.specs.declared.token.Token.{Token}
use Rattle.tokens.specs.declared.meaning.Meaning.{Meaning}
use Rattle.tokens.specs.declared.meaning.Meaning.TheVariants.{Undefined}
use Rattle.tokens.specs.declared.meaning.RegKind.TheVariants.{Count, Dimen, Skip, Muskip, Box, Toks}
use Rattle.nodes.specs.declared.boxes.BoxNode.{BoxNode}
use Rattle.nodes.specs.declared.node.Node.{Node}
use Rattle.save_groups.specs.declared.key.Key.{Key}
use Rattle.save_groups.specs.declared.key.Key.TheVariants.{Register, Parameter, Code, Name, Active, CurrentFont, Family, Shape, Penalties}
use Rattle.save_groups.specs.declared.value.Value.{Value}
use Rattle.save_groups.specs.declared.value.Value.TheVariants as value
use Rattle.save_groups.specs.declared.entry.Entry.{Entry}
use Rattle.save_groups.specs.Keys.{is_glue_parameter, is_token_parameter}
use Rattle.save_groups.specs.StartValues.{start_code, start_number, zero_glue}
use Rattle.save_groups.specs.Environments.{Environment}

pub record Entries : Type 0 where
  -- the registers
  pub counts : List (Entry ℤ)
  pub dimens : List (Entry ℤ)
  pub skips : List (Entry Glue)
  pub muskips : List (Entry Glue)
  pub boxes : List (Entry (Option (BoxNode (List Node))))
  pub lists : List (Entry (List Token))
  -- the parameters, each table by the place among all of them
  pub number_parameters : List (Entry ℤ)
  pub glue_parameters : List (Entry Glue)
  pub token_parameters : List (Entry (List Token))
  -- the categories with their levels, and the other five tables of codes, row after row
  pub categories : List ℕ
  pub category_levels : List ℕ
  pub codes : List (Entry ℤ)
  -- meanings by id and by byte
  pub names : List (Entry Meaning)
  pub actives : List (Entry Meaning)
  -- the font that is in use, and those of families, row after row
  pub font : Entry ℤ
  pub families : List (Entry ℤ)
  -- the shape of paragraphs, and the four arrays of penalties
  pub shape : Entry (List ℤ)
  pub penalties : List (Entry (List ℤ))

-- an entry as environments hold it
abbrev pub as_value : {A : Type 0} → (A → Value) → Entry A → Entry Value
as_value wrap entry = record { value = wrap entry.value; level = entry.level }

-- the entry before any assignment
abbrev pub fresh : {A : Type 0} → A → Entry A
fresh start = record { value = start; level = 1 }

-- the entry at a place of a table, which may not reach that far
abbrev pub entry_at : {A : Type 0} → (A → Value) → A → List (Entry A) → ℕ → Entry Value
entry_at wrap start table place = as_value wrap (slice_index_or table place (fresh start))

-- the place of a code, with the first table left out, and of a family's font
abbrev pub code_place : ℕ → ℕ → ℕ
code_place table byte = 256 * table + byte

abbrev pub family_place : ℕ → ℕ → ℕ
family_place size number = 16 * size + number

abbrev pub category_entry : Entries → ℕ → Entry Value
category_entry e byte =
    record { value = value.Number (pos (slice_index e.categories byte)); level = slice_index e.category_levels byte }

-- a parameter that is a glue, a list of tokens or a number
abbrev pub parameter_by : Entries → ℕ → Bool → Bool → Entry Value
parameter_by e place true is_list = entry_at value.Glue zero_glue e.glue_parameters place
parameter_by e place false true = entry_at value.Tokens [] e.token_parameters place
parameter_by e place false false = entry_at value.Number (pos (start_number place)) e.number_parameters place

abbrev pub parameter_entry : Entries → ℕ → Entry Value
parameter_entry e place = parameter_by e place (is_glue_parameter place) (is_token_parameter place)

-- the environment that the tables stand for. There are no bytes from 256 on, and no families from 16 on
abbrev pub at : Entries → Environment
at e (Register Count number) = entry_at value.Number (pos 0) e.counts number
at e (Register Dimen number) = entry_at value.Number (pos 0) e.dimens number
at e (Register Skip number) = entry_at value.Glue zero_glue e.skips number
at e (Register Muskip number) = entry_at value.Glue zero_glue e.muskips number
at e (Register Box number) = entry_at value.Boxed None e.boxes number
at e (Register Toks number) = entry_at value.Tokens [] e.lists number
at e (Parameter place) = parameter_entry e place
at e (Code zero byte) = if nat_lt byte 256 then category_entry e byte else fresh (value.Number (start_code 0 byte))
at e (Code (suc table) byte) =
    if nat_lt byte 256 then entry_at value.Number (start_code (suc table) byte) e.codes (code_place table byte)
    else fresh (value.Number (start_code (suc table) byte))
at e (Name id) = entry_at value.Meaning Undefined e.names id.0
at e (Active byte) = entry_at value.Meaning Undefined e.actives byte
at e CurrentFont = as_value value.Number e.font
at e (Family size number) =
    if nat_lt number 16 then entry_at value.Number (pos 0) e.families (family_place size number)
    else fresh (value.Number (pos 0))
at e Shape = as_value value.Table e.shape
at e (Penalties array) = entry_at value.Table [] e.penalties array

-- ---- one entry put in the place of another

-- the category that a number is
abbrev pub category_of : ℤ → ℕ
category_of (pos n) = n
category_of (negsuc n) = 0

abbrev pub with_number : Key → Entry ℤ → Entries → Entries
with_number (Register Count number) entry e = record e { counts = slice_set e.counts number entry }
with_number (Register Dimen number) entry e = record e { dimens = slice_set e.dimens number entry }
with_number (Register Skip number) entry e = e
with_number (Register Muskip number) entry e = e
with_number (Register Box number) entry e = e
with_number (Register Toks number) entry e = e
with_number (Parameter place) entry e = record e { number_parameters = slice_set e.number_parameters place entry }
with_number (Code zero byte) entry e = record e {
  categories = slice_set e.categories byte (category_of entry.value);
  category_levels = slice_set e.category_levels byte entry.level;
}
with_number (Code (suc table) byte) entry e = record e { codes = slice_set e.codes (code_place table byte) entry }
with_number (Name id) entry e = e
with_number (Active byte) entry e = e
with_number CurrentFont entry e = record e { font = entry }
with_number (Family size number) entry e = record e { families = slice_set e.families (family_place size number) entry }
with_number Shape entry e = e
with_number (Penalties array) entry e = e

abbrev pub with_glue : Key → Entry Glue → Entries → Entries
with_glue (Register Count number) entry e = e
with_glue (Register Dimen number) entry e = e
with_glue (Register Skip number) entry e = record e { skips = slice_set e.skips number entry }
with_glue (Register Muskip number) entry e = record e { muskips = slice_set e.muskips number entry }
with_glue (Register Box number) entry e = e
with_glue (Register Toks number) entry e = e
with_glue (Parameter place) entry e = record e { glue_parameters = slice_set e.glue_parameters place entry }
with_glue (Code zero byte) entry e = e
with_glue (Code (suc table) byte) entry e = e
with_glue (Name id) entry e = e
with_glue (Active byte) entry e = e
with_glue CurrentFont entry e = e
with_glue (Family size number) entry e = e
with_glue Shape entry e = e
with_glue (Penalties array) entry e = e

abbrev pub with_tokens : Key → Entry (List Token) → Entries → Entries
with_tokens (Register Count number) entry e = e
with_tokens (Register Dimen number) entry e = e
with_tokens (Register Skip number) entry e = e
with_tokens (Register Muskip number) entry e = e
with_tokens (Register Box number) entry e = e
with_tokens (Register Toks number) entry e = record e { lists = slice_set e.lists number entry }
with_tokens (Parameter place) entry e = record e { token_parameters = slice_set e.token_parameters place entry }
with_tokens (Code zero byte) entry e = e
with_tokens (Code (suc table) byte) entry e = e
with_tokens (Name id) entry e = e
with_tokens (Active byte) entry e = e
with_tokens CurrentFont entry e = e
with_tokens (Family size number) entry e = e
with_tokens Shape entry e = e
with_tokens (Penalties array) entry e = e

abbrev pub with_meaning : Key → Entry Meaning → Entries → Entries
with_meaning (Register Count number) entry e = e
with_meaning (Register Dimen number) entry e = e
with_meaning (Register Skip number) entry e = e
with_meaning (Register Muskip number) entry e = e
with_meaning (Register Box number) entry e = e
with_meaning (Register Toks number) entry e = e
with_meaning (Parameter place) entry e = e
with_meaning (Code zero byte) entry e = e
with_meaning (Code (suc table) byte) entry e = e
with_meaning (Name id) entry e = record e { names = slice_set e.names id.0 entry }
with_meaning (Active byte) entry e = record e { actives = slice_set e.actives byte entry }
with_meaning CurrentFont entry e = e
with_meaning (Family size number) entry e = e
with_meaning Shape entry e = e
with_meaning (Penalties array) entry e = e

abbrev pub with_box : Key → Entry (Option (BoxNode (List Node))) → Entries → Entries
with_box (Register Count number) entry e = e
with_box (Register Dimen number) entry e = e
with_box (Register Skip number) entry e = e
with_box (Register Muskip number) entry e = e
with_box (Register Box number) entry e = record e { boxes = slice_set e.boxes number entry }
with_box (Register Toks number) entry e = e
with_box (Parameter place) entry e = e
with_box (Code zero byte) entry e = e
with_box (Code (suc table) byte) entry e = e
with_box (Name id) entry e = e
with_box (Active byte) entry e = e
with_box CurrentFont entry e = e
with_box (Family size number) entry e = e
with_box Shape entry e = e
with_box (Penalties array) entry e = e

abbrev pub with_table : Key → Entry (List ℤ) → Entries → Entries
with_table (Register Count number) entry e = e
with_table (Register Dimen number) entry e = e
with_table (Register Skip number) entry e = e
with_table (Register Muskip number) entry e = e
with_table (Register Box number) entry e = e
with_table (Register Toks number) entry e = e
with_table (Parameter place) entry e = e
with_table (Code zero byte) entry e = e
with_table (Code (suc table) byte) entry e = e
with_table (Name id) entry e = e
with_table (Active byte) entry e = e
with_table CurrentFont entry e = e
with_table (Family size number) entry e = e
with_table Shape entry e = record e { shape = entry }
with_table (Penalties array) entry e = record e { penalties = slice_set e.penalties array entry }

-- whether a table reaches an entry, so that it can be replaced
abbrev pub parameter_room_by : Entries → ℕ → Bool → Bool → Bool
parameter_room_by e place true is_list = nat_lt place (length e.glue_parameters)
parameter_room_by e place false true = nat_lt place (length e.token_parameters)
parameter_room_by e place false false = nat_lt place (length e.number_parameters)

abbrev pub has_parameter_room : Entries → ℕ → Bool
has_parameter_room e place = parameter_room_by e place (is_glue_parameter place) (is_token_parameter place)

abbrev pub has_room : Entries → Key → Bool
has_room e (Register Count number) = nat_lt number (length e.counts)
has_room e (Register Dimen number) = nat_lt number (length e.dimens)
has_room e (Register Skip number) = nat_lt number (length e.skips)
has_room e (Register Muskip number) = nat_lt number (length e.muskips)
has_room e (Register Box number) = nat_lt number (length e.boxes)
has_room e (Register Toks number) = nat_lt number (length e.lists)
has_room e (Parameter place) = has_parameter_room e place
has_room e (Code zero byte) =
    nat_lt byte 256 && (nat_lt byte (length e.categories) && nat_lt byte (length e.category_levels))
has_room e (Code (suc table) byte) = nat_lt byte 256 && nat_lt (code_place table byte) (length e.codes)
has_room e (Name id) = nat_lt id.0 (length e.names)
has_room e (Active byte) = nat_lt byte (length e.actives)
has_room e CurrentFont = true
has_room e (Family size number) = nat_lt number 16 && nat_lt (family_place size number) (length e.families)
has_room e Shape = true
has_room e (Penalties array) = nat_lt array (length e.penalties)
