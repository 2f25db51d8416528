-- The tables of the start stand for the environment of the start.
use Rattle.std.proofs.Common.{◌≡◌, ℕ, zero, suc, ◌<◌, ◌≤◌, List, [], ◌∷◌, length, Bool, true, false, refl, ap, sym, ◌∙◌, arith}
use Rattle.std.specs.Prelude.{pos, None, ◌/◌, ◌%◌, nat_lt, map, replicate, slice_index, slice_index_or, if◌then◌else◌}
use Rattle.std.specs.List.{range_with_len}
use Rattle.std.proofs.lemmas.Bool.{ltb-true, lt-ltb, false_from_ne_true, false≢true}
use Rattle.std.proofs.lemmas.List.FromFn.{get_or-map-range_with_len, length-map-range_with_len}
use Rattle.tokens.specs.declared.meaning.RegKind.TheVariants.{Count, Dimen, Skip, Muskip, Box, Toks}
use Rattle.tokens.specs.declared.meaning.Meaning.TheVariants.{Undefined}
use Rattle.tokens.specs.Primitives.{start_meaning, primitive_meaning}
use Rattle.tokens.specs.Categories.{initial_categories, initial_category}
use Rattle.save_groups.specs.declared.key.Key.{Key}
use Rattle.save_groups.specs.declared.key.Key.TheVariants.{Register, Parameter, Code, Name, Active, CurrentFont, Family, Shape, Penalties}
use Rattle.save_groups.specs.declared.value.Value.{Value}
use Rattle.save_groups.specs.declared.value.Value.TheVariants as value
use Rattle.save_groups.specs.declared.entry.Entry.{Entry}
use Rattle.save_groups.specs.Keys.{is_glue_parameter, is_token_parameter}
use Rattle.save_groups.specs.StartValues.{start_code, start_number, start_parameter_by, zero_glue}
use Rattle.save_groups.specs.StartTables.{start_numbers, start_codes, start_names, start_levels, start_boxes, start_penalties, void_at_start, table_at_start, number_at_start, code_at_start, meaning_at_start}
use Rattle.save_groups.specs.Environments.{start_environment}
use Rattle.save_groups.specs.Entries.{Entries, at, as_value, fresh, entry_at, parameter_by, category_entry, code_place, family_place}

pub record IsStart (extended : Bool) (e : Entries) : Type 0 where
  pub counts : e.counts ≡ []
  pub dimens : e.dimens ≡ []
  pub skips : e.skips ≡ []
  pub muskips : e.muskips ≡ []
  pub boxes : e.boxes ≡ start_boxes
  pub lists : e.lists ≡ []
  pub number_parameters : e.number_parameters ≡ start_numbers
  pub glue_parameters : e.glue_parameters ≡ []
  pub token_parameters : e.token_parameters ≡ []
  pub categories : e.categories ≡ initial_categories
  pub category_levels : e.category_levels ≡ start_levels
  pub codes : e.codes ≡ start_codes
  pub names : e.names ≡ start_names extended
  pub actives : e.actives ≡ []
  pub font : e.font ≡ fresh (pos 0)
  pub families : e.families ≡ []
  pub shape : e.shape ≡ fresh []
  pub penalties : e.penalties ≡ start_penalties

-- where the test fails
not_below : (m n : ℕ) → nat_lt m n ≡ false → n ≤ m
not_below m n e = omega (arith, λ (h : m < n). false≢true (sym e ∙ lt-ltb m n h))

-- a number is below another or not
below_or_not : (m n : ℕ) (P : Type 0) → (m < n → P) → (n ≤ m → P) → P
below_or_not m n P under over = by_test (nat_lt m n) refl
  where
    by_test : (b : Bool) → nat_lt m n ≡ b → P
    by_test true e = under (ltb-true m n e)
    by_test false e = over (not_below m n e)

-- what stands behind a table's end
pub past_end : {A : Type 0} (xs : List A) (k : ℕ) (d : A) → length xs ≤ k → slice_index_or xs k d ≡ d
past_end [] k d h = refl
past_end (x ∷ xs) zero d h = absurd (omega arith)
past_end (x ∷ xs) (suc k) d h = past_end xs k d (omega arith)

-- a table of the values of the start
filled : {A : Type 0} (f : ℕ → A) (n k : ℕ) (d : A) → (k < n → f k ≡ d) → slice_index_or (map f (range_with_len 0 n)) k d ≡ d
filled {A} f n k d h = below_or_not k n (slice_index_or (map f (range_with_len 0 n)) k d ≡ d)
    (λ below. get_or-map-range_with_len f 0 n k k d below (omega arith) ∙ h below)
    (λ above. past_end (map f (range_with_len 0 n)) k d (omega (arith, length-map-range_with_len f 0 n)))

empty : {A : Type 0} (wrap : A → Value) (start : A) (table : List (Entry A)) (place : ℕ) → table ≡ [] → entry_at wrap start table place ≡ fresh (wrap start)
empty wrap start table place e = ap (λ t. entry_at wrap start t place) e

number_filled : (place : ℕ) → slice_index_or start_numbers place (fresh (pos (start_number place))) ≡ fresh (pos (start_number place))
unfolding start_numbers
number_filled place = filled number_at_start 111 place (fresh (pos (start_number place))) (λ below. refl)

box_filled : (number : ℕ) → slice_index_or start_boxes number (fresh None) ≡ fresh None
unfolding start_boxes
box_filled number = filled void_at_start 256 number (fresh None) (λ below. refl)

table_filled : (array : ℕ) → slice_index_or start_penalties array (fresh []) ≡ fresh []
unfolding start_penalties
table_filled array = filled table_at_start 4 array (fresh []) (λ below. refl)

row_of : (t b : ℕ) → b < 256 → code_place t b / 256 ≡ t
row_of t b below = omega arith

column_of : (t b : ℕ) → b < 256 → code_place t b % 256 ≡ b
column_of t b below = omega arith

code_filled : (t b : ℕ) → b < 256 → slice_index_or start_codes (code_place t b) (fresh (start_code (suc t) b)) ≡ fresh (start_code (suc t) b)
unfolding start_codes
code_filled t b small = filled code_at_start 1280 (code_place t b) (fresh (start_code (suc t) b))
    (λ below. ap (λ r. fresh (start_code (suc r) (code_place t b % 256))) (row_of t b small)
    ∙ ap (λ c. fresh (start_code (suc t) c)) (column_of t b small))

at_parameter : (e : Entries) (extended : Bool) (place : ℕ) (is_glue is_list : Bool) → IsStart extended e
    → parameter_by e place is_glue is_list ≡ fresh (start_parameter_by place is_glue is_list)
at_parameter e extended place true is_list h = empty value.Glue zero_glue e.glue_parameters place h.glue_parameters
at_parameter e extended place false true h = empty value.Tokens [] e.token_parameters place h.token_parameters
at_parameter e extended place false false h =
    ap (λ t. entry_at value.Number (pos (start_number place)) t place) h.number_parameters ∙ ap (as_value value.Number) (number_filled place)

-- one element a place
repeated : (n k : ℕ) (x d : ℕ) → k < n → slice_index_or (replicate n x) k d ≡ x
repeated zero k x d h = absurd (omega arith)
repeated (suc n) zero x d h = refl
repeated (suc n) (suc k) x d h = repeated n k x d (omega arith)

category_filled : (byte : ℕ) → byte < 256 → slice_index initial_categories byte ≡ initial_category byte
unfolding initial_categories
category_filled byte below = get_or-map-range_with_len initial_category 0 256 byte byte 0 below (omega arith)

level_filled : (byte : ℕ) → byte < 256 → slice_index start_levels byte ≡ 1
unfolding start_levels
level_filled byte below = repeated 256 byte 1 0 below

category_along : (m n k l : ℕ) → m ≡ n → k ≡ l
    → (let x : Entry Value = record { value = value.Number (pos m); level = k } in let y : Entry Value = record { value = value.Number (pos n); level = l } in x ≡ y)
category_along m n k l p q = cc

at_category : (e : Entries) (extended : Bool) (byte : ℕ) (within : Bool) → nat_lt byte 256 ≡ within → IsStart extended e
    → (if within then category_entry e byte else fresh (value.Number (start_code 0 byte))) ≡ fresh (value.Number (start_code 0 byte))
at_category e extended byte true in_range h =
    let small : byte < 256 = ltb-true byte 256 in_range in
    category_along _ _ _ _ (ap (λ t. slice_index t byte) h.categories ∙ category_filled byte small)
    (ap (λ t. slice_index t byte) h.category_levels ∙ level_filled byte small)
at_category e extended byte false in_range h = refl

at_code : (e : Entries) (extended : Bool) (t b : ℕ) (within : Bool) → nat_lt b 256 ≡ within → IsStart extended e
    → (if within then entry_at value.Number (start_code (suc t) b) e.codes (code_place t b) else fresh (value.Number (start_code (suc t) b)))
    ≡ fresh (value.Number (start_code (suc t) b))
at_code e extended t b true in_range h =
    ap (λ table. entry_at value.Number (start_code (suc t) b) table (code_place t b)) h.codes
    ∙ ap (as_value value.Number) (code_filled t b (ltb-true b 256 in_range))
at_code e extended t b false in_range h = refl

at_family : (e : Entries) (extended : Bool) (s n : ℕ) (within : Bool) → IsStart extended e
    → (if within then entry_at value.Number (pos 0) e.families (family_place s n) else fresh (value.Number (pos 0))) ≡ fresh (value.Number (pos 0))
at_family e extended s n true h = empty value.Number (pos 0) e.families (family_place s n) h.families
at_family e extended s n false h = refl

-- behind the primitives nothing has a meaning
no_meaning : (extended : Bool) (id : ℕ) → 391 ≤ id → start_meaning extended id ≡ Undefined
no_meaning true id above = ap (λ b. if b then primitive_meaning id else Undefined) (not_under id 391 (omega arith))
  where
    not_under : (m n : ℕ) → n ≤ m → nat_lt m n ≡ false
    not_under m n h = false_from_ne_true _ (λ e. let below : m < n = ltb-true m n e in omega arith)
no_meaning false id above = ap (λ b. if b then primitive_meaning id else Undefined) (not_under id 325 (omega arith))
  where
    not_under : (m n : ℕ) → n ≤ m → nat_lt m n ≡ false
    not_under m n h = false_from_ne_true _ (λ e. let below : m < n = ltb-true m n e in omega arith)

at_name : (extended : Bool) (id : ℕ) → slice_index_or (start_names extended) id (fresh Undefined) ≡ fresh (start_meaning extended id)
unfolding start_names
at_name extended id =
    below_or_not id 391 (slice_index_or (map (meaning_at_start extended) (range_with_len 0 391)) id (fresh Undefined) ≡ fresh (start_meaning extended id))
    (λ below. get_or-map-range_with_len (meaning_at_start extended) 0 391 id id (fresh Undefined) below (omega arith))
    (λ above. past_end (map (meaning_at_start extended) (range_with_len 0 391)) id (fresh Undefined)
    (omega (arith, length-map-range_with_len (meaning_at_start extended) 0 391)) ∙ ap fresh (sym (no_meaning extended id above)))

pub at_start : (extended : Bool) (e : Entries) → IsStart extended e → (key : Key) → at e key ≡ start_environment extended key
at_start extended e h (Register Count n) = empty value.Number _ e.counts n h.counts
at_start extended e h (Register Dimen n) = empty value.Number _ e.dimens n h.dimens
at_start extended e h (Register Skip n) = empty value.Glue _ e.skips n h.skips
at_start extended e h (Register Muskip n) = empty value.Glue _ e.muskips n h.muskips
at_start extended e h (Register Box n) = ap (λ t. entry_at value.Boxed None t n) h.boxes ∙ ap (as_value value.Boxed) (box_filled n)
at_start extended e h (Register Toks n) = empty value.Tokens _ e.lists n h.lists
at_start extended e h (Parameter place) = at_parameter e extended place (is_glue_parameter place) (is_token_parameter place) h
at_start extended e h (Code zero byte) = at_category e extended byte (nat_lt byte 256) refl h
at_start extended e h (Code (suc table) byte) = at_code e extended table byte (nat_lt byte 256) refl h
at_start extended e h (Name id) =
    ap (λ t. entry_at value.Meaning Undefined t id.0) h.names ∙ ap (as_value value.Meaning) (at_name extended id.0)
at_start extended e h (Active byte) = empty value.Meaning _ e.actives byte h.actives
at_start extended e h CurrentFont = ap (as_value value.Number) h.font
at_start extended e h (Family size number) = at_family e extended size number (nat_lt number 16) h
at_start extended e h Shape = ap (as_value value.Table) h.shape
at_start extended e h (Penalties array) = ap (λ t. entry_at value.Table [] t array) h.penalties ∙ ap (as_value value.Table) (table_filled array)

-- how far the tables of the start reach
pub length-start_numbers : length start_numbers ≡ 111
unfolding start_numbers
length-start_numbers = length-map-range_with_len number_at_start 0 111

pub length-start_codes : length start_codes ≡ 1280
unfolding start_codes
length-start_codes = length-map-range_with_len code_at_start 0 1280

pub length-start_penalties : length start_penalties ≡ 4
unfolding start_penalties
length-start_penalties = length-map-range_with_len table_at_start 0 4

pub length-start_boxes : length start_boxes ≡ 256
unfolding start_boxes
length-start_boxes = length-map-range_with_len void_at_start 0 256

pub length-start_levels : length start_levels ≡ 256
unfolding start_levels
length-start_levels = refl

pub length-initial_categories : length initial_categories ≡ 256
unfolding initial_categories
length-initial_categories = length-map-range_with_len initial_category 0 256
