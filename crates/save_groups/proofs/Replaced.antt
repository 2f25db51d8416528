-- An entry that is put into the tables changes the environment at its key, and nowhere else.
use Rattle.std.proofs.Common.{◌≡◌, ◌≢◌, ℕ, zero, suc, ◌<◌, ◌≤◌, List, [], length, Bool, true, false, refl, ap, sym, ◌∙◌, arith, subst}
use Rattle.std.specs.Prelude.{ℤ, pos, negsuc, nat_lt, nat_le, ◌==◌, ◌&&◌, ◌||◌, not, IsTrue, Option, None, slice_index, slice_set, if◌then◌else◌}
use Rattle.std.proofs.lemmas.Bool.{ltb-true, lt-ltb, eqb-true, eq-eqb, and_parts, and_from, ne_eqb, eqb-false, false≢true, leb-true}
use Rattle.std.proofs.lemmas.List.{get_or-set_same, get_or-set_other}
use Rattle.scaled.specs.declared.spacing.Glue.{Glue}
use Rattle.nodes.specs.declared.boxes.BoxNode.{BoxNode}
use Rattle.nodes.specs.declared.node.Node.{Node}
use Rattle.tokens.specs.declared.token.Token.{Token}
use Rattle.tokens.specs.declared.meaning.RegKind.TheVariants.{Count, Dimen, Skip, Muskip, Box, Toks}
use Rattle.save_groups.specs.declared.key.Key.{Key}
use Rattle.save_groups.specs.declared.key.Key.TheVariants.{Register, Parameter, Code, Name, Active, CurrentFont, Family, Shape, Penalties}
use Rattle.save_groups.specs.declared.value.Value.{Value}
use Rattle.save_groups.specs.declared.value.Value.TheVariants as value
use Rattle.save_groups.specs.declared.entry.Entry.{Entry}
use Rattle.tokens.specs.Parameters.{first_glue_place, first_token_place, first_extended_place, everyeof_place}
use Rattle.save_groups.specs.Keys.{is_glue_parameter, is_token_parameter, holds_number, holds_glue, holds_tokens, holds_box, holds_table}
use Rattle.save_groups.specs.Values.{fits, is_number_of, is_category}
use Rattle.save_groups.specs.StartValues.{start_code, start_number, zero_glue}
use Rattle.save_groups.specs.Environments.{updated}
use Rattle.save_groups.specs.Entries.{Entries, at, as_value, fresh, entry_at, parameter_by, parameter_entry, parameter_room_by, has_parameter_room, category_entry, category_of, code_place, family_place, has_room, with_number, with_glue, with_tokens, with_box, with_table}

-- a table with one entry changed
written_by : {A : Type 0} (wrap : A → Value) (start : A) (table : List (Entry A)) (place other : ℕ) (entry : Entry A) (b : Bool)
    → place < length table → (place == other) ≡ b
    → entry_at wrap start (slice_set table place entry) other ≡ (if b then as_value wrap entry else entry_at wrap start table other)
written_by wrap start table place other entry true below same =
    let e : place ≡ other = eqb-true place other same in
    let P : ℕ → Type 0 = λ k. entry_at wrap start (slice_set table place entry) k ≡ as_value wrap entry in
    subst P e (ap (as_value wrap) (get_or-set_same table place entry (fresh start) below))
written_by wrap start table place other entry false below differs =
    let ne : other ≢ place = λ e. eqb-false place other differs (sym e) in
    ap (as_value wrap) (get_or-set_other table place other entry (fresh start) ne)

written : {A : Type 0} (wrap : A → Value) (start : A) (table : List (Entry A)) (place other : ℕ) (entry : Entry A)
    → place < length table
    → entry_at wrap start (slice_set table place entry) other ≡ (if place == other then as_value wrap entry else entry_at wrap start table other)
written wrap start table place other entry below = written_by wrap start table place other entry (place == other) below refl

-- where the same entry is meant, the other one is a parameter of the same kind
number_parameter : (e : Entries) (place other : ℕ) (entry : Entry ℤ) (is_glue is_list same : Bool) → (place == other) ≡ same
    → (same ≡ true → is_glue ≡ false) → (same ≡ true → is_list ≡ false) → place < length e.number_parameters
    → parameter_by (record e { number_parameters = slice_set e.number_parameters place entry }) other is_glue is_list
    ≡ (if same then as_value value.Number entry else parameter_by e other is_glue is_list)
number_parameter e place other entry true is_list true eq glue list below = absurd (false≢true (sym (glue refl)))
number_parameter e place other entry true is_list false eq glue list below = refl
number_parameter e place other entry false true true eq glue list below = absurd (false≢true (sym (list refl)))
number_parameter e place other entry false true false eq glue list below = refl
number_parameter e place other entry false false same eq glue list below =
    written_by value.Number (pos (start_number other)) e.number_parameters place other entry same below eq

glue_parameter : (e : Entries) (place other : ℕ) (entry : Entry Glue) (is_glue is_list same : Bool) → (place == other) ≡ same
    → (same ≡ true → is_glue ≡ true) → place < length e.glue_parameters
    → parameter_by (record e { glue_parameters = slice_set e.glue_parameters place entry }) other is_glue is_list
    ≡ (if same then as_value value.Glue entry else parameter_by e other is_glue is_list)
glue_parameter e place other entry true is_list same eq glue below =
    written_by value.Glue zero_glue e.glue_parameters place other entry same below eq
glue_parameter e place other entry false is_list true eq glue below = absurd (false≢true (glue refl))
glue_parameter e place other entry false true false eq glue below = refl
glue_parameter e place other entry false false false eq glue below = refl

list_parameter : (e : Entries) (place other : ℕ) (entry : Entry (List Token)) (is_glue is_list same : Bool) → (place == other) ≡ same
    → (same ≡ true → is_glue ≡ false) → (same ≡ true → is_list ≡ true) → place < length e.token_parameters
    → parameter_by (record e { token_parameters = slice_set e.token_parameters place entry }) other is_glue is_list
    ≡ (if same then as_value value.Tokens entry else parameter_by e other is_glue is_list)
list_parameter e place other entry true is_list true eq glue list below = absurd (false≢true (sym (glue refl)))
list_parameter e place other entry true is_list false eq glue list below = refl
list_parameter e place other entry false true same eq glue list below =
    written_by value.Tokens [] e.token_parameters place other entry same below eq
list_parameter e place other entry false false true eq glue list below = absurd (false≢true (list refl))
list_parameter e place other entry false false false eq glue list below = refl

-- a test of the place holds for the other place, where they are one
moved : (test : ℕ → Bool) (b : Bool) (place other : ℕ) → test place ≡ b → (place == other) ≡ true → test other ≡ b
moved test b place other h same = let P : ℕ → Type 0 = λ k. test k ≡ b in subst P (eqb-true place other same) h

-- places in rows: those of two bytes are equal only in one row, and for one byte
code_row : (row column r c : ℕ) → column < 256 → c < 256 → code_place row column ≡ code_place r c → row ≡ r
code_row row column r c below within e = omega arith

code_column : (row column r c : ℕ) → column < 256 → c < 256 → code_place row column ≡ code_place r c → column ≡ c
code_column row column r c below within e = let same : row ≡ r = code_row row column r c below within e in omega arith

family_row : (row column r c : ℕ) → column < 16 → c < 16 → family_place row column ≡ family_place r c → row ≡ r
family_row row column r c below within e = omega arith

family_column : (row column r c : ℕ) → column < 16 → c < 16 → family_place row column ≡ family_place r c → column ≡ c
family_column row column r c below within e = let same : row ≡ r = family_row row column r c below within e in omega arith

-- a test of places is the test of row and column
in_rows : (place : ℕ → ℕ → ℕ) (row column r c : ℕ) (b : Bool) → (place row column ≡ place r c → row ≡ r) → (place row column ≡ place r c → column ≡ c)
    → (row == r && column == c) ≡ b → (place row column == place r c) ≡ b
in_rows place row column r c true rows columns same =
    let p = and_parts (row == r) (column == c) same in
    let first : row ≡ r = eqb-true row r p.0 in
    let second : column ≡ c = eqb-true column c p.1 in
    let P : ℕ → Type 0 = λ x. place row column ≡ place x column in
    let Q : ℕ → Type 0 = λ y. place row column ≡ place r y in
    eq-eqb _ _ (subst Q second (subst P first refl))
in_rows place row column r c false rows columns differs =
    ne_eqb _ _ (λ e. false≢true (sym differs ∙ and_from _ _ (eq-eqb _ _ (rows e)) (eq-eqb _ _ (columns e))))

-- numbers that follow others are equal where those are
suc_test : (m n : ℕ) (b : Bool) → (m == n) ≡ b → (suc m == suc n) ≡ b
suc_test m n true e = eq-eqb _ _ (ap suc (eqb-true m n e))
suc_test m n false e = ne_eqb _ _ (λ same. eqb-false m n e (omega (arith, same)))

suc_test-is : (m n : ℕ) → (suc m == suc n) ≡ (m == n)
suc_test-is m n = suc_test m n (m == n) refl

zero_test : (m : ℕ) → (suc m == zero) ≡ false
zero_test m = ne_eqb _ _ (λ e. omega (arith, e))

zero_test-of : (m : ℕ) → (zero == suc m) ≡ false
zero_test-of m = ne_eqb _ _ (λ e. omega (arith, e))

-- a code behind the categories
code_written : (e : Entries) (table byte t b : ℕ) (entry : Entry ℤ) (within same : Bool) → byte < 256 → code_place table byte < length e.codes
    → nat_lt b 256 ≡ within → (table == t && byte == b) ≡ same
    → (if within then entry_at value.Number (start_code (suc t) b) (slice_set e.codes (code_place table byte) entry) (code_place t b) else fresh (value.Number (start_code (suc t) b)))
    ≡ (if same then as_value value.Number entry else (if within then entry_at value.Number (start_code (suc t) b) e.codes (code_place t b) else fresh (value.Number (start_code (suc t) b))))
code_written e table byte t b entry true same below room in_range eq =
    let small : b < 256 = ltb-true b 256 in_range in
    written_by value.Number (start_code (suc t) b) e.codes (code_place table byte) (code_place t b) entry same room
    (in_rows code_place table byte t b same (code_row table byte t b below small) (code_column table byte t b below small) eq)
code_written e table byte t b entry false true below room in_range eq =
    let one : byte ≡ b = eqb-true byte b (and_parts (table == t) (byte == b) eq).1 in
    absurd (false≢true (sym in_range ∙ lt-ltb b 256 (omega arith)))
code_written e table byte t b entry false false below room in_range eq = refl

-- a font of a family
family_written : (e : Entries) (size number s n : ℕ) (entry : Entry ℤ) (within same : Bool) → number < 16 → family_place size number < length e.families
    → nat_lt n 16 ≡ within → (size == s && number == n) ≡ same
    → (if within then entry_at value.Number (pos 0) (slice_set e.families (family_place size number) entry) (family_place s n) else fresh (value.Number (pos 0)))
    ≡ (if same then as_value value.Number entry else (if within then entry_at value.Number (pos 0) e.families (family_place s n) else fresh (value.Number (pos 0))))
family_written e size number s n entry true same below room in_range eq =
    let small : n < 16 = ltb-true n 16 in_range in
    written_by value.Number (pos 0) e.families (family_place size number) (family_place s n) entry same room
    (in_rows family_place size number s n same (family_row size number s n below small) (family_column size number s n below small) eq)
family_written e size number s n entry false true below room in_range eq =
    let one : number ≡ n = eqb-true number n (and_parts (size == s) (number == n) eq).1 in
    absurd (false≢true (sym in_range ∙ lt-ltb n 16 (omega arith)))
family_written e size number s n entry false false below room in_range eq = refl

-- a category is the number that it was made of
category_is : (n : ℤ) → IsTrue (is_category n) → pos (category_of n) ≡ n
category_is (pos n) h = refl
category_is (negsuc n) h = absurd (false≢true h)

category_written : (e : Entries) (byte b : ℕ) (entry : Entry ℤ) (within same : Bool) → IsTrue (is_category entry.value)
    → byte < 256 → byte < length e.categories → byte < length e.category_levels → nat_lt b 256 ≡ within → (byte == b) ≡ same
    → (if within then record { value = value.Number (pos (slice_index (slice_set e.categories byte (category_of entry.value)) b)); level = slice_index (slice_set e.category_levels byte entry.level) b } else fresh (value.Number (start_code 0 b)))
    ≡ (if same then as_value value.Number entry else (if within then category_entry e b else fresh (value.Number (start_code 0 b))))
category_written e byte b entry true true category below room levels in_range eq =
    let one : byte ≡ b = eqb-true byte b eq in
    let cat : slice_index (slice_set e.categories byte (category_of entry.value)) b ≡ category_of entry.value =
    (let P : ℕ → Type 0 = λ k. slice_index (slice_set e.categories byte (category_of entry.value)) k ≡ category_of entry.value in
    subst P one (get_or-set_same e.categories byte (category_of entry.value) 0 room)) in
    let level : slice_index (slice_set e.category_levels byte entry.level) b ≡ entry.level =
    (let P : ℕ → Type 0 = λ k. slice_index (slice_set e.category_levels byte entry.level) k ≡ entry.level in
    subst P one (get_or-set_same e.category_levels byte entry.level 0 levels)) in
    both _ _ _ _ (ap pos cat ∙ category_is entry.value category) level
  where
    both : (m n : ℤ) (k l : ℕ) → m ≡ n → k ≡ l
        → (let x : Entry Value = record { value = value.Number m; level = k } in let y : Entry Value = record { value = value.Number n; level = l } in x ≡ y)
    both m n k l p q = cc
category_written e byte b entry true false category below room levels in_range eq =
    let ne : b ≢ byte = λ e. eqb-false byte b eq (sym e) in
    both _ _ _ _ (get_or-set_other e.categories byte b (category_of entry.value) 0 ne) (get_or-set_other e.category_levels byte b entry.level 0 ne)
  where
    both : (m n k l : ℕ) → m ≡ n → k ≡ l
        → (let x : Entry Value = record { value = value.Number (pos m); level = k } in let y : Entry Value = record { value = value.Number (pos n); level = l } in x ≡ y)
    both m n k l p q = cc
category_written e byte b entry false true category below room levels in_range eq =
    let one : byte ≡ b = eqb-true byte b eq in
    absurd (false≢true (sym in_range ∙ lt-ltb b 256 (omega arith)))
category_written e byte b entry false false category below room levels in_range eq = refl

-- where the first of two tests fails, nothing is changed
not_there : {A : Type 0} (b c : Bool) (entry rest : A) → b ≡ false → rest ≡ (if b && c then entry else rest)
not_there true c entry rest e = absurd (false≢true (sym e))
not_there false c entry rest e = refl

-- of which kind a parameter is
neither : (b c : Bool) → IsTrue (not (b || c)) → (b ≡ false) × (c ≡ false)
neither true c h = absurd (false≢true h)
neither false true h = absurd (false≢true h)
neither false false h = (refl, refl)

-- a list of tokens is no glue
list_alone : (place : ℕ) → is_token_parameter place ≡ true → is_glue_parameter place ≡ false
list_alone place h = by_test (is_glue_parameter place) refl
  where
    by_test : (b : Bool) → is_glue_parameter place ≡ b → is_glue_parameter place ≡ false
    by_test false e = e
    by_test true e =
        let p = and_parts (nat_le first_glue_place place) (nat_lt place first_token_place) e in
        absurd (late (nat_le first_token_place place && nat_lt place first_extended_place) (place == everyeof_place) refl refl h (ltb-true _ _ p.1))
      where
        late : (b c : Bool) → (nat_le first_token_place place && nat_lt place first_extended_place) ≡ b → (place == everyeof_place) ≡ c → (b || c) ≡ true → place < 94 → ⊥
        late true c e f h below = let q : 94 ≤ place = leb-true _ _ (and_parts (nat_le first_token_place place) (nat_lt place first_extended_place) e).0 in omega arith
        late false true e f h below = let q : place ≡ 110 = eqb-true place 110 f in omega arith
        late false false e f h below = false≢true h

room_of : (e : Entries) (place : ℕ) (is_glue is_list : Bool) → is_glue_parameter place ≡ is_glue → is_token_parameter place ≡ is_list
    → IsTrue (has_parameter_room e place) → IsTrue (parameter_room_by e place is_glue is_list)
room_of e place is_glue is_list glue list room =
    let P : Bool → Type 0 = λ b. IsTrue (parameter_room_by e place b (is_token_parameter place)) in
    let Q : Bool → Type 0 = λ b. IsTrue (parameter_room_by e place is_glue b) in
    subst Q list (subst P glue room)

-- ---- the four kinds of values

number_parameter_written : (place other : ℕ) (entry : Entry ℤ) (e : Entries) → IsTrue (has_parameter_room e place)
    → (is_glue_parameter place ≡ false) × (is_token_parameter place ≡ false)
    → parameter_entry (record e { number_parameters = slice_set e.number_parameters place entry }) other
    ≡ (if place == other then as_value value.Number entry else parameter_entry e other)
number_parameter_written place other entry e room kind =
    number_parameter e place other entry (is_glue_parameter other) (is_token_parameter other) (place == other) refl
    (λ same. moved is_glue_parameter false place other kind.0 same)
    (λ same. moved is_token_parameter false place other kind.1 same)
    (ltb-true _ _ (room_of e place false false kind.0 kind.1 room))

pub at_with_number : (key : Key) (entry : Entry ℤ) (e : Entries) → IsTrue (has_room e key) → IsTrue (holds_number key) → IsTrue (is_number_of key entry.value)
    → (other : Key) → at (with_number key entry e) other ≡ updated key (as_value value.Number entry) (at e) other
at_with_number (Register Count n) entry e room kind range (Register Count m) = written value.Number (pos 0) e.counts n m entry (ltb-true _ _ room)
at_with_number (Register Count n) entry e room kind range _ = refl
at_with_number (Register Dimen n) entry e room kind range (Register Dimen m) = written value.Number (pos 0) e.dimens n m entry (ltb-true _ _ room)
at_with_number (Register Dimen n) entry e room kind range _ = refl
at_with_number (Register _ n) entry e room kind range other = absurd (false≢true kind)
at_with_number (Parameter place) entry e room kind range (Parameter other) =
    number_parameter_written place other entry e room (neither _ _ kind)
at_with_number (Parameter place) entry e room kind range _ = refl
at_with_number (Code zero byte) entry e room kind range (Code zero b) =
    let within = and_parts (nat_lt byte 256) _ room in
    let rooms = and_parts (nat_lt byte (length e.categories)) _ within.1 in
    category_written e byte b entry (nat_lt b 256) (byte == b) range (ltb-true _ _ within.0) (ltb-true _ _ rooms.0) (ltb-true _ _ rooms.1) refl refl
at_with_number (Code zero byte) entry e room kind range (Code (suc t) b) = not_there (zero == suc t) (byte == b) _ _ (zero_test-of t)
at_with_number (Code zero byte) entry e room kind range _ = refl
at_with_number (Code (suc table) byte) entry e room kind range (Code zero b) = not_there (suc table == zero) (byte == b) _ _ (zero_test table)
at_with_number (Code (suc table) byte) entry e room kind range (Code (suc t) b) =
    let rooms = and_parts (nat_lt byte 256) _ room in
    code_written e table byte t b entry (nat_lt b 256) (suc table == suc t && byte == b) (ltb-true _ _ rooms.0) (ltb-true _ _ rooms.1) refl
    (ap (λ x. x && byte == b) (sym (suc_test-is table t)))
at_with_number (Code (suc table) byte) entry e room kind range _ = refl
at_with_number CurrentFont entry e room kind range CurrentFont = refl
at_with_number CurrentFont entry e room kind range _ = refl
at_with_number (Family size number) entry e room kind range (Family s n) =
    let rooms = and_parts (nat_lt number 16) _ room in
    family_written e size number s n entry (nat_lt n 16) (size == s && number == n) (ltb-true _ _ rooms.0) (ltb-true _ _ rooms.1) refl refl
at_with_number (Family size number) entry e room kind range _ = refl
at_with_number (Name id) entry e room kind range other = absurd (false≢true kind)
at_with_number (Active byte) entry e room kind range other = absurd (false≢true kind)
at_with_number Shape entry e room kind range other = absurd (false≢true kind)
at_with_number (Penalties array) entry e room kind range other = absurd (false≢true kind)

glue_parameter_written : (place other : ℕ) (entry : Entry Glue) (e : Entries) → IsTrue (has_parameter_room e place) → is_glue_parameter place ≡ true
    → parameter_entry (record e { glue_parameters = slice_set e.glue_parameters place entry }) other
    ≡ (if place == other then as_value value.Glue entry else parameter_entry e other)
glue_parameter_written place other entry e room kind =
    glue_parameter e place other entry (is_glue_parameter other) (is_token_parameter other) (place == other) refl
    (λ same. moved is_glue_parameter true place other kind same)
    (ltb-true _ _ (room_of e place true (is_token_parameter place) kind refl room))

pub at_with_glue : (key : Key) (entry : Entry Glue) (e : Entries) → IsTrue (has_room e key) → IsTrue (holds_glue key)
    → (other : Key) → at (with_glue key entry e) other ≡ updated key (as_value value.Glue entry) (at e) other
at_with_glue (Register Skip n) entry e room kind (Register Skip m) = written value.Glue zero_glue e.skips n m entry (ltb-true _ _ room)
at_with_glue (Register Skip n) entry e room kind _ = refl
at_with_glue (Register Muskip n) entry e room kind (Register Muskip m) = written value.Glue zero_glue e.muskips n m entry (ltb-true _ _ room)
at_with_glue (Register Muskip n) entry e room kind _ = refl
at_with_glue (Parameter place) entry e room kind (Parameter other) = glue_parameter_written place other entry e room kind
at_with_glue (Parameter place) entry e room kind _ = refl
at_with_glue _ entry e room kind other = absurd (false≢true kind)

list_parameter_written : (place other : ℕ) (entry : Entry (List Token)) (e : Entries) → IsTrue (has_parameter_room e place) → is_token_parameter place ≡ true
    → parameter_entry (record e { token_parameters = slice_set e.token_parameters place entry }) other
    ≡ (if place == other then as_value value.Tokens entry else parameter_entry e other)
list_parameter_written place other entry e room kind =
    list_parameter e place other entry (is_glue_parameter other) (is_token_parameter other) (place == other) refl
    (λ same. moved is_glue_parameter false place other (list_alone place kind) same)
    (λ same. moved is_token_parameter true place other kind same)
    (ltb-true _ _ (room_of e place false true (list_alone place kind) kind room))

pub at_with_tokens : (key : Key) (entry : Entry (List Token)) (e : Entries) → IsTrue (has_room e key) → IsTrue (holds_tokens key)
    → (other : Key) → at (with_tokens key entry e) other ≡ updated key (as_value value.Tokens entry) (at e) other
at_with_tokens (Register Toks n) entry e room kind (Register Toks m) = written value.Tokens [] e.lists n m entry (ltb-true _ _ room)
at_with_tokens (Register Toks n) entry e room kind _ = refl
at_with_tokens (Parameter place) entry e room kind (Parameter other) = list_parameter_written place other entry e room kind
at_with_tokens (Parameter place) entry e room kind _ = refl
at_with_tokens _ entry e room kind other = absurd (false≢true kind)

pub at_with_box : (key : Key) (entry : Entry (Option (BoxNode (List Node)))) (e : Entries) → IsTrue (has_room e key) → IsTrue (holds_box key)
    → (other : Key) → at (with_box key entry e) other ≡ updated key (as_value value.Boxed entry) (at e) other
at_with_box (Register Box n) entry e room kind (Register Box m) = written value.Boxed None e.boxes n m entry (ltb-true _ _ room)
at_with_box (Register Box n) entry e room kind _ = refl
at_with_box _ entry e room kind other = absurd (false≢true kind)

pub at_with_table : (key : Key) (entry : Entry (List ℤ)) (e : Entries) → IsTrue (has_room e key) → IsTrue (holds_table key)
    → (other : Key) → at (with_table key entry e) other ≡ updated key (as_value value.Table entry) (at e) other
at_with_table Shape entry e room kind Shape = refl
at_with_table Shape entry e room kind _ = refl
at_with_table (Penalties n) entry e room kind (Penalties m) = written value.Table [] e.penalties n m entry (ltb-true _ _ room)
at_with_table (Penalties n) entry e room kind _ = refl
at_with_table (Register Count n) entry e room kind other = absurd (false≢true kind)
at_with_table (Register Dimen n) entry e room kind other = absurd (false≢true kind)
at_with_table (Register Skip n) entry e room kind other = absurd (false≢true kind)
at_with_table (Register Muskip n) entry e room kind other = absurd (false≢true kind)
at_with_table (Register Box n) entry e room kind other = absurd (false≢true kind)
at_with_table (Register Toks n) entry e room kind other = absurd (false≢true kind)
at_with_table (Parameter place) entry e room kind other = absurd (false≢true kind)
at_with_table (Code table byte) entry e room kind other = absurd (false≢true kind)
at_with_table (Name id) entry e room kind other = absurd (false≢true kind)
at_with_table (Active byte) entry e room kind other = absurd (false≢true kind)
at_with_table CurrentFont entry e room kind other = absurd (false≢true kind)
at_with_table (Family size number) entry e room kind other = absurd (false≢true kind)

-- an entry of any kind of value
pub replaced_number : (key : Key) (v : Value) (level : ℕ) (n : ℤ) (e new : Entries) → v ≡ value.Number n → IsTrue (has_room e key) → IsTrue (fits key v)
    → new ≡ with_number key (record { value = n; level = level }) e → (other : Key) → at new other ≡ updated key (record { value = v; level = level }) (at e) other
replaced_number key v level n e new is room fit put other =
    let F : Value → Type 0 = λ w. IsTrue (fits key w) in
    let kind = and_parts (holds_number key) (is_number_of key n) (subst F is fit) in
    let P : Value → Type 0 = λ w. at (with_number key (record { value = n; level = level }) e) other ≡ updated key (record { value = w; level = level }) (at e) other in
    ap (λ (f : Entries). at f other) put ∙ subst P (sym is) (at_with_number key (record { value = n; level = level }) e room kind.0 kind.1 other)

pub replaced_glue : (key : Key) (v : Value) (level : ℕ) (g : Glue) (e new : Entries) → v ≡ value.Glue g → IsTrue (has_room e key) → IsTrue (fits key v)
    → new ≡ with_glue key (record { value = g; level = level }) e → (other : Key) → at new other ≡ updated key (record { value = v; level = level }) (at e) other
replaced_glue key v level g e new is room fit put other =
    let F : Value → Type 0 = λ w. IsTrue (fits key w) in
    let P : Value → Type 0 = λ w. at (with_glue key (record { value = g; level = level }) e) other ≡ updated key (record { value = w; level = level }) (at e) other in
    ap (λ (f : Entries). at f other) put ∙ subst P (sym is) (at_with_glue key (record { value = g; level = level }) e room (subst F is fit) other)

pub replaced_tokens : (key : Key) (v : Value) (level : ℕ) (xs : List Token) (e new : Entries) → v ≡ value.Tokens xs → IsTrue (has_room e key) → IsTrue (fits key v)
    → new ≡ with_tokens key (record { value = xs; level = level }) e → (other : Key) → at new other ≡ updated key (record { value = v; level = level }) (at e) other
replaced_tokens key v level xs e new is room fit put other =
    let F : Value → Type 0 = λ w. IsTrue (fits key w) in
    let P : Value → Type 0 = λ w. at (with_tokens key (record { value = xs; level = level }) e) other ≡ updated key (record { value = w; level = level }) (at e) other in
    ap (λ (f : Entries). at f other) put ∙ subst P (sym is) (at_with_tokens key (record { value = xs; level = level }) e room (subst F is fit) other)

pub replaced_box : (key : Key) (v : Value) (level : ℕ) (b : Option (BoxNode (List Node))) (e new : Entries) → v ≡ value.Boxed b → IsTrue (has_room e key) → IsTrue (fits key v)
    → new ≡ with_box key (record { value = b; level = level }) e → (other : Key) → at new other ≡ updated key (record { value = v; level = level }) (at e) other
replaced_box key v level b e new is room fit put other =
    let F : Value → Type 0 = λ w. IsTrue (fits key w) in
    let P : Value → Type 0 = λ w. at (with_box key (record { value = b; level = level }) e) other ≡ updated key (record { value = w; level = level }) (at e) other in
    ap (λ (f : Entries). at f other) put ∙ subst P (sym is) (at_with_box key (record { value = b; level = level }) e room (subst F is fit) other)

pub replaced_table : (key : Key) (v : Value) (level : ℕ) (ns : List ℤ) (e new : Entries) → v ≡ value.Table ns → IsTrue (has_room e key) → IsTrue (fits key v)
    → new ≡ with_table key (record { value = ns; level = level }) e → (other : Key) → at new other ≡ updated key (record { value = v; level = level }) (at e) other
replaced_table key v level ns e new is room fit put other =
    let F : Value → Type 0 = λ w. IsTrue (fits key w) in
    let P : Value → Type 0 = λ w. at (with_table key (record { value = ns; level = level }) e) other ≡ updated key (record { value = w; level = level }) (at e) other in
    ap (λ (f : Entries). at f other) put ∙ subst P (sym is) (at_with_table key (record { value = ns; level = level }) e room (subst F is fit) other)
