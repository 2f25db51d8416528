-- How often the meanings of tables name a register.
use Rattle.std.proofs.Common.{◌≡◌, ℕ, zero, suc, ◌+◌, ◌<◌, ◌≤◌, List, [], ◌∷◌, length, Bool, true, false, refl, ap, sym, arith}
use Rattle.std.specs.Prelude.{map, nat_lt, slice_index_or, slice_set, IsTrue, if◌then◌else◌}
use Rattle.std.specs.List.{range_with_len}
use Rattle.std.proofs.lemmas.Bool.{ltb-true, false≢true}
use Rattle.tokens.specs.declared.meaning.RegKind.{RegKind}
use Rattle.tokens.specs.declared.meaning.RegKind.TheVariants.{Count, Dimen, Skip, Muskip, Box, Toks}
use Rattle.tokens.specs.declared.meaning.Meaning.{Meaning}
use Rattle.tokens.specs.declared.meaning.Meaning.TheVariants as meaning
use Rattle.tokens.specs.Primitives.{primitive_meaning, primitive_count}
use Rattle.save_groups.specs.declared.key.Key.{Key}
use Rattle.save_groups.specs.declared.key.Key.TheVariants.{Register, Parameter, Code, Name, Active, CurrentFont, Family, Shape, Penalties}
use Rattle.save_groups.specs.declared.value.Value.{Value}
use Rattle.save_groups.specs.declared.value.Value.TheVariants as value
use Rattle.save_groups.specs.declared.entry.Entry.{Entry}
use Rattle.save_groups.specs.Keys.{same_key, holds_meaning}
use Rattle.save_groups.specs.StartTables.{start_names, meaning_at_start}
use Rattle.save_groups.specs.Entries.{Entries, at, fresh, as_value, has_room, with_meaning}
use Rattle.save_groups.specs.Table.{ReadsAlike}
use Rattle.save_groups.specs.Nodes.{named_by, named_by_meaning}
use Rattle.save_groups.specs.InTrees.{count_of}
use Rattle.save_groups.specs.Holding.{named_in, named_count}

-- one entry of a table changed
in-set : (key : Key) (table : List (Entry Meaning)) (place : ℕ) (entry rest : Entry Meaning) → place < length table
    → named_in key (slice_set table place entry) + count_of key (named_by_meaning (slice_index_or table place rest).value) ≡ named_in key table + count_of key (named_by_meaning entry.value)
in-set key [] place entry rest below = absurd (omega arith)
in-set key (x ∷ table) zero entry rest below = omega arith
in-set key (x ∷ table) (suc place) entry rest below = omega (arith, in-set key table place entry rest (omega arith))

-- a table in which no meaning but the undefined one stands
none : (key : Key) (table : List (Entry Meaning)) → ((place : ℕ) → slice_index_or table place (fresh meaning.Undefined) ≡ fresh meaning.Undefined) → named_in key table ≡ 0
none key [] h = refl
none key (x ∷ table) h =
    let first : count_of key (named_by_meaning x.value) ≡ 0 = ap (λ (y : Entry Meaning). count_of key (named_by_meaning y.value)) (h 0) in
    omega (arith, first, none key table (λ place. h (suc place)))

alike_by : (key : Key) (xs ys : List (Entry Meaning)) → ((place : ℕ) → slice_index_or ys place (fresh meaning.Undefined) ≡ slice_index_or xs place (fresh meaning.Undefined)) → named_in key ys ≡ named_in key xs
alike_by key [] ys h = none key ys h
alike_by key (x ∷ xs) [] h = sym (none key (x ∷ xs) (λ place. sym (h place)))
alike_by key (x ∷ xs) (y ∷ ys) h =
    let first : count_of key (named_by_meaning y.value) ≡ count_of key (named_by_meaning x.value) = ap (λ (z : Entry Meaning). count_of key (named_by_meaning z.value)) (h 0) in
    omega (arith, first, alike_by key xs ys (λ place. h (suc place)))

-- tables that are read alike
pub named-alike : (key : Key) (xs ys : List (Entry Meaning)) → ReadsAlike (fresh meaning.Undefined) xs ys → named_in key ys ≡ named_in key xs
named-alike key xs ys h = alike_by key xs ys h.alike

-- a meaning names one register at most
one_at_most : (b : Bool) → (if b then 1 else 0) + 0 ≤ 1
one_at_most true = omega arith
one_at_most false = omega arith

few_named : (key : Key) (m : Meaning) → count_of key (named_by_meaning m) ≤ 1
few_named key meaning.Undefined = omega arith
few_named key (meaning.Primitive code) = omega arith
few_named key (meaning.Macro m) = omega arith
few_named key (meaning.Char cat byte) = omega arith
few_named key (meaning.CharDef byte) = omega arith
few_named key (meaning.MathCharDef code) = omega arith
few_named key (meaning.Register kind number) = one_at_most (same_key (Register kind number) key)
few_named key (meaning.Font font) = omega arith

pub named-one : (key : Key) (v : Value) → count_of key (named_by v) ≤ 1
named-one key (value.Number n) = omega arith
named-one key (value.Glue g) = omega arith
named-one key (value.Tokens xs) = omega arith
named-one key (value.Meaning m) = few_named key m
named-one key (value.Boxed b) = omega arith
named-one key (value.Table ns) = omega arith

pub named-few : (key : Key) (table : List (Entry Meaning)) → named_in key table ≤ length table
named-few key [] = omega arith
named-few key (x ∷ table) = omega (arith, few_named key x.value, named-few key table)

-- at the start none names a register
start_primitive : (key : Key) (b : Bool) (code : ℕ) → count_of key (named_by_meaning (if b then meaning.Font 0 else meaning.Primitive code)) ≡ 0
start_primitive key true code = refl
start_primitive key false code = refl

start_one : (key : Key) (b : Bool) (id : ℕ) → count_of key (named_by_meaning (if b then primitive_meaning id else meaning.Undefined)) ≡ 0
start_one key true id = start_primitive key _ id
start_one key false id = refl

start_many : (key : Key) (extended : Bool) (ids : List ℕ) → named_in key (map (meaning_at_start extended) ids) ≡ 0
start_many key extended [] = refl
start_many key extended (id ∷ ids) = omega (arith, start_one key (nat_lt id (primitive_count extended)) id, start_many key extended ids)

pub named-start : (key : Key) (extended : Bool) → named_in key (start_names extended) ≡ 0
unfolding start_names
named-start key extended = start_many key extended (range_with_len 0 391)

-- a meaning put in the place of another
pub named-replaced : (key : Key) (entry old : Entry Meaning) (e new : Entries) → IsTrue (has_room e key) → IsTrue (holds_meaning key)
    → as_value value.Meaning old ≡ at e key → new ≡ with_meaning key entry e → (other : Key)
    → named_count other new + count_of other (named_by_meaning old.value) ≡ named_count other e + count_of other (named_by_meaning entry.value)
named-replaced (Name id) entry old e new room kind stood put other =
    let rest : count_of other (named_by_meaning old.value) ≡ count_of other (named_by_meaning (slice_index_or e.names id.0 (fresh meaning.Undefined)).value) =
    ap (λ (x : Entry Value). count_of other (named_by x.value)) stood in
    omega (arith, ap (named_count other) put, rest, in-set other e.names id.0 entry (fresh meaning.Undefined) (ltb-true _ _ room))
named-replaced (Active byte) entry old e new room kind stood put other =
    let rest : count_of other (named_by_meaning old.value) ≡ count_of other (named_by_meaning (slice_index_or e.actives byte (fresh meaning.Undefined)).value) =
    ap (λ (x : Entry Value). count_of other (named_by x.value)) stood in
    omega (arith, ap (named_count other) put, rest, in-set other e.actives byte entry (fresh meaning.Undefined) (ltb-true _ _ room))
named-replaced (Register kind_of number) entry old e new room kind stood put other = absurd (no_register kind_of kind)
  where
    no_register : (k : RegKind) → holds_meaning (Register k number) ≡ true → ⊥
    no_register Count h = false≢true h
    no_register Dimen h = false≢true h
    no_register Skip h = false≢true h
    no_register Muskip h = false≢true h
    no_register Box h = false≢true h
    no_register Toks h = false≢true h
named-replaced (Parameter place) entry old e new room kind stood put other = absurd (false≢true kind)
named-replaced (Code table byte) entry old e new room kind stood put other = absurd (false≢true kind)
named-replaced CurrentFont entry old e new room kind stood put other = absurd (false≢true kind)
named-replaced (Family size number) entry old e new room kind stood put other = absurd (false≢true kind)
named-replaced Shape entry old e new room kind stood put other = absurd (false≢true kind)
named-replaced (Penalties array) entry old e new room kind stood put other = absurd (false≢true kind)
