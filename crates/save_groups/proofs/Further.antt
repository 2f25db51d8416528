-- Keys of entries that have their values of the start change neither the registers that are held nor the nodes.
use Rattle.std.proofs.Common.{◌≡◌, ℕ, List, [], ◌∷◌, ◌++◌, length, Bool, true, false, refl, ap, sym, ◌∙◌}
use Rattle.std.specs.Prelude.{ℤ, pos, nat_lt, nat_le, not, filter, Option, None, Some, Result, Ok, Err, if◌then◌else◌, ◌==◌}
use Rattle.std.specs.Ordering.{int_eq}
use Rattle.std.specs.List.{list_any, list_all}
use Rattle.std.proofs.lemmas.Bool.{and_from, and_parts, eq-eqb, false≢true}
use Rattle.std.proofs.lemmas.Bool.Decides.{Decides-int_eq}
use Rattle.std.proofs.lemmas.List.Elements.{filter-append}
use Rattle.tokens.specs.declared.stop.Stop.{Stop}
use Rattle.tokens.specs.declared.meaning.Meaning.{Meaning}
use Rattle.tokens.specs.declared.meaning.Meaning.TheVariants as meaning
use Rattle.tokens.specs.declared.meaning.RegKind.{RegKind}
use Rattle.tokens.specs.declared.meaning.RegKind.TheVariants.{Count, Dimen, Skip, Muskip, Box, Toks}
use Rattle.tokens.specs.Codes.{nullfont_code}
use Rattle.tokens.specs.Meaning.{same_meaning}
use Rattle.tokens.specs.Primitives.{primitive_meaning, primitive_count}
use Rattle.save_groups.specs.declared.call.Told.{Told}
use Rattle.nodes.specs.declared.boxes.BoxNode.{BoxNode}
use Rattle.nodes.specs.declared.node.Node.{Node}
use Rattle.save_groups.specs.declared.call.Call.{Call}
use Rattle.save_groups.specs.declared.call.Call.TheVariants.{Assign, Enter, Leave, AfterGroup, SetBoxSize, SwapBox}
use Rattle.save_groups.specs.declared.key.Key.{Key}
use Rattle.save_groups.specs.declared.key.Key.TheVariants.{Register, Parameter, Code, Name, Active, CurrentFont, Family, Shape, Penalties}
use Rattle.save_groups.specs.declared.key.Scope.TheVariants.{Local, Global}
use Rattle.save_groups.specs.declared.value.Value.{Value}
use Rattle.save_groups.specs.declared.value.Value.TheVariants as value
use Rattle.save_groups.specs.declared.entry.Entry.{Entry}
use Rattle.save_groups.specs.Keys.{same_key, is_glue_parameter, is_token_parameter}
use Rattle.save_groups.specs.Values.{same_value}
use Rattle.save_groups.specs.StartValues.{start_value, start_parameter_by, start_number, start_code}
use Rattle.save_groups.specs.Environments.{Copies, OpenGroup, beginning, start_environment, left_by, with_after_by}
use Rattle.save_groups.specs.InPlace.{box_of, resized_by}
use Rattle.save_groups.specs.Assignment.{assigned_here, changes_nothing}
use Rattle.save_groups.specs.Calls.{Attempt, done, attempted, attempted_by, after_attempts, given}
use Rattle.save_groups.specs.Nodes.{named_by_meaning, named_by, tree_register, tree_registers, distinct_keys, held_by_saves, held_by_meanings, held_registers, is_initial, set_registers, prefixes, distinct_prefixes, nodes, FurtherKeysLaw, is_never_given, GivenKeysLaw}
use Rattle.save_groups.proofs.Given.{given-law}

-- ---- a meaning of the start names no register

no_register-primitive : (b : Bool) (code number : ℕ) (kind : RegKind) → same_meaning (if b then meaning.Font 0 else meaning.Primitive code) (meaning.Register kind number) ≡ false
no_register-primitive true code number kind = refl
no_register-primitive false code number kind = refl

no_register-name : (b : Bool) (id number : ℕ) (kind : RegKind) → same_meaning (if b then primitive_meaning id else meaning.Undefined) (meaning.Register kind number) ≡ false
no_register-name true id number kind = no_register-primitive (id == nullfont_code) id number kind
no_register-name false id number kind = refl

no_register-parameter : (place : ℕ) (is_glue is_list : Bool) (m : Meaning) → same_value (start_parameter_by place is_glue is_list) (value.Meaning m) ≡ false
no_register-parameter place true is_list m = refl
no_register-parameter place false true m = refl
no_register-parameter place false false m = refl

no_register : (extended : Bool) (key : Key) (kind : RegKind) (number : ℕ) → same_value (start_value extended key) (value.Meaning (meaning.Register kind number)) ≡ false
no_register extended (Register Count n) kind number = refl
no_register extended (Register Dimen n) kind number = refl
no_register extended (Register Skip n) kind number = refl
no_register extended (Register Muskip n) kind number = refl
no_register extended (Register Box n) kind number = refl
no_register extended (Register Toks n) kind number = refl
no_register extended (Parameter place) kind number = no_register-parameter place (is_glue_parameter place) (is_token_parameter place) (meaning.Register kind number)
no_register extended (Code table byte) kind number = refl
no_register extended (Name id) kind number = no_register-name (nat_lt id.0 (primitive_count extended)) id.0 number kind
no_register extended (Active byte) kind number = refl
no_register extended CurrentFont kind number = refl
no_register extended (Family size n) kind number = refl
no_register extended Shape kind number = refl
no_register extended (Penalties array) kind number = refl

names_nothing-meaning : (extended : Bool) (key : Key) (m : Meaning) → same_value (start_value extended key) (value.Meaning m) ≡ true → named_by_meaning m ≡ []
names_nothing-meaning extended key meaning.Undefined h = refl
names_nothing-meaning extended key (meaning.Primitive code) h = refl
names_nothing-meaning extended key (meaning.Macro m) h = refl
names_nothing-meaning extended key (meaning.Char cat byte) h = refl
names_nothing-meaning extended key (meaning.CharDef byte) h = refl
names_nothing-meaning extended key (meaning.MathCharDef code) h = refl
names_nothing-meaning extended key (meaning.Register kind number) h = absurd (false≢true (sym (no_register extended key kind number) ∙ h))
names_nothing-meaning extended key (meaning.Font font) h = refl

names_nothing : (extended : Bool) (key : Key) (v : Value) → same_value (start_value extended key) v ≡ true → named_by v ≡ []
names_nothing extended key (value.Number n) h = refl
names_nothing extended key (value.Glue g) h = refl
names_nothing extended key (value.Tokens xs) h = refl
names_nothing extended key (value.Meaning m) h = names_nothing-meaning extended key m h
names_nothing extended key (value.Boxed b) h = refl
names_nothing extended key (value.Table ns) h = refl

-- ---- one further key

meanings-further : (key : Key) (keys : List Key) (c : Copies) (b : Bool) → is_initial c key ≡ true
    → held_by_meanings (if b then distinct_keys keys else key ∷ distinct_keys keys) c ≡ held_by_meanings (distinct_keys keys) c
meanings-further key keys c true h = refl
meanings-further key keys c false h =
    ap (λ (names : List Key). names ++ held_by_meanings (distinct_keys keys) c) (names_nothing c.extended key (c.last key).value h)

held-further : (key : Key) (keys : List Key) (c : Copies) → is_initial c key ≡ true → held_registers (key ∷ keys) c ≡ held_registers keys c
held-further key keys c h =
    ap (λ (names : List Key). tree_registers (held_by_saves c.saves ++ names)) (meanings-further key keys c (list_any (same_key key) keys) h)

none-set : (key : Key) (c : Copies) → is_initial c key ≡ true → filter (λ k. not (is_initial c k)) (key ∷ []) ≡ []
none-set key c h = let rest : List Key = [] in ap (λ b. if not b then key ∷ rest else rest) h

register-further : (kind : RegKind) (number : ℕ) (c : Copies) (b : Bool) → is_initial c (Register kind number) ≡ true
    → filter (λ k. not (is_initial c k)) (if b then Register kind number ∷ [] else []) ≡ []
register-further kind number c true h = none-set (Register kind number) c h
register-further kind number c false h = refl

tree-further : (key : Key) (c : Copies) → is_initial c key ≡ true → filter (λ k. not (is_initial c k)) (tree_register key) ≡ []
tree-further (Register kind number) c h = register-further kind number c (nat_le 256 number) h
tree-further (Parameter place) c h = refl
tree-further (Code table byte) c h = refl
tree-further (Name id) c h = refl
tree-further (Active byte) c h = refl
tree-further CurrentFont c h = refl
tree-further (Family size number) c h = refl
tree-further Shape c h = refl
tree-further (Penalties array) c h = refl

set-further : (key : Key) (keys : List Key) (c : Copies) → is_initial c key ≡ true → set_registers (key ∷ keys) c ≡ set_registers keys c
set-further key keys c h =
    filter-append (λ k. not (is_initial c k)) (tree_register key) (tree_registers keys)
    ∙ ap (λ (ks : List Key). ks ++ set_registers keys c) (tree-further key c h)

nodes-further : (key : Key) (keys : List Key) (c : Copies) → is_initial c key ≡ true → nodes (key ∷ keys) c ≡ nodes keys c
nodes-further key keys c h =
    ap (λ (ks : List Key). length (distinct_prefixes (prefixes (ks ++ set_registers (key ∷ keys) c)))) (held-further key keys c h)
    ∙ ap (λ (ks : List Key). length (distinct_prefixes (prefixes (held_registers keys c ++ ks)))) (set-further key keys c h)

-- ---- any number of them

pub further-keys-law : FurtherKeysLaw
further-keys-law [] keys c h = (refl, refl)
further-keys-law (key ∷ further) keys c h =
    let parts = and_parts (is_initial c key) (list_all (is_initial c) further) h in
    let rest = further-keys-law further keys c parts.1 in
    (held-further key (further ++ keys) c parts.0 ∙ rest.0, nodes-further key (further ++ keys) c parts.0 ∙ rest.1)

-- ---- keys that no call gave a value

int-same : (n : ℤ) → int_eq n n ≡ true
int-same n = (Decides-int_eq n n).1 refl

start-same-primitive : (b : Bool) (code : ℕ) → (let m : Meaning = if b then meaning.Font 0 else meaning.Primitive code in same_meaning m m ≡ true)
start-same-primitive true code = refl
start-same-primitive false code = eq-eqb code code refl

start-same-name : (b : Bool) (id : ℕ) → (let m : Meaning = if b then primitive_meaning id else meaning.Undefined in same_meaning m m ≡ true)
start-same-name true id = start-same-primitive (id == nullfont_code) id
start-same-name false id = refl

start-same-parameter : (place : ℕ) (is_glue is_list : Bool) → same_value (start_parameter_by place is_glue is_list) (start_parameter_by place is_glue is_list) ≡ true
start-same-parameter place true is_list = refl
start-same-parameter place false true = refl
start-same-parameter place false false = int-same (pos (start_number place))

start-same : (extended : Bool) (key : Key) → same_value (start_value extended key) (start_value extended key) ≡ true
start-same extended (Register Count number) = refl
start-same extended (Register Dimen number) = refl
start-same extended (Register Skip number) = refl
start-same extended (Register Muskip number) = refl
start-same extended (Register Box number) = refl
start-same extended (Register Toks number) = refl
start-same extended (Parameter place) = start-same-parameter place (is_glue_parameter place) (is_token_parameter place)
start-same extended (Code table byte) = int-same (start_code table byte)
start-same extended (Name id) = start-same-name (nat_lt id.0 (primitive_count extended)) id.0
start-same extended (Active byte) = refl
start-same extended CurrentFont = refl
start-same extended (Family size number) = refl
start-same extended Shape = refl
start-same extended (Penalties array) = refl

-- the mode stays
mode-locally : (key : Key) (v : Value) (c : Copies) (b : Bool) → (if b then c else assigned_here key v c).extended ≡ c.extended
mode-locally key v c true = refl
mode-locally key v c false = refl

mode-left : (groups : List OpenGroup) (c : Copies) → (left_by groups c).extended ≡ c.extended
mode-left [] c = refl
mode-left (group ∷ groups) c = refl

mode-resized : (b : Option (BoxNode (List Node))) (number part : ℕ) (size : ℤ) (c : Copies) → (resized_by b number part size c).extended ≡ c.extended
mode-resized None number part size c = refl
mode-resized (Some b) number part size c = refl

mode-done : (call : Call) (c : Copies) → (done call c).extended ≡ c.extended
mode-done (Assign key v Local) c = mode-locally key v c (changes_nothing key v c)
mode-done (Assign key v Global) c = refl
mode-done (Enter kind line) c = refl
mode-done Leave c = mode-left c.groups c
mode-done (SetBoxSize number part size) c = mode-resized (box_of number c.last) number part size c
mode-done (SwapBox number content) c = refl
mode-done (AfterGroup token) c = mode-after c.groups
  where
    mode-after : (groups : List OpenGroup) → (with_after_by token groups c).extended ≡ c.extended
    mode-after [] = refl
    mode-after (group ∷ groups) = refl

mode-attempted : (call : Call) (answer : Result Told Stop) (c : Copies) → (attempted_by call answer c).extended ≡ c.extended
mode-attempted call (Ok tells) c = mode-done call c
mode-attempted call (Err stop) c = refl

mode-attempts : (attempts : List Attempt) (c : Copies) → (after_attempts attempts c).extended ≡ c.extended
mode-attempts [] c = refl
mode-attempts (attempt ∷ attempts) c = mode-attempts attempts (attempted attempt c) ∙ mode-attempted attempt.call attempt.answer c

initial-fresh : (c : Copies) (extended : Bool) (key : Key) → c.extended ≡ extended → c.last key ≡ start_environment extended key → is_initial c key ≡ true
initial-fresh c extended key mode fresh =
    ap (λ b. same_value (start_value b key) (c.last key).value) mode
    ∙ ap (λ (entry : Entry Value). same_value (start_value extended key) entry.value) fresh
    ∙ start-same extended key

not-given : (b : Bool) → not b ≡ true → b ≡ false
not-given true h = absurd (false≢true h)
not-given false h = refl

never-given : (extended : Bool) (attempts : List Attempt) (further : List Key) → list_all (is_never_given attempts) further ≡ true
    → list_all (is_initial (after_attempts attempts (beginning extended))) further ≡ true
never-given extended attempts [] h = refl
never-given extended attempts (key ∷ further) h =
    let parts = and_parts (is_never_given attempts key) (list_all (is_never_given attempts) further) h in
    let c : Copies = after_attempts attempts (beginning extended) in
    let fresh = given-law extended attempts key (not-given (list_any (λ k. same_key k key) (given attempts)) parts.0) in
    and_from (is_initial c key) (list_all (is_initial c) further)
    (initial-fresh c extended key (mode-attempts attempts (beginning extended)) fresh.0)
    (never-given extended attempts further parts.1)

pub given-keys-law : GivenKeysLaw
given-keys-law extended attempts further h =
    (further-keys-law further (given attempts) (after_attempts attempts (beginning extended)) (never-given extended attempts further h)).1
