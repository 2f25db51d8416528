-- Registers that meanings name are the mode's, whatever is assigned, saved and undone.
use Rattle.std.proofs.Common.{◌≡◌, ℕ, List, [], ◌∷◌, ◌++◌, take, drop, Bool, true, false, refl, ap, sym, ◌∙◌, subst}
use Rattle.std.specs.Prelude.{◌==◌, nat_lt, IsTrue, if◌then◌else◌}
use Rattle.std.specs.List.{list_all}
use Rattle.std.proofs.lemmas.Bool.{and_from, and_parts}
use Rattle.std.proofs.lemmas.List.{take-append-drop}
use Rattle.std.proofs.lemmas.List.Folds.{list_all-append}
use Rattle.tokens.specs.declared.meaning.Meaning.TheVariants.{Undefined, Font, Primitive}
use Rattle.tokens.specs.declared.meaning.RegKind.TheVariants.{Count, Dimen, Skip, Muskip, Box, Toks}
use Rattle.tokens.specs.Primitives.{primitive_meaning, primitive_count}
use Rattle.save_groups.specs.declared.key.Key.{Key}
use Rattle.save_groups.specs.declared.key.Key.TheVariants.{Register, Parameter, Code, Name, Active, CurrentFont, Family, Shape, Penalties}
use Rattle.save_groups.specs.declared.value.Value.{Value}
use Rattle.save_groups.specs.declared.entry.Entry.{Entry}
use Rattle.save_groups.specs.declared.save.Save.{Save}
use Rattle.save_groups.specs.Keys.{same_key, is_glue_parameter, is_token_parameter}
use Rattle.save_groups.specs.Values.{is_in_mode, names_in_mode}
use Rattle.save_groups.specs.StartValues.{start_value, start_parameter_by}
use Rattle.save_groups.specs.Environments.{Environment, updated, start_environment}
use Rattle.save_groups.specs.Standing.{Store, copies_of, undone}
use Rattle.save_groups.specs.Kept.{IsInMode}

-- a test that chooses between two values
chosen : (P : Entry Value → Type 0) (b : Bool) (x y : Entry Value) → P x → P y → P (if b then x else y)
chosen P true x y p q = p
chosen P false x y p q = q

chosen_one : (P : Environment → Type 0) (b : Bool) (x y : Environment) → P x → P y → P (if b then x else y)
chosen_one P true x y p q = p
chosen_one P false x y p q = q

abbrev HasValues : Bool → Environment → Type 0
HasValues extended env = (key : Key) → IsTrue (is_in_mode extended (env key).value)

values-updated : (extended : Bool) (key : Key) (x : Entry Value) (env : Environment) → IsTrue (is_in_mode extended x.value)
    → HasValues extended env → HasValues extended (updated key x env)
values-updated extended key x env new h other = chosen (λ e. IsTrue (is_in_mode extended e.value)) (same_key key other) x (env other) new (h other)

-- environments that differ nowhere
values-along : (extended : Bool) (e f : Environment) → ((key : Key) → f key ≡ e key) → HasValues extended e → HasValues extended f
values-along extended e f same h key = ap (λ (x : Entry Value). is_in_mode extended x.value) (same key) ∙ h key

pub mode-same : (extended : Bool) (saves rest : List Save) (e f : Environment) → ((key : Key) → f key ≡ e key) → rest ≡ saves
    → IsInMode extended saves e → IsInMode extended rest f
mode-same extended saves rest e f same front h = record {
  values = values-along extended e f same h.values;
  saved = ap (list_all (λ save. is_in_mode extended save.value)) front ∙ h.saved;
}

-- an entry is changed
pub mode-changed : (extended : Bool) (saves : List Save) (e f : Environment) (key : Key) (x : Entry Value) → IsTrue (is_in_mode extended x.value)
    → ((other : Key) → f other ≡ updated key x e other) → IsInMode extended saves e → IsInMode extended saves f
mode-changed extended saves e f key x new changed h = record {
  values = values-along extended (updated key x e) f changed (values-updated extended key x e new h.values);
  saved = h.saved;
}

-- and what stood there is saved
pub mode-saved : (extended : Bool) (saves rest : List Save) (e f : Environment) (key : Key) (x : Entry Value) (group : ℕ) → IsTrue (is_in_mode extended x.value)
    → ((other : Key) → f other ≡ updated key x e other)
    → (let save : Save = record { key = key; group = group; level = (e key).level; value = (e key).value } in rest ≡ saves ++ save ∷ [])
    → IsInMode extended saves e → IsInMode extended rest f
mode-saved extended saves rest e f key x group new changed more h = record {
  values = values-along extended (updated key x e) f changed (values-updated extended key x e new h.values);
  saved = ap (list_all (λ save. is_in_mode extended save.value)) more
      ∙ list_all-append (λ save. is_in_mode extended save.value) saves _ ∙ and_from _ _ h.saved (and_from _ _ (h.values key) refl);
}

-- saves are undone
values-undone : (extended : Bool) (saves : List Save) (env : Environment) → IsTrue (list_all (λ save. is_in_mode extended save.value) saves)
    → HasValues extended env → HasValues extended (undone saves env)
values-undone extended [] env all h = h
values-undone extended (save ∷ newer) env all h =
    let parts = and_parts (is_in_mode extended save.value) _ all in
    let rest : HasValues extended (undone newer env) = values-undone extended newer env parts.1 h in
    chosen_one (HasValues extended) ((undone newer env save.key).level == 1) (undone newer env) _ rest
    (values-updated extended save.key (record { value = save.value; level = save.level }) (undone newer env) parts.0 rest)

pub mode-undone : (extended : Bool) (saves rest : List Save) (first : ℕ) (e f : Environment) → f ≡ undone (drop first saves) e → rest ≡ take first saves
    → IsInMode extended saves e → IsInMode extended rest f
mode-undone extended saves rest first e f undoing front h =
    let test : Save → Bool = λ save. is_in_mode extended save.value in
    let parts = and_parts (list_all test (take first saves)) (list_all test (drop first saves))
    (sym (list_all-append test (take first saves) (drop first saves)) ∙ ap (list_all test) (take-append-drop first saves) ∙ h.saved) in
    record {
      values = values-along extended (undone (drop first saves) e) f (λ key. ap (λ (env : Environment). env key) undoing)
          (values-undone extended (drop first saves) e parts.1 h.values);
      saved = ap (list_all test) front ∙ parts.0;
    }

-- at the start no meaning names a register
start-primitive : (extended b : Bool) (code : ℕ) → names_in_mode extended (if b then Font 0 else Primitive code) ≡ true
start-primitive extended true code = refl
start-primitive extended false code = refl

start-name : (extended b : Bool) (id : ℕ) → names_in_mode extended (if b then primitive_meaning id else Undefined) ≡ true
start-name extended true id = start-primitive extended _ id
start-name extended false id = refl

start-parameter : (extended : Bool) (place : ℕ) (is_glue is_list : Bool) → is_in_mode extended (start_parameter_by place is_glue is_list) ≡ true
start-parameter extended place true is_list = refl
start-parameter extended place false true = refl
start-parameter extended place false false = refl

start-value : (extended : Bool) (key : Key) → is_in_mode extended (start_value extended key) ≡ true
start-value extended (Register Count number) = refl
start-value extended (Register Dimen number) = refl
start-value extended (Register Skip number) = refl
start-value extended (Register Muskip number) = refl
start-value extended (Register Box number) = refl
start-value extended (Register Toks number) = refl
start-value extended (Parameter place) = start-parameter extended place (is_glue_parameter place) (is_token_parameter place)
start-value extended (Code table byte) = refl
start-value extended (Name id) = start-name extended (nat_lt id.0 (primitive_count extended)) id.0
start-value extended (Active byte) = refl
start-value extended CurrentFont = refl
start-value extended (Family size number) = refl
start-value extended Shape = refl
start-value extended (Penalties array) = refl

pub mode-start : (extended : Bool) (saves : List Save) (e : Environment) → saves ≡ [] → ((key : Key) → e key ≡ start_environment extended key) → IsInMode extended saves e
mode-start extended saves e none start = record {
  values = values-along extended (start_environment extended) e start (start-value extended);
  saved = ap (list_all (λ save. is_in_mode extended save.value)) none;
}

-- the mode of a store
pub mode-stored : (s now : Store) (v : Value) → s ≡ now → IsTrue (is_in_mode (copies_of now).extended v) → IsTrue (is_in_mode s.extended v)
unfolding copies_of
mode-stored s now v view h = let P : Store → Type 0 = λ t. IsTrue (is_in_mode (copies_of t).extended v) in subst P (sym view) h
