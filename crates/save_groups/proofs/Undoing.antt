-- Saves that are undone, where one entry is changed.
use Rattle.std.proofs.Common.{◌≡◌, ◌≢◌, ℕ, List, [], ◌∷◌, ◌++◌, Bool, true, false, refl, ap, sym, ◌∙◌, subst}
use Rattle.std.specs.Prelude.{◌==◌, ◌||◌, if◌then◌else◌}
use Rattle.std.proofs.lemmas.Bool.{eq-eqb, eqb-true, eqb-false, ne_eqb, false≢true}
use Rattle.save_groups.specs.declared.key.Key.{Key}
use Rattle.save_groups.specs.declared.value.Value.{Value}
use Rattle.save_groups.specs.declared.entry.Entry.{Entry}
use Rattle.save_groups.specs.declared.save.Save.{Save}
use Rattle.save_groups.specs.Keys.{same_key}
use Rattle.save_groups.specs.Environments.{Environment, updated}
use Rattle.save_groups.specs.Standing.{restored, undone}
use Rattle.save_groups.specs.Kept.{is_saved}
use Rattle.save_groups.proofs.KeyLemmas.{same_key-equal, same_key-sym, updated-at, updated-same, updated-other, updated-twice, updated-back, updated-swap}

-- saves in two portions
pub undone-append : (xs ys : List Save) (env : Environment) → undone (xs ++ ys) env ≡ undone xs (undone ys env)
undone-append [] ys env = refl
undone-append (save ∷ xs) ys env = ap (restored save) (undone-append xs ys env)

-- what is put back
abbrev saved_entry : Save → Entry Value
saved_entry save = record { value = save.value; level = save.level }

-- one save undone, by whether the entry was assigned globally since
pub restored-stays : (save : Save) (env : Environment) → (env save.key).level ≡ 1 → restored save env ≡ env
restored-stays save env h = ap (λ b. if b then env else updated save.key (saved_entry save) env) (eq-eqb _ _ h)

restored-puts : (save : Save) (env : Environment) → (env save.key).level ≢ 1 → restored save env ≡ updated save.key (saved_entry save) env
restored-puts save env h = ap (λ b. if b then env else updated save.key (saved_entry save) env) (ne_eqb _ _ h)

-- the level is 1 or not
one_or_not : (n : ℕ) (P : Type 0) → (n ≡ 1 → P) → (n ≢ 1 → P) → P
one_or_not n P one other = by_test (n == 1) refl
  where
    by_test : (b : Bool) → (n == 1) ≡ b → P
    by_test true e = one (eqb-true n 1 e)
    by_test false e = other (eqb-false n 1 e)

-- another entry was changed
restored-other : (save : Save) (key : Key) (x : Entry Value) (env : Environment) → same_key key save.key ≡ false
    → restored save (updated key x env) ≡ updated key x (restored save env)
restored-other save key x env differ =
    let there : updated key x env save.key ≡ env save.key = updated-other key save.key x env differ in
    one_or_not (env save.key).level (restored save (updated key x env) ≡ updated key x (restored save env))
    (λ one. restored-stays save (updated key x env) (ap (λ (y : Entry Value). y.level) there ∙ one) ∙ sym (ap (updated key x) (restored-stays save env one)))
    (λ other. restored-puts save (updated key x env) (λ e. other (sym (ap (λ (y : Entry Value). y.level) there) ∙ e))
    ∙ sym (updated-swap key save.key x (saved_entry save) env differ) ∙ sym (ap (updated key x) (restored-puts save env other)))

-- an entry was assigned globally
restored-global : (save : Save) (key : Key) (x : Entry Value) (env : Environment) (b : Bool) → same_key key save.key ≡ b → x.level ≡ 1
    → restored save (updated key x env) ≡ updated key x (restored save env)
restored-global save key x env false differ one = restored-other save key x env differ
restored-global save key x env true same one =
    let e : key ≡ save.key = same_key-equal key save.key same in
    let here : (updated key x env save.key).level ≡ 1 = ap (λ (y : Entry Value). y.level) (updated-same key save.key x env same) ∙ one in
    restored-stays save (updated key x env) here
    ∙ one_or_not (env save.key).level (updated key x env ≡ updated key x (restored save env))
    (λ level. sym (ap (updated key x) (restored-stays save env level)))
    (λ level. sym (ap (updated key x) (restored-puts save env level)
    ∙ ap (λ k. updated key x (updated k (saved_entry save) env)) (sym e) ∙ updated-twice key x (saved_entry save) env))

pub undone-global : (saves : List Save) (key : Key) (x : Entry Value) (env : Environment) → x.level ≡ 1
    → undone saves (updated key x env) ≡ updated key x (undone saves env)
undone-global [] key x env one = refl
undone-global (save ∷ saves) key x env one =
    ap (restored save) (undone-global saves key x env one) ∙ restored-global save key x (undone saves env) (same_key key save.key) refl one

-- an entry that no save names
neither : (b c : Bool) → (b || c) ≡ false → (b ≡ false) × (c ≡ false)
neither true c h = absurd (false≢true (sym h))
neither false true h = absurd (false≢true (sym h))
neither false false h = (refl, refl)

pub undone-unsaved : (saves : List Save) (key : Key) (x : Entry Value) (env : Environment) → is_saved key saves ≡ false
    → undone saves (updated key x env) ≡ updated key x (undone saves env)
undone-unsaved [] key x env h = refl
undone-unsaved (save ∷ saves) key x env h =
    let p = neither (same_key save.key key) (is_saved key saves) h in
    ap (restored save) (undone-unsaved saves key x env p.1)
    ∙ restored-other save key x (undone saves env) (same_key-sym save.key key false p.0)

pub undone-unsaved_at : (saves : List Save) (key : Key) (env : Environment) → is_saved key saves ≡ false → undone saves env key ≡ env key
undone-unsaved_at [] key env h = refl
undone-unsaved_at (save ∷ saves) key env h =
    let p = neither (same_key save.key key) (is_saved key saves) h in
    one_or_not (undone saves env save.key).level (restored save (undone saves env) key ≡ env key)
    (λ one. ap (λ (e : Environment). e key) (restored-stays save (undone saves env) one) ∙ undone-unsaved_at saves key env p.1)
    (λ other. ap (λ (e : Environment). e key) (restored-puts save (undone saves env) other)
    ∙ updated-other save.key key (saved_entry save) (undone saves env) p.0 ∙ undone-unsaved_at saves key env p.1)

-- an entry that was assigned in the group already: its save is undone in any case
pub undone-saved : (saves : List Save) (key : Key) (x : Entry Value) (env : Environment) → is_saved key saves ≡ true → x.level ≢ 1 → (env key).level ≢ 1
    → undone saves (updated key x env) ≡ undone saves env
undone-saved [] key x env h new old = absurd (false≢true h)
undone-saved (save ∷ saves) key x env h new old =
    by_test (λ later. undone-saved saves key x env later new old) (is_saved key saves) refl
  where
    by_test : (is_saved key saves ≡ true → undone saves (updated key x env) ≡ undone saves env)
        → (b : Bool) → is_saved key saves ≡ b → undone (save ∷ saves) (updated key x env) ≡ undone (save ∷ saves) env
    by_test before true later = ap (restored save) (before later)
    by_test before false later =
        let here : same_key save.key key ≡ true = first_true (same_key save.key key) (is_saved key saves) h later in
        let e : save.key ≡ key = same_key-equal save.key key here in
        let inner : Environment = undone saves env in
        let P : Key → Type 0 = λ k. restored save (updated k x inner) ≡ restored save inner in
        let level : (inner save.key).level ≢ 1 =
        (λ one. old (sym (ap (λ (y : Entry Value). y.level) (undone-unsaved_at saves key env later)) ∙ ap (λ k. (inner k).level) (sym e) ∙ one)) in
        let level_new : (updated save.key x inner save.key).level ≢ 1 = (λ one. new (sym (ap (λ (y : Entry Value). y.level) (updated-at save.key x inner)) ∙ one)) in
        ap (restored save) (undone-unsaved saves key x env later)
        ∙ subst P e (restored-puts save (updated save.key x inner) level_new ∙ updated-twice save.key (saved_entry save) x inner ∙ sym (restored-puts save inner level))
      where
        first_true : (b c : Bool) → (b || c) ≡ true → c ≡ false → b ≡ true
        first_true true c p q = refl
        first_true false c p q = absurd (false≢true (sym q ∙ p))

-- the save that an assignment makes undoes it
pub undone-made : (save : Save) (x : Entry Value) (env : Environment) → env save.key ≡ record { value = save.value; level = save.level } → x.level ≢ 1
    → restored save (updated save.key x env) ≡ env
undone-made save x env made new =
    let level : (updated save.key x env save.key).level ≢ 1 = (λ one. new (sym (ap (λ (y : Entry Value). y.level) (updated-at save.key x env)) ∙ one)) in
    restored-puts save (updated save.key x env) level
    ∙ ap (λ y. updated save.key y (updated save.key x env)) (sym made) ∙ updated-back save.key x env
