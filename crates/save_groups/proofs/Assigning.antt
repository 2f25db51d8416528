-- What an assignment makes of the environments that a store stands for.
use Rattle.std.proofs.Common.{◌≡◌, ℕ, ◌+◌, ◌<◌, List, [], ◌∷◌, ◌++◌, length, Bool, true, false, refl, ap, sym, ◌∙◌, subst, arith}
use Rattle.std.specs.Prelude.{Result, Ok, Err, OnOk, OnErr, ◌==◌, ◌&&◌, not, nat_lt, if◌then◌else◌}
use Rattle.std.proofs.Math.Path.{fun_ext}
use Rattle.std.proofs.lemmas.Bool.{and_parts, eqb-true, eqb-false, false≢true, lt-ltb, ltb-true}
use Rattle.save_groups.specs.declared.key.Key.{Key}
use Rattle.save_groups.specs.declared.value.Value.{Value}
use Rattle.save_groups.specs.declared.entry.Entry.{Entry}
use Rattle.save_groups.specs.declared.save.Save.{Save}
use Rattle.save_groups.specs.Environments.{Environment, updated, Copies, level_of}
use Rattle.save_groups.specs.Assignment.{needs_save, assigned_here, assigned_globally, assigned_locally, changes_nothing}
use Rattle.save_groups.specs.declared.current.Current.{Current}
use Rattle.save_groups.specs.InForce.{at}
use Rattle.save_groups.specs.Standing.{Store, Mark, copies_of}
use Rattle.save_groups.specs.Kept.{AreKept}
use Rattle.save_groups.proofs.Keeping.{kept-outermost, kept-again, kept-saving}
use Rattle.save_groups.proofs.Stores.{copies_with, length-groups_of, copies-global, copies-outermost, copies-again, copies-saving}

-- one way or the other
pub either : {T E A B C : Type 0} (r : Result T E) → OnOk r A → OnErr r B → (A → C) → (B → C) → C
either (Ok x) a b f g = f a
either (Err e) a b f g = g b

-- environments that differ nowhere
pub kept-along : (marks : List Mark) (saves : List Save) (e f : Environment) → ((key : Key) → f key ≡ e key) → AreKept marks saves e → AreKept marks saves f
kept-along marks saves e f same h = let P : Environment → Type 0 = λ g. AreKept marks saves g in subst P (sym (fun_ext same)) h

-- what a local assignment finds
is_again : (outer : List Mark) (level stands : ℕ) → (nat_lt 1 level && not (stands == level)) ≡ false → level ≡ length outer + 1 + 1 → stands ≡ level
is_again outer level stands test number = by_test (nat_lt 1 level) (stands == level) (lt-ltb 1 level (omega (arith, number))) refl test
  where
    by_test : (b c : Bool) → b ≡ true → (stands == level) ≡ c → (b && not c) ≡ false → stands ≡ level
    by_test b true in_group same h = eqb-true stands level same
    by_test true false in_group same h = absurd (false≢true (sym h))
    by_test false false in_group same h = absurd (false≢true in_group)

-- the test of a save, asked of the store
pub level-stored : (s now : Store) (level : ℕ) → s ≡ now → level ≡ level_of (copies_of now) → level ≡ length s.groups + 1
unfolding copies_of
level-stored s now level view number =
    let P : Store → Type 0 = λ t. level ≡ level_of (copies_of t) in
    subst P (sym view) number ∙ ap (λ n. n + 1) (length-groups_of s.groups s.saves (at s.entries))

pub test-stored : (s now : Store) (key : Key) (level : ℕ) (b : Bool) → s ≡ now → level ≡ level_of (copies_of now) → b ≡ needs_save key (copies_of now)
    → (nat_lt 1 level && not ((at s.entries key).level == level)) ≡ b
unfolding copies_of
test-stored s now key level b view number test =
    let P : Store → Type 0 = λ t. (nat_lt 1 level && not (((copies_of t).last key).level == level)) ≡ b in
    let there : (nat_lt 1 level && not (((copies_of now).last key).level == level)) ≡ b =
    ap (λ n. nat_lt 1 n && not (((copies_of now).last key).level == n)) number ∙ sym test in
    subst P (sym view) there

-- a global assignment
pub store-global : (s now : Store) (f : Current) (key : Key) (value : Value) → s ≡ now
    → ((other : Key) → at f other ≡ updated key (record { value = value; level = 1 }) (at s.entries) other)
    → copies_of (record s { entries = f }) ≡ assigned_globally key value (copies_of now)
unfolding copies_of
store-global s now f key value view changed =
    ap (λ env. copies_with s.extended env s.groups s.saves) (fun_ext changed)
    ∙ copies-global s.extended (at s.entries) s.groups s.saves key value
    ∙ ap (λ (t : Store). assigned_globally key value (copies_of t)) view

-- a local assignment that makes no save
copies-unsaved : (extended : Bool) (env : Environment) (marks : List Mark) (saves : List Save) (key : Key) (value : Value) (level : ℕ)
    → (nat_lt 1 level && not ((env key).level == level)) ≡ false → level ≡ length marks + 1 → AreKept marks saves env
    → copies_with extended (updated key (record { value = value; level = level }) env) marks saves ≡ assigned_here key value (copies_with extended env marks saves)
copies-unsaved extended env [] saves key value level test number h =
    let P : ℕ → Type 0 = λ n. copies_with extended (updated key (record { value = value; level = n }) env) [] saves ≡ assigned_here key value (copies_with extended env [] saves) in
    let one : 1 ≡ level = omega (arith, number) in
    subst P one (copies-outermost extended env saves key value)
copies-unsaved extended env (mark ∷ outer) saves key value level test number h =
    let deep : level ≡ length outer + 1 + 1 = omega (arith, number) in
    copies-again extended env mark outer saves key value level deep (is_again outer level (env key).level test deep) h

pub kept-unsaved : (marks : List Mark) (saves : List Save) (env : Environment) (key : Key) (value : Value) (level : ℕ)
    → (nat_lt 1 level && not ((env key).level == level)) ≡ false → level ≡ length marks + 1 → AreKept marks saves env
    → AreKept marks saves (updated key (record { value = value; level = level }) env)
kept-unsaved [] saves env key value level test number h = kept-outermost saves env key (record { value = value; level = level }) (omega (arith, number)) h
kept-unsaved (mark ∷ outer) saves env key value level test number h =
    let deep : level ≡ length outer + 1 + 1 = omega (arith, number) in
    kept-again mark outer saves env key (record { value = value; level = level }) deep (is_again outer level (env key).level test deep ∙ deep) h

pub store-unsaved : (s now : Store) (f : Current) (key : Key) (value : Value) (level : ℕ) → s ≡ now
    → (nat_lt 1 level && not ((at s.entries key).level == level)) ≡ false → level ≡ length s.groups + 1 → AreKept s.groups s.saves (at s.entries)
    → ((other : Key) → at f other ≡ updated key (record { value = value; level = level }) (at s.entries) other)
    → copies_of (record s { entries = f }) ≡ assigned_here key value (copies_of now)
unfolding copies_of
store-unsaved s now f key value level view test number h changed =
    ap (λ env. copies_with s.extended env s.groups s.saves) (fun_ext changed)
    ∙ copies-unsaved s.extended (at s.entries) s.groups s.saves key value level test number h
    ∙ ap (λ (t : Store). assigned_here key value (copies_of t)) view

-- a local assignment that makes one
abbrev save_at : Key → ℕ → Entry Value → Save
save_at key group entry = record { key = key; group = group; level = entry.level; value = entry.value }

copies-saved : (extended : Bool) (env : Environment) (marks : List Mark) (saves : List Save) (key : Key) (value : Value) (level : ℕ)
    → (nat_lt 1 level && not ((env key).level == level)) ≡ true → level ≡ length marks + 1 → AreKept marks saves env
    → copies_with extended (updated key (record { value = value; level = level }) env) marks (saves ++ save_at key level (env key) ∷ []) ≡ assigned_here key value (copies_with extended env marks saves)
copies-saved extended env [] saves key value level test number h =
    absurd (let deep : 1 < level = ltb-true 1 level (and_parts (nat_lt 1 level) _ test).0 in omega (arith, number))
copies-saved extended env (mark ∷ outer) saves key value level test number h =
    let deep : level ≡ length outer + 1 + 1 = omega (arith, number) in
    copies-saving extended env mark outer saves value (save_at key level (env key)) deep refl
    (λ e. other_level ((env key).level == level) refl (and_parts (nat_lt 1 level) _ test).1 e) h.0.first
  where
    other_level : (b : Bool) → ((env key).level == level) ≡ b → not b ≡ true → (env key).level ≡ level → ⊥
    other_level true same t e = false≢true t
    other_level false same t e = eqb-false _ _ same e

pub kept-saved : (marks : List Mark) (saves : List Save) (env : Environment) (key : Key) (value : Value) (level : ℕ)
    → (nat_lt 1 level && not ((env key).level == level)) ≡ true → level ≡ length marks + 1 → AreKept marks saves env
    → AreKept marks (saves ++ save_at key level (env key) ∷ []) (updated key (record { value = value; level = level }) env)
kept-saved [] saves env key value level test number h =
    absurd (let deep : 1 < level = ltb-true 1 level (and_parts (nat_lt 1 level) _ test).0 in omega (arith, number))
kept-saved (mark ∷ outer) saves env key value level test number h =
    let deep : level ≡ length outer + 1 + 1 = omega (arith, number) in
    kept-saving mark outer saves env (save_at key level (env key)) (record { value = value; level = level }) deep deep refl h

pub store-saved : (s now : Store) (f : Current) (saves : List Save) (key : Key) (value : Value) (level : ℕ) → s ≡ now
    → (nat_lt 1 level && not ((at s.entries key).level == level)) ≡ true → level ≡ length s.groups + 1 → AreKept s.groups s.saves (at s.entries)
    → ((other : Key) → at f other ≡ updated key (record { value = value; level = level }) (at s.entries) other)
    → saves ≡ s.saves ++ save_at key level (at s.entries key) ∷ []
    → copies_of (record s { entries = f; saves = saves }) ≡ assigned_here key value (copies_of now)
unfolding copies_of
store-saved s now f saves key value level view test number h changed more =
    ap (λ env. copies_with s.extended env s.groups saves) (fun_ext changed)
    ∙ ap (λ xs. copies_with s.extended (updated key (record { value = value; level = level }) (at s.entries)) s.groups xs) more
    ∙ copies-saved s.extended (at s.entries) s.groups s.saves key value level test number h
    ∙ ap (λ (t : Store). assigned_here key value (copies_of t)) view

-- whether anything changes
pub locally-changed : (key : Key) (value : Value) (c : Copies) → changes_nothing key value c ≡ false → assigned_here key value c ≡ assigned_locally key value c
locally-changed key value c h = sym (ap (λ b. if b then c else assigned_here key value c) h)

pub locally-unchanged : (key : Key) (value : Value) (c : Copies) → changes_nothing key value c ≡ true → c ≡ assigned_locally key value c
locally-unchanged key value c h = sym (ap (λ b. if b then c else assigned_here key value c) h)

-- a refused call
pub kept-refused : (marks : List Mark) (saves rest : List Save) (e f : Environment) → ((key : Key) → f key ≡ e key) → rest ≡ saves → AreKept marks saves e → AreKept marks rest f
kept-refused marks saves rest e f same front h = let P : List Save → Type 0 = λ xs. AreKept marks xs f in subst P (sym front) (kept-along marks saves e f same h)

pub either_of : {T E A A' B B' C : Type 0} (r : Result T E) → OnOk r A → OnOk r A' → OnErr r B → OnErr r B' → (A → A' → C) → (B → B' → C) → C
either_of (Ok x) a a' b b' f g = f a a'
either_of (Err e) a a' b b' f g = g b b'

pub both_ok : {T E A A' C : Type 0} (r : Result T E) → (A → A' → C) → OnOk r A → OnOk r A' → OnOk r C
both_ok (Ok x) f a a' = f a a'
both_ok (Err e) f a a' = tt
