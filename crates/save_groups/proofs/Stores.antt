-- What each call on a store makes of the environments that it stands for.
use Rattle.std.proofs.Common.{◌≡◌, ◌≢◌, ℕ, ◌+◌, ◌<◌, ◌≤◌, List, [], ◌∷◌, ◌++◌, length, take, drop, Bool, true, false, refl, ap, sym, ◌∙◌, arith, append-nil}
use Rattle.std.specs.Prelude.{◌==◌, ◌&&◌, not, nat_lt, map, if◌then◌else◌}
use Rattle.std.proofs.Math.Path.{fun_ext}
use Rattle.std.proofs.lemmas.Bool.{and_from, eq-eqb, ne_eqb, lt-ltb}
use Rattle.std.proofs.lemmas.List.{take-append-le}
use Rattle.std.proofs.Math.Seq.{drop-length, take-length}
use Rattle.tokens.specs.declared.token.Token.{Token}
use Rattle.save_groups.specs.declared.key.Key.{Key}
use Rattle.save_groups.specs.declared.value.Value.{Value}
use Rattle.save_groups.specs.declared.entry.Entry.{Entry}
use Rattle.save_groups.specs.declared.save.Save.{Save}
use Rattle.save_groups.specs.Environments.{Environment, updated, OpenGroup, Copies, level_of, entered, left, saves_outside, with_after}
use Rattle.save_groups.specs.Assignment.{saves_made, assigned_here, assigned_globally, with_outside}
use Rattle.save_groups.specs.InForce.{at}
use Rattle.save_groups.specs.Standing.{Store, Mark, undone, groups_of, copies_of}
use Rattle.save_groups.specs.Kept.{AreKept}
use Rattle.save_groups.proofs.Undoing.{undone-global, undone-saved}
use Rattle.save_groups.proofs.Keeping.{undone-more, kept-outside}

-- environments that differ nowhere are one
pub same_environment : (e f : Environment) → ((key : Key) → e key ≡ f key) → e ≡ f
same_environment e f h = fun_ext h

-- the copies of a store's parts
abbrev pub copies_with : Bool → Environment → List Mark → List Save → Copies
copies_with extended env marks saves =
    record { extended = extended; last = env; groups = groups_of marks saves env; saves = saves }

pub copies_of-is : (s : Store) → copies_of s ≡ copies_with s.extended (at s.entries) s.groups s.saves
unfolding copies_of
copies_of-is s = refl

pub length-groups_of : (marks : List Mark) (saves : List Save) (env : Environment) → length (groups_of marks saves env) ≡ length marks
length-groups_of [] saves env = refl
length-groups_of (mark ∷ outer) saves env =
    let rest : length (groups_of outer (take mark.first saves) (undone (drop mark.first saves) env)) ≡ length outer =
    length-groups_of outer (take mark.first saves) (undone (drop mark.first saves) env) in
    omega (arith, rest)

-- a group begins
abbrev pub mark_at : ℕ → ℕ → ℕ → Mark
mark_at kind line first = record { kind = kind; line = line; after = []; first = first }

pub copies-entered : (extended : Bool) (env : Environment) (marks : List Mark) (saves : List Save) (kind line : ℕ)
    → copies_with extended env (mark_at kind line (length saves) ∷ marks) saves ≡ entered kind line (copies_with extended env marks saves)
copies-entered extended env marks saves kind line =
    let P : List Save → List Save → List OpenGroup = λ older newer. record { outside = undone newer env; kind = kind; line = line; after = [] } ∷ groups_of marks older (undone newer env) in
    let e : P (take (length saves) saves) (drop (length saves) saves) ≡ P saves [] =
    ap (λ xs. P xs (drop (length saves) saves)) (take-length saves) ∙ ap (P saves) (drop-length saves) in
    ap (λ (groups : List OpenGroup). let c : Copies = record { extended = extended; last = env; groups = groups; saves = saves } in c) e

-- a group ends
pub copies-left : (extended : Bool) (env : Environment) (mark : Mark) (outer : List Mark) (saves : List Save) → AreKept (mark ∷ outer) saves env
    → copies_with extended (undone (drop mark.first saves) env) outer (take mark.first saves) ≡ left (copies_with extended env (mark ∷ outer) saves)
copies-left extended env mark outer saves h =
    let inner : Environment = undone (drop mark.first saves) env in
    let count : level_of (copies_with extended env (mark ∷ outer) saves) ≡ length outer + 1 + 1 =
    omega (arith, length-groups_of (mark ∷ outer) saves env) in
    let e : saves_outside (level_of (copies_with extended env (mark ∷ outer) saves)) saves ≡ take mark.first saves =
    ap (λ n. saves_outside n saves) count ∙ kept-outside mark outer saves env h in
    ap (λ (xs : List Save). let c : Copies = record { extended = extended; last = inner; groups = groups_of outer (take mark.first saves) inner; saves = xs } in c) (sym e)

-- a global assignment
groups-global : (marks : List Mark) (saves : List Save) (env : Environment) (key : Key) (x : Entry Value) → x.level ≡ 1
    → groups_of marks saves (updated key x env) ≡ map (with_outside key x) (groups_of marks saves env)
groups-global [] saves env key x one = refl
groups-global (mark ∷ outer) saves env key x one =
    let inner : Environment = undone (drop mark.first saves) env in
    let first : Environment → OpenGroup = λ e. record { outside = e; kind = mark.kind; line = mark.line; after = mark.after } in
    ap (λ e. first e ∷ groups_of outer (take mark.first saves) e) (undone-global (drop mark.first saves) key x env one)
    ∙ ap (λ gs. first (updated key x inner) ∷ gs) (groups-global outer (take mark.first saves) inner key x one)

pub copies-global : (extended : Bool) (env : Environment) (marks : List Mark) (saves : List Save) (key : Key) (value : Value)
    → copies_with extended (updated key (record { value = value; level = 1 }) env) marks saves ≡ assigned_globally key value (copies_with extended env marks saves)
copies-global extended env marks saves key value =
    ap (λ (groups : List OpenGroup). let c : Copies = record { extended = extended; last = updated key (record { value = value; level = 1 }) env; groups = groups; saves = saves } in c)
    (groups-global marks saves env key (record { value = value; level = 1 }) refl)

-- a local assignment outside all groups
pub copies-outermost : (extended : Bool) (env : Environment) (saves : List Save) (key : Key) (value : Value)
    → copies_with extended (updated key (record { value = value; level = 1 }) env) [] saves ≡ assigned_here key value (copies_with extended env [] saves)
copies-outermost extended env saves key value =
    ap (λ (xs : List Save). copies_with extended (updated key (record { value = value; level = 1 }) env) [] xs) (sym (append-nil saves))

-- which saves a local assignment makes
chosen : Bool → Save → List Save
chosen b save = if b then save ∷ [] else []

save_of : Key → Copies → Save
save_of key c = record { key = key; group = level_of c; level = (c.last key).level; value = (c.last key).value }

saves_made-is : (key : Key) (c : Copies) → saves_made key c ≡ chosen (nat_lt 1 (level_of c) && not ((c.last key).level == level_of c)) (save_of key c)
unfolding chosen save_of
saves_made-is key c = refl

and_not : (b c : Bool) → c ≡ true → (b && not c) ≡ false
and_not true c h = ap not h
and_not false c h = refl

made_none : (key : Key) (c : Copies) → (c.last key).level ≡ level_of c → saves_made key c ≡ []
unfolding chosen
made_none key c same = saves_made-is key c ∙ ap (λ b. chosen b (save_of key c)) (and_not (nat_lt 1 (level_of c)) _ (eq-eqb _ _ same))

made_one : (key : Key) (c : Copies) → 1 < level_of c → (c.last key).level ≢ level_of c → saves_made key c ≡ save_of key c ∷ []
unfolding chosen
made_one key c inside differ = saves_made-is key c ∙ ap (λ b. chosen b (save_of key c)) (and_from _ _ (lt-ltb _ _ inside) (ap not (ne_eqb _ _ differ)))

-- the group and the saves of an assignment
here_with : Bool → Environment → List OpenGroup → List Save → Copies
here_with extended env groups saves = record { extended = extended; last = env; groups = groups; saves = saves }

-- a local assignment of an entry that belongs to the group already
pub copies-again : (extended : Bool) (env : Environment) (mark : Mark) (outer : List Mark) (saves : List Save) (key : Key) (value : Value) (level : ℕ)
    → level ≡ length outer + 1 + 1 → (env key).level ≡ level → AreKept (mark ∷ outer) saves env
    → copies_with extended (updated key (record { value = value; level = level }) env) (mark ∷ outer) saves ≡ assigned_here key value (copies_with extended env (mark ∷ outer) saves)
unfolding here_with
copies-again extended env mark outer saves key value level number here h =
    let c : Copies = copies_with extended env (mark ∷ outer) saves in
    let count : level_of c ≡ level = omega (arith, length-groups_of (mark ∷ outer) saves env, number) in
    let first : Environment → OpenGroup = λ e. record { outside = e; kind = mark.kind; line = mark.line; after = mark.after } in
    let x : Entry Value = record { value = value; level = level } in
    let kept : undone (drop mark.first saves) (updated key x env) ≡ undone (drop mark.first saves) env =
    undone-saved (drop mark.first saves) key x env (h.0.saved key (here ∙ number)) (λ e. absurd (omega (arith, e, number))) (λ e. absurd (omega (arith, e, here, number))) in
    ap (λ e. here_with extended (updated key x env) (first e ∷ groups_of outer (take mark.first saves) e) saves) kept
    ∙ ap (λ xs. here_with extended (updated key x env) (groups_of (mark ∷ outer) saves env) xs)
    (sym (ap (λ made. saves ++ made) (made_none key c (here ∙ sym count)) ∙ append-nil saves))
    ∙ ap (λ n. here_with extended (updated key (record { value = value; level = n }) env) (groups_of (mark ∷ outer) saves env) (saves ++ saves_made key c)) (sym count)

pub copies-saving : (extended : Bool) (env : Environment) (mark : Mark) (outer : List Mark) (saves : List Save) (value : Value) (save : Save)
    → save.group ≡ length outer + 1 + 1 → env save.key ≡ record { value = save.value; level = save.level } → save.level ≢ save.group → mark.first ≤ length saves
    → copies_with extended (updated save.key (record { value = value; level = save.group }) env) (mark ∷ outer) (saves ++ save ∷ [])
    ≡ assigned_here save.key value (copies_with extended env (mark ∷ outer) saves)
unfolding here_with save_of
copies-saving extended env mark outer saves value save number made differ within =
    let c : Copies = copies_with extended env (mark ∷ outer) saves in
    let count : level_of c ≡ save.group = omega (arith, length-groups_of (mark ∷ outer) saves env, number) in
    let first : Environment → OpenGroup = λ e. record { outside = e; kind = mark.kind; line = mark.line; after = mark.after } in
    let x : Entry Value = record { value = value; level = save.group } in
    let level : (env save.key).level ≡ save.level = ap (λ (y : Entry Value). y.level) made in
    let kept : undone (drop mark.first (saves ++ save ∷ [])) (updated save.key x env) ≡ undone (drop mark.first saves) env =
    undone-more saves mark.first save x env within made (λ e. absurd (omega (arith, e, number))) in
    let front : take mark.first (saves ++ save ∷ []) ≡ take mark.first saves = take-append-le mark.first saves (save ∷ []) within in
    let same : save_of save.key c ≡ save =
    ap (λ n. save_with save.key n (env save.key)) count ∙ ap (λ y. save_with save.key save.group y) made in
    ap (λ e. here_with extended (updated save.key x env) (first e ∷ groups_of outer (take mark.first (saves ++ save ∷ [])) e) (saves ++ save ∷ [])) kept
    ∙ ap (λ xs. here_with extended (updated save.key x env) (first (undone (drop mark.first saves) env) ∷ groups_of outer xs (undone (drop mark.first saves) env)) (saves ++ save ∷ [])) front
    ∙ ap (λ xs. here_with extended (updated save.key x env) (groups_of (mark ∷ outer) saves env) (saves ++ xs))
    (sym (made_one save.key c (omega (arith, count, number)) (λ e. differ (sym level ∙ e ∙ count)) ∙ ap (λ s. s ∷ []) same))
    ∙ ap (λ n. here_with extended (updated save.key (record { value = value; level = n }) env) (groups_of (mark ∷ outer) saves env) (saves ++ saves_made save.key c)) (sym count)
  where
    save_with : Key → ℕ → Entry Value → Save
    save_with key group y = record { key = key; group = group; level = y.level; value = y.value }

-- a token waits
pub copies-after : (extended : Bool) (env : Environment) (mark : Mark) (outer : List Mark) (saves : List Save) (token : Token)
    → copies_with extended env (record mark { after = mark.after ++ token ∷ [] } ∷ outer) saves ≡ with_after token (copies_with extended env (mark ∷ outer) saves)
copies-after extended env mark outer saves token = refl
