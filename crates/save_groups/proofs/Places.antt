-- An entry that is changed in place, at the level that it has: what the store stands for, and what it keeps.
use Rattle.std.proofs.Common.{◌≡◌, ◌≢◌, ℕ, ◌+◌, ◌<◌, ◌≤◌, inl, inr, List, [], ◌∷◌, length, take, drop, Bool, true, false, refl, ap, sym, ◌∙◌, subst, arith}
use Rattle.std.specs.Prelude.{◌⊎◌, ◌==◌, ℤ, Option, None, Some, nat_le, if◌then◌else◌}
use Rattle.std.proofs.Math.Path.{fun_ext}
use Rattle.std.proofs.lemmas.Bool.{eqb-true, eqb-false, leb-true, le-leb, false_from_ne_true}
use Rattle.nodes.specs.declared.boxes.BoxNode.{BoxNode}
use Rattle.nodes.specs.declared.node.Node.{Node}
use Rattle.tokens.specs.declared.meaning.RegKind.TheVariants.{Box}
use Rattle.save_groups.specs.declared.key.Key.{Key}
use Rattle.save_groups.specs.declared.key.Key.TheVariants.{Register}
use Rattle.save_groups.specs.declared.value.Value.{Value}
use Rattle.save_groups.specs.declared.entry.Entry.{Entry}
use Rattle.save_groups.specs.declared.save.Save.{Save}
use Rattle.save_groups.specs.Keys.{same_key}
use Rattle.save_groups.specs.Environments.{Environment, updated, OpenGroup, Copies}
use Rattle.save_groups.specs.InPlace.{refilled, refilled_from, in_place, box_of, sized_value, resized, resized_by, resized_here, resized_here_by}
use Rattle.save_groups.specs.declared.current.Current.{Current}
use Rattle.save_groups.specs.InForce.{at}
use Rattle.save_groups.specs.Standing.{Store, Mark, undone, groups_of, copies_of}
use Rattle.save_groups.specs.Kept.{is_saved, AreKept, IsInMode}
use Rattle.save_groups.proofs.KeyLemmas.{updated-at, updated-same, updated-other, same_key-equal}
use Rattle.save_groups.proofs.Undoing.{undone-global, undone-unsaved, undone-unsaved_at, undone-saved}
use Rattle.save_groups.proofs.Keeping.{kept-levels}
use Rattle.save_groups.proofs.Stores.{copies_with, length-groups_of}
use Rattle.save_groups.proofs.Assigning.{kept-along}
use Rattle.save_groups.proofs.Modes.{mode-changed, mode-same}

-- another value at the level of an entry
abbrev refill : Key → Value → Environment → Entry Value
refill key value env = record { value = value; level = (env key).level }

-- what is changed with the entry that stands there is as it was
updated-own : (key : Key) (env : Environment) → updated key (env key) env ≡ env
updated-own key env = fun_ext (λ other. by_test other (same_key key other) refl)
  where
    by_test : (other : Key) (b : Bool) → same_key key other ≡ b → updated key (env key) env other ≡ env other
    by_test other true same = updated-same key other (env key) env same ∙ ap env (same_key-equal key other same)
    by_test other false differ = updated-other key other (env key) env differ

-- an entry of the level 1 is that of the environment outside
undone-outermost_at : (saves : List Save) (key : Key) (env : Environment) → (env key).level ≡ 1 → undone saves env key ≡ env key
undone-outermost_at saves key env one =
    ap (λ (e : Environment). e key) (sym (ap (undone saves) (updated-own key env)) ∙ undone-global saves key (env key) env one)
    ∙ updated-at key (env key) (undone saves env)

-- an entry that doesn't belong to the innermost group is that of the environment outside, and changes with it
record IsOuter (key : Key) (saves : List Save) (env : Environment) : Type 0 where
  there : undone saves env key ≡ env key
  changes : (x : Entry Value) → x.level ≡ (env key).level → undone saves (updated key x env) ≡ updated key x (undone saves env)

outer_entry : (mark : Mark) (outer : List Mark) (saves : List Save) (env : Environment) (key : Key) → AreKept (mark ∷ outer) saves env
    → (env key).level ≢ length outer + 1 + 1 → IsOuter key (drop mark.first saves) env
outer_entry mark outer saves env key h foreign = by_level ((env key).level == 1) refl
  where
    by_saved : (env key).level ≢ 1 → (b : Bool) → is_saved key (drop mark.first saves) ≡ b → IsOuter key (drop mark.first saves) env
    by_saved deep true saved = absurd (owner (h.0.owned key saved))
      where
        owner : ((env key).level ≡ length outer + 1 + 1) ⊎ ((env key).level ≡ 1) → ⊥
        owner (inl own) = foreign own
        owner (inr one) = deep one
    by_saved deep false unsaved = record {
      there = undone-unsaved_at (drop mark.first saves) key env unsaved;
      changes = λ x level. undone-unsaved (drop mark.first saves) key x env unsaved;
    }

    by_level : (b : Bool) → ((env key).level == 1) ≡ b → IsOuter key (drop mark.first saves) env
    by_level true one = record {
      there = undone-outermost_at (drop mark.first saves) key env (eqb-true _ 1 one);
      changes = λ x level. undone-global (drop mark.first saves) key x env (level ∙ eqb-true _ 1 one);
    }
    by_level false deep = by_saved (eqb-false _ 1 deep) (is_saved key (drop mark.first saves)) refl

-- the entry belongs to the innermost group, or doesn't
pub own_or_outer : (n m : ℕ) (P : Type 0) → (n ≡ m → P) → (n ≢ m → P) → P
own_or_outer n m P own other = by_test (n == m) refl
  where
    by_test : (b : Bool) → (n == m) ≡ b → P
    by_test true e = own (eqb-true n m e)
    by_test false e = other (eqb-false n m e)

-- an entry of the innermost group: the environment outside doesn't see it
own_entry : (mark : Mark) (outer : List Mark) (saves : List Save) (env : Environment) (key : Key) (value : Value) → AreKept (mark ∷ outer) saves env
    → (env key).level ≡ length outer + 1 + 1 → undone (drop mark.first saves) (refilled key value env) ≡ undone (drop mark.first saves) env
own_entry mark outer saves env key value h own =
    undone-saved (drop mark.first saves) key (refill key value env) env (h.0.saved key own) (λ e. absurd (omega (arith, e, own))) (λ e. absurd (omega (arith, e, own)))

outer_changed : (saves : List Save) (env : Environment) (key : Key) (value : Value) → IsOuter key saves env
    → undone saves (refilled key value env) ≡ refilled key value (undone saves env)
outer_changed saves env key value h =
    h.changes (refill key value env) refl
    ∙ ap (λ n. let x : Entry Value = record { value = value; level = n } in updated key x (undone saves env)) (sym (ap (λ (y : Entry Value). y.level) h.there))

-- ---- what the store stands for

not_le : (m n : ℕ) → n < m → nat_le m n ≡ false
not_le m n below = false_from_ne_true _ (λ e. let h : m ≤ n = leb-true m n e in omega arith)

-- no environment outside the groups has the level
pub none_refilled : (level : ℕ) (key : Key) (value : Value) (groups : List OpenGroup) → length groups < level → refilled_from level key value groups ≡ groups
none_refilled level key value [] deep = refl
none_refilled level key value (group ∷ outer) deep =
    ap (λ b. (if b then record group { outside = refilled key value group.outside } else group) ∷ refilled_from level key value outer)
    (not_le level (length outer + 1) (omega (arith, deep)))
    ∙ ap (λ gs. group ∷ gs) (none_refilled level key value outer (omega (arith, deep)))

groups-refilled : (marks : List Mark) (saves : List Save) (env : Environment) (key : Key) (value : Value) (level : ℕ) → AreKept marks saves env → (env key).level ≡ level
    → groups_of marks saves (refilled key value env) ≡ refilled_from level key value (groups_of marks saves env)
groups-refilled [] saves env key value level h is = refl
groups-refilled (mark ∷ outer) saves env key value level h is =
    own_or_outer (env key).level (length outer + 1 + 1) (groups_of (mark ∷ outer) saves (refilled key value env) ≡ refilled_from level key value (groups_of (mark ∷ outer) saves env))
    (λ own. ap (λ e. first e ∷ groups_of outer (take mark.first saves) e) (own_entry mark outer saves env key value h own)
    ∙ sym (none_refilled level key value (groups_of (mark ∷ outer) saves env) (omega (arith, own, is, length-groups_of (mark ∷ outer) saves env))))
    (λ foreign.
    let entry : IsOuter key (drop mark.first saves) env = outer_entry mark outer saves env key h foreign in
    let count : length (groups_of outer (take mark.first saves) inner) ≡ length outer = length-groups_of outer (take mark.first saves) inner in
    let within : (env key).level ≤ length outer + 1 = omega (arith, foreign, kept-levels (mark ∷ outer) saves env h key) in
    let test : nat_le level (length (groups_of outer (take mark.first saves) inner) + 1) ≡ true = le-leb _ _ (omega (arith, within, is, count)) in
    ap (λ e. first e ∷ groups_of outer (take mark.first saves) e) (outer_changed (drop mark.first saves) env key value entry)
    ∙ ap (λ gs. first (refilled key value inner) ∷ gs)
    (groups-refilled outer (take mark.first saves) inner key value level h.1 (ap (λ (y : Entry Value). y.level) entry.there ∙ is))
    ∙ sym (ap (λ b. (if b then first (refilled key value inner) else first inner) ∷ refilled_from level key value (groups_of outer (take mark.first saves) inner)) test))
  where
    first : Environment → OpenGroup
    first e = record { outside = e; kind = mark.kind; line = mark.line; after = mark.after }

    inner : Environment
    inner = undone (drop mark.first saves) env

-- ---- what it keeps

-- levels stay
pub same_level : (key : Key) (value : Value) (env : Environment) (other : Key) → (refilled key value env other).level ≡ (env other).level
same_level key value env other = by_test (same_key key other) refl
  where
    by_test : (b : Bool) → same_key key other ≡ b → (refilled key value env other).level ≡ (env other).level
    by_test true same =
        ap (λ (y : Entry Value). y.level) (updated-same key other (refill key value env) env same)
        ∙ ap (λ k. (env k).level) (same_key-equal key other same)
    by_test false differ = ap (λ (y : Entry Value). y.level) (updated-other key other (refill key value env) env differ)

pub kept-refilled : (marks : List Mark) (saves : List Save) (env : Environment) (key : Key) (value : Value) → AreKept marks saves env → AreKept marks saves (refilled key value env)
kept-refilled [] saves env key value h = (h.0, λ other. same_level key value env other ∙ h.1 other)
kept-refilled (mark ∷ outer) saves env key value h = (
  record {
    first = h.0.first;
    levels = λ other. omega (arith, same_level key value env other, h.0.levels other);
    saved = λ other level. h.0.saved other (sym (same_level key value env other) ∙ level);
    owned = λ other saved. along other (h.0.owned other saved);
    numbered = h.0.numbered;
  },
  own_or_outer (env key).level (length outer + 1 + 1) (AreKept outer (take mark.first saves) (undone (drop mark.first saves) (refilled key value env)))
      (λ own. subst P (sym (own_entry mark outer saves env key value h own)) h.1)
      (λ foreign. subst P (sym (outer_changed (drop mark.first saves) env key value (outer_entry mark outer saves env key h foreign)))
      (kept-refilled outer (take mark.first saves) (undone (drop mark.first saves) env) key value h.1)),
)
  where
    P : Environment → Type 0
    P e = AreKept outer (take mark.first saves) e

    along : (other : Key) → ((env other).level ≡ length outer + 1 + 1) ⊎ ((env other).level ≡ 1)
        → ((refilled key value env other).level ≡ length outer + 1 + 1) ⊎ ((refilled key value env other).level ≡ 1)
    along other (inl own) = inl (same_level key value env other ∙ own)
    along other (inr one) = inr (same_level key value env other ∙ one)

-- ---- the two calls

pub store-refilled : (s now : Store) (f : Current) (key : Key) (value : Value) → s ≡ now → AreKept s.groups s.saves (at s.entries)
    → ((other : Key) → at f other ≡ refilled key value (at s.entries) other)
    → copies_of (record s { entries = f }) ≡ in_place key value (copies_of now)
unfolding copies_of
store-refilled s now f key value view h changed =
    ap (λ env. copies_with s.extended env s.groups s.saves) (fun_ext changed)
    ∙ ap (λ (groups : List OpenGroup). let c : Copies = record { extended = s.extended; last = refilled key value (at s.entries); groups = groups; saves = s.saves } in c)
    (groups-refilled s.groups s.saves (at s.entries) key value (at s.entries key).level h refl)
    ∙ ap (λ (t : Store). in_place key value (copies_of t)) view

pub kept-swapped : (marks : List Mark) (saves : List Save) (env f : Environment) (key : Key) (value : Value) → ((other : Key) → f other ≡ refilled key value env other)
    → AreKept marks saves env → AreKept marks saves f
kept-swapped marks saves env f key value changed h = kept-along marks saves (refilled key value env) f changed (kept-refilled marks saves env key value h)

-- a box with another size, or void
pub kept-resized : (marks : List Mark) (saves : List Save) (env f : Environment) (number part : ℕ) (size : ℤ) → ((other : Key) → f other ≡ resized_here number part size env other)
    → AreKept marks saves env → AreKept marks saves f
kept-resized marks saves env f number part size changed h = by_box (box_of number env) changed
  where
    by_box : (b : Option (BoxNode (List Node))) → ((other : Key) → f other ≡ resized_here_by b number part size env other) → AreKept marks saves f
    by_box None same = kept-along marks saves env f same h
    by_box (Some b) changed = kept-swapped marks saves env f (Register Box number) (sized_value part size b) changed h

pub mode-resized : (extended : Bool) (saves : List Save) (env f : Environment) (number part : ℕ) (size : ℤ) → ((other : Key) → f other ≡ resized_here number part size env other)
    → IsInMode extended saves env → IsInMode extended saves f
mode-resized extended saves env f number part size changed h = by_box (box_of number env) changed
  where
    by_box : (b : Option (BoxNode (List Node))) → ((other : Key) → f other ≡ resized_here_by b number part size env other) → IsInMode extended saves f
    by_box None same = mode-same extended saves saves env f same refl h
    by_box (Some b) changed =
        mode-changed extended saves env f (Register Box number) (refill (Register Box number) (sized_value part size b) env) refl changed h

pub store-resized : (s now : Store) (f : Current) (number part : ℕ) (size : ℤ) → s ≡ now → AreKept s.groups s.saves (at s.entries)
    → ((other : Key) → at f other ≡ resized_here number part size (at s.entries) other)
    → copies_of (record s { entries = f }) ≡ resized number part size (copies_of now)
unfolding copies_of
store-resized s now f number part size view h changed = by_box (box_of number (at s.entries)) changed ∙ ap (λ (t : Store). resized number part size (copies_of t)) view
  where
    by_box : (b : Option (BoxNode (List Node))) → ((other : Key) → at f other ≡ resized_here_by b number part size (at s.entries) other)
        → copies_with s.extended (at f) s.groups s.saves ≡ resized_by b number part size (copies_with s.extended (at s.entries) s.groups s.saves)
    by_box None same = ap (λ env. copies_with s.extended env s.groups s.saves) (fun_ext same)
    by_box (Some b) changed = store-refilled s s f (Register Box number) (sized_value part size b) refl h changed
