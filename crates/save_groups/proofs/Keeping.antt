-- What the store of environments keeps stays, whatever is done.
use Rattle.std.proofs.Common.{◌≡◌, ◌≢◌, ℕ, ◌+◌, ◌≤◌, inl, inr, List, [], ◌∷◌, ◌++◌, length, take, drop, Bool, true, false, refl, ap, sym, ◌∙◌, subst, arith, length-append}
use Rattle.std.specs.Prelude.{◌⊎◌, ◌==◌, ◌||◌, not, nat_le, filter, if◌then◌else◌, IsTrue}
use Rattle.std.specs.List.{list_all}
use Rattle.std.proofs.lemmas.Bool.{and_from, and_parts, eq-eqb, eqb-true, ne_eqb, false≢true, leb-true, le-leb}
use Rattle.std.proofs.lemmas.List.Folds.{list_all-append, list_any-append}
use Rattle.std.proofs.lemmas.List.Elements.{filter-append}
use Rattle.std.proofs.lemmas.List.{take-append-drop, take-append-le, drop-append-le, append-nil}
use Rattle.std.proofs.Math.Seq.{drop-length, take-length}
use Rattle.save_groups.specs.declared.key.Key.{Key}
use Rattle.save_groups.specs.declared.value.Value.{Value}
use Rattle.save_groups.specs.declared.entry.Entry.{Entry}
use Rattle.save_groups.specs.declared.save.Save.{Save}
use Rattle.save_groups.specs.Keys.{same_key}
use Rattle.save_groups.specs.Environments.{Environment, updated, saves_outside}
use Rattle.save_groups.specs.Standing.{Mark, undone}
use Rattle.save_groups.specs.Kept.{is_saved, AreKept}
use Rattle.save_groups.proofs.KeyLemmas.{same_key-equal, updated-same, updated-other}
use Rattle.save_groups.proofs.Undoing.{undone-append, undone-global, undone-saved, undone-made}

-- a change of an entry, seen at any entry
changed_level : (P : ℕ → Type 0) (key : Key) (x : Entry Value) (env : Environment) (other : Key)
    → (same_key key other ≡ true → P x.level) → (same_key key other ≡ false → P (env other).level) → P (updated key x env other).level
changed_level P key x env other new old = by_test (same_key key other) refl
  where
    by_test : (b : Bool) → same_key key other ≡ b → P (updated key x env other).level
    by_test true same = let Q : Entry Value → Type 0 = λ y. P y.level in subst Q (sym (updated-same key other x env same)) (new same)
    by_test false differ = let Q : Entry Value → Type 0 = λ y. P y.level in subst Q (sym (updated-other key other x env differ)) (old differ)

-- levels of the environment that is in force
pub kept-levels : (marks : List Mark) (saves : List Save) (env : Environment) → AreKept marks saves env → (key : Key) → (env key).level ≤ length marks + 1
kept-levels [] saves env h key = omega (arith, h.1 key)
kept-levels (mark ∷ outer) saves env h key = omega (arith, h.0.levels key)

-- a group begins
pub kept-entered : (mark : Mark) (marks : List Mark) (saves : List Save) (env : Environment) → mark.first ≡ length saves → AreKept marks saves env → AreKept (mark ∷ marks) saves env
kept-entered mark marks saves env first h =
    let nothing : drop mark.first saves ≡ [] = ap (λ n. drop n saves) first ∙ drop-length saves in
    let all : take mark.first saves ≡ saves = ap (λ n. take n saves) first ∙ take-length saves in
    let P : List Save → Type 0 = λ xs. AreKept marks saves (undone xs env) in
    let Q : List Save → Type 0 = λ xs. AreKept marks xs (undone (drop mark.first saves) env) in
    let R : List Save → Type 0 = λ xs. IsTrue (list_all (λ save. save.group == length marks + 1 + 1) xs) in (
      record {
        first = omega (arith, first);
        levels = λ key. omega (arith, kept-levels marks saves env h key);
        saved = λ key level. absurd (omega (arith, level, kept-levels marks saves env h key));
        owned = λ key saved. absurd (false≢true (ap (is_saved key) (sym nothing) ∙ saved));
        numbered = subst R (sym nothing) refl;
      },
      subst Q (sym all) (subst P (sym nothing) h),
    )

-- a global assignment
pub kept-global : (marks : List Mark) (saves : List Save) (env : Environment) (key : Key) (x : Entry Value) → x.level ≡ 1 → AreKept marks saves env → AreKept marks saves (updated key x env)
kept-global [] saves env key x one h =
    (h.0, λ other. changed_level (λ n. n ≡ 1) key x env other (λ same. one) (λ differ. h.1 other))
kept-global (mark ∷ outer) saves env key x one h =
    let P : Environment → Type 0 = λ e. AreKept outer (take mark.first saves) e in (
      record {
        first = h.0.first;
        levels = λ other. changed_level (λ n. n ≤ length outer + 1 + 1) key x env other (λ same. omega (arith, one)) (λ differ. h.0.levels other);
        saved = λ other. changed_level (λ n. n ≡ length outer + 1 + 1 → IsTrue (is_saved other (drop mark.first saves))) key x env other
            (λ same level. absurd (omega (arith, one, level))) (λ differ level. h.0.saved other level);
        owned = λ other saved. changed_level (λ n. (n ≡ length outer + 1 + 1) ⊎ (n ≡ 1)) key x env other (λ same. inr one) (λ differ. h.0.owned other saved);
        numbered = h.0.numbered;
      },
      subst P (sym (undone-global (drop mark.first saves) key x env one))
          (kept-global outer (take mark.first saves) (undone (drop mark.first saves) env) key x one h.1),
    )

-- a local assignment outside all groups
pub kept-outermost : (saves : List Save) (env : Environment) (key : Key) (x : Entry Value) → x.level ≡ 1 → AreKept [] saves env → AreKept [] saves (updated key x env)
kept-outermost saves env key x one h = kept-global [] saves env key x one h

-- a local assignment of an entry that belongs to the group already
pub kept-again : (mark : Mark) (outer : List Mark) (saves : List Save) (env : Environment) (key : Key) (x : Entry Value) → x.level ≡ length outer + 1 + 1 → (env key).level ≡ length outer + 1 + 1
    → AreKept (mark ∷ outer) saves env → AreKept (mark ∷ outer) saves (updated key x env)
kept-again mark outer saves env key x new old h =
    let P : Environment → Type 0 = λ e. AreKept outer (take mark.first saves) e in
    let there : IsTrue (is_saved key (drop mark.first saves)) = h.0.saved key old in (
      record {
        first = h.0.first;
        levels = λ other. changed_level (λ n. n ≤ length outer + 1 + 1) key x env other (λ same. omega (arith, new)) (λ differ. h.0.levels other);
        saved = λ other. changed_level (λ n. n ≡ length outer + 1 + 1 → IsTrue (is_saved other (drop mark.first saves))) key x env other
            (λ same level. (let Q : Key → Type 0 = λ k. IsTrue (is_saved k (drop mark.first saves)) in subst Q (same_key-equal key other same) there))
            (λ differ level. h.0.saved other level);
        owned = λ other saved. changed_level (λ n. (n ≡ length outer + 1 + 1) ⊎ (n ≡ 1)) key x env other (λ same. inl new) (λ differ. h.0.owned other saved);
        numbered = h.0.numbered;
      },
      subst P (sym (undone-saved (drop mark.first saves) key x env there (λ e. absurd (omega (arith, e, new))) (λ e. absurd (omega (arith, e, old))))) h.1,
    )

-- one more save at the end
or_right : (b c : Bool) → c ≡ true → (b || c) ≡ true
or_right true c h = refl
or_right false c h = h

or_left : (b c : Bool) → b ≡ true → (b || c) ≡ true
or_left true c h = refl
or_left false c h = absurd (false≢true h)

or_first : (b c : Bool) → (b || (c || false)) ≡ true → c ≡ false → b ≡ true
or_first true c h differ = refl
or_first false true h differ = absurd (false≢true (sym differ))
or_first false false h differ = absurd (false≢true h)

pub undone-more : (saves : List Save) (first : ℕ) (save : Save) (x : Entry Value) (env : Environment) → first ≤ length saves
    → env save.key ≡ record { value = save.value; level = save.level } → x.level ≢ 1
    → undone (drop first (saves ++ save ∷ [])) (updated save.key x env) ≡ undone (drop first saves) env
undone-more saves first save x env within made new =
    ap (λ xs. undone xs (updated save.key x env)) (drop-append-le first saves (save ∷ []) within)
    ∙ undone-append (drop first saves) (save ∷ []) (updated save.key x env)
    ∙ ap (undone (drop first saves)) (undone-made save x env made new)

-- a local assignment that makes a save
pub kept-saving : (mark : Mark) (outer : List Mark) (saves : List Save) (env : Environment) (save : Save) (x : Entry Value)
    → x.level ≡ length outer + 1 + 1 → save.group ≡ length outer + 1 + 1 → env save.key ≡ record { value = save.value; level = save.level }
    → AreKept (mark ∷ outer) saves env → AreKept (mark ∷ outer) (saves ++ save ∷ []) (updated save.key x env)
kept-saving mark outer saves env save x new number made h =
    let within : mark.first ≤ length saves = h.0.first in
    let split : drop mark.first (saves ++ save ∷ []) ≡ drop mark.first saves ++ save ∷ [] = drop-append-le mark.first saves (save ∷ []) within in
    let front : take mark.first (saves ++ save ∷ []) ≡ take mark.first saves = take-append-le mark.first saves (save ∷ []) within in
    let P : Environment → Type 0 = λ e. AreKept outer (take mark.first saves) e in
    let Q : List Save → Type 0 = λ xs. AreKept outer xs (undone (drop mark.first (saves ++ save ∷ [])) (updated save.key x env)) in
    let more : (key : Key) (b : Bool) → is_saved key (drop mark.first saves ++ save ∷ []) ≡ b → is_saved key (drop mark.first (saves ++ save ∷ [])) ≡ b =
    (λ key b e. ap (is_saved key) split ∙ e) in (
      record {
        first = omega (arith, length-append-one saves save, within);
        levels = λ other. changed_level (λ n. n ≤ length outer + 1 + 1) save.key x env other (λ same. omega (arith, new)) (λ differ. h.0.levels other);
        saved = λ other. changed_level (λ n. n ≡ length outer + 1 + 1 → IsTrue (is_saved other (drop mark.first (saves ++ save ∷ [])))) save.key x env other
            (λ same level. more other true (list_any-append (λ s. same_key s.key other) (drop mark.first saves) (save ∷ [])
            ∙ or_right (is_saved other (drop mark.first saves)) _ (or_left (same_key save.key other) false same)))
            (λ differ level. more other true (list_any-append (λ s. same_key s.key other) (drop mark.first saves) (save ∷ [])
            ∙ or_left (is_saved other (drop mark.first saves)) _ (h.0.saved other level)));
        owned = λ other saved. changed_level (λ n. (n ≡ length outer + 1 + 1) ⊎ (n ≡ 1)) save.key x env other (λ same. inl new)
            (λ differ. h.0.owned other (or_first (is_saved other (drop mark.first saves)) (same_key save.key other)
            (sym (list_any-append (λ s. same_key s.key other) (drop mark.first saves) (save ∷ [])) ∙ sym (ap (is_saved other) split) ∙ saved) differ));
        numbered = ap (list_all (λ s. s.group == length outer + 1 + 1)) split
            ∙ list_all-append (λ s. s.group == length outer + 1 + 1) (drop mark.first saves) (save ∷ [])
            ∙ and_from _ _ h.0.numbered (and_from _ _ (eq-eqb _ _ number) refl);
      },
      subst Q (sym front) (subst P (sym (undone-more saves mark.first save x env within made (λ e. absurd (omega (arith, e, new))))) h.1),
    )
  where
    length-append-one : (saves : List Save) (save : Save) → length (saves ++ save ∷ []) ≡ length saves + 1
    length-append-one saves save = omega (arith, length-append saves (save ∷ []))

-- ---- the saves of a group are its own

all_weaker : (p q : Save → Bool) → ((save : Save) → p save ≡ true → q save ≡ true) → (saves : List Save) → list_all p saves ≡ true → list_all q saves ≡ true
all_weaker p q h [] e = refl
all_weaker p q h (save ∷ saves) e =
    let parts = and_parts (p save) (list_all p saves) e in
    and_from _ _ (h save parts.0) (all_weaker p q h saves parts.1)

kept-numbers : (marks : List Mark) (saves : List Save) (env : Environment) → AreKept marks saves env → IsTrue (list_all (λ save. nat_le save.group (length marks + 1)) saves)
kept-numbers [] saves env h = ap (list_all (λ save. nat_le save.group 1)) h.0
kept-numbers (mark ∷ outer) saves env h =
    let here : list_all (λ save. nat_le save.group (length (mark ∷ outer) + 1)) (drop mark.first saves) ≡ true =
    all_weaker (λ save. save.group == length outer + 1 + 1) (λ save. nat_le save.group (length (mark ∷ outer) + 1))
    (λ save e. le-leb _ _ (omega (arith, eqb-true _ _ e))) (drop mark.first saves) h.0.numbered in
    let before : list_all (λ save. nat_le save.group (length (mark ∷ outer) + 1)) (take mark.first saves) ≡ true =
    all_weaker (λ save. nat_le save.group (length outer + 1)) (λ save. nat_le save.group (length (mark ∷ outer) + 1))
    (λ save e. le-leb _ _ (omega (arith, leb-true _ _ e))) (take mark.first saves)
    (kept-numbers outer (take mark.first saves) (undone (drop mark.first saves) env) h.1) in
    ap (list_all (λ save. nat_le save.group (length (mark ∷ outer) + 1))) (sym (take-append-drop mark.first saves))
    ∙ list_all-append (λ save. nat_le save.group (length (mark ∷ outer) + 1)) (take mark.first saves) (drop mark.first saves)
    ∙ and_from _ _ before here

filter_none : (p : Save → Bool) (saves : List Save) → list_all (λ save. not (p save)) saves ≡ true → filter p saves ≡ []
filter_none p [] e = refl
filter_none p (save ∷ saves) e = by_test (filter_none p saves (and_parts (not (p save)) _ e).1) (p save) refl (and_parts (not (p save)) _ e).0
  where
    by_test : filter p saves ≡ [] → (b : Bool) → p save ≡ b → not (p save) ≡ true → filter p (save ∷ saves) ≡ []
    by_test rest true is h = absurd (false≢true (sym (ap not is) ∙ h))
    by_test rest false is h = ap (λ b. if b then save ∷ filter p saves else filter p saves) is ∙ rest

filter_all : (p : Save → Bool) (saves : List Save) → list_all p saves ≡ true → filter p saves ≡ saves
filter_all p [] e = refl
filter_all p (save ∷ saves) e =
    let parts = and_parts (p save) (list_all p saves) e in
    ap (λ b. if b then save ∷ filter p saves else filter p saves) parts.0 ∙ ap (λ xs. save ∷ xs) (filter_all p saves parts.1)

not_not : (b : Bool) → b ≡ true → not (not b) ≡ true
not_not true h = refl
not_not false h = absurd (false≢true h)

pub kept-outside : (mark : Mark) (outer : List Mark) (saves : List Save) (env : Environment) → AreKept (mark ∷ outer) saves env
    → saves_outside (length outer + 1 + 1) saves ≡ take mark.first saves
kept-outside mark outer saves env h =
    let own : Save → Bool = λ save. not (save.group == length outer + 1 + 1) in
    let none : filter own (drop mark.first saves) ≡ [] =
    filter_none own (drop mark.first saves)
    (all_weaker (λ save. save.group == length outer + 1 + 1) (λ save. not (own save)) (λ save e. not_not _ e) (drop mark.first saves) h.0.numbered) in
    let all : filter own (take mark.first saves) ≡ take mark.first saves =
    filter_all own (take mark.first saves)
    (all_weaker (λ save. nat_le save.group (length outer + 1)) own (λ save e. ap not (ne_eqb _ _ (λ same. absurd (omega (arith, same, leb-true _ _ e)))))
    (take mark.first saves) (kept-numbers outer (take mark.first saves) (undone (drop mark.first saves) env) h.1)) in
    ap (filter own) (sym (take-append-drop mark.first saves)) ∙ filter-append own (take mark.first saves) (drop mark.first saves)
    ∙ ap (λ xs. filter own (take mark.first saves) ++ xs) none ∙ append-nil (filter own (take mark.first saves)) ∙ all
