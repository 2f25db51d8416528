-- Single steps of calls: a save that is undone, a group that begins, ends, or gets a token.
use Rattle.std.proofs.Common.{◌≡◌, ℕ, ◌+◌, ◌≤◌, arith, length-append, List, [], ◌∷◌, ◌++◌, length, take, drop, Bool, true, refl, ap, sym, ◌∙◌, subst}
use Rattle.std.specs.Prelude.{IsTrue, ◌==◌, filter, if◌then◌else◌}
use Rattle.std.specs.List.{list_all}
use Rattle.std.proofs.Math.Path.{fun_ext}
use Rattle.std.proofs.Math.Seq.{drop-length}
use Rattle.std.proofs.lemmas.Bool.{and_from, and_parts}
use Rattle.std.proofs.lemmas.List.{take-append-le, drop-append-le, take-append-drop}
use Rattle.std.proofs.lemmas.List.Elements.{filter-append}
use Rattle.std.proofs.lemmas.List.Folds.{list_all-append}
use Rattle.save_groups.specs.declared.key.Key.{Key}
use Rattle.save_groups.specs.declared.save.Save.{Save}
use Rattle.save_groups.specs.Environments.{Environment, left, level_of, saves_inside}
use Rattle.save_groups.specs.declared.current.Current.{Current}
use Rattle.save_groups.specs.InForce.{at, has_room}
use Rattle.save_groups.specs.Standing.{Store, Mark, undone, restored, copies_of}
use Rattle.save_groups.specs.Kept.{AreKept, can_return}
use Rattle.save_groups.proofs.Undoing.{undone-append}
use Rattle.save_groups.proofs.Stores.{copies_with, copies-left, length-groups_of}

-- of a list whose elements pass, the last one passes, and those before it
pub all_last : {A : Type 0} (p : A → Bool) (xs ys : List A) (y : A) → xs ≡ ys ++ y ∷ [] → IsTrue (list_all p xs) → IsTrue (p y)
all_last p xs ys y e h =
    (and_parts (p y) true (and_parts (list_all p ys) (list_all p (y ∷ [])) (sym (list_all-append p ys (y ∷ [])) ∙ sym (ap (list_all p) e) ∙ h)).1).0

pub all_before : {A : Type 0} (p : A → Bool) (xs ys : List A) (y : A) → xs ≡ ys ++ y ∷ [] → IsTrue (list_all p xs) → IsTrue (list_all p ys)
all_before p xs ys y e h =
    (and_parts (list_all p ys) (list_all p (y ∷ [])) (sym (list_all-append p ys (y ∷ [])) ∙ sym (ap (list_all p) e) ∙ h)).0

pub all_with : {A : Type 0} (p : A → Bool) (xs ys : List A) (y : A) → xs ≡ ys ++ y ∷ [] → IsTrue (list_all p ys) → IsTrue (p y) → IsTrue (list_all p xs)
all_with p xs ys y e h last = ap (list_all p) e ∙ list_all-append p ys (y ∷ []) ∙ and_from _ _ h (and_from _ _ last refl)

-- tables that reach further still reach what they reached
pub returns-further : (e f : Current) (saves : List Save) → ((key : Key) → IsTrue (has_room e key) → IsTrue (has_room f key))
    → IsTrue (list_all (can_return e) saves) → IsTrue (list_all (can_return f) saves)
returns-further e f [] kept h = refl
returns-further e f (save ∷ saves) kept h =
    let parts = and_parts (can_return e save) (list_all (can_return e) saves) h in
    let one = and_parts (has_room e save.key) _ parts.0 in
    and_from _ _ (and_from _ _ (kept save.key one.0) one.1) (returns-further e f saves kept parts.1)

-- one more save undone
pub undone-step : (saves older : List Save) (save : Save) (first : ℕ) (before after whole : Environment) → saves ≡ older ++ save ∷ [] → first ≤ length older
    → ((key : Key) → after key ≡ restored save before key) → undone (drop first saves) before ≡ whole → undone (drop first older) after ≡ whole
undone-step saves older save first before after whole split within here h =
    ap (undone (drop first older)) (fun_ext here)
    ∙ sym (undone-append (drop first older) (save ∷ []) before)
    ∙ sym (ap (λ xs. undone xs before) (ap (drop first) split ∙ drop-append-le first older (save ∷ []) within)) ∙ h

pub front-step : (saves older : List Save) (save : Save) (first : ℕ) (whole : List Save) → saves ≡ older ++ save ∷ [] → first ≤ length older
    → take first saves ≡ whole → take first older ≡ whole
front-step saves older save first whole split within h = sym (ap (take first) split ∙ take-append-le first older (save ∷ []) within) ∙ h

-- where all are undone
pub undone-all : (saves : List Save) (first : ℕ) (env whole : Environment) → first ≡ length saves → undone (drop first saves) env ≡ whole → env ≡ whole
undone-all saves first env whole e h = sym (ap (λ xs. undone xs env) (ap (λ n. drop n saves) e ∙ drop-length saves)) ∙ h

-- a group ends
pub copies-leave : (extended : Bool) (e f : Current) (marks : List Mark) (mark : Mark) (outer : List Mark) (saves rest : List Save) (now : Store)
    → (let s : Store = record { extended = extended; entries = e; groups = marks; saves = saves } in s ≡ now) → marks ≡ mark ∷ outer
    → AreKept marks saves (at e) → at f ≡ undone (drop mark.first saves) (at e) → rest ≡ take mark.first saves
    → (let s : Store = record { extended = extended; entries = f; groups = outer; saves = rest } in copies_of s ≡ left (copies_of now))
unfolding copies_of
copies-leave extended e f marks mark outer saves rest now view split kept undoing front =
    let P : List Mark → Type 0 = λ ms. AreKept ms saves (at e) in
    ap (λ env. copies_with extended env outer rest) undoing
    ∙ ap (λ xs. copies_with extended (undone (drop mark.first saves) (at e)) outer xs) front
    ∙ copies-left extended (at e) mark outer saves (subst P split kept)
    ∙ ap (λ ms. left (copies_with extended (at e) ms saves)) (sym split)
    ∙ ap (λ (s : Store). left (copies_of s)) view

pub kept-leave : (marks : List Mark) (mark : Mark) (outer : List Mark) (saves rest : List Save) (env after : Environment) → marks ≡ mark ∷ outer
    → AreKept marks saves env → after ≡ undone (drop mark.first saves) env → rest ≡ take mark.first saves → AreKept outer rest after
kept-leave marks mark outer saves rest env after split kept undoing front =
    let P : List Mark → Type 0 = λ ms. AreKept ms saves env in
    let Q : List Save → Type 0 = λ xs. AreKept outer xs (undone (drop mark.first saves) env) in
    let R : Environment → Type 0 = λ e. AreKept outer rest e in
    let inner = subst P split kept in
    subst R (sym undoing) (subst Q (sym front) inner.1)

-- the saves of the innermost group are those behind its first one
filter_all : (p : Save → Bool) (saves : List Save) → list_all p saves ≡ true → length (filter p saves) ≡ length saves
filter_all p [] h = refl
filter_all p (save ∷ saves) h =
    let parts = and_parts (p save) (list_all p saves) h in
    let kept : length (filter p (save ∷ saves)) ≡ length (save ∷ filter p saves) = ap (λ b. length (if b then save ∷ filter p saves else filter p saves)) parts.0 in
    omega (arith, kept, filter_all p saves parts.1)

inside-many : (n first level : ℕ) (saves : List Save) → list_all (λ save. save.group == n) (drop first saves) ≡ true → level ≡ n → length (drop first saves) ≤ length (saves_inside level saves)
inside-many n first level saves numbered same =
    let test : Save → Bool = λ save. save.group == n in
    let split : filter test (take first saves) ++ filter test (drop first saves) ≡ filter test saves =
    sym (filter-append test (take first saves) (drop first saves)) ∙ ap (filter test) (take-append-drop first saves) in
    omega (
      arith,
      ap (λ xs. length xs) split,
      length-append (filter test (take first saves)) (filter test (drop first saves)),
      filter_all test (drop first saves) numbered,
      ap (λ m. length (saves_inside m saves)) same,
    )

pub steps-leave : (extended : Bool) (e : Current) (marks : List Mark) (mark : Mark) (outer : List Mark) (saves : List Save) (now : Store)
    → (let s : Store = record { extended = extended; entries = e; groups = marks; saves = saves } in s ≡ now) → marks ≡ mark ∷ outer → AreKept marks saves (at e)
    → length (drop mark.first saves) ≤ length (saves_inside (level_of (copies_of now)) (copies_of now).saves)
unfolding copies_of
steps-leave extended e marks mark outer saves now view split kept =
    let P : List Mark → Type 0 = λ ms. AreKept ms saves (at e) in
    let inner = subst P split kept in
    let s : Store = record { extended = extended; entries = e; groups = marks; saves = saves } in
    let level : level_of (copies_of s) ≡ length outer + 1 + 1 = omega (arith, length-groups_of marks saves (at e), ap (λ (ms : List Mark). length ms) split) in
    let Q : Store → Type 0 = λ t. length (drop mark.first saves) ≤ length (saves_inside (level_of (copies_of t)) (copies_of t).saves) in
    subst Q view (inside-many (length outer + 1 + 1) mark.first (level_of (copies_of s)) saves inner.0.numbered level)
