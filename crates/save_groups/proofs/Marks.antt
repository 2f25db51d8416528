-- Open groups as they are stored, the outermost first, and as the definitions have them, from the inside out.
use Rattle.std.proofs.Common.{◌≡◌, ℕ, zero, suc, List, [], ◌∷◌, ◌++◌, length, take, refl, ap, sym, ◌∙◌, arith, subst, rules}
use Rattle.std.specs.Prelude.{Result, Ok, Err, OnOk, OnErr, map, slice_index_or, slice_set, IsSome}
use Rattle.std.proofs.lemmas.List.{reverse-append, length-map, length-reverse}
use Rattle.std.proofs.lemmas.Bool.{false≢true}
use Rattle.tokens.specs.declared.token.Token.{Token}
use Rattle.save_groups.specs.declared.group.Group.{Group}
use Rattle.save_groups.specs.declared.save.Save.{Save}
use Rattle.save_groups.specs.declared.env.Env.TheInside.{Inside}
use Rattle.save_groups.specs.Environments.{Environment, innermost, with_after}
use Rattle.save_groups.specs.InForce.{at}
use Rattle.save_groups.specs.Standing.{Store, Mark, copies_of}
use Rattle.save_groups.specs.Kept.{AreKept, mark_of, marks_of, waiting, store_of}
use Rattle.save_groups.proofs.Stores.{mark_at, copies_with, copies-after, length-groups_of}

-- one more group
pub marks-push : (groups : List Group) (group : Group) → marks_of (groups ++ group ∷ []) ≡ mark_of group ∷ marks_of groups
marks-push groups group = ap (map mark_of) (reverse-append groups (group ∷ []))

-- as many
pub length-marks_of : (groups : List Group) → length (marks_of groups) ≡ length groups
length-marks_of groups = search (rules, length-map, length-reverse)

-- how many groups a store has
pub length-copies : (env : Inside) (s : Store) → store_of env ≡ s → length (copies_of s).groups ≡ length env.groups.items
unfolding copies_of
length-copies env s e =
    let P : Store → Type 0 = λ t. length (copies_of t).groups ≡ length env.groups.items in
    subst P e (length-groups_of (marks_of env.groups.items) env.saves.items _ ∙ length-marks_of env.groups.items)

-- the last group, which is the innermost
pub set_last : (groups : List Group) (group : Group) (n : ℕ) → length groups ≡ suc n → slice_set groups n group ≡ take n groups ++ group ∷ []
set_last [] group n e = absurd (omega (arith, e))
set_last (x ∷ []) group zero e = refl
set_last (x ∷ []) group (suc n) e = absurd (omega (arith, e))
set_last (x ∷ y ∷ ys) group zero e = absurd (omega (arith, e))
set_last (x ∷ y ∷ ys) group (suc n) e = ap (λ zs. x ∷ zs) (set_last (y ∷ ys) group n (omega (arith, e)))

pub kept_last : (groups : List Group) (group : Group) (n : ℕ) → length groups ≡ suc n → group ≡ slice_index_or groups n group → groups ≡ take n groups ++ group ∷ []
kept_last [] group n e h = absurd (omega (arith, e))
kept_last (x ∷ []) group zero e h = ap (λ z. z ∷ []) (sym h)
kept_last (x ∷ []) group (suc n) e h = absurd (omega (arith, e))
kept_last (x ∷ y ∷ ys) group zero e h = absurd (omega (arith, e))
kept_last (x ∷ y ∷ ys) group (suc n) e h = ap (λ zs. x ∷ zs) (kept_last (y ∷ ys) group n (omega (arith, e)) h)

-- a token that waits for the end of the innermost group
pub kept-waiting : (token : Token) (marks : List Mark) (saves : List Save) (env : Environment) → AreKept marks saves env → AreKept (waiting token marks) saves env
kept-waiting token [] saves env h = h
kept-waiting token (mark ∷ outer) saves env h =
    (record { first = h.0.first; levels = h.0.levels; saved = h.0.saved; owned = h.0.owned; numbered = h.0.numbered }, h.1)

pub copies-waiting : (token : Token) (s : Store) → IsSome (innermost (copies_of s)) → copies_of (record s { groups = waiting token s.groups }) ≡ with_after token (copies_of s)
unfolding copies_of
copies-waiting token s h = by_marks s.groups h
  where
    by_marks : (marks : List Mark) → IsSome (innermost (copies_with s.extended (at s.entries) marks s.saves))
        → copies_with s.extended (at s.entries) (waiting token marks) s.saves ≡ with_after token (copies_with s.extended (at s.entries) marks s.saves)
    by_marks [] h = absurd (false≢true h)
    by_marks (mark ∷ outer) h = copies-after s.extended (at s.entries) mark outer s.saves token

-- the innermost mark is that of the last group
pub marks-last : (groups : List Group) (group : Group) (n : ℕ) → length groups ≡ suc n → group ≡ slice_index_or groups n group
    → marks_of groups ≡ mark_of group ∷ marks_of (take n groups)
marks-last groups group n e h = ap marks_of (kept_last groups group n e h) ∙ marks-push (take n groups) group

pub marks-set_last : (groups : List Group) (group : Group) (n : ℕ) → length groups ≡ suc n
    → marks_of (slice_set groups n group) ≡ mark_of group ∷ marks_of (take n groups)
marks-set_last groups group n e = ap marks_of (set_last groups group n e) ∙ marks-push (take n groups) group

-- the last group with other tokens
pub marks-same : (groups : List Group) (old new : Group) (n : ℕ) → length groups ≡ suc n → old ≡ slice_index_or groups n old → mark_of new ≡ mark_of old
    → marks_of (slice_set groups n new) ≡ marks_of groups
marks-same groups old new n e h same =
    marks-set_last groups new n e ∙ ap (λ m. m ∷ marks_of (take n groups)) same ∙ sym (marks-last groups old n e h)

pub marks-waiting : (token : Token) (groups : List Group) (old new : Group) (n : ℕ) → length groups ≡ suc n → old ≡ slice_index_or groups n old
    → mark_of new ≡ record (mark_of old) { after = old.after.items ++ token ∷ [] } → marks_of (slice_set groups n new) ≡ waiting token (marks_of groups)
marks-waiting token groups old new n e h same =
    marks-set_last groups new n e ∙ ap (λ m. m ∷ marks_of (take n groups)) same ∙ sym (ap (waiting token) (marks-last groups old n e h))

-- a fact that holds in any case holds at an error
pub on_err : {T E P : Type 0} (r : Result T E) → P → OnErr r P
on_err (Ok x) p = tt
on_err (Err e) p = p

pub on_ok : {T E P : Type 0} (r : Result T E) → P → OnOk r P
on_ok (Ok x) p = p
on_ok (Err e) p = tt

-- a group that begins
pub mark_from : ℕ → ℕ → ℕ → List Token → Mark
mark_from kind line first after = record { kind = kind; line = line; after = after; first = first }

pub marks-entered : (kind line first here : ℕ) (after : List Token) (outer : List Mark) → after ≡ [] → first ≡ here
    → (let m : Mark = record { kind = kind; line = line; after = after; first = first } in m ∷ outer) ≡ mark_at kind line here ∷ outer
unfolding mark_from
marks-entered kind line first here after outer none same =
    ap (λ xs. mark_from kind line first xs ∷ outer) none ∙ ap (λ n. mark_from kind line n [] ∷ outer) same

-- other tokens that wait
pub mark-same : (old new : Group) → new.kind ≡ old.kind → new.line ≡ old.line → new.first ≡ old.first → new.after.items ≡ old.after.items → mark_of new ≡ mark_of old
unfolding mark_from
mark-same old new kind line first after =
    ap (λ k. mark_from k new.line new.first new.after.items) kind ∙ ap (λ l. mark_from old.kind l new.first new.after.items) line
    ∙ ap (λ f. mark_from old.kind old.line f new.after.items) first ∙ ap (mark_from old.kind old.line old.first) after

pub mark-more : (token : Token) (old new : Group) → new.kind ≡ old.kind → new.line ≡ old.line → new.first ≡ old.first → new.after.items ≡ old.after.items ++ token ∷ []
    → mark_of new ≡ record (mark_of old) { after = old.after.items ++ token ∷ [] }
unfolding mark_from
mark-more token old new kind line first after =
    ap (λ k. mark_from k new.line new.first new.after.items) kind ∙ ap (λ l. mark_from old.kind l new.first new.after.items) line
    ∙ ap (λ f. mark_from old.kind old.line f new.after.items) first ∙ ap (mark_from old.kind old.line old.first) after

pub copies-wait : (token : Token) (s now : Store) (marks : List Mark) → s ≡ now → IsSome (innermost (copies_of now)) → marks ≡ waiting token s.groups
    → copies_of (record s { groups = marks }) ≡ with_after token (copies_of now)
copies-wait token s now marks view h e =
    let P : Store → Type 0 = λ t. IsSome (innermost (copies_of t)) in
    ap (λ (ms : List Mark). copies_of (record s { groups = ms })) e ∙ copies-waiting token s (subst P (sym view) h) ∙ ap (λ (t : Store). with_after token (copies_of t)) view
