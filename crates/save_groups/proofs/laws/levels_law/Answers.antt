-- By the list of calls, and the kind of each.
use Rattle.std.proofs.Common.{◌≡◌, ℕ, ◌≤◌, ◌+◌, List, [], ◌∷◌, length, Bool, true, false, refl, ap, sym, ◌∙◌, arith, inl, inr, subst}
use Rattle.std.proofs.lemmas.Bool.{le-leb}
use Rattle.std.proofs.lemmas.List.{length-map}
use Rattle.nodes.specs.declared.boxes.BoxNode.{BoxNode}
use Rattle.nodes.specs.declared.node.Node.{Node}
use Rattle.tokens.specs.declared.meaning.RegKind.TheVariants.{Box}
use Rattle.tokens.specs.declared.token.Token.{Token}
use Rattle.std.specs.Prelude.{◌⊎◌, ℤ, nat_le, map, Option, None, Some, Result, Ok, Err, if◌then◌else◌}
use Rattle.save_groups.specs.declared.key.Key.{Key}
use Rattle.save_groups.specs.declared.key.Key.TheVariants.{Register}
use Rattle.save_groups.specs.declared.key.Scope.TheVariants.{Local, Global}
use Rattle.save_groups.specs.declared.value.Value.{Value}
use Rattle.save_groups.specs.declared.value.Value.TheVariants as value
use Rattle.save_groups.specs.declared.entry.Entry.{Entry}
use Rattle.save_groups.specs.Keys.{same_key}
use Rattle.save_groups.specs.Environments.{Environment, updated, OpenGroup, Copies, environments, beginning, level_of, left_by, with_after_by}
use Rattle.save_groups.specs.Assignment.{assigned_here, assigned_globally, with_outside, changes_nothing}
use Rattle.tokens.specs.declared.stop.Stop.{Stop}
use Rattle.save_groups.specs.declared.call.Told.{Told}
use Rattle.save_groups.specs.declared.call.Call.{Call}
use Rattle.save_groups.specs.declared.call.Call.TheVariants.{Assign, Enter, Leave, AfterGroup, SetBoxSize, SwapBox}
use Rattle.save_groups.specs.Calls.{LevelsLaw, AreNested, IsOutside, Attempt, done, attempted, attempted_by, after_attempts}
use Rattle.save_groups.specs.InPlace.{refilled, refilled_from, box_of, sized_value, resized_by}
use Rattle.save_groups.proofs.KeyLemmas.{updated-same, updated-other}
use Rattle.save_groups.proofs.Places.{none_refilled, same_level, own_or_outer}
use Rattle.save_groups.proofs.laws.levels_law.Goals as goal

abbrev Stands : Environment → List Environment → Key → Type 0
Stands env outer key = ((env key).level ≡ length outer + 1) ⊎ IsOutside key (env key) outer

-- another environment that is the same at a key
same_stand : (env new : Environment) (outer : List Environment) (key : Key) → new key ≡ env key → Stands env outer key → Stands new outer key
same_stand env new outer key same (inl level) = inl (ap (λ (x : Entry Value). x.level) same ∙ level)
same_stand env new [] key same (inr h) = inr h
same_stand env new (e ∷ outer) key same (inr h) = inr (h ∙ sym same)

-- the environment in force changes at an entry, which then belongs to its group
here : (key : Key) (x : Entry Value) (env : Environment) (outer : List Environment) → x.level ≡ length outer + 1 → AreNested (env ∷ outer) → AreNested (updated key x env ∷ outer)
here key x env outer level h = (λ other. by_test other (same_key key other) refl, h.1)
  where
    by_test : (other : Key) (b : Bool) → same_key key other ≡ b → Stands (updated key x env) outer other
    by_test other true same = inl (ap (λ (y : Entry Value). y.level) (updated-same key other x env same) ∙ level)
    by_test other false differ = same_stand env (updated key x env) outer other (updated-other key other x env differ) (h.0 other)

-- all environments change at an entry
everywhere : (key : Key) (x : Entry Value) (envs : List Environment) → x.level ≡ 1 → AreNested envs → AreNested (map (updated key x) envs)
everywhere key x [] one h = h
everywhere key x (env ∷ []) one h = here key x env [] (omega (arith, one)) h
everywhere key x (env ∷ e ∷ outer) one h = (λ other. by_test other (same_key key other) refl, everywhere key x (e ∷ outer) one h.1)
  where
    by_test : (other : Key) (b : Bool) → same_key key other ≡ b → Stands (updated key x env) (map (updated key x) (e ∷ outer)) other
    by_test other true same = inr (updated-same key other x e same ∙ sym (updated-same key other x env same))
    by_test other false differ = kept (h.0 other)
      where
        kept : Stands env (e ∷ outer) other → Stands (updated key x env) (map (updated key x) (e ∷ outer)) other
        kept (inl level) = inl (ap (λ (y : Entry Value). y.level) (updated-other key other x env differ) ∙ level ∙ omega (arith, length-map outer (updated key x)))
        kept (inr same) = inr (updated-other key other x e differ ∙ same ∙ sym (updated-other key other x env differ))

outsides : (key : Key) (x : Entry Value) (groups : List OpenGroup) → map (λ g. g.outside) (map (with_outside key x) groups) ≡ map (updated key x) (map (λ g. g.outside) groups)
outsides key x [] = refl
outsides key x (group ∷ groups) = ap (λ es. updated key x group.outside ∷ es) (outsides key x groups)

same_outsides : (groups : List OpenGroup) → length (map (λ (g : OpenGroup). g.outside) groups) ≡ length groups
same_outsides groups = length-map groups (λ (g : OpenGroup). g.outside)

locally : (key : Key) (value : Value) (c : Copies) (b : Bool) → AreNested (environments c) → AreNested (environments (if b then c else assigned_here key value c))
locally key value c true h = h
locally key value c false h =
    here key (record { value = value; level = level_of c }) c.last (map (λ g. g.outside) c.groups) (omega (arith, same_outsides c.groups)) h

globally : (key : Key) (value : Value) (c : Copies) → AreNested (environments c) → AreNested (environments (assigned_globally key value c))
globally key value c h =
    let x : Entry Value = record { value = value; level = 1 } in
    let P : List Environment → Type 0 = λ es. AreNested (updated key x c.last ∷ es) in
    subst P (sym (outsides key x c.groups)) (everywhere key x (environments c) refl h)

left_nested : (groups : List OpenGroup) (c : Copies) → c.groups ≡ groups → AreNested (environments c) → AreNested (environments (left_by groups c))
left_nested [] c e h = h
left_nested (group ∷ groups) c e h =
    let P : List OpenGroup → Type 0 = λ gs. AreNested (c.last ∷ map (λ g. g.outside) gs) in
    let all = subst P e h in
    all.1

after_nested : (token : Token) (groups : List OpenGroup) (c : Copies) → c.groups ≡ groups → AreNested (environments c) → AreNested (environments (with_after_by token groups c))
after_nested token [] c e h = h
after_nested token (group ∷ groups) c e h = let P : List OpenGroup → Type 0 = λ gs. AreNested (c.last ∷ map (λ g. g.outside) gs) in subst P e h

-- an entry's level is at most the number of its environment
level_within : (key : Key) (env : Environment) (outer : List Environment) → AreNested (env ∷ outer) → (env key).level ≤ length outer + 1
level_within key env [] h = by_stand (h.0 key)
  where
    by_stand : Stands env [] key → (env key).level ≤ 1
    by_stand (inl level) = omega (arith, level)
    by_stand (inr none) = absurd none
level_within key env (e ∷ outer) h = by_stand (level_within key e outer h.1) (h.0 key)
  where
    by_stand : (e key).level ≤ length outer + 1 → Stands env (e ∷ outer) key → (env key).level ≤ length (e ∷ outer) + 1
    by_stand within (inl level) = omega (arith, level)
    by_stand within (inr same) = omega (arith, ap (λ (x : Entry Value). x.level) same, within)

length-refilled : (level : ℕ) (key : Key) (value : Value) (groups : List OpenGroup) → length (refilled_from level key value groups) ≡ length groups
length-refilled level key value [] = refl
length-refilled level key value (group ∷ outer) = let rest : length (refilled_from level key value outer) ≡ length outer = length-refilled level key value outer in omega (arith, rest)

-- an entry changed in place
in_nested : (key : Key) (value : Value) (level : ℕ) (env : Environment) (groups : List OpenGroup) → (env key).level ≡ level → AreNested (env ∷ map (λ g. g.outside) groups)
    → AreNested (refilled key value env ∷ map (λ g. g.outside) (refilled_from level key value groups))
in_nested key value level env [] is h = (λ other. by_stand other (h.0 other), tt)
  where
    by_stand : (other : Key) → Stands env [] other → Stands (refilled key value env) [] other
    by_stand other (inl own) = inl (same_level key value env other ∙ own)
    by_stand other (inr none) = absurd none
in_nested key value level env (group ∷ outer) is h =
    own_or_outer (env key).level (length outer + 1 + 1)
    (AreNested (refilled key value env ∷ map (λ g. g.outside) (refilled_from level key value (group ∷ outer))))
    (λ own.
    let P : List OpenGroup → Type 0 = λ gs. AreNested (refilled key value env ∷ map (λ g. g.outside) gs) in
    subst P (sym (none_refilled level key value (group ∷ outer) (omega (arith, own, is))))
    (here key (record { value = value; level = (env key).level }) env (map (λ g. g.outside) (group ∷ outer)) (omega (arith, own, same_outsides outer)) h))
    (λ foreign. by_stand (λ below. in_nested key value level group.outside outer below h.1) foreign (h.0 key))
  where
    Changed : List OpenGroup → Type 0
    Changed gs = AreNested (refilled key value env ∷ map (λ g. g.outside) gs)

    changed : OpenGroup
    changed = record group { outside = refilled key value group.outside }

    rest : List OpenGroup
    rest = refilled_from level key value outer

    outer_level : group.outside key ≡ env key → (group.outside key).level ≡ level
    outer_level same = ap (λ (x : Entry Value). x.level) same ∙ is

    by_key : group.outside key ≡ env key → (other : Key) (b : Bool) → same_key key other ≡ b
        → Stands (refilled key value env) (map (λ g. g.outside) (changed ∷ rest)) other
    by_key same other true one =
        inr (updated-same key other (record { value = value; level = (group.outside key).level }) group.outside one
        ∙ ap (λ n. let x : Entry Value = record { value = value; level = n } in x) (ap (λ (x : Entry Value). x.level) same)
        ∙ sym (updated-same key other (record { value = value; level = (env key).level }) env one))
    by_key same other false differ = kept (h.0 other)
      where
        kept : Stands env (map (λ g. g.outside) (group ∷ outer)) other → Stands (refilled key value env) (map (λ g. g.outside) (changed ∷ rest)) other
        kept (inl own) = inl (omega (arith, same_level key value env other, own, same_outsides outer, same_outsides rest, length-refilled level key value outer))
        kept (inr alike) =
            inr (updated-other key other (record { value = value; level = (group.outside key).level }) group.outside differ ∙ alike
            ∙ sym (updated-other key other (record { value = value; level = (env key).level }) env differ))

    by_stand : ((group.outside key).level ≡ level → AreNested (map (λ g. g.outside) (changed ∷ rest))) → ((env key).level ≡ length outer + 1 + 1 → ⊥) → Stands env (map (λ g. g.outside) (group ∷ outer)) key → Changed (refilled_from level key value (group ∷ outer))
    by_stand further foreign (inl own) = absurd (foreign (omega (arith, own, same_outsides outer)))
    by_stand further foreign (inr same) =
        let within : nat_le level (length outer + 1) ≡ true =
        le-leb _ _ (omega (arith, outer_level same, level_within key group.outside (map (λ g. g.outside) outer) h.1, same_outsides outer)) in
        let Q : Bool → Type 0 = λ b. Changed ((if b then changed else group) ∷ rest) in
        subst Q (sym within) (λ other. by_key same other (same_key key other) refl, further (outer_level same))

resized_nested : (b : Option (BoxNode (List Node))) (number part : ℕ) (size : ℤ) (c : Copies) → AreNested (environments c) → AreNested (environments (resized_by b number part size c))
resized_nested None number part size c h = h
resized_nested (Some b) number part size c h =
    in_nested (Register Box number) (sized_value part size b) (c.last (Register Box number)).level c.last c.groups refl h

one_call : (call : Call) (c : Copies) → AreNested (environments c) → AreNested (environments (done call c))
one_call (Assign key value Local) c h = locally key value c (changes_nothing key value c) h
one_call (Assign key value Global) c h = globally key value c h
one_call (Enter kind line) c h = (λ key. inr refl, h)
one_call Leave c h = left_nested c.groups c refl h
one_call (AfterGroup token) c h = after_nested token c.groups c refl h
one_call (SetBoxSize number part size) c h = resized_nested (box_of number c.last) number part size c h
one_call (SwapBox number content) c h =
    in_nested (Register Box number) (value.Boxed content) (c.last (Register Box number)).level c.last c.groups refl h

one_attempt : (call : Call) (answer : Result Told Stop) (c : Copies) → AreNested (environments c) → AreNested (environments (attempted_by call answer c))
one_attempt call (Ok tells) c h = one_call call c h
one_attempt call (Err stop) c h = h

all_attempts : (attempts : List Attempt) (c : Copies) → AreNested (environments c) → AreNested (environments (after_attempts attempts c))
all_attempts [] c h = h
all_attempts (attempt ∷ attempts) c h = all_attempts attempts (attempted attempt c) (one_attempt attempt.call attempt.answer c h)

whole : LevelsLaw
whole extended attempts = all_attempts attempts (beginning extended) (λ key. inl refl, tt)

pub returns : goal.returns
returns c = record { law = whole }
