-- An entry that no call gave a value is what it was at the start: by the list of calls, and the kind of each.
use Rattle.std.proofs.Common.{◌≡◌, ℕ, ◌+◌, length, List, [], ◌∷◌, Bool, true, false, refl, sym, ◌∙◌, subst}
use Rattle.std.specs.Prelude.{ℤ, nat_le, ◌||◌, map, Option, None, Some, Result, Ok, Err, if◌then◌else◌}
use Rattle.std.specs.List.{list_any}
use Rattle.std.proofs.lemmas.Bool.{false≢true}
use Rattle.std.proofs.lemmas.List.Folds.{list_any-append}
use Rattle.tokens.specs.declared.token.Token.{Token}
use Rattle.tokens.specs.declared.stop.Stop.{Stop}
use Rattle.save_groups.specs.declared.call.Told.{Told}
use Rattle.save_groups.specs.declared.call.Call.{Call}
use Rattle.save_groups.specs.declared.call.Call.TheVariants.{Assign, Enter, Leave, AfterGroup, SetBoxSize, SwapBox}
use Rattle.nodes.specs.declared.boxes.BoxNode.{BoxNode}
use Rattle.nodes.specs.declared.node.Node.{Node}
use Rattle.tokens.specs.declared.meaning.RegKind.TheVariants.{Box}
use Rattle.save_groups.specs.declared.key.Key.{Key}
use Rattle.save_groups.specs.declared.key.Key.TheVariants.{Register}
use Rattle.save_groups.specs.declared.key.Scope.TheVariants.{Local, Global}
use Rattle.save_groups.specs.declared.value.Value.{Value}
use Rattle.save_groups.specs.declared.value.Value.TheVariants as value
use Rattle.save_groups.specs.declared.entry.Entry.{Entry}
use Rattle.save_groups.specs.Keys.{same_key}
use Rattle.save_groups.specs.InPlace.{refilled, refilled_from, in_place, box_of, sized_value, resized_by}
use Rattle.save_groups.specs.Environments.{OpenGroup, Copies, environments, beginning, start_environment, level_of, left_by, with_after_by}
use Rattle.save_groups.specs.Assignment.{assigned_here, with_outside, changes_nothing}
use Rattle.save_groups.specs.Calls.{GivenLaw, AreFresh, Attempt, done, attempted, attempted_by, after_attempts, keys_of, given, given_by}
use Rattle.save_groups.proofs.KeyLemmas.{updated-other}

neither : (b c : Bool) → (b || c) ≡ false → (b ≡ false) × (c ≡ false)
neither true c h = absurd (false≢true (sym h))
neither false true h = absurd (false≢true (sym h))
neither false false h = (refl, refl)

-- another entry is changed, in the environment in force or in all
outside_fresh : (extended : Bool) (key k : Key) (x : Entry Value) (groups : List OpenGroup) → same_key k key ≡ false
    → AreFresh extended key (map (λ g. g.outside) groups) → AreFresh extended key (map (λ g. g.outside) (map (with_outside k x) groups))
outside_fresh extended key k x [] differ h = h
outside_fresh extended key k x (group ∷ groups) differ h =
    (updated-other k key x group.outside differ ∙ h.0, outside_fresh extended key k x groups differ h.1)

locally : (extended : Bool) (key k : Key) (value : Value) (c : Copies) (b : Bool) → same_key k key ≡ false → AreFresh extended key (environments c)
    → AreFresh extended key (environments (if b then c else assigned_here k value c))
locally extended key k value c true differ h = h
locally extended key k value c false differ h =
    (updated-other k key (record { value = value; level = level_of c }) c.last differ ∙ h.0, h.1)

left_fresh : (extended : Bool) (key : Key) (groups : List OpenGroup) (c : Copies) → c.groups ≡ groups → AreFresh extended key (environments c)
    → AreFresh extended key (environments (left_by groups c))
left_fresh extended key [] c e h = h
left_fresh extended key (group ∷ groups) c e h =
    let P : List OpenGroup → Type 0 = λ gs. AreFresh extended key (c.last ∷ map (λ g. g.outside) gs) in
    let all = subst P e h in
    all.1

after_fresh : (extended : Bool) (key : Key) (token : Token) (groups : List OpenGroup) (c : Copies) → c.groups ≡ groups → AreFresh extended key (environments c)
    → AreFresh extended key (environments (with_after_by token groups c))
after_fresh extended key token [] c e h = h
after_fresh extended key token (group ∷ groups) c e h =
    let P : List OpenGroup → Type 0 = λ gs. AreFresh extended key (c.last ∷ map (λ g. g.outside) gs) in subst P e h

-- an entry changed in place
refilled_fresh : (extended : Bool) (key k : Key) (v : Value) (level : ℕ) (groups : List OpenGroup) → same_key k key ≡ false
    → AreFresh extended key (map (λ g. g.outside) groups) → AreFresh extended key (map (λ g. g.outside) (refilled_from level k v groups))
refilled_fresh extended key k v level [] differ h = h
refilled_fresh extended key k v level (group ∷ outer) differ h =
    (by_test (nat_le level (length outer + 1)), refilled_fresh extended key k v level outer differ h.1)
  where
    by_test : (b : Bool) → (let g : OpenGroup = if b then record group { outside = refilled k v group.outside } else group in g.outside key ≡ start_environment extended key)
    by_test true = updated-other k key (record { value = v; level = (group.outside k).level }) group.outside differ ∙ h.0
    by_test false = h.0

in_place_fresh : (extended : Bool) (key k : Key) (v : Value) (c : Copies) → same_key k key ≡ false → AreFresh extended key (environments c)
    → AreFresh extended key (environments (in_place k v c))
in_place_fresh extended key k v c differ h =
    (updated-other k key (record { value = v; level = (c.last k).level }) c.last differ ∙ h.0, refilled_fresh extended key k v (c.last k).level c.groups differ h.1)

resized_fresh : (extended : Bool) (key : Key) (b : Option (BoxNode (List Node))) (number part : ℕ) (size : ℤ) (c : Copies) → same_key (Register Box number) key ≡ false
    → AreFresh extended key (environments c) → AreFresh extended key (environments (resized_by b number part size c))
resized_fresh extended key None number part size c differ h = h
resized_fresh extended key (Some b) number part size c differ h = in_place_fresh extended key (Register Box number) (sized_value part size b) c differ h

one_call : (extended : Bool) (key : Key) (call : Call) (c : Copies) → list_any (λ k. same_key k key) (keys_of call) ≡ false
    → AreFresh extended key (environments c) → AreFresh extended key (environments (done call c))
one_call extended key (Assign k value Local) c other h = locally extended key k value c (changes_nothing k value c) (neither _ _ other).0 h
one_call extended key (Assign k value Global) c other h =
    let x : Entry Value = record { value = value; level = 1 } in
    (updated-other k key x c.last (neither _ _ other).0 ∙ h.0, outside_fresh extended key k x c.groups (neither _ _ other).0 h.1)
one_call extended key (Enter kind line) c other h = (h.0, h)
one_call extended key Leave c other h = left_fresh extended key c.groups c refl h
one_call extended key (AfterGroup token) c other h = after_fresh extended key token c.groups c refl h
one_call extended key (SetBoxSize number part size) c other h = resized_fresh extended key (box_of number c.last) number part size c (neither _ _ other).0 h
one_call extended key (SwapBox number content) c other h = in_place_fresh extended key (Register Box number) (value.Boxed content) c (neither _ _ other).0 h

one_attempt : (extended : Bool) (key : Key) (call : Call) (answer : Result Told Stop) (c : Copies) → list_any (λ k. same_key k key) (keys_of call) ≡ false
    → AreFresh extended key (environments c) → AreFresh extended key (environments (attempted_by call answer c))
one_attempt extended key call (Ok tells) c other h = one_call extended key call c other h
one_attempt extended key call (Err stop) c other h = h

all_attempts : (extended : Bool) (key : Key) (attempts : List Attempt) (c : Copies) → list_any (λ k. same_key k key) (given attempts) ≡ false
    → AreFresh extended key (environments c) → AreFresh extended key (environments (after_attempts attempts c))
all_attempts extended key [] c other h = h
all_attempts extended key (attempt ∷ attempts) c other h =
    let parts = neither _ _ (sym (list_any-append (λ k. same_key k key) (given_by attempt) (given attempts)) ∙ other) in
    all_attempts extended key attempts (attempted attempt c) parts.1 (one_attempt extended key attempt.call attempt.answer c parts.0 h)

pub given-law : GivenLaw
given-law extended attempts key other = all_attempts extended key attempts (beginning extended) other (refl, tt)
