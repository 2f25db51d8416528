-- Entries by how far a table reaches: a box register behind the end is void, and a code is found in its row.
use Rattle.std.proofs.Common.{◌≡◌, ℕ, zero, suc, ◌-◌, ◌<◌, ◌≤◌, length, Bool, true, false, refl, ap, sym, ◌∙◌, subst, arith}
use Rattle.std.specs.Prelude.{ℤ, Option, None, Some, List, nat_lt, ◌||◌, IsTrue, slice_index_or, if◌then◌else◌}
use Rattle.std.proofs.lemmas.Bool.{and_parts, lt-ltb, ltb-true, false_from_ne_true, false≢true}
use Rattle.nodes.specs.declared.boxes.BoxNode.{BoxNode}
use Rattle.nodes.specs.declared.node.Node.{Node}
use Rattle.tokens.specs.declared.meaning.RegKind.TheVariants.{Box}
use Rattle.save_groups.specs.declared.key.Key.{Key}
use Rattle.save_groups.specs.declared.key.Key.TheVariants.{Register, Code}
use Rattle.save_groups.specs.declared.value.Value.{Value}
use Rattle.save_groups.specs.declared.value.Value.TheVariants as value
use Rattle.save_groups.specs.declared.entry.Entry.{Entry}
use Rattle.save_groups.specs.Keys.{same_key}
use Rattle.save_groups.specs.StartValues.{start_code}
use Rattle.save_groups.specs.Environments.{Environment}
use Rattle.save_groups.specs.InPlace.{refilled, box_in, box_of, has_box, is_box, can_swap, resized_here, resized_here_by}
use Rattle.save_groups.specs.Entries.{Entries, at, as_value, fresh, entry_at, code_place, has_room}
use Rattle.save_groups.proofs.KeyLemmas.{same_key-equal, updated-same, updated-other}
use Rattle.save_groups.proofs.Starting.{past_end}

-- a box register that the table doesn't reach is void
pub unreached : (e now : Entries) (number : ℕ) → e ≡ now → length e.boxes ≤ number → at now (Register Box number) ≡ fresh (value.Boxed None)
unreached e now number view h =
    ap (λ (t : Entries). at t (Register Box number)) (sym view) ∙ ap (as_value value.Boxed) (past_end e.boxes number (fresh None) h)

pub unreached_void : (e now : Entries) (number : ℕ) → e ≡ now → length e.boxes ≤ number → box_of number (at now) ≡ None
unreached_void e now number view h = ap (λ (y : Entry Value). box_in y.value) (unreached e now number view h)

-- one that it reaches has room
pub reached : (e now : Entries) (number : ℕ) → e ≡ now → number < length e.boxes → IsTrue (nat_lt number (length now.boxes))
reached e now number view h = let P : Entries → Type 0 = λ t. IsTrue (nat_lt number (length t.boxes)) in subst P view (lt-ltb _ _ h)

-- what is put in the place of an equal value changes nothing
pub refilled-same : (env : Environment) (key : Key) (v : Value) → (env key).value ≡ v → (other : Key) → refilled key v env other ≡ env other
refilled-same env key v e other = by_test (same_key key other) refl
  where
    entry : Value → Entry Value
    entry w = record { value = w; level = (env key).level }

    by_test : (b : Bool) → same_key key other ≡ b → refilled key v env other ≡ env other
    by_test true same = updated-same key other (entry v) env same ∙ ap entry (sym e) ∙ ap env (same_key-equal key other same)
    by_test false differ = updated-other key other (entry v) env differ

-- a void box has no sizes
pub resized-void : (env : Environment) (number part : ℕ) (size : ℤ) → box_of number env ≡ None → (other : Key) → env other ≡ resized_here number part size env other
resized-void env number part size void other = sym (ap (λ b. resized_here_by b number part size env other) void)

-- into a void register from 256 on, void alone can be put
pub void_alone : (number : ℕ) (content : Option (BoxNode (List Node))) (env : Environment) → 256 ≤ number → box_of number env ≡ None
    → IsTrue (can_swap number content env) → content ≡ None
void_alone number None env above void h = refl
void_alone number (Some b) env above void h =
    let far : nat_lt number 256 ≡ false = false_from_ne_true _ (λ e. let below : number < 256 = ltb-true number 256 e in omega arith) in
    absurd (false≢true (sym (ap (λ b. b || (has_box number env || false)) far ∙ ap (λ b. is_box b || false) void) ∙ h))

pub swapped-void : (now : Entries) (number : ℕ) (content : Option (BoxNode (List Node))) → at now (Register Box number) ≡ fresh (value.Boxed None) → content ≡ None
    → (other : Key) → at now other ≡ refilled (Register Box number) (value.Boxed content) (at now) other
swapped-void now number content void none other =
    sym (refilled-same (at now) (Register Box number) (value.Boxed content)
    (ap (λ (y : Entry Value). y.value) void ∙ sym (ap value.Boxed none)) other)

-- a code behind the categories
pub code_found : (key : Key) (table byte : ℕ) (e : Entries) (entry : Entry ℤ) → key ≡ Code table byte → 0 < table → IsTrue (has_room e key)
    → ((rest : Entry ℤ) → slice_index_or e.codes (code_place (table - 1) byte) rest ≡ entry) → as_value value.Number entry ≡ at e key
code_found key zero byte e entry is behind room found = absurd (omega arith)
code_found key (suc table) byte e entry is behind room found =
    let R : Key → Type 0 = λ k. IsTrue (has_room e k) in
    let within : nat_lt byte 256 ≡ true = (and_parts (nat_lt byte 256) _ (subst R is room)).0 in
    let start : ℤ = start_code (suc table) byte in
    let row : suc table - 1 ≡ table = omega arith in
    let P : ℕ → Type 0 = λ t. slice_index_or e.codes (code_place t byte) (fresh start) ≡ entry in
    sym (ap (at e) is
    ∙ ap (λ b. if b then entry_at value.Number start e.codes (code_place table byte) else fresh (value.Number start)) within
    ∙ ap (as_value value.Number) (subst P row (found (fresh start))))
