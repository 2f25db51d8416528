-- What stands in tables and trees, and which registers are held, where one of them changes.
use Rattle.std.proofs.Common.{◌≡◌, ℕ, ◌+◌, ◌-◌, ◌<◌, ◌≤◌, ◌^◌, ◌*◌, List, [], ◌∷◌, ◌++◌, length, Bool, true, false, refl, ap, sym, ◌∙◌, subst, arith}
use Rattle.std.specs.Prelude.{ℤ, ◌==◌, nat_le, ◌&&◌, ◌||◌, Option, None, Some, IsTrue, if◌then◌else◌}
use Rattle.std.proofs.lemmas.Bool.{and_parts, eqb-true, false≢true, false_from_ne_true, leb-true}
use Rattle.nodes.specs.declared.boxes.BoxNode.{BoxNode}
use Rattle.nodes.specs.declared.node.Node.{Node}
use Rattle.tokens.specs.declared.meaning.RegKind.{RegKind}
use Rattle.tokens.specs.declared.meaning.RegKind.TheVariants.{Count, Dimen, Skip, Muskip, Box, Toks}
use Rattle.tokens.specs.declared.meaning.Meaning.{Meaning}
use Rattle.tokens.specs.declared.meaning.Meaning.TheVariants as meaning
use Rattle.tokens.specs.Meaning.{same_reg_kind, same_reg_kind-equal}
use Rattle.sparse_regs.specs.declared.node.Register.{Register as Held}
use Rattle.save_groups.specs.declared.key.Key.{Key}
use Rattle.save_groups.specs.declared.key.Key.TheVariants.{Register, Parameter, Code, Name, Active, CurrentFont, Family, Shape, Penalties}
use Rattle.save_groups.specs.declared.value.Value.{Value}
use Rattle.save_groups.specs.declared.value.Value.TheVariants as value
use Rattle.save_groups.specs.declared.entry.Entry.{Entry}
use Rattle.save_groups.specs.declared.save.Save.{Save}
use Rattle.save_groups.specs.declared.current.Current.{Current}
use Rattle.save_groups.specs.declared.trees.Trees.{Trees}
use Rattle.save_groups.specs.Keys.{same_key}
use Rattle.save_groups.specs.Values.{fits}
use Rattle.save_groups.specs.Environments.{updated}
use Rattle.save_groups.specs.Entries.{Entries}
use Rattle.save_groups.specs.Entries as tables
use Rattle.save_groups.specs.InPlace.{refilled, box_in, box_of, resized_here, resized_here_by, with_size}
use Rattle.save_groups.specs.InTrees.{is_in_tree, cell, with_cell, with_sized, sized_box, count_of, holders_of}
use Rattle.save_groups.specs.InForce.{at, is_reached}
use Rattle.save_groups.specs.Nodes.{named_by, held_by_saves}
use Rattle.save_groups.specs.Holding.{first_in_tree, needed_register, with_needed, named_count, held_in, IsHeldBy, Holds, HasFewHolders}
use Rattle.save_groups.proofs.KeyLemmas.{same_key-equal, same_key-refl, updated-other}
use Rattle.save_groups.proofs.Reaching.{refilled-same}
use Rattle.save_groups.proofs.Naming.{named-one}

-- ---- what stands where

pub at-table : (c : Current) (key : Key) → is_in_tree key ≡ false → at c key ≡ tables.at c.tables key
at-table c (Register kind number) h = ap (λ b. if b then (cell c.trees kind number).value else tables.at c.tables (Register kind number)) h
at-table c (Parameter place) h = refl
at-table c (Code table byte) h = refl
at-table c (Name id) h = refl
at-table c (Active byte) h = refl
at-table c CurrentFont h = refl
at-table c (Family size number) h = refl
at-table c Shape h = refl
at-table c (Penalties array) h = refl

pub at-tree : (c : Current) (kind : RegKind) (number : ℕ) → nat_le 256 number ≡ true → at c (Register kind number) ≡ (cell c.trees kind number).value
at-tree c kind number h = ap (λ b. if b then (cell c.trees kind number).value else tables.at c.tables (Register kind number)) h

-- an entry in a tree doesn't change with the tables
tree_stays : (c : Current) (e : Entries) (key : Key) → is_in_tree key ≡ true → at (record c { tables = e }) key ≡ at c key
tree_stays c e (Register kind number) h = at-tree (record c { tables = e }) kind number h ∙ sym (at-tree c kind number h)
tree_stays c e (Parameter place) h = absurd (false≢true h)
tree_stays c e (Code table byte) h = absurd (false≢true h)
tree_stays c e (Name id) h = absurd (false≢true h)
tree_stays c e (Active byte) h = absurd (false≢true h)
tree_stays c e CurrentFont h = absurd (false≢true h)
tree_stays c e (Family size number) h = absurd (false≢true h)
tree_stays c e Shape h = absurd (false≢true h)
tree_stays c e (Penalties array) h = absurd (false≢true h)

-- a test that comes out either way
by_either : (b : Bool) (P : Type 0) → (b ≡ true → P) → (b ≡ false → P) → P
by_either true P yes_it no_it = yes_it refl
by_either false P yes_it no_it = no_it refl

-- tables that stand for the same
pub tables-same : (c : Current) (e : Entries) → ((other : Key) → tables.at e other ≡ tables.at c.tables other) → (other : Key) → at (record c { tables = e }) other ≡ at c other
tables-same c e h other = by_either (is_in_tree other) (at (record c { tables = e }) other ≡ at c other)
    (λ inside. tree_stays c e other inside)
    (λ outside. at-table (record c { tables = e }) other outside ∙ h other ∙ sym (at-table c other outside))

-- an entry of no tree is none that stands in one
pub not-same : (key other : Key) → is_in_tree key ≡ false → is_in_tree other ≡ true → same_key key other ≡ false
not-same key other outside inside =
    false_from_ne_true _ (λ e. false≢true (sym outside ∙ ap is_in_tree (same_key-equal key other e) ∙ inside))

-- an entry of a table changes
pub table-changed : (c : Current) (e : Entries) (key : Key) (x : Entry Value) → is_in_tree key ≡ false
    → ((other : Key) → tables.at e other ≡ updated key x (tables.at c.tables) other) → (other : Key) → at (record c { tables = e }) other ≡ updated key x (at c) other
table-changed c e key x outside h other = by_either (is_in_tree other) (at (record c { tables = e }) other ≡ updated key x (at c) other)
    (λ inside. tree_stays c e other inside ∙ sym (updated-other key other x (at c) (not-same key other outside inside)))
    (λ beside. at-table (record c { tables = e }) other beside ∙ h other
    ∙ ap (λ y. if same_key key other then x else y) (sym (at-table c other beside)))

-- a register of a tree changes
pub cell-changed : (c : Current) (t : Trees) (kind : RegKind) (number : ℕ) (x : Held (Entry Value)) → nat_le 256 number ≡ true
    → ((k : RegKind) (m : ℕ) → cell t k m ≡ with_cell kind number x (cell c.trees) k m) → (other : Key)
    → at (record c { trees = t }) other ≡ updated (Register kind number) x.value (at c) other
cell-changed c t kind number x inside h (Register k m) = by_either (same_reg_kind kind k && (number == m)) _ same differ
  where
    Goal : Bool → Type 0
    Goal b = at (record c { trees = t }) (Register k m) ≡ (if b then x.value else at c (Register k m))

    there : Bool → Entry Value
    there b = (if b then x else cell c.trees k m).value

    same : (same_reg_kind kind k && (number == m)) ≡ true → Goal (same_reg_kind kind k && (number == m))
    same e =
        let one : number ≡ m = eqb-true number m (and_parts (same_reg_kind kind k) (number == m) e).1 in
        let within : nat_le 256 m ≡ true = ap (nat_le 256) (sym one) ∙ inside in
        subst Goal (sym e) (at-tree (record c { trees = t }) k m within ∙ ap (λ (y : Held (Entry Value)). y.value) (h k m) ∙ ap there e)

    differ : (same_reg_kind kind k && (number == m)) ≡ false → Goal (same_reg_kind kind k && (number == m))
    differ e =
        subst Goal (sym e) (ap (λ (y : Held (Entry Value)). if nat_le 256 m then y.value else tables.at c.tables (Register k m)) (h k m)
        ∙ ap (λ b. if nat_le 256 m then there b else tables.at c.tables (Register k m)) e)
cell-changed c t kind number x inside h (Parameter place) = refl
cell-changed c t kind number x inside h (Code table byte) = refl
cell-changed c t kind number x inside h (Name id) = refl
cell-changed c t kind number x inside h (Active byte) = refl
cell-changed c t kind number x inside h CurrentFont = refl
cell-changed c t kind number x inside h (Family size column) = refl
cell-changed c t kind number x inside h Shape = refl
cell-changed c t kind number x inside h (Penalties array) = refl

-- values stay where only holders change
pub values-same : (c : Current) (t : Trees) → ((k : RegKind) (m : ℕ) → (cell t k m).value ≡ (cell c.trees k m).value) → (other : Key) → at (record c { trees = t }) other ≡ at c other
values-same c t h (Register k m) = ap (λ y. if nat_le 256 m then y else tables.at c.tables (Register k m)) (h k m)
values-same c t h (Parameter place) = refl
values-same c t h (Code table byte) = refl
values-same c t h (Name id) = refl
values-same c t h (Active byte) = refl
values-same c t h CurrentFont = refl
values-same c t h (Family size number) = refl
values-same c t h Shape = refl
values-same c t h (Penalties array) = refl

-- what was reached still is
pub reached-further : (e f : Entries) → ((key : Key) → IsTrue (tables.has_room e key) → IsTrue (tables.has_room f key)) → (key : Key) → IsTrue (is_reached e key) → IsTrue (is_reached f key)
reached-further e f h (Register kind number) room = by_test (nat_le 256 number) refl room
  where
    by_test : (b : Bool) → nat_le 256 number ≡ b → IsTrue (nat_le 256 number || tables.has_room e (Register kind number)) → IsTrue (nat_le 256 number || tables.has_room f (Register kind number))
    by_test true inside there = ap (λ b. b || tables.has_room f (Register kind number)) inside
    by_test false outside there =
        ap (λ b. b || tables.has_room f (Register kind number)) outside
        ∙ h (Register kind number) (sym (ap (λ b. b || tables.has_room e (Register kind number)) outside) ∙ there)
reached-further e f h (Parameter place) room = h (Parameter place) room
reached-further e f h (Code table byte) room = h (Code table byte) room
reached-further e f h (Name id) room = h (Name id) room
reached-further e f h (Active byte) room = h (Active byte) room
reached-further e f h CurrentFont room = h CurrentFont room
reached-further e f h (Family size number) room = h (Family size number) room
reached-further e f h Shape room = h Shape room
reached-further e f h (Penalties array) room = h (Penalties array) room

pub reached-table : (e : Entries) (key : Key) → is_in_tree key ≡ false → IsTrue (is_reached e key) → IsTrue (tables.has_room e key)
reached-table e (Register kind number) outside room = sym (ap (λ b. b || tables.has_room e (Register kind number)) outside) ∙ room
reached-table e (Parameter place) outside room = room
reached-table e (Code table byte) outside room = room
reached-table e (Name id) outside room = room
reached-table e (Active byte) outside room = room
reached-table e CurrentFont outside room = room
reached-table e (Family size number) outside room = room
reached-table e Shape outside room = room
reached-table e (Penalties array) outside room = room

pub reached-by-table : (e : Entries) (key : Key) → IsTrue (tables.has_room e key) → IsTrue (is_reached e key)
reached-by-table e (Register kind number) room = by_test (nat_le 256 number)
  where
    by_test : (b : Bool) → (b || tables.has_room e (Register kind number)) ≡ true
    by_test true = refl
    by_test false = room
reached-by-table e (Parameter place) room = room
reached-by-table e (Code table byte) room = room
reached-by-table e (Name id) room = room
reached-by-table e (Active byte) room = room
reached-by-table e CurrentFont room = room
reached-by-table e (Family size number) room = room
reached-by-table e Shape room = room
reached-by-table e (Penalties array) room = room

pub reached-by-tree : (e : Entries) (key : Key) → is_in_tree key ≡ true → IsTrue (is_reached e key)
reached-by-tree e (Register kind number) inside = ap (λ b. b || tables.has_room e (Register kind number)) inside
reached-by-tree e (Parameter place) inside = absurd (false≢true inside)
reached-by-tree e (Code table byte) inside = absurd (false≢true inside)
reached-by-tree e (Name id) inside = absurd (false≢true inside)
reached-by-tree e (Active byte) inside = absurd (false≢true inside)
reached-by-tree e CurrentFont inside = absurd (false≢true inside)
reached-by-tree e (Family size number) inside = absurd (false≢true inside)
reached-by-tree e Shape inside = absurd (false≢true inside)
reached-by-tree e (Penalties array) inside = absurd (false≢true inside)

-- ---- boxes

pub resized-in-tree : (c : Current) (t : Trees) (number part : ℕ) (size : ℤ) → nat_le 256 number ≡ true
    → ((k : RegKind) (m : ℕ) → cell t k m ≡ with_cell Box number (with_sized part size (cell c.trees Box number)) (cell c.trees) k m) → (other : Key)
    → at (record c { trees = t }) other ≡ resized_here number part size (at c) other
resized-in-tree c t number part size inside h other =
    cell-changed c t Box number (with_sized part size (cell c.trees Box number)) inside h other
    ∙ by_box (box_in (cell c.trees Box number).value.value) refl
    ∙ ap (λ b. resized_here_by b number part size (at c) other) (sym (ap (λ (y : Entry Value). box_in y.value) (at-tree c Box number inside)))
  where
    entry : Option (BoxNode (List Node)) → ℕ → Entry Value
    entry b level = record { value = value.Boxed b; level = level }

    level_is : (cell c.trees Box number).value.level ≡ (at c (Register Box number)).level
    level_is = sym (ap (λ (y : Entry Value). y.level) (at-tree c Box number inside))

    by_box : (b : Option (BoxNode (List Node))) → box_in (cell c.trees Box number).value.value ≡ b
        → updated (Register Box number) (with_sized part size (cell c.trees Box number)).value (at c) other
        ≡ resized_here_by (box_in (cell c.trees Box number).value.value) number part size (at c) other
    by_box None void =
        ap (λ b. updated (Register Box number) (entry (sized_box part size b) (cell c.trees Box number).value.level) (at c) other) void
        ∙ ap (λ n. updated (Register Box number) (entry None n) (at c) other) level_is
        ∙ refilled-same (at c) (Register Box number) (value.Boxed None)
        (ap (λ (y : Entry Value). y.value) (at-tree c Box number inside) ∙ ap value.Boxed void) other
        ∙ sym (ap (λ b. resized_here_by b number part size (at c) other) void)
    by_box (Some b) there =
        ap (λ d. updated (Register Box number) (entry (sized_box part size d) (cell c.trees Box number).value.level) (at c) other) there
        ∙ ap (λ n. updated (Register Box number) (entry (Some (with_size part size b)) n) (at c) other) level_is
        ∙ sym (ap (λ d. resized_here_by d number part size (at c) other) there)

-- a box in a table
pub below-trees : (number : ℕ) → number < 256 → nat_le 256 number ≡ false
below-trees number below = false_from_ne_true _ (λ e. let h : 256 ≤ number = leb-true 256 number e in omega (arith, below, h))

pub resized-in-table : (c : Current) (e : Entries) (number part : ℕ) (size : ℤ) → number < 256
    → ((other : Key) → tables.at e other ≡ resized_here number part size (tables.at c.tables) other) → (other : Key)
    → at (record c { tables = e }) other ≡ resized_here number part size (at c) other
resized-in-table c e number part size below h other = by_box (box_of number (tables.at c.tables)) refl
  where
    outside : nat_le 256 number ≡ false
    outside = below-trees number below

    here : at c (Register Box number) ≡ tables.at c.tables (Register Box number)
    here = at-table c (Register Box number) outside

    entry : Option (BoxNode (List Node)) → ℕ → Entry Value
    entry b level = record { value = value.Boxed b; level = level }

    boxes : (b : Option (BoxNode (List Node))) → box_of number (tables.at c.tables) ≡ b → box_of number (at c) ≡ b
    boxes b there = ap (λ (y : Entry Value). box_in y.value) here ∙ there

    by_box : (b : Option (BoxNode (List Node))) → box_of number (tables.at c.tables) ≡ b
        → at (record c { tables = e }) other ≡ resized_here number part size (at c) other
    by_box None void =
        tables-same c e (λ k. h k ∙ ap (λ b. resized_here_by b number part size (tables.at c.tables) k) void) other
        ∙ sym (ap (λ b. resized_here_by b number part size (at c) other) (boxes None void))
    by_box (Some b) there =
        table-changed c e (Register Box number) (entry (Some (with_size part size b)) (tables.at c.tables (Register Box number)).level) outside
        (λ k. h k ∙ ap (λ d. resized_here_by d number part size (tables.at c.tables) k) there) other
        ∙ ap (λ n. updated (Register Box number) (entry (Some (with_size part size b)) n) (at c) other) (sym (ap (λ (y : Entry Value). y.level) here))
        ∙ sym (ap (λ d. resized_here_by d number part size (at c) other) (boxes (Some b) there))

pub swapped-in-tree : (c : Current) (t : Trees) (number : ℕ) (content : Option (BoxNode (List Node))) (x : Held (Entry Value)) → nat_le 256 number ≡ true
    → x.value ≡ record { value = value.Boxed content; level = (cell c.trees Box number).value.level }
    → ((k : RegKind) (m : ℕ) → cell t k m ≡ with_cell Box number x (cell c.trees) k m) → (other : Key)
    → at (record c { trees = t }) other ≡ refilled (Register Box number) (value.Boxed content) (at c) other
swapped-in-tree c t number content x inside is h other =
    cell-changed c t Box number x inside h other
    ∙ ap (λ y. updated (Register Box number) y (at c) other) is
    ∙ ap (λ n. let y : Entry Value = record { value = value.Boxed content; level = n } in updated (Register Box number) y (at c) other)
    (sym (ap (λ (y : Entry Value). y.level) (at-tree c Box number inside)))

-- ---- holders

abbrev pub listed : Option Key → List Key
listed None = []
listed (Some key) = key ∷ []

no_meaning : (kind : RegKind) (number : ℕ) (m : Meaning) → fits (Register kind number) (value.Meaning m) ≡ true → ⊥
no_meaning Count number m h = false≢true h
no_meaning Dimen number m h = false≢true h
no_meaning Skip number m h = false≢true h
no_meaning Muskip number m h = false≢true h
no_meaning Box number m h = false≢true h
no_meaning Toks number m h = false≢true h

-- what stands in a tree names no register
pub no-name : (key : Key) (v : Value) → is_in_tree key ≡ true → fits key v ≡ true → named_by v ≡ []
no-name key (value.Number n) inside fit = refl
no-name key (value.Glue g) inside fit = refl
no-name key (value.Tokens xs) inside fit = refl
no-name (Register kind number) (value.Meaning m) inside fit = absurd (no_meaning kind number m fit)
no-name (Parameter place) (value.Meaning m) inside fit = absurd (false≢true inside)
no-name (Code table byte) (value.Meaning m) inside fit = absurd (false≢true inside)
no-name (Name id) (value.Meaning m) inside fit = absurd (false≢true inside)
no-name (Active byte) (value.Meaning m) inside fit = absurd (false≢true inside)
no-name CurrentFont (value.Meaning m) inside fit = absurd (false≢true inside)
no-name (Family size number) (value.Meaning m) inside fit = absurd (false≢true inside)
no-name Shape (value.Meaning m) inside fit = absurd (false≢true inside)
no-name (Penalties array) (value.Meaning m) inside fit = absurd (false≢true inside)
no-name key (value.Boxed b) inside fit = refl
no-name key (value.Table ns) inside fit = refl

one_named : (r other : Key) (b : Bool) → is_in_tree r ≡ b → is_in_tree other ≡ true → count_of other (r ∷ []) ≡ count_of other (listed (if b then Some r else None))
one_named r other true within inside = refl
one_named r other false beside inside = ap (λ b. (if b then 1 else 0) + 0) (not-same r other beside inside)

named-count : (v : Value) (other : Key) → is_in_tree other ≡ true → count_of other (named_by v) ≡ count_of other (listed (first_in_tree (named_by v)))
named-count (value.Number n) other inside = refl
named-count (value.Glue g) other inside = refl
named-count (value.Tokens xs) other inside = refl
named-count (value.Meaning meaning.Undefined) other inside = refl
named-count (value.Meaning (meaning.Primitive code)) other inside = refl
named-count (value.Meaning (meaning.Macro m)) other inside = refl
named-count (value.Meaning (meaning.Char cat byte)) other inside = refl
named-count (value.Meaning (meaning.CharDef byte)) other inside = refl
named-count (value.Meaning (meaning.MathCharDef code)) other inside = refl
named-count (value.Meaning (meaning.Register kind number)) other inside = one_named (Register kind number) other (nat_le 256 number) refl inside
named-count (value.Meaning (meaning.Font font)) other inside = refl
named-count (value.Boxed b) other inside = refl
named-count (value.Table ns) other inside = refl

-- an entry with a value needs one register at most
pub needed-count : (key other : Key) (v : Value) → is_in_tree other ≡ true → fits key v ≡ true → count_of other (key ∷ named_by v) ≡ count_of other (listed (needed_register key v))
needed-count key other v inside fit = by_either (is_in_tree key) (count_of other (key ∷ named_by v) ≡ count_of other (listed (needed_register key v)))
    (λ within.
    ap (λ keys. count_of other (key ∷ keys)) (no-name key v within fit)
    ∙ sym (ap (λ b. count_of other (listed (if b then Some key else first_in_tree (named_by v)))) within))
    (λ beside.
    let alone : ◌≡◌ {A = ℕ} (if same_key key other then 1 else 0) 0 = ap (λ b. if b then 1 else 0) (not-same key other beside inside) in
    let chosen : count_of other (listed (needed_register key v)) ≡ count_of other (listed (first_in_tree (named_by v))) =
    ap (λ b. count_of other (listed (if b then Some key else first_in_tree (named_by v)))) beside in
    omega (arith, alone, named-count v other inside, chosen))

pub needed-one : (key r other : Key) (v : Value) (got : Option Key) → got ≡ needed_register key v → got ≡ Some r → is_in_tree other ≡ true → fits key v ≡ true
    → count_of other (key ∷ named_by v) ≡ count_of other (r ∷ [])
needed-one key r other v got is some inside fit = needed-count key other v inside fit ∙ ap (λ o. count_of other (listed o)) (sym is ∙ some)

pub needed-none : (key other : Key) (v : Value) (got : Option Key) → got ≡ needed_register key v → got ≡ None → is_in_tree other ≡ true → fits key v ≡ true
    → count_of other (key ∷ named_by v) ≡ 0
needed-none key other v got is empty inside fit = needed-count key other v inside fit ∙ ap (λ o. count_of other (listed o)) (sym is ∙ empty)

first_within : (keys : List Key) (r : Key) → first_in_tree keys ≡ Some r → is_in_tree r ≡ true
first_within [] r h = cc
first_within (key ∷ keys) r h = by_test (λ rest. first_within keys r rest) (is_in_tree key) refl
  where
    by_test : (first_in_tree keys ≡ Some r → is_in_tree r ≡ true) → (b : Bool) → is_in_tree key ≡ b → is_in_tree r ≡ true
    by_test later true within =
        let some : Some key ≡ Some r = sym (ap (λ b. if b then Some key else first_in_tree keys) within) ∙ h in
        let same : key ≡ r = cc in
        ap is_in_tree (sym same) ∙ within
    by_test later false beside = later (sym (ap (λ b. if b then Some key else first_in_tree keys) beside) ∙ h)

pub needed-within : (key r : Key) (v : Value) (got : Option Key) → got ≡ needed_register key v → got ≡ Some r → is_in_tree r ≡ true
needed-within key r v got is some = first_within (key ∷ named_by v) r (sym is ∙ some)

pub count-self : (r : Key) → count_of r (r ∷ []) ≡ 1
count-self r = ap (λ b. (if b then 1 else 0) + 0) (same_key-refl r)

-- what is needed is held
pub needed-held : (c : Current) (key r : Key) (v : Value) (got : Option Key) → got ≡ needed_register key v → got ≡ Some r → fits key v ≡ true → Holds c (key ∷ named_by v)
    → 0 < holders_of c.trees r
needed-held c key r v got is some fit h =
    let inside : is_in_tree r ≡ true = needed-within key r v got is some in
    omega (arith, h.enough r inside, needed-one key r r v got is some inside fit, count-self r)

pub held-more : (c : Current) (t : Trees) (key r : Key) (v : Value) (got : Option Key) → got ≡ needed_register key v → got ≡ Some r → fits key v ≡ true
    → ((other : Key) → holders_of t other ≡ holders_of c.trees other + count_of other (r ∷ [])) → (held : Key → ℕ) → IsHeldBy c held → IsHeldBy (record c { trees = t }) (with_needed key v held)
held-more c t key r v got is some fit more held h = record {
  counts = λ other inside. omega (arith, h.counts other inside, more other, needed-one key r other v got is some inside fit);
}

pub held-none : (c : Current) (key : Key) (v : Value) (got : Option Key) → got ≡ needed_register key v → got ≡ None → fits key v ≡ true
    → (held : Key → ℕ) → IsHeldBy c held → IsHeldBy c (with_needed key v held)
held-none c key v got is empty fit held h = record {
  counts = λ other inside. omega (arith, h.counts other inside, needed-none key other v got is empty inside fit);
}

pub held-less : (c : Current) (t : Trees) (key r : Key) (v : Value) (got : Option Key) → got ≡ needed_register key v → got ≡ Some r → fits key v ≡ true
    → ((other : Key) → holders_of t other + count_of other (r ∷ []) ≡ holders_of c.trees other) → (held : Key → ℕ) → IsHeldBy c (with_needed key v held) → IsHeldBy (record c { trees = t }) held
held-less c t key r v got is some fit less held h = record {
  counts = λ other inside. omega (arith, h.counts other inside, less other, needed-one key r other v got is some inside fit);
}

pub held-no-less : (c : Current) (key : Key) (v : Value) (got : Option Key) → got ≡ needed_register key v → got ≡ None → fits key v ≡ true
    → (held : Key → ℕ) → IsHeldBy c (with_needed key v held) → IsHeldBy c held
held-no-less c key v got is empty fit held h = record {
  counts = λ other inside. omega (arith, h.counts other inside, needed-none key other v got is empty inside fit);
}

-- other tables whose meanings name the same
pub held-named : (c : Current) (e : Entries) → ((other : Key) → named_count other e ≡ named_count other c.tables) → (held : Key → ℕ) → IsHeldBy c held → IsHeldBy (record c { tables = e }) held
held-named c e same held h = record { counts = λ other inside. omega (arith, h.counts other inside, same other) }

-- a value is put in the place of another: one in a table, and one in a tree
pub held-replaced : (c : Current) (e : Entries) (key : Key) (v old : Value)
    → ((other : Key) → named_count other e + count_of other (named_by old) ≡ named_count other c.tables + count_of other (named_by v))
    → (held : Key → ℕ) → IsHeldBy c (with_needed key v held) → IsHeldBy (record c { tables = e }) (with_needed key old held)
held-replaced c e key v old balance held h = record { counts = λ other inside. omega (arith, h.counts other inside, balance other) }

pub holders-same : (old t : Trees) (kind : RegKind) (number : ℕ) (x : Held (Entry Value)) → ((k : RegKind) (m : ℕ) → cell t k m ≡ with_cell kind number x (cell old) k m)
    → x.holders ≡ (cell old kind number).holders → (key : Key) → holders_of t key ≡ holders_of old key
holders-same old t kind number x h same (Register k m) =
    ap (λ (y : Held (Entry Value)). y.holders) (h k m) ∙ by_test (same_reg_kind kind k && (number == m)) refl
  where
    by_test : (b : Bool) → (same_reg_kind kind k && (number == m)) ≡ b → (if same_reg_kind kind k && (number == m) then x else cell old k m).holders ≡ (cell old k m).holders
    by_test true e =
        let parts = and_parts (same_reg_kind kind k) (number == m) e in
        let first : kind ≡ k = same_reg_kind-equal kind k parts.0 in
        let second : number ≡ m = eqb-true number m parts.1 in
        let P : RegKind → ℕ → Type 0 = λ j n. x.holders ≡ (cell old j n).holders in
        ap (λ b. (if b then x else cell old k m).holders) e ∙ subst (λ j. P j m) first (subst (P kind) second same)
    by_test false e = ap (λ b. (if b then x else cell old k m).holders) e
holders-same old t kind number x h same (Parameter place) = refl
holders-same old t kind number x h same (Code table byte) = refl
holders-same old t kind number x h same (Name id) = refl
holders-same old t kind number x h same (Active byte) = refl
holders-same old t kind number x h same CurrentFont = refl
holders-same old t kind number x h same (Family size column) = refl
holders-same old t kind number x h same Shape = refl
holders-same old t kind number x h same (Penalties array) = refl

pub held-cells : (c : Current) (t : Trees) → ((key : Key) → holders_of t key ≡ holders_of c.trees key) → (held : Key → ℕ) → IsHeldBy c held → IsHeldBy (record c { trees = t }) held
held-cells c t same held h = record { counts = λ other inside. omega (arith, h.counts other inside, same other) }

pub held-replaced-cell : (c : Current) (t : Trees) (key : Key) (v old : Value) → is_in_tree key ≡ true → fits key v ≡ true → fits key old ≡ true
    → ((other : Key) → holders_of t other ≡ holders_of c.trees other) → (held : Key → ℕ) → IsHeldBy c (with_needed key v held) → IsHeldBy (record c { trees = t }) (with_needed key old held)
held-replaced-cell c t key v old within fit fitted same held h =
    let named : named_by v ≡ named_by old = no-name key v within fit ∙ sym (no-name key old within fitted) in
    record { counts = λ other inside. omega (arith, h.counts other inside, same other, ap (count_of other) named) }

pub few-along : (c d : Current) → d.trees ≡ c.trees → HasFewHolders c → HasFewHolders d
few-along c d same h = record { few = λ key inside. (let P : Trees → Type 0 = λ t. holders_of t key < 2 ^ 127 in subst P (sym same) (h.few key inside)) }

-- ---- what is held for saves

count-append : (other : Key) (xs ys : List Key) → count_of other (xs ++ ys) ≡ count_of other xs + count_of other ys
count-append other [] ys = omega arith
count-append other (x ∷ xs) ys = omega (arith, count-append other xs ys)

pub held-last : (other : Key) (saves : List Save) (save : Save) → held_in (saves ++ save ∷ []) other ≡ count_of other (save.key ∷ named_by save.value) + held_in saves other
held-last other [] save = omega (arith, count-append other (named_by save.value) [])
held-last other (s ∷ saves) save =
    omega (arith, held-last other saves save, count-append other (named_by s.value) (held_by_saves saves), count-append other (named_by s.value) (held_by_saves (saves ++ save ∷ [])))

pub held-saved : (c : Current) (saves more : List Save) (save : Save) → more ≡ saves ++ save ∷ [] → IsHeldBy c (with_needed save.key save.value (held_in saves)) → IsHeldBy c (held_in more)
held-saved c saves more save split h =
    let P : List Save → Type 0 = λ xs. IsHeldBy c (held_in xs) in
    subst P (sym split) (record { counts = λ other inside. omega (arith, h.counts other inside, held-last other saves save) })

pub held-unsaved : (c : Current) (saves more : List Save) (save : Save) → more ≡ saves ++ save ∷ [] → IsHeldBy c (held_in more) → IsHeldBy c (with_needed save.key save.value (held_in saves))
held-unsaved c saves more save split h =
    let P : List Save → Type 0 = λ xs. IsHeldBy c (held_in xs) in
    let whole : IsHeldBy c (held_in (saves ++ save ∷ [])) = subst P split h in
    record { counts = λ other inside. omega (arith, whole.counts other inside, held-last other saves save) }

pub holds-of : (c : Current) (key : Key) (v : Value) (held : Key → ℕ) → IsHeldBy c (with_needed key v held) → Holds c (key ∷ named_by v)
holds-of c key v held h = record { enough = λ other inside. omega (arith, h.counts other inside) }

-- what is held beside some registers
rest_of : Current → List Key → Key → ℕ
rest_of c keys other = holders_of c.trees other - (named_count other c.tables + count_of other keys)

pub holds-prepared : (c d : Current) (key : Key) (v : Value) → Holds c [] → ((held : Key → ℕ) → IsHeldBy c held → IsHeldBy d (with_needed key v held)) → Holds d (key ∷ named_by v)
unfolding rest_of
holds-prepared c d key v h along =
    holds-of d key v (rest_of c []) (along (rest_of c []) (record { counts = λ other inside. omega (arith, h.enough other inside) }))

pub holds-replaced : (c d : Current) (key : Key) (v old : Value) → Holds c (key ∷ named_by v)
    → ((held : Key → ℕ) → IsHeldBy c (with_needed key v held) → IsHeldBy d (with_needed key old held)) → Holds d (key ∷ named_by old)
unfolding rest_of
holds-replaced c d key v old h along =
    holds-of d key old (rest_of c (key ∷ named_by v)) (along (rest_of c (key ∷ named_by v)) (record { counts = λ other inside. omega (arith, h.enough other inside) }))

-- a save holds two registers at most, and there are no more meanings and saves than numbers
few_saved : (other : Key) (saves : List Save) → held_in saves other ≤ 2 * length saves
few_saved other [] = omega arith
few_saved other (save ∷ saves) =
    omega (arith, few_saved other saves, named-one other save.value, one_at_most (same_key save.key other), count-append other (named_by save.value) (held_by_saves saves))
  where
    one_at_most : (b : Bool) → (if b then 1 else 0) ≤ 1
    one_at_most true = omega arith
    one_at_most false = omega arith

pub few-holders : (c : Current) (saves : List Save) → IsHeldBy c (held_in saves) → ((other : Key) → named_count other c.tables ≤ 2 ^ 65) → length saves < 2 ^ 64 → HasFewHolders c
few-holders c saves h names short = record { few = λ other inside. omega (arith, h.counts other inside, names other, few_saved other saves, short) }

pub holds-named : (c : Current) (saves : List Save) → IsHeldBy c (held_in saves) → Holds c []
holds-named c saves h = record { enough = λ other inside. omega (arith, h.counts other inside) }
