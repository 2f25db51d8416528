-- The bytes of a page that are written at once are those of its commands, spelled with their last marks.
use Rattle.std.proofs.Common.{◌≡◌, ℕ, zero, suc, ◌+◌, ◌-◌, ◌<◌, ◌≤◌, ◌⊎◌, inl, inr, Bool, true, false, cond, ◌||◌, ℤ, pos, Option, Some, None, List, [], ◌∷◌, ◌++◌, length, map, set, drop, find, slice_get, slice_index, refl, sym, ap, ap₂, ◌∙◌, subst, arith, append_assoc, append-nil, ne_of_lt, le_refl, true≢false, length-append, length-set, get_or-set_same}
use Rattle.std.proofs.lemmas.List.{map-append, length-map, get_or_append_left}
use Rattle.std.proofs.Math.Seq.{get_or-append_seam}
use Rattle.std.proofs.lemmas.List.Sums.{fold-append}
use Rattle.std.specs.List.{fold}
use Rattle.dvi_out.specs.declared.command.Command.{Command}
use Rattle.dvi_out.specs.declared.command.Command.TheVariants.{Push, Pop, Right, Down, Character, SetRule, PutRule, Special}
use Rattle.dvi_out.specs.declared.font.FontDef.{FontDef}
use Rattle.dvi_out.specs.declared.movements.Word.{Word}
use Rattle.dvi_out.specs.declared.movements.Movement.{Movement}
use Rattle.dvi_out.specs.SpellingMovements.{Family, family, no_movements, opened, closed, moved, movement_at, with_found, passed_at, kept_at, with_mark, mark_here, carried, repeated}
use Rattle.dvi_out.specs.SpellingPage.{Opcodes, horizontal, vertical, opcode_of, bytes_for, movement_bytes, movement_bytes_by, Given, Spelled, spelled, spell, spell_all, with_right, with_down, with_bytes, with_font, with_choice, with_definition, is_font, is_defined, is_chosen, choice, definition, character_bytes, across, down}
use Rattle.dvi_out.specs.Buffer.{Track, track, Buffer, no_bytes, index_of, recoded, recoded_at, with_movement, found_for, still, with_spelled, written, written_all}
use Rattle.dvi_out.proofs.Cells.{Cell, Byte, value, new_cells, NoCode, StandsBy, none_more, stands_more, plain_none, new_none, stands_new, plain_values, all_same, same_values, patched}
use Rattle.dvi_out.proofs.Marked.{code, other_after_set, code_between, seen_after_pass, length_after_pass, appended, Added, added_new, added_sharing, kept_past}
use Rattle.std.proofs.lemmas.Bool.{cases_lt}

-- ---- the commands by the marks of both families

abbrev ops : Bool → Opcodes
ops true = horizontal
ops false = vertical

abbrev code_of : List Movement → List Movement → Bool → ℕ → ℕ
code_of rights downs true k = code horizontal rights k
code_of rights downs false k = code vertical downs k

abbrev codes_in : List Movement → List Movement → (Bool × ℕ) → ℕ
codes_in rights downs key = code_of rights downs key.0 key.1

-- the same, with the family first that is looked at
abbrev both : Bool → List Movement → List Movement → (Bool × ℕ) → ℕ
both true moves others = codes_in moves others
both false moves others = codes_in others moves

abbrev pair : Bool → ℕ → Bool × ℕ
pair b n = (b, n)

alike_by : (b e : Bool) (moves after others : List Movement) (j : ℕ) → code (ops b) after j ≡ code (ops b) moves j →
    both b after others (e, j) ≡ both b moves others (e, j)
alike_by true true moves after others j same = same
alike_by true false moves after others j same = refl
alike_by false true moves after others j same = refl
alike_by false false moves after others j same = same

alike : (b : Bool) (moves after others : List Movement) → ((j : ℕ) → code (ops b) after j ≡ code (ops b) moves j) →
    (key : Bool × ℕ) → both b after others key ≡ both b moves others key
alike b moves after others same key = alike_by b key.0 moves after others key.1 (same key.1)

off_by : (b e : Bool) (moves after others : List Movement) (p j : ℕ) →
    ((j ≡ p → ⊥) → code (ops b) after j ≡ code (ops b) moves j) → (pair e j ≡ pair b p → ⊥) →
    both b after others (e, j) ≡ both b moves others (e, j)
off_by true true moves after others p j same apart = same (λ e. apart (ap (pair true) e))
off_by true false moves after others p j same apart = refl
off_by false true moves after others p j same apart = refl
off_by false false moves after others p j same apart = same (λ e. apart (ap (pair false) e))

off : (b : Bool) (moves after others : List Movement) (p : ℕ) →
    ((j : ℕ) → (j ≡ p → ⊥) → code (ops b) after j ≡ code (ops b) moves j) →
    (other : Bool × ℕ) → (other ≡ pair b p → ⊥) → both b after others other ≡ both b moves others other
off b moves after others p same other apart = off_by b other.0 moves after others p other.1 (same other.1) apart

at_key : (b : Bool) (moves others : List Movement) (k : ℕ) → both b moves others (b, k) ≡ code (ops b) moves k
at_key true moves others k = refl
at_key false moves others k = refl

-- ---- where the commands stand

abbrev Stands : Bool → List Movement → List ℕ → List Cell → Type 0
Stands b moves places cells =
    (k : ℕ) → k < length moves →
    StandsBy (b, k) (movement_at moves k).width (slice_index places k) cells (movement_at moves k).repeats

abbrev Later : Bool → List Movement → List Cell → Type 0
Later b moves cells = (k : ℕ) → length moves ≤ k → NoCode (b, k) cells

stands_like : (key other : Bool × ℕ) (w w' : ℤ) (q q' : ℕ) (cells : List Cell) (r r' : Option Word) → other ≡ key → w' ≡ w →
    q' ≡ q → r' ≡ r → StandsBy key w q cells r → StandsBy other w' q' cells r'
stands_like key other w w' q q' cells r r' same_key same_w same_q same_r stands = rw (same_key, same_w, same_q, same_r) stands

stands_by : (b : Bool) (before after : List Movement) (places : List ℕ) (place : ℕ) (cells : List Cell) (w : ℤ)
    (r : Option Word) (k : ℕ) → Added before after w r → length places ≡ length before → Stands b before places cells →
    Later b before cells → place ≡ length cells → k < length after → (k < length before) ⊎ (length before ≤ k) →
    StandsBy (b, k) (movement_at after k).width (slice_index (places ++ place ∷ []) k)
    (cells ++ new_cells (ops b) (b, length before) w r) (movement_at after k).repeats
stands_by b before after places place cells w r k added same stands later placed within (inl old) =
    stands_like (b, k) (b, k) (movement_at before k).width _ (slice_index places k) _ (cells ++ new_cells (ops b) (b, length before) w r)
    (movement_at before k).repeats _ refl (added.same_width k old)
    (get_or_append_left places (place ∷ []) 0 k (omega (arith, same))) (added.same_repeats k old)
    (stands_more (b, k) (movement_at before k).width (slice_index places k) cells (new_cells (ops b) (b, length before) w r)
    (movement_at before k).repeats (stands k old)
    (new_none (ops b) (b, length before) (b, k) w r (λ e. ne_of_lt old (sym (ap (λ (x : Bool × ℕ). x.1) e)))))
stands_by b before after places place cells w r k added same stands later placed within (inr past) =
    let is : k ≡ length before = omega (arith, added.long) in
    stands_like (b, length before) (b, k) w _ (length cells) _ (cells ++ new_cells (ops b) (b, length before) w r) r _
    (ap (pair b) is)
    (ap (λ (j : ℕ). (movement_at after j).width) is ∙ added.new_width)
    (ap (λ (j : ℕ). slice_index (places ++ place ∷ []) j) (is ∙ sym same) ∙ get_or-append_seam places place [] 0 ∙ placed)
    (ap (λ (j : ℕ). (movement_at after j).repeats) is ∙ added.new_repeats)
    (stands_new (ops b) (b, length before) w cells r (later (length before) (le_refl (length before))))

stands_after : (b : Bool) (before after : List Movement) (places : List ℕ) (place : ℕ) (cells : List Cell) (w : ℤ)
    (r : Option Word) → Added before after w r → length places ≡ length before → Stands b before places cells →
    Later b before cells → place ≡ length cells →
    Stands b after (places ++ place ∷ []) (cells ++ new_cells (ops b) (b, length before) w r)
stands_after b before after places place cells w r added same stands later placed k within =
    stands_by b before after places place cells w r k added same stands later placed within (cases_lt k (length before))

later_after : (b : Bool) (before after : List Movement) (cells : List Cell) (w : ℤ) (r : Option Word) →
    Added before after w r → Later b before cells → Later b after (cells ++ new_cells (ops b) (b, length before) w r)
later_after b before after cells w r added later k past =
    let below : length before < k = omega (arith, added.long) in
    none_more (b, k) cells (new_cells (ops b) (b, length before) w r) (later k (omega arith))
    (new_none (ops b) (b, length before) (b, k) w r (λ e. ne_of_lt below (ap (λ (x : Bool × ℕ). x.1) e)))

stands_still : (b : Bool) (moves : List Movement) (places : List ℕ) (cells more : List Cell) →
    ((k : ℕ) → NoCode (b, k) more) → Stands b moves places cells → Stands b moves places (cells ++ more)
stands_still b moves places cells more none stands k within =
    stands_more (b, k) (movement_at moves k).width (slice_index places k) cells more (movement_at moves k).repeats
    (stands k within) (none k)

later_still : (b : Bool) (moves : List Movement) (cells more : List Cell) → ((k : ℕ) → NoCode (b, k) more) →
    Later b moves cells → Later b moves (cells ++ more)
later_still b moves cells more none later k past = none_more (b, k) cells more (later k past) (none k)

-- ---- the bytes behind a movement

get_past : (places : List ℕ) (i : ℕ) → length places ≤ i → slice_get places i ≡ None
get_past [] i past = refl
get_past (q ∷ places) zero past = let no : ⊥ = omega arith in elim no [ ]
get_past (q ∷ places) (suc i) past = get_past places i (omega arith)

get_within : (places : List ℕ) (i : ℕ) → i < length places → slice_get places i ≡ Some (slice_index places i)
get_within [] i within = let no : ⊥ = omega arith in elim no [ ]
get_within (q ∷ places) zero within = refl
get_within (q ∷ places) (suc i) within = get_within places i (omega arith)

kept_repeating : (codes : Opcodes) (c d : (Bool × ℕ) → ℕ) (key : Bool × ℕ) (word : Word) (width : ℤ) (place : ℕ)
    (cells : List Cell) (repeats : Option Word) → ((other : Bool × ℕ) → (other ≡ key → ⊥) → d other ≡ c other) →
    d key ≡ opcode_of codes (mark_here word) → StandsBy key width place cells repeats →
    map (value d) cells ≡ recoded codes word width repeats place (map (value c) cells)
kept_repeating codes c d key word width place cells None apart is stands =
    patched c d key width apart place cells stands
    ∙ ap (λ (n : ℕ). set (map (value c) cells) place (n + (bytes_for width - 1))) is
kept_repeating codes c d key word width place cells (Some other) apart is stands = same_values c d key apart cells stands

kept_cells : (b : Bool) (moves others : List Movement) (places : List ℕ) (p : ℕ) (word : Word) (cells : List Cell) →
    length places ≡ length moves → Stands b moves places cells → (p < length moves) ⊎ (length moves ≤ p) →
    map (value (both b (kept_at word p moves) others)) cells
    ≡ recoded_at (ops b) word (movement_at moves p) (slice_get places p) (map (value (both b moves others)) cells)
kept_cells b moves others places p word cells same stands (inl within) =
    let m : Movement = movement_at moves p in
    let here : Movement = with_mark (mark_here word) m in
    kept_repeating (ops b) (both b moves others) (both b (kept_at word p moves) others) (b, p) word m.width
    (slice_index places p) cells m.repeats
    (off b moves (kept_at word p moves) others p
    (λ j apart. ap (λ (x : Movement). opcode_of (ops b) x.mark) (other_after_set moves p j here apart)))
    (at_key b (kept_at word p moves) others p
    ∙ ap (λ (x : Movement). opcode_of (ops b) x.mark) (get_or-set_same moves p here (carried (pos 0)) within))
    (stands p within)
    ∙ sym (ap (λ (o : Option ℕ). recoded_at (ops b) word m o (map (value (both b moves others)) cells))
    (get_within places p (omega (arith, same))))
kept_cells b moves others places p word cells same stands (inr past) =
    ap (λ (l : List Movement). map (value (both b l others)) cells) (kept_past moves word p past)
    ∙ sym (ap (λ (o : Option ℕ). recoded_at (ops b) word (movement_at moves p) o (map (value (both b moves others)) cells))
    (get_past places p (omega (arith, same))))

passed_cells : (b : Bool) (moves others : List Movement) (word : Word) (places : List ℕ) (cells : List Cell) →
    map (value (both b (fold (passed_at word) moves places) others)) cells ≡ map (value (both b moves others)) cells
passed_cells b moves others word places cells =
    all_same (both b moves others) (both b (fold (passed_at word) moves places) others)
    (alike b moves (fold (passed_at word) moves places) others
    (λ j. seen_after_pass (λ (x : Movement). opcode_of (ops b) x.mark) word (λ m. code_between (ops b) word m.mark) places moves j))
    cells

cells_behind : (b : Bool) (moves others : List Movement) (m : Movement) (cells : List Cell) → NoCode (b, length moves) cells →
    map (value (both b (moves ++ m ∷ []) others)) cells ≡ map (value (both b moves others)) cells
cells_behind b moves others m cells none =
    same_values (both b moves others) (both b (moves ++ m ∷ []) others) (b, length moves)
    (off b moves (moves ++ m ∷ []) others (length moves)
    (λ j apart. ap (λ (x : Movement). opcode_of (ops b) x.mark) (appended moves m j apart))) cells none

new_values : (codes : Opcodes) (c : (Bool × ℕ) → ℕ) (key : Bool × ℕ) (m : Movement) (width : ℤ) (repeats : Option Word) →
    c key ≡ opcode_of codes m.mark → m.width ≡ width → m.repeats ≡ repeats →
    map (value c) (new_cells codes key width repeats) ≡ movement_bytes codes m
unfolding movement_bytes
new_values codes c key m width None is wide repeat =
    ap₂ (λ (n : ℕ) (l : List ℕ). (n + (bytes_for width - 1)) ∷ l) is (plain_values c _)
    ∙ sym (ap (λ (w : ℤ). movement_bytes_by codes (record { width = w; mark = m.mark; repeats = m.repeats }) None) wide)
    ∙ sym (ap (movement_bytes_by codes m) repeat)
new_values codes c key m width (Some word) is wide repeat = sym (ap (movement_bytes_by codes m) repeat)

last_bytes_here : (b : Bool) (moves others : List Movement) (m : Movement) (cells : List Cell) → NoCode (b, length moves) cells →
    map (value (both b (moves ++ m ∷ []) others)) (cells ++ new_cells (ops b) (b, length moves) m.width m.repeats)
    ≡ map (value (both b moves others)) cells ++ movement_bytes (ops b) m
last_bytes_here b moves others m cells none =
    let c = both b (moves ++ m ∷ []) others in
    map-append (value c) cells (new_cells (ops b) (b, length moves) m.width m.repeats)
    ∙ ap₂ (λ (x y : List ℕ). x ++ y) (cells_behind b moves others m cells none)
    (new_values (ops b) c (b, length moves) m m.width m.repeats
    (at_key b (moves ++ m ∷ []) others (length moves)
    ∙ ap (λ (x : Movement). opcode_of (ops b) x.mark) (get_or-append_seam moves m [] (carried (pos 0)))) refl refl)

last_bytes : (b : Bool) (moves others : List Movement) (m : Movement) (n : ℕ) (cells : List Cell) → length moves ≡ n →
    NoCode (b, n) cells →
    map (value (both b (moves ++ m ∷ []) others)) (cells ++ new_cells (ops b) (b, n) m.width m.repeats)
    ≡ map (value (both b moves others)) cells ++ movement_bytes (ops b) m
last_bytes b moves others m n cells same =
    let P : ℕ → Type 0 = λ k. NoCode (b, k) cells →
    map (value (both b (moves ++ m ∷ []) others)) (cells ++ new_cells (ops b) (b, k) m.width m.repeats)
    ≡ map (value (both b moves others)) cells ++ movement_bytes (ops b) m in
    subst P same (last_bytes_here b moves others m cells)

abbrev repeats_of : Option (ℕ × Word) → Option Word
repeats_of None = None
repeats_of (Some found) = Some found.1

added_by : (f : Family) (width : ℤ) (found : Option (ℕ × Word)) → Added f.moves (with_found width f found) width (repeats_of found)
added_by f width None = added_new f.moves (carried width)
added_by f width (Some found) =
    added_sharing f.moves found.1 (slice_index f.open_places (length f.open_places - 1 - found.0))
    (drop (length f.open_places - found.0) f.open_places) (repeated width found.1)

moved_bytes : (b : Bool) (t : Track) (others : List Movement) (width : ℤ) (found : Option (ℕ × Word)) (cells : List Cell) →
    length t.places ≡ length t.family.moves → Stands b t.family.moves t.places cells → Later b t.family.moves cells →
    with_movement (ops b) width t found (map (value (both b t.family.moves others)) cells)
    ≡ map (value (both b (with_found width t.family found) others))
    (cells ++ new_cells (ops b) (b, length t.family.moves) width (repeats_of found))
moved_bytes b t others width None cells same stands later =
    sym (last_bytes_here b t.family.moves others (carried width) cells
    (later (length t.family.moves) (le_refl (length t.family.moves))))
moved_bytes b t others width (Some found) cells same stands later =
    let moves : List Movement = t.family.moves in
    let p : ℕ = index_of t.family found.0 in
    let places : List ℕ = drop (length t.family.open_places - found.0) t.family.open_places in
    let kept : List Movement = kept_at found.1 p moves in
    let m : Movement = repeated width found.1 in
    ap (λ (l : List ℕ). l ++ movement_bytes (ops b) m)
    (sym (passed_cells b kept others found.1 places cells
    ∙ kept_cells b moves others t.places p found.1 cells same stands (cases_lt p (length moves))))
    ∙ sym (last_bytes b (fold (passed_at found.1) kept places) others m (length moves) cells
    (length_after_pass found.1 places kept ∙ length-set moves p (with_mark (mark_here found.1) (movement_at moves p)))
    (later (length moves) (le_refl (length moves))))

-- ---- commands that don't move

abbrev given : List Movement → List Movement → List FontDef → List FontDef → Given
given rights downs defined fonts = record { rights = rights; downs = downs; defined = defined; fonts = fonts }

abbrev onto : List ℕ → ℕ → ℕ → Spelled → Spelled
onto bytes rights downs s = spelled (bytes ++ s.bytes) s.font s.fresh rights downs

abbrev chose : Bool → Option FontDef → ℕ → Spelled → Spelled
chose known found font s =
    let defined = cond known s (with_definition found s) in
    spelled (defined.bytes ++ choice (font - 1)) (Some font) defined.fresh defined.rights defined.downs

chose_onto : (known : Bool) (found : Option FontDef) (font : ℕ) (bytes : List ℕ) (chosen : Option ℕ) (fresh : List FontDef)
    (rights downs : ℕ) →
    chose known found font (spelled bytes chosen fresh rights downs)
    ≡ onto bytes rights downs (chose known found font (spelled [] chosen fresh 0 0))
chose_onto true found font bytes chosen fresh rights downs = refl
chose_onto false None font bytes chosen fresh rights downs = refl
chose_onto false (Some f) font bytes chosen fresh rights downs =
    ap (λ (l : List ℕ). spelled l (Some font) (fresh ++ f ∷ []) rights downs) (append_assoc bytes (definition f) (choice (font - 1)))

choice_onto : (moves others : List Movement) (defined fonts : List FontDef) (font : ℕ) (bytes : List ℕ) (chosen : Option ℕ)
    (fresh : List FontDef) (rights downs : ℕ) →
    with_choice (given moves others defined fonts) font (spelled bytes chosen fresh rights downs)
    ≡ onto bytes rights downs (with_choice (given [] [] defined fonts) font (spelled [] chosen fresh 0 0))
unfolding with_choice
choice_onto moves others defined fonts font bytes chosen fresh rights downs =
    chose_onto (is_defined font defined || is_defined font fresh) (find (is_font font) fonts) font bytes chosen fresh rights downs

font_onto_by : (is : Bool) (moves others : List Movement) (defined fonts : List FontDef) (font : ℕ) (bytes : List ℕ)
    (chosen : Option ℕ) (fresh : List FontDef) (rights downs : ℕ) →
    cond is (spelled bytes chosen fresh rights downs)
    (with_choice (given moves others defined fonts) font (spelled bytes chosen fresh rights downs))
    ≡ onto bytes rights downs
    (cond is (spelled [] chosen fresh 0 0) (with_choice (given [] [] defined fonts) font (spelled [] chosen fresh 0 0)))
font_onto_by true moves others defined fonts font bytes chosen fresh rights downs =
    ap (λ (l : List ℕ). spelled l chosen fresh rights downs) (sym (append-nil bytes))
font_onto_by false moves others defined fonts font bytes chosen fresh rights downs =
    choice_onto moves others defined fonts font bytes chosen fresh rights downs

font_onto : (moves others : List Movement) (defined fonts : List FontDef) (font : ℕ) (bytes : List ℕ) (chosen : Option ℕ)
    (fresh : List FontDef) (rights downs : ℕ) →
    with_font (given moves others defined fonts) font (spelled bytes chosen fresh rights downs)
    ≡ onto bytes rights downs (with_font (given [] [] defined fonts) font (spelled [] chosen fresh 0 0))
unfolding with_font
font_onto moves others defined fonts font bytes chosen fresh rights downs =
    font_onto_by (is_chosen font chosen) moves others defined fonts font bytes chosen fresh rights downs

bytes_onto : (more bytes : List ℕ) (rights downs : ℕ) (s : Spelled) →
    with_bytes more (onto bytes rights downs s) ≡ onto bytes rights downs (with_bytes more s)
bytes_onto more bytes rights downs s =
    ap (λ (l : List ℕ). spelled l s.font s.fresh rights downs) (append_assoc bytes s.bytes more)

abbrev IsStill : Command → Type 0
IsStill Push = Unit {0}
IsStill Pop = Unit {0}
IsStill (Right width) = ⊥
IsStill (Down height) = ⊥
IsStill (Character font byte) = Unit {0}
IsStill (SetRule height width) = Unit {0}
IsStill (PutRule height width) = Unit {0}
IsStill (Special bytes) = Unit {0}

still_onto : (moves others : List Movement) (defined fonts : List FontDef) (bytes : List ℕ) (font : Option ℕ)
    (fresh : List FontDef) (rights downs : ℕ) (command : Command) → IsStill command →
    spell (given moves others defined fonts) (spelled bytes font fresh rights downs) command
    ≡ onto bytes rights downs (spell (given [] [] defined fonts) (spelled [] font fresh 0 0) command)
still_onto moves others defined fonts bytes font fresh rights downs Push is = refl
still_onto moves others defined fonts bytes font fresh rights downs Pop is = refl
still_onto moves others defined fonts bytes font fresh rights downs (Right width) is = elim is [ ]
still_onto moves others defined fonts bytes font fresh rights downs (Down height) is = elim is [ ]
still_onto moves others defined fonts bytes chosen fresh rights downs (Character font byte) is =
    ap (with_bytes (character_bytes byte)) (font_onto moves others defined fonts font bytes chosen fresh rights downs)
    ∙ bytes_onto (character_bytes byte) bytes rights downs (with_font (given [] [] defined fonts) font (spelled [] chosen fresh 0 0))
still_onto moves others defined fonts bytes font fresh rights downs (SetRule height width) is = refl
still_onto moves others defined fonts bytes font fresh rights downs (PutRule height width) is = refl
still_onto moves others defined fonts bytes font fresh rights downs (Special text) is = refl

-- ---- the page so far

-- the same widths, and the same that repeat a word
abbrev Like : List Movement → List Movement → Type 0
Like moves other =
    (k : ℕ) → k < length moves →
    ((movement_at other k).width ≡ (movement_at moves k).width) × ((movement_at other k).repeats ≡ (movement_at moves k).repeats)

-- A buffer holds the commands: whatever marks the movements have in the end, and with the marks that they have now.
record Draws (defined fonts : List FontDef) (commands : List Command) (b : Buffer) : Type 0 where
  cells : List Cell
  rights : b.rights.family ≡ fold across no_movements commands
  downs : b.downs.family ≡ fold down no_movements commands
  drawn : (moves others : List Movement) → Like b.rights.family.moves moves → Like b.downs.family.moves others →
      fold (spell (given moves others defined fonts)) (spelled [] None [] 0 0) commands
      ≡ spelled (map (value (codes_in moves others)) cells) b.font b.fresh (length b.rights.family.moves) (length b.downs.family.moves)
  bytes : b.bytes ≡ map (value (codes_in b.rights.family.moves b.downs.family.moves)) cells
  right_places : length b.rights.places ≡ length b.rights.family.moves
  down_places : length b.downs.places ≡ length b.downs.family.moves
  right_stands : Stands true b.rights.family.moves b.rights.places cells
  down_stands : Stands false b.downs.family.moves b.downs.places cells
  right_later : Later true b.rights.family.moves cells
  down_later : Later false b.downs.family.moves cells

like_before : (before after other : List Movement) (width : ℤ) (repeats : Option Word) → Added before after width repeats →
    Like after other → Like before other
like_before before after other width repeats added like k within =
    let now = like k (omega (arith, added.long)) in
    (now.0 ∙ added.same_width k within, now.1 ∙ added.same_repeats k within)

right_spelled : (moves others : List Movement) (defined fonts : List FontDef) (cells : List Cell) (font : Option ℕ)
    (fresh : List FontDef) (rights downs after : ℕ) (width : ℤ) (repeats : Option Word) →
    (movement_at moves rights).width ≡ width → (movement_at moves rights).repeats ≡ repeats → after ≡ rights + 1 →
    with_right (given moves others defined fonts) (spelled (map (value (codes_in moves others)) cells) font fresh rights downs)
    ≡ spelled (map (value (codes_in moves others)) (cells ++ new_cells horizontal (true, rights) width repeats)) font fresh after downs
unfolding with_right
right_spelled moves others defined fonts cells font fresh rights downs after width repeats wide repeat long =
    let c = codes_in moves others in
    ap₂ (λ (l : List ℕ) (n : ℕ). spelled l font fresh n downs)
    (ap (λ (l : List ℕ). map (value c) cells ++ l)
    (sym (new_values horizontal c (true, rights) (movement_at moves rights) width repeats refl wide repeat))
    ∙ sym (map-append (value c) cells (new_cells horizontal (true, rights) width repeats))) (sym long)

down_spelled : (moves others : List Movement) (defined fonts : List FontDef) (cells : List Cell) (font : Option ℕ)
    (fresh : List FontDef) (rights downs after : ℕ) (height : ℤ) (repeats : Option Word) →
    (movement_at others downs).width ≡ height → (movement_at others downs).repeats ≡ repeats → after ≡ downs + 1 →
    with_down (given moves others defined fonts) (spelled (map (value (codes_in moves others)) cells) font fresh rights downs)
    ≡ spelled (map (value (codes_in moves others)) (cells ++ new_cells vertical (false, downs) height repeats)) font fresh rights after
unfolding with_down
down_spelled moves others defined fonts cells font fresh rights downs after height repeats wide repeat long =
    let c = codes_in moves others in
    ap₂ (λ (l : List ℕ) (n : ℕ). spelled l font fresh rights n)
    (ap (λ (l : List ℕ). map (value c) cells ++ l)
    (sym (new_values vertical c (false, downs) (movement_at others downs) height repeats refl wide repeat))
    ∙ sym (map-append (value c) cells (new_cells vertical (false, downs) height repeats))) (sym long)

right_step : (defined fonts : List FontDef) (commands : List Command) (b : Buffer) (width : ℤ) → Draws defined fonts commands b →
    Draws defined fonts (commands ++ Right width ∷ []) (written defined fonts b (Right width))
right_step defined fonts commands b width d =
    let moves : List Movement = b.rights.family.moves in
    let found : Option (ℕ × Word) = found_for width b.rights in
    let after : List Movement = with_found width b.rights.family found in
    let added : Added moves after width (repeats_of found) = added_by b.rights.family width found in
    let new : List Cell = new_cells horizontal (true, length moves) width (repeats_of found) in
    record {
      cells = d.cells ++ new;
      rights = ap (moved width) d.rights ∙ sym (fold-append across no_movements commands (Right width ∷ []));
      downs = d.downs ∙ sym (fold-append down no_movements commands (Right width ∷ []));
      drawn =
          λ rights downs like_rights like_downs.
          fold-append (spell (given rights downs defined fonts)) (spelled [] None [] 0 0) commands (Right width ∷ [])
          ∙ ap (with_right (given rights downs defined fonts))
          (d.drawn rights downs (like_before moves after rights width (repeats_of found) added like_rights) like_downs)
          ∙ right_spelled rights downs defined fonts d.cells b.font b.fresh (length moves) (length b.downs.family.moves) (length after)
          width (repeats_of found)
          ((like_rights (length moves) (omega (arith, added.long))).0 ∙ added.new_width)
          ((like_rights (length moves) (omega (arith, added.long))).1 ∙ added.new_repeats) added.long;
      bytes =
          ap (with_movement horizontal width b.rights found) d.bytes
          ∙ moved_bytes true b.rights b.downs.family.moves width found d.cells d.right_places d.right_stands d.right_later;
      right_places = omega (arith, length-append b.rights.places (length b.bytes ∷ []), d.right_places, added.long);
      down_places = d.down_places;
      right_stands =
          stands_after true moves after b.rights.places (length b.bytes) d.cells width (repeats_of found) added d.right_places
          d.right_stands d.right_later
          (ap length d.bytes ∙ length-map d.cells (value (codes_in moves b.downs.family.moves)));
      down_stands =
          stands_still false b.downs.family.moves b.downs.places d.cells new
          (λ k. new_none horizontal (true, length moves) (false, k) width (repeats_of found)
          (λ e. true≢false (ap (λ (x : Bool × ℕ). x.0) e))) d.down_stands;
      right_later = later_after true moves after d.cells width (repeats_of found) added d.right_later;
      down_later =
          later_still false b.downs.family.moves d.cells new
          (λ k. new_none horizontal (true, length moves) (false, k) width (repeats_of found)
          (λ e. true≢false (ap (λ (x : Bool × ℕ). x.0) e))) d.down_later;
    }

down_step : (defined fonts : List FontDef) (commands : List Command) (b : Buffer) (height : ℤ) → Draws defined fonts commands b →
    Draws defined fonts (commands ++ Down height ∷ []) (written defined fonts b (Down height))
down_step defined fonts commands b height d =
    let moves : List Movement = b.downs.family.moves in
    let found : Option (ℕ × Word) = found_for height b.downs in
    let after : List Movement = with_found height b.downs.family found in
    let added : Added moves after height (repeats_of found) = added_by b.downs.family height found in
    let new : List Cell = new_cells vertical (false, length moves) height (repeats_of found) in
    record {
      cells = d.cells ++ new;
      rights = d.rights ∙ sym (fold-append across no_movements commands (Down height ∷ []));
      downs = ap (moved height) d.downs ∙ sym (fold-append down no_movements commands (Down height ∷ []));
      drawn =
          λ rights downs like_rights like_downs.
          fold-append (spell (given rights downs defined fonts)) (spelled [] None [] 0 0) commands (Down height ∷ [])
          ∙ ap (with_down (given rights downs defined fonts))
          (d.drawn rights downs like_rights (like_before moves after downs height (repeats_of found) added like_downs))
          ∙ down_spelled rights downs defined fonts d.cells b.font b.fresh (length b.rights.family.moves) (length moves) (length after)
          height (repeats_of found)
          ((like_downs (length moves) (omega (arith, added.long))).0 ∙ added.new_width)
          ((like_downs (length moves) (omega (arith, added.long))).1 ∙ added.new_repeats) added.long;
      bytes =
          ap (with_movement vertical height b.downs found) d.bytes
          ∙ moved_bytes false b.downs b.rights.family.moves height found d.cells d.down_places d.down_stands d.down_later;
      right_places = d.right_places;
      down_places = omega (arith, length-append b.downs.places (length b.bytes ∷ []), d.down_places, added.long);
      right_stands =
          stands_still true b.rights.family.moves b.rights.places d.cells new
          (λ k. new_none vertical (false, length moves) (true, k) height (repeats_of found)
          (λ e. true≢false (sym (ap (λ (x : Bool × ℕ). x.0) e)))) d.right_stands;
      down_stands =
          stands_after false moves after b.downs.places (length b.bytes) d.cells height (repeats_of found) added d.down_places
          d.down_stands d.down_later
          (ap length d.bytes ∙ length-map d.cells (value (codes_in b.rights.family.moves moves)));
      right_later =
          later_still true b.rights.family.moves d.cells new
          (λ k. new_none vertical (false, length moves) (true, k) height (repeats_of found)
          (λ e. true≢false (sym (ap (λ (x : Bool × ℕ). x.0) e)))) d.right_later;
      down_later = later_after false moves after d.cells height (repeats_of found) added d.down_later;
    }

-- a command that doesn't move, where lists may begin or end
onto_step : (defined fonts : List FontDef) (commands : List Command) (b : Buffer) (command : Command)
    (right_open right_began down_open down_began : List ℕ) → IsStill command →
    across b.rights.family command ≡ family b.rights.family.moves right_open right_began →
    down b.downs.family command ≡ family b.downs.family.moves down_open down_began → Draws defined fonts commands b →
    Draws defined fonts (commands ++ command ∷ [])
    (with_spelled (onto b.bytes 0 0 (spell (given [] [] defined fonts) (spelled [] b.font b.fresh 0 0) command))
    (track (family b.rights.family.moves right_open right_began) b.rights.places)
    (track (family b.downs.family.moves down_open down_began) b.downs.places))
onto_step defined fonts commands b command right_open right_began down_open down_began is rights downs d =
    let s : Spelled = spell (given [] [] defined fonts) (spelled [] b.font b.fresh 0 0) command in
    let new : List Cell = map Byte s.bytes in
    let joined : (c : (Bool × ℕ) → ℕ) → map (value c) d.cells ++ s.bytes ≡ map (value c) (d.cells ++ new) =
    λ c. ap (λ (l : List ℕ). map (value c) d.cells ++ l) (sym (plain_values c s.bytes)) ∙ sym (map-append (value c) d.cells new) in
    record {
      cells = d.cells ++ new;
      rights = sym rights ∙ ap (λ (f : Family). across f command) d.rights ∙ sym (fold-append across no_movements commands (command ∷ []));
      downs = sym downs ∙ ap (λ (f : Family). down f command) d.downs ∙ sym (fold-append down no_movements commands (command ∷ []));
      drawn =
          λ moves others like_rights like_downs.
          fold-append (spell (given moves others defined fonts)) (spelled [] None [] 0 0) commands (command ∷ [])
          ∙ ap (λ (x : Spelled). spell (given moves others defined fonts) x command) (d.drawn moves others like_rights like_downs)
          ∙ still_onto moves others defined fonts (map (value (codes_in moves others)) d.cells) b.font b.fresh
          (length b.rights.family.moves) (length b.downs.family.moves) command is
          ∙ ap (λ (l : List ℕ). spelled l s.font s.fresh (length b.rights.family.moves) (length b.downs.family.moves))
          (joined (codes_in moves others));
      bytes =
          ap (λ (l : List ℕ). l ++ s.bytes) d.bytes ∙ joined (codes_in b.rights.family.moves b.downs.family.moves);
      right_places = d.right_places;
      down_places = d.down_places;
      right_stands =
          stands_still true b.rights.family.moves b.rights.places d.cells new (λ k. plain_none (true, k) s.bytes) d.right_stands;
      down_stands =
          stands_still false b.downs.family.moves b.downs.places d.cells new (λ k. plain_none (false, k) s.bytes) d.down_stands;
      right_later = later_still true b.rights.family.moves d.cells new (λ k. plain_none (true, k) s.bytes) d.right_later;
      down_later = later_still false b.downs.family.moves d.cells new (λ k. plain_none (false, k) s.bytes) d.down_later;
    }

still_step : (defined fonts : List FontDef) (commands : List Command) (b : Buffer) (command : Command)
    (right_open right_began down_open down_began : List ℕ) → IsStill command →
    across b.rights.family command ≡ family b.rights.family.moves right_open right_began →
    down b.downs.family command ≡ family b.downs.family.moves down_open down_began → Draws defined fonts commands b →
    Draws defined fonts (commands ++ command ∷ [])
    (with_spelled (still defined fonts b command)
    (track (family b.rights.family.moves right_open right_began) b.rights.places)
    (track (family b.downs.family.moves down_open down_began) b.downs.places))
still_step defined fonts commands b command right_open right_began down_open down_began is rights downs d =
    let P : Spelled → Type 0 = λ s. Draws defined fonts (commands ++ command ∷ [])
    (with_spelled s (track (family b.rights.family.moves right_open right_began) b.rights.places)
    (track (family b.downs.family.moves down_open down_began) b.downs.places)) in
    subst P (sym (still_onto [] [] defined fonts b.bytes b.font b.fresh 0 0 command is))
    (onto_step defined fonts commands b command right_open right_began down_open down_began is rights downs d)

step : (defined fonts : List FontDef) (commands : List Command) (b : Buffer) (command : Command) → Draws defined fonts commands b →
    Draws defined fonts (commands ++ command ∷ []) (written defined fonts b command)
step defined fonts commands b Push d =
    still_step defined fonts commands b Push (opened b.rights.family).open_places (opened b.rights.family).began
    (opened b.downs.family).open_places (opened b.downs.family).began tt refl refl d
step defined fonts commands b Pop d =
    still_step defined fonts commands b Pop (closed b.rights.family).open_places (closed b.rights.family).began
    (closed b.downs.family).open_places (closed b.downs.family).began tt refl refl d
step defined fonts commands b (Right width) d = right_step defined fonts commands b width d
step defined fonts commands b (Down height) d = down_step defined fonts commands b height d
step defined fonts commands b (Character font byte) d =
    still_step defined fonts commands b (Character font byte) b.rights.family.open_places b.rights.family.began
    b.downs.family.open_places b.downs.family.began tt refl refl d
step defined fonts commands b (SetRule height width) d =
    still_step defined fonts commands b (SetRule height width) b.rights.family.open_places b.rights.family.began
    b.downs.family.open_places b.downs.family.began tt refl refl d
step defined fonts commands b (PutRule height width) d =
    still_step defined fonts commands b (PutRule height width) b.rights.family.open_places b.rights.family.began
    b.downs.family.open_places b.downs.family.began tt refl refl d
step defined fonts commands b (Special bytes) d =
    still_step defined fonts commands b (Special bytes) b.rights.family.open_places b.rights.family.began
    b.downs.family.open_places b.downs.family.began tt refl refl d

-- ---- all commands

nothing_drawn : (defined fonts : List FontDef) → Draws defined fonts [] no_bytes
nothing_drawn defined fonts = record {
  cells = [];
  rights = refl;
  downs = refl;
  drawn = λ moves others like_rights like_downs. refl;
  bytes = refl;
  right_places = refl;
  down_places = refl;
  right_stands = λ k within. let no : ⊥ = omega arith in elim no [ ];
  down_stands = λ k within. let no : ⊥ = omega arith in elim no [ ];
  right_later = λ k past. tt;
  down_later = λ k past. tt;
}

drawn_behind : (defined fonts : List FontDef) (more commands : List Command) (b : Buffer) → Draws defined fonts commands b →
    Draws defined fonts (commands ++ more) (fold (written defined fonts) b more)
drawn_behind defined fonts [] commands b d =
    let P : List Command → Type 0 = λ l. Draws defined fonts l b in subst P (sym (append-nil commands)) d
drawn_behind defined fonts (command ∷ more) commands b d =
    let P : List Command → Type 0 = λ l. Draws defined fonts l (fold (written defined fonts) (written defined fonts b command) more) in
    subst P (append_assoc commands (command ∷ []) more)
    (drawn_behind defined fonts more (commands ++ command ∷ []) (written defined fonts b command)
    (step defined fonts commands b command d))

spelled_by : (defined fonts : List FontDef) (commands : List Command) (b : Buffer) → Draws defined fonts commands b →
    spelled b.bytes b.font b.fresh (length b.rights.family.moves) (length b.downs.family.moves)
    ≡ spell_all commands defined fonts
spelled_by defined fonts commands b d =
    ap (λ (l : List ℕ). spelled l b.font b.fresh (length b.rights.family.moves) (length b.downs.family.moves)) d.bytes
    ∙ sym (d.drawn b.rights.family.moves b.downs.family.moves (λ k within. (refl, refl)) (λ k within. (refl, refl)))
    ∙ ap₂ (λ (f g : Family). fold (spell (given f.moves g.moves defined fonts)) (spelled [] None [] 0 0) commands) d.rights d.downs

-- what is written is what the commands spell
pub all_written : (commands : List Command) (defined fonts : List FontDef) →
    (let b = written_all defined fonts commands in
    spelled b.bytes b.font b.fresh (length b.rights.family.moves) (length b.downs.family.moves)) ≡ spell_all commands defined fonts
all_written commands defined fonts =
    spelled_by defined fonts commands (written_all defined fonts commands)
    (drawn_behind defined fonts commands [] no_bytes (nothing_drawn defined fonts))

pub bytes_written : (b : Buffer) (commands : List Command) (defined fonts : List FontDef) →
    b ≡ written_all defined fonts commands → b.bytes ≡ (spell_all commands defined fonts).bytes
bytes_written b commands defined fonts is =
    ap (λ (x : Buffer). x.bytes) is ∙ ap (λ (s : Spelled). s.bytes) (all_written commands defined fonts)

pub fresh_written : (b : Buffer) (commands : List Command) (defined fonts : List FontDef) →
    b ≡ written_all defined fonts commands → b.fresh ≡ (spell_all commands defined fonts).fresh
fresh_written b commands defined fonts is =
    ap (λ (x : Buffer). x.fresh) is ∙ ap (λ (s : Spelled). s.fresh) (all_written commands defined fonts)
