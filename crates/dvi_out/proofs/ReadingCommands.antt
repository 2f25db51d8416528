-- What a device does with the bytes of one command.
use Rattle.std.proofs.Common.{◌≡◌, ℕ, zero, suc, ◌+◌, ◌-◌, ◌^◌, ◌<◌, ◌≤◌, ℤ, pos, ◌+ℤ◌, Bool, true, false, nat_lt, nat_le, ◌==◌, Option, Some, None, List, [], ◌∷◌, ◌++◌, length, take, drop, refl, sym, ap, ◌∙◌, arith, append_assoc, option_and_then, if◌then◌else◌}
use Rattle.std.specs.Int.{w32, int_wrap}
use Rattle.std.specs.Int.RustNames.{FitsSigned}
use Rattle.std.proofs.lemmas.Bool.{le-leb, ltb-true}
use Rattle.std.proofs.lemmas.Bool.Decides.{nat_tests}
use Rattle.std.proofs.lemmas.List.{length-append, drop_at, take_at}
use Rattle.byteorder.specs.Endian.{big_number}
use Rattle.dvi_out.specs.declared.font.FontDef.{FontDef}
use Rattle.dvi_out.specs.declared.movements.Word.{Word}
use Rattle.dvi_out.specs.declared.movements.Word.TheVariants.{First, Second}
use Rattle.dvi_out.specs.declared.movements.Mark.{Mark}
use Rattle.dvi_out.specs.declared.movements.Mark.TheVariants.{Free, FirstOnly, SecondOnly, Fixed, FirstHere, SecondHere}
use Rattle.dvi_out.specs.declared.movements.Movement.{Movement}
use Rattle.dvi_out.specs.Places.{Text}
use Rattle.dvi_out.specs.DviReading.{Kept, Reader, ReadPage, kept, read_from, command, setting, moving, framing, taking, or_else, at_place, push, pop_to, go_right, go_down, keep_w, keep_x, keep_y, keep_z, choose, set_char, put_rule, with_item, signed}
use Rattle.dvi_out.specs.SpellingPage.{horizontal, vertical, opcode_of, movement_bytes, movement_bytes_by, bytes_for, lowest, four, signed_four, one, choice, character_bytes, special_bytes, definition, font_head, font_numbers, font_name}
use Rattle.dvi_out.specs.Obeying.{Leads, HasShortName}
use Rattle.dvi_out.proofs.ReadingNumbers.{back1, back2, back3, back4, one_back, four_back, by_size}
use Rattle.dvi_out.proofs.MarksServe.{is_here}

-- ---- one command, and one behind the other

pub taking-front : (n : ℕ) (r : Reader) (front rest : List ℕ) → length front ≡ n → taking n (Some r) (front ++ rest) ≡ Some (r, rest)
taking-front n r front rest is =
    let enough : nat_le n (length (front ++ rest)) ≡ true = le-leb n (length (front ++ rest)) (omega (arith, length-append front rest)) in
    let behind : drop n (front ++ rest) ≡ rest = drop_at front rest n is in
    rw (enough, behind) refl

found : {A : Type 0} (o other : Option A) (a : A) → o ≡ Some a → or_else o other ≡ Some a
found o other a is = rw is refl

leads_on : (widths : ℕ → ℕ → ℤ) (r : Reader) (op : ℕ) (args : List ℕ) (after : Reader) (rest : List ℕ) (pages : List ReadPage) →
    command widths r op (args ++ rest) ≡ Some (after, rest) →
    ((n : ℕ) → length rest ≤ n → read_from n widths after rest ≡ Some pages) →
    (n : ℕ) → length (op ∷ (args ++ rest)) ≤ n → read_from n widths r (op ∷ (args ++ rest)) ≡ Some pages
unfolding read_from
leads_on widths r op args after rest pages is further zero long = absurd (omega arith)
leads_on widths r op args after rest pages is further (suc n) long =
    ap (λ (o : Option (Reader × List ℕ)). option_and_then (λ next. read_from n widths next.0 next.1) o) is
    ∙ further n (omega (arith, length-append args rest))

pub leads_one : (widths : ℕ → ℕ → ℤ) (r : Reader) (op : ℕ) (args : List ℕ) (after : Reader) →
    ((rest : List ℕ) → command widths r op (args ++ rest) ≡ Some (after, rest)) → Leads widths r (op ∷ args) after
leads_one widths r op args after is = λ rest pages further n long. leads_on widths r op args after rest pages (is rest) further n long

pub leads_none : (widths : ℕ → ℕ → ℤ) (r : Reader) → Leads widths r [] r
leads_none widths r = λ rest pages further n long. further n long

pub leads_then : (widths : ℕ → ℕ → ℤ) (a b c : Reader) (front back : List ℕ) → Leads widths a front b → Leads widths b back c →
    Leads widths a (front ++ back) c
leads_then widths a b c front back first second = λ rest pages further n long.
    let joined : (front ++ back) ++ rest ≡ front ++ (back ++ rest) = append_assoc front back rest in
    let whole = first (back ++ rest) pages (λ m enough. second rest pages further m enough) n
    (omega (arith, ap (length {A = ℕ}) joined)) in
    ap (read_from n widths a) joined ∙ whole

-- ---- movements

-- a word after a movement
abbrev pub word_after : Word → Mark → Option Word → ℤ → ℤ → ℤ
word_after word mark None width old = if is_here word mark then width else old
word_after word mark (Some repeated) width old = old

-- the device after a horizontal movement, and after a vertical one
abbrev pub after_right : Mark → Option Word → ℤ → Reader → Reader
after_right mark repeats width r =
    at_place (kept (int_wrap w32 (r.now.h +ℤ width)) (int_wrap w32 (r.now.v +ℤ pos 0)) (word_after First mark repeats width r.now.w)
    (word_after Second mark repeats width r.now.x) r.now.y r.now.z) r

abbrev pub after_down : Mark → Option Word → ℤ → Reader → Reader
after_down mark repeats width r =
    at_place (kept (int_wrap w32 (r.now.h +ℤ pos 0)) (int_wrap w32 (r.now.v +ℤ width)) r.now.w r.now.x
    (word_after First mark repeats width r.now.y) (word_after Second mark repeats width r.now.z)) r

moves-143 : (widths : ℕ → ℕ → ℤ) (r : Reader) (z : ℤ) (rest : List ℕ) → FitsSigned w32 z →
    command widths r (143 + (bytes_for z - 1)) (lowest (bytes_for z) z ++ rest) ≡ Some (go_right z r, rest)
moves-143 widths r z rest fits =
    by_size (λ (k : ℕ). command widths r (143 + (k - 1)) (lowest k z ++ rest) ≡ Some (go_right z r, rest)) z
    (λ small. found (taking 1 (Some (go_right (signed 1 (lowest 1 z ++ rest)) r)) (lowest 1 z ++ rest)) (framing r 143 (lowest 1 z ++ rest)) (go_right (signed 1 (lowest 1 z ++ rest)) r, rest)
    (taking-front 1 (go_right (signed 1 (lowest 1 z ++ rest)) r) (lowest 1 z) rest refl)
    ∙ ap (λ (y : ℤ). Some (go_right y r, rest)) (back1 z rest small))
    (λ small. found (taking 2 (Some (go_right (signed 2 (lowest 2 z ++ rest)) r)) (lowest 2 z ++ rest)) (framing r 144 (lowest 2 z ++ rest)) (go_right (signed 2 (lowest 2 z ++ rest)) r, rest)
    (taking-front 2 (go_right (signed 2 (lowest 2 z ++ rest)) r) (lowest 2 z) rest refl)
    ∙ ap (λ (y : ℤ). Some (go_right y r, rest)) (back2 z rest small))
    (λ small. found (taking 3 (Some (go_right (signed 3 (lowest 3 z ++ rest)) r)) (lowest 3 z ++ rest)) (framing r 145 (lowest 3 z ++ rest)) (go_right (signed 3 (lowest 3 z ++ rest)) r, rest)
    (taking-front 3 (go_right (signed 3 (lowest 3 z ++ rest)) r) (lowest 3 z) rest refl)
    ∙ ap (λ (y : ℤ). Some (go_right y r, rest)) (back3 z rest small))
    (found (taking 4 (Some (go_right (signed 4 (lowest 4 z ++ rest)) r)) (lowest 4 z ++ rest)) (framing r 146 (lowest 4 z ++ rest)) (go_right (signed 4 (lowest 4 z ++ rest)) r, rest)
    (taking-front 4 (go_right (signed 4 (lowest 4 z ++ rest)) r) (lowest 4 z) rest refl)
    ∙ ap (λ (y : ℤ). Some (go_right y r, rest)) (back4 z rest fits))

moves-148 : (widths : ℕ → ℕ → ℤ) (r : Reader) (z : ℤ) (rest : List ℕ) → FitsSigned w32 z →
    command widths r (148 + (bytes_for z - 1)) (lowest (bytes_for z) z ++ rest) ≡ Some (keep_w z r, rest)
moves-148 widths r z rest fits =
    by_size (λ (k : ℕ). command widths r (148 + (k - 1)) (lowest k z ++ rest) ≡ Some (keep_w z r, rest)) z
    (λ small. found (taking 1 (Some (keep_w (signed 1 (lowest 1 z ++ rest)) r)) (lowest 1 z ++ rest)) (framing r 148 (lowest 1 z ++ rest)) (keep_w (signed 1 (lowest 1 z ++ rest)) r, rest)
    (taking-front 1 (keep_w (signed 1 (lowest 1 z ++ rest)) r) (lowest 1 z) rest refl)
    ∙ ap (λ (y : ℤ). Some (keep_w y r, rest)) (back1 z rest small))
    (λ small. found (taking 2 (Some (keep_w (signed 2 (lowest 2 z ++ rest)) r)) (lowest 2 z ++ rest)) (framing r 149 (lowest 2 z ++ rest)) (keep_w (signed 2 (lowest 2 z ++ rest)) r, rest)
    (taking-front 2 (keep_w (signed 2 (lowest 2 z ++ rest)) r) (lowest 2 z) rest refl)
    ∙ ap (λ (y : ℤ). Some (keep_w y r, rest)) (back2 z rest small))
    (λ small. found (taking 3 (Some (keep_w (signed 3 (lowest 3 z ++ rest)) r)) (lowest 3 z ++ rest)) (framing r 150 (lowest 3 z ++ rest)) (keep_w (signed 3 (lowest 3 z ++ rest)) r, rest)
    (taking-front 3 (keep_w (signed 3 (lowest 3 z ++ rest)) r) (lowest 3 z) rest refl)
    ∙ ap (λ (y : ℤ). Some (keep_w y r, rest)) (back3 z rest small))
    (found (taking 4 (Some (keep_w (signed 4 (lowest 4 z ++ rest)) r)) (lowest 4 z ++ rest)) (framing r 151 (lowest 4 z ++ rest)) (keep_w (signed 4 (lowest 4 z ++ rest)) r, rest)
    (taking-front 4 (keep_w (signed 4 (lowest 4 z ++ rest)) r) (lowest 4 z) rest refl)
    ∙ ap (λ (y : ℤ). Some (keep_w y r, rest)) (back4 z rest fits))

moves-153 : (widths : ℕ → ℕ → ℤ) (r : Reader) (z : ℤ) (rest : List ℕ) → FitsSigned w32 z →
    command widths r (153 + (bytes_for z - 1)) (lowest (bytes_for z) z ++ rest) ≡ Some (keep_x z r, rest)
moves-153 widths r z rest fits =
    by_size (λ (k : ℕ). command widths r (153 + (k - 1)) (lowest k z ++ rest) ≡ Some (keep_x z r, rest)) z
    (λ small. found (taking 1 (Some (keep_x (signed 1 (lowest 1 z ++ rest)) r)) (lowest 1 z ++ rest)) (framing r 153 (lowest 1 z ++ rest)) (keep_x (signed 1 (lowest 1 z ++ rest)) r, rest)
    (taking-front 1 (keep_x (signed 1 (lowest 1 z ++ rest)) r) (lowest 1 z) rest refl)
    ∙ ap (λ (y : ℤ). Some (keep_x y r, rest)) (back1 z rest small))
    (λ small. found (taking 2 (Some (keep_x (signed 2 (lowest 2 z ++ rest)) r)) (lowest 2 z ++ rest)) (framing r 154 (lowest 2 z ++ rest)) (keep_x (signed 2 (lowest 2 z ++ rest)) r, rest)
    (taking-front 2 (keep_x (signed 2 (lowest 2 z ++ rest)) r) (lowest 2 z) rest refl)
    ∙ ap (λ (y : ℤ). Some (keep_x y r, rest)) (back2 z rest small))
    (λ small. found (taking 3 (Some (keep_x (signed 3 (lowest 3 z ++ rest)) r)) (lowest 3 z ++ rest)) (framing r 155 (lowest 3 z ++ rest)) (keep_x (signed 3 (lowest 3 z ++ rest)) r, rest)
    (taking-front 3 (keep_x (signed 3 (lowest 3 z ++ rest)) r) (lowest 3 z) rest refl)
    ∙ ap (λ (y : ℤ). Some (keep_x y r, rest)) (back3 z rest small))
    (found (taking 4 (Some (keep_x (signed 4 (lowest 4 z ++ rest)) r)) (lowest 4 z ++ rest)) (framing r 156 (lowest 4 z ++ rest)) (keep_x (signed 4 (lowest 4 z ++ rest)) r, rest)
    (taking-front 4 (keep_x (signed 4 (lowest 4 z ++ rest)) r) (lowest 4 z) rest refl)
    ∙ ap (λ (y : ℤ). Some (keep_x y r, rest)) (back4 z rest fits))

moves-157 : (widths : ℕ → ℕ → ℤ) (r : Reader) (z : ℤ) (rest : List ℕ) → FitsSigned w32 z →
    command widths r (157 + (bytes_for z - 1)) (lowest (bytes_for z) z ++ rest) ≡ Some (go_down z r, rest)
moves-157 widths r z rest fits =
    by_size (λ (k : ℕ). command widths r (157 + (k - 1)) (lowest k z ++ rest) ≡ Some (go_down z r, rest)) z
    (λ small. found (taking 1 (Some (go_down (signed 1 (lowest 1 z ++ rest)) r)) (lowest 1 z ++ rest)) (framing r 157 (lowest 1 z ++ rest)) (go_down (signed 1 (lowest 1 z ++ rest)) r, rest)
    (taking-front 1 (go_down (signed 1 (lowest 1 z ++ rest)) r) (lowest 1 z) rest refl)
    ∙ ap (λ (y : ℤ). Some (go_down y r, rest)) (back1 z rest small))
    (λ small. found (taking 2 (Some (go_down (signed 2 (lowest 2 z ++ rest)) r)) (lowest 2 z ++ rest)) (framing r 158 (lowest 2 z ++ rest)) (go_down (signed 2 (lowest 2 z ++ rest)) r, rest)
    (taking-front 2 (go_down (signed 2 (lowest 2 z ++ rest)) r) (lowest 2 z) rest refl)
    ∙ ap (λ (y : ℤ). Some (go_down y r, rest)) (back2 z rest small))
    (λ small. found (taking 3 (Some (go_down (signed 3 (lowest 3 z ++ rest)) r)) (lowest 3 z ++ rest)) (framing r 159 (lowest 3 z ++ rest)) (go_down (signed 3 (lowest 3 z ++ rest)) r, rest)
    (taking-front 3 (go_down (signed 3 (lowest 3 z ++ rest)) r) (lowest 3 z) rest refl)
    ∙ ap (λ (y : ℤ). Some (go_down y r, rest)) (back3 z rest small))
    (found (taking 4 (Some (go_down (signed 4 (lowest 4 z ++ rest)) r)) (lowest 4 z ++ rest)) (framing r 160 (lowest 4 z ++ rest)) (go_down (signed 4 (lowest 4 z ++ rest)) r, rest)
    (taking-front 4 (go_down (signed 4 (lowest 4 z ++ rest)) r) (lowest 4 z) rest refl)
    ∙ ap (λ (y : ℤ). Some (go_down y r, rest)) (back4 z rest fits))

moves-162 : (widths : ℕ → ℕ → ℤ) (r : Reader) (z : ℤ) (rest : List ℕ) → FitsSigned w32 z →
    command widths r (162 + (bytes_for z - 1)) (lowest (bytes_for z) z ++ rest) ≡ Some (keep_y z r, rest)
moves-162 widths r z rest fits =
    by_size (λ (k : ℕ). command widths r (162 + (k - 1)) (lowest k z ++ rest) ≡ Some (keep_y z r, rest)) z
    (λ small. found (taking 1 (Some (keep_y (signed 1 (lowest 1 z ++ rest)) r)) (lowest 1 z ++ rest)) (framing r 162 (lowest 1 z ++ rest)) (keep_y (signed 1 (lowest 1 z ++ rest)) r, rest)
    (taking-front 1 (keep_y (signed 1 (lowest 1 z ++ rest)) r) (lowest 1 z) rest refl)
    ∙ ap (λ (y : ℤ). Some (keep_y y r, rest)) (back1 z rest small))
    (λ small. found (taking 2 (Some (keep_y (signed 2 (lowest 2 z ++ rest)) r)) (lowest 2 z ++ rest)) (framing r 163 (lowest 2 z ++ rest)) (keep_y (signed 2 (lowest 2 z ++ rest)) r, rest)
    (taking-front 2 (keep_y (signed 2 (lowest 2 z ++ rest)) r) (lowest 2 z) rest refl)
    ∙ ap (λ (y : ℤ). Some (keep_y y r, rest)) (back2 z rest small))
    (λ small. found (taking 3 (Some (keep_y (signed 3 (lowest 3 z ++ rest)) r)) (lowest 3 z ++ rest)) (framing r 164 (lowest 3 z ++ rest)) (keep_y (signed 3 (lowest 3 z ++ rest)) r, rest)
    (taking-front 3 (keep_y (signed 3 (lowest 3 z ++ rest)) r) (lowest 3 z) rest refl)
    ∙ ap (λ (y : ℤ). Some (keep_y y r, rest)) (back3 z rest small))
    (found (taking 4 (Some (keep_y (signed 4 (lowest 4 z ++ rest)) r)) (lowest 4 z ++ rest)) (framing r 165 (lowest 4 z ++ rest)) (keep_y (signed 4 (lowest 4 z ++ rest)) r, rest)
    (taking-front 4 (keep_y (signed 4 (lowest 4 z ++ rest)) r) (lowest 4 z) rest refl)
    ∙ ap (λ (y : ℤ). Some (keep_y y r, rest)) (back4 z rest fits))

moves-167 : (widths : ℕ → ℕ → ℤ) (r : Reader) (z : ℤ) (rest : List ℕ) → FitsSigned w32 z →
    command widths r (167 + (bytes_for z - 1)) (lowest (bytes_for z) z ++ rest) ≡ Some (keep_z z r, rest)
moves-167 widths r z rest fits =
    by_size (λ (k : ℕ). command widths r (167 + (k - 1)) (lowest k z ++ rest) ≡ Some (keep_z z r, rest)) z
    (λ small. found (taking 1 (Some (keep_z (signed 1 (lowest 1 z ++ rest)) r)) (lowest 1 z ++ rest)) (framing r 167 (lowest 1 z ++ rest)) (keep_z (signed 1 (lowest 1 z ++ rest)) r, rest)
    (taking-front 1 (keep_z (signed 1 (lowest 1 z ++ rest)) r) (lowest 1 z) rest refl)
    ∙ ap (λ (y : ℤ). Some (keep_z y r, rest)) (back1 z rest small))
    (λ small. found (taking 2 (Some (keep_z (signed 2 (lowest 2 z ++ rest)) r)) (lowest 2 z ++ rest)) (framing r 168 (lowest 2 z ++ rest)) (keep_z (signed 2 (lowest 2 z ++ rest)) r, rest)
    (taking-front 2 (keep_z (signed 2 (lowest 2 z ++ rest)) r) (lowest 2 z) rest refl)
    ∙ ap (λ (y : ℤ). Some (keep_z y r, rest)) (back2 z rest small))
    (λ small. found (taking 3 (Some (keep_z (signed 3 (lowest 3 z ++ rest)) r)) (lowest 3 z ++ rest)) (framing r 169 (lowest 3 z ++ rest)) (keep_z (signed 3 (lowest 3 z ++ rest)) r, rest)
    (taking-front 3 (keep_z (signed 3 (lowest 3 z ++ rest)) r) (lowest 3 z) rest refl)
    ∙ ap (λ (y : ℤ). Some (keep_z y r, rest)) (back3 z rest small))
    (found (taking 4 (Some (keep_z (signed 4 (lowest 4 z ++ rest)) r)) (lowest 4 z ++ rest)) (framing r 170 (lowest 4 z ++ rest)) (keep_z (signed 4 (lowest 4 z ++ rest)) r, rest)
    (taking-front 4 (keep_z (signed 4 (lowest 4 z ++ rest)) r) (lowest 4 z) rest refl)
    ∙ ap (λ (y : ℤ). Some (keep_z y r, rest)) (back4 z rest fits))

right_carried : (widths : ℕ → ℕ → ℤ) (r : Reader) (mark : Mark) (width : ℤ) → FitsSigned w32 width →
    Leads widths r ((opcode_of horizontal mark + (bytes_for width - 1)) ∷ lowest (bytes_for width) width) (after_right mark None width r)
right_carried widths r Free width fits =
    leads_one widths r (143 + (bytes_for width - 1)) (lowest (bytes_for width) width) (after_right Free None width r)
    (λ rest. moves-143 widths r width rest fits)
right_carried widths r FirstOnly width fits =
    leads_one widths r (143 + (bytes_for width - 1)) (lowest (bytes_for width) width) (after_right FirstOnly None width r)
    (λ rest. moves-143 widths r width rest fits)
right_carried widths r SecondOnly width fits =
    leads_one widths r (143 + (bytes_for width - 1)) (lowest (bytes_for width) width) (after_right SecondOnly None width r)
    (λ rest. moves-143 widths r width rest fits)
right_carried widths r Fixed width fits =
    leads_one widths r (143 + (bytes_for width - 1)) (lowest (bytes_for width) width) (after_right Fixed None width r)
    (λ rest. moves-143 widths r width rest fits)
right_carried widths r FirstHere width fits =
    leads_one widths r (148 + (bytes_for width - 1)) (lowest (bytes_for width) width) (after_right FirstHere None width r)
    (λ rest. moves-148 widths r width rest fits)
right_carried widths r SecondHere width fits =
    leads_one widths r (153 + (bytes_for width - 1)) (lowest (bytes_for width) width) (after_right SecondHere None width r)
    (λ rest. moves-153 widths r width rest fits)

down_carried : (widths : ℕ → ℕ → ℤ) (r : Reader) (mark : Mark) (width : ℤ) → FitsSigned w32 width →
    Leads widths r ((opcode_of vertical mark + (bytes_for width - 1)) ∷ lowest (bytes_for width) width) (after_down mark None width r)
down_carried widths r Free width fits =
    leads_one widths r (157 + (bytes_for width - 1)) (lowest (bytes_for width) width) (after_down Free None width r)
    (λ rest. moves-157 widths r width rest fits)
down_carried widths r FirstOnly width fits =
    leads_one widths r (157 + (bytes_for width - 1)) (lowest (bytes_for width) width) (after_down FirstOnly None width r)
    (λ rest. moves-157 widths r width rest fits)
down_carried widths r SecondOnly width fits =
    leads_one widths r (157 + (bytes_for width - 1)) (lowest (bytes_for width) width) (after_down SecondOnly None width r)
    (λ rest. moves-157 widths r width rest fits)
down_carried widths r Fixed width fits =
    leads_one widths r (157 + (bytes_for width - 1)) (lowest (bytes_for width) width) (after_down Fixed None width r)
    (λ rest. moves-157 widths r width rest fits)
down_carried widths r FirstHere width fits =
    leads_one widths r (162 + (bytes_for width - 1)) (lowest (bytes_for width) width) (after_down FirstHere None width r)
    (λ rest. moves-162 widths r width rest fits)
down_carried widths r SecondHere width fits =
    leads_one widths r (167 + (bytes_for width - 1)) (lowest (bytes_for width) width) (after_down SecondHere None width r)
    (λ rest. moves-167 widths r width rest fits)

abbrev repeats_right : Word → ℕ
repeats_right First = 147
repeats_right Second = 152

abbrev pub right_word : Word → Kept → ℤ
right_word First k = k.w
right_word Second k = k.x

right_repeated : (widths : ℕ → ℕ → ℤ) (r : Reader) (mark : Mark) (width : ℤ) (word : Word) → right_word word r.now ≡ width →
    (rest : List ℕ) → command widths r (repeats_right word) rest ≡ Some (after_right mark (Some word) width r, rest)
right_repeated widths r mark width First is rest =
    found (taking 0 (Some (go_right r.now.w r)) rest) (framing r 147 rest) (go_right r.now.w r, rest) (taking-front 0 (go_right r.now.w r) [] rest refl)
    ∙ ap (λ (y : ℤ). Some (go_right y r, rest)) is
right_repeated widths r mark width Second is rest =
    found (taking 0 (Some (go_right r.now.x r)) rest) (framing r 152 rest) (go_right r.now.x r, rest) (taking-front 0 (go_right r.now.x r) [] rest refl)
    ∙ ap (λ (y : ℤ). Some (go_right y r, rest)) is

right_by : (widths : ℕ → ℕ → ℤ) (r : Reader) (m : Movement) (repeats : Option Word) → FitsSigned w32 m.width →
    ((word : Word) → repeats ≡ Some word → right_word word r.now ≡ m.width) →
    Leads widths r (movement_bytes_by horizontal m repeats) (after_right m.mark repeats m.width r)
right_by widths r m None fits has = right_carried widths r m.mark m.width fits
right_by widths r m (Some First) fits has =
    leads_one widths r 147 [] (after_right m.mark (Some First) m.width r) (right_repeated widths r m.mark m.width First (has First refl))
right_by widths r m (Some Second) fits has =
    leads_one widths r 152 [] (after_right m.mark (Some Second) m.width r) (right_repeated widths r m.mark m.width Second (has Second refl))

-- a movement in the bytes that it has
pub leads_right : (widths : ℕ → ℕ → ℤ) (r : Reader) (m : Movement) → FitsSigned w32 m.width →
    ((word : Word) → m.repeats ≡ Some word → right_word word r.now ≡ m.width) →
    Leads widths r (movement_bytes horizontal m) (after_right m.mark m.repeats m.width r)
unfolding movement_bytes
leads_right widths r m fits has = right_by widths r m m.repeats fits has

abbrev repeats_down : Word → ℕ
repeats_down First = 161
repeats_down Second = 166

abbrev pub down_word : Word → Kept → ℤ
down_word First k = k.y
down_word Second k = k.z

down_repeated : (widths : ℕ → ℕ → ℤ) (r : Reader) (mark : Mark) (width : ℤ) (word : Word) → down_word word r.now ≡ width →
    (rest : List ℕ) → command widths r (repeats_down word) rest ≡ Some (after_down mark (Some word) width r, rest)
down_repeated widths r mark width First is rest =
    found (taking 0 (Some (go_down r.now.y r)) rest) (framing r 161 rest) (go_down r.now.y r, rest) (taking-front 0 (go_down r.now.y r) [] rest refl)
    ∙ ap (λ (y : ℤ). Some (go_down y r, rest)) is
down_repeated widths r mark width Second is rest =
    found (taking 0 (Some (go_down r.now.z r)) rest) (framing r 166 rest) (go_down r.now.z r, rest) (taking-front 0 (go_down r.now.z r) [] rest refl)
    ∙ ap (λ (y : ℤ). Some (go_down y r, rest)) is

down_by : (widths : ℕ → ℕ → ℤ) (r : Reader) (m : Movement) (repeats : Option Word) → FitsSigned w32 m.width →
    ((word : Word) → repeats ≡ Some word → down_word word r.now ≡ m.width) →
    Leads widths r (movement_bytes_by vertical m repeats) (after_down m.mark repeats m.width r)
down_by widths r m None fits has = down_carried widths r m.mark m.width fits
down_by widths r m (Some First) fits has =
    leads_one widths r 161 [] (after_down m.mark (Some First) m.width r) (down_repeated widths r m.mark m.width First (has First refl))
down_by widths r m (Some Second) fits has =
    leads_one widths r 166 [] (after_down m.mark (Some Second) m.width r) (down_repeated widths r m.mark m.width Second (has Second refl))

-- a movement in the bytes that it has
pub leads_down : (widths : ℕ → ℕ → ℤ) (r : Reader) (m : Movement) → FitsSigned w32 m.width →
    ((word : Word) → m.repeats ≡ Some word → down_word word r.now ≡ m.width) →
    Leads widths r (movement_bytes vertical m) (after_down m.mark m.repeats m.width r)
unfolding movement_bytes
leads_down widths r m fits has = down_by widths r m m.repeats fits has

-- ---- the other commands

pub leads_push : (widths : ℕ → ℕ → ℤ) (r : Reader) → Leads widths r (141 ∷ []) (push r)
leads_push widths r =
    leads_one widths r 141 [] (push r)
    (λ rest. found (taking 0 (Some (push r)) rest) (framing r 141 rest) (push r, rest) (taking-front 0 (push r) [] rest refl))

pub leads_pop : (widths : ℕ → ℕ → ℤ) (r after : Reader) → pop_to r.stack r ≡ Some after → Leads widths r (142 ∷ []) after
leads_pop widths r after is =
    leads_one widths r 142 [] after
    (λ rest. found (taking 0 (pop_to r.stack r) rest) (framing r 142 rest) (after, rest)
    (ap (λ (o : Option Reader). taking 0 o rest) is ∙ taking-front 0 after [] rest refl))

byte_back : (byte : ℕ) (rest : List ℕ) → big_number 1 (byte ∷ rest) ≡ byte
byte_back byte rest = omega arith

character_by : (widths : ℕ → ℕ → ℤ) (r : Reader) (byte : ℕ) (low : Bool) → nat_lt byte 128 ≡ low →
    Leads widths r (if low then byte ∷ [] else 128 ∷ byte ∷ []) (set_char widths byte r)
character_by widths r byte true is =
    leads_one widths r byte [] (set_char widths byte r)
    (λ rest. found (setting widths r byte rest) (or_else (moving r byte rest) (framing r byte rest)) (set_char widths byte r, rest)
    (rw is (taking-front 0 (set_char widths byte r) [] rest refl)))
character_by widths r byte false is =
    leads_one widths r 128 (byte ∷ []) (set_char widths byte r)
    (λ rest. found (taking 1 (Some (set_char widths (big_number 1 (byte ∷ rest)) r)) (byte ∷ rest)) (or_else (moving r 128 (byte ∷ rest)) (framing r 128 (byte ∷ rest))) (set_char widths byte r, rest)
    (ap (λ (b : ℕ). taking 1 (Some (set_char widths b r)) (byte ∷ rest)) (byte_back byte rest)
    ∙ taking-front 1 (set_char widths byte r) (byte ∷ []) rest refl))

pub leads_character : (widths : ℕ → ℕ → ℤ) (r : Reader) (byte : ℕ) → Leads widths r (character_bytes byte) (set_char widths byte r)
leads_character widths r byte = character_by widths r byte (nat_lt byte 128) refl

chooses : (widths : ℕ → ℕ → ℤ) (r : Reader) (number : ℕ) (rest : List ℕ) → number < 64 →
    command widths r (171 + number) rest ≡ Some (choose number r, rest)
chooses widths r number rest low =
    let not128 : (171 + number == 128) ≡ false = grind (arith, nat_tests) in
    let not132 : (171 + number == 132) ≡ false = grind (arith, nat_tests) in
    let not137 : (171 + number == 137) ≡ false = grind (arith, nat_tests) in
    let not239 : (171 + number == 239) ≡ false = grind (arith, nat_tests) in
    let not242 : (171 + number == 242) ≡ false = grind (arith, nat_tests) in
    let not141 : (171 + number == 141) ≡ false = grind (arith, nat_tests) in
    let not142 : (171 + number == 142) ≡ false = grind (arith, nat_tests) in
    let not147 : (171 + number == 147) ≡ false = grind (arith, nat_tests) in
    let not152 : (171 + number == 152) ≡ false = grind (arith, nat_tests) in
    let not161 : (171 + number == 161) ≡ false = grind (arith, nat_tests) in
    let not166 : (171 + number == 166) ≡ false = grind (arith, nat_tests) in
    let not139 : (171 + number == 139) ≡ false = grind (arith, nat_tests) in
    let not140 : (171 + number == 140) ≡ false = grind (arith, nat_tests) in
    let above146 : nat_le (171 + number) 146 ≡ false = grind (arith, nat_tests) in
    let above151 : nat_le (171 + number) 151 ≡ false = grind (arith, nat_tests) in
    let above156 : nat_le (171 + number) 156 ≡ false = grind (arith, nat_tests) in
    let above160 : nat_le (171 + number) 160 ≡ false = grind (arith, nat_tests) in
    let above165 : nat_le (171 + number) 165 ≡ false = grind (arith, nat_tests) in
    let above170 : nat_le (171 + number) 170 ≡ false = grind (arith, nat_tests) in
    let above127 : nat_lt (171 + number) 128 ≡ false = grind (arith, nat_tests) in
    let from171 : nat_le 171 (171 + number) ≡ true = grind (arith, nat_tests) in
    let to234 : nat_le (171 + number) 234 ≡ true = grind (arith, nat_tests) in
    let from143 : nat_le 143 (171 + number) ≡ true = grind (arith, nat_tests) in
    let from148 : nat_le 148 (171 + number) ≡ true = grind (arith, nat_tests) in
    let from153 : nat_le 153 (171 + number) ≡ true = grind (arith, nat_tests) in
    let from157 : nat_le 157 (171 + number) ≡ true = grind (arith, nat_tests) in
    let from162 : nat_le 162 (171 + number) ≡ true = grind (arith, nat_tests) in
    let from167 : nat_le 167 (171 + number) ≡ true = grind (arith, nat_tests) in
    let behind : 171 + number - 171 ≡ number = omega arith in
    simp (above127, not128, not132, not137, not239, not242, not141, not142, not147, not152, not161, not166, not139, not140, above146, above151, above156, above160, above165, above170, from143, from148, from153, from157, from162, from167, from171, to234, behind)
    (taking-front 0 (choose number r) [] rest refl)

choice_by : (widths : ℕ → ℕ → ℤ) (r : Reader) (number : ℕ) (low : Bool) → nat_lt number 64 ≡ low →
    Leads widths r (if low then (171 + number) ∷ [] else 235 ∷ number ∷ []) (choose number r)
choice_by widths r number true is =
    leads_one widths r (171 + number) [] (choose number r) (λ rest. chooses widths r number rest (ltb-true number 64 is))
choice_by widths r number false is =
    leads_one widths r 235 (number ∷ []) (choose number r)
    (λ rest. ap (λ (b : ℕ). taking 1 (Some (choose b r)) (number ∷ rest)) (byte_back number rest)
    ∙ taking-front 1 (choose number r) (number ∷ []) rest refl)

pub leads_choice : (widths : ℕ → ℕ → ℤ) (r : Reader) (number : ℕ) → Leads widths r (choice number) (choose number r)
leads_choice widths r number = choice_by widths r number (nat_lt number 64) refl

pub leads_set_rule : (widths : ℕ → ℕ → ℤ) (r : Reader) (height width : ℤ) → FitsSigned w32 height → FitsSigned w32 width →
    Leads widths r (132 ∷ signed_four height ++ signed_four width) (go_right width (put_rule height width r))
leads_set_rule widths r height width tall wide =
    leads_one widths r 132 (signed_four height ++ signed_four width) (go_right width (put_rule height width r))
    (λ rest. found (taking 8 (Some (go_right (signed 4 (signed_four width ++ rest)) (put_rule (signed 4 (signed_four height ++ (signed_four width ++ rest))) (signed 4 (signed_four width ++ rest)) r))) ((signed_four height ++ signed_four width) ++ rest))
    (or_else (moving r 132 ((signed_four height ++ signed_four width) ++ rest)) (framing r 132 ((signed_four height ++ signed_four width) ++ rest))) (go_right width (put_rule height width r), rest)
    (ap (λ (y : ℤ). taking 8 (Some (go_right y (put_rule (signed 4 (signed_four height ++ (signed_four width ++ rest))) y r))) ((signed_four height ++ signed_four width) ++ rest)) (back4 width rest wide)
    ∙ ap (λ (y : ℤ). taking 8 (Some (go_right width (put_rule y width r))) ((signed_four height ++ signed_four width) ++ rest)) (back4 height (signed_four width ++ rest) tall)
    ∙ taking-front 8 (go_right width (put_rule height width r)) (signed_four height ++ signed_four width) rest refl))

pub leads_put_rule : (widths : ℕ → ℕ → ℤ) (r : Reader) (height width : ℤ) → FitsSigned w32 height → FitsSigned w32 width →
    Leads widths r (137 ∷ signed_four height ++ signed_four width) (put_rule height width r)
leads_put_rule widths r height width tall wide =
    leads_one widths r 137 (signed_four height ++ signed_four width) (put_rule height width r)
    (λ rest. found (taking 8 (Some (put_rule (signed 4 (signed_four height ++ (signed_four width ++ rest))) (signed 4 (signed_four width ++ rest)) r)) ((signed_four height ++ signed_four width) ++ rest))
    (or_else (moving r 137 ((signed_four height ++ signed_four width) ++ rest)) (framing r 137 ((signed_four height ++ signed_four width) ++ rest))) (put_rule height width r, rest)
    (ap (λ (y : ℤ). taking 8 (Some (put_rule (signed 4 (signed_four height ++ (signed_four width ++ rest))) y r)) ((signed_four height ++ signed_four width) ++ rest)) (back4 width rest wide)
    ∙ ap (λ (y : ℤ). taking 8 (Some (put_rule y width r)) ((signed_four height ++ signed_four width) ++ rest)) (back4 height (signed_four width ++ rest) tall)
    ∙ taking-front 8 (put_rule height width r) (signed_four height ++ signed_four width) rest refl))

-- what stands in a special, where its length was read
special_text : (r : Reader) (size : ℕ) (head bytes rest : List ℕ) (long : ℕ) → length head ≡ size → long ≡ length bytes →
    taking (size + long) (Some (with_item (Text r.now.h r.now.v (take long (bytes ++ rest))) r)) ((head ++ bytes) ++ rest)
    ≡ Some (with_item (Text r.now.h r.now.v bytes) r, rest)
special_text r size head bytes rest long heads is =
    ap (λ (text : List ℕ). taking (size + long) (Some (with_item (Text r.now.h r.now.v text) r)) ((head ++ bytes) ++ rest))
    (take_at bytes rest long (sym is))
    ∙ taking-front (size + long) (with_item (Text r.now.h r.now.v bytes) r) (head ++ bytes) rest
    (omega (arith, length-append head bytes))

special_by : (widths : ℕ → ℕ → ℤ) (r : Reader) (bytes : List ℕ) (short : Bool) → length bytes < 2 ^ 32 →
    nat_lt (length bytes) 256 ≡ short →
    Leads widths r (if short then 239 ∷ one (length bytes) ++ bytes else 242 ∷ four (length bytes) ++ bytes)
    (with_item (Text r.now.h r.now.v bytes) r)
special_by widths r bytes true within is =
    let head = one (length bytes) in
    leads_one widths r 239 (head ++ bytes) (with_item (Text r.now.h r.now.v bytes) r)
    (λ rest.
    let long = big_number 1 (head ++ (bytes ++ rest)) in
    found (taking (1 + long) (Some (with_item (Text r.now.h r.now.v (take long (bytes ++ rest))) r)) ((head ++ bytes) ++ rest))
    (or_else (moving r 239 ((head ++ bytes) ++ rest)) (framing r 239 ((head ++ bytes) ++ rest))) (with_item (Text r.now.h r.now.v bytes) r, rest)
    (special_text r 1 head bytes rest long refl (one_back (length bytes) (bytes ++ rest) (ltb-true (length bytes) 256 is))))
special_by widths r bytes false within is =
    let head = four (length bytes) in
    leads_one widths r 242 (head ++ bytes) (with_item (Text r.now.h r.now.v bytes) r)
    (λ rest.
    let long = big_number 4 (head ++ (bytes ++ rest)) in
    found (taking (4 + long) (Some (with_item (Text r.now.h r.now.v (take long (bytes ++ rest))) r)) ((head ++ bytes) ++ rest))
    (or_else (moving r 242 ((head ++ bytes) ++ rest)) (framing r 242 ((head ++ bytes) ++ rest))) (with_item (Text r.now.h r.now.v bytes) r, rest)
    (special_text r 4 head bytes rest long refl (four_back (length bytes) (bytes ++ rest) within)))

pub leads_special : (widths : ℕ → ℕ → ℤ) (r : Reader) (bytes : List ℕ) → length bytes < 2 ^ 32 →
    Leads widths r (special_bytes bytes) (with_item (Text r.now.h r.now.v bytes) r)
leads_special widths r bytes within = special_by widths r bytes (nat_lt (length bytes) 256) within refl

-- the definition of a font is passed
abbrev numbers_of : FontDef → List ℕ
numbers_of f = (f.number - 1) ∷ four f.checksum ++ signed_four f.size ++ signed_four f.design

definition_passed : (r : Reader) (f : FontDef) (rest : List ℕ) (long : ℕ) → long ≡ length f.name →
    taking (15 + 0 + long) (Some r) ((numbers_of f ++ 0 ∷ one (length f.name) ++ f.name) ++ rest) ≡ Some (r, rest)
definition_passed r f rest long is =
    taking-front (15 + 0 + long) r (numbers_of f ++ 0 ∷ one (length f.name) ++ f.name) rest (omega arith)

pub leads_definition : (widths : ℕ → ℕ → ℤ) (r : Reader) (f : FontDef) → HasShortName f → Leads widths r (definition f) r
unfolding font_head font_numbers font_name
leads_definition widths r f short =
    leads_one widths r 243 (numbers_of f ++ 0 ∷ one (length f.name) ++ f.name) r
    (λ rest. definition_passed r f rest (big_number 1 (one (length f.name) ++ (f.name ++ rest))) (one_back (length f.name) (f.name ++ rest) short))
