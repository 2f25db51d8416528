-- The bytes of a page's commands are read as what the commands say.
use Rattle.std.proofs.Common.{◌≡◌, ℕ, ◌-◌, ◌^◌, ◌<◌, ℤ, pos, ◌+ℤ◌, Bool, true, false, cond, ◌||◌, Option, Some, None, List, [], ◌∷◌, ◌++◌, length, map, reverse, refl, sym, ap, ◌∙◌, arith, subst, append_assoc, option_and_then, if◌then◌else◌}
use Rattle.std.specs.Int.{w32, int_wrap}
use Rattle.std.specs.Int.RustNames.{FitsSigned}
use Rattle.std.specs.List.{fold, find, AllByRecursion}
use Rattle.std.specs.Prelude.{⊤, slice_index}
use Rattle.std.proofs.lemmas.Bool.{cases_lt, eqb-true}
use Rattle.std.proofs.lemmas.List.{append-nil, length-take, get_or-take}
use Rattle.std.proofs.lemmas.List.Elements.{recursion_from_All}
use Rattle.dvi_out.specs.declared.command.Command.{Command}
use Rattle.dvi_out.specs.declared.command.Command.TheVariants.{Push, Pop, Right, Down, Character, SetRule, PutRule, Special}
use Rattle.dvi_out.specs.declared.font.FontDef.{FontDef}
use Rattle.dvi_out.specs.declared.movements.Word.{Word}
use Rattle.dvi_out.specs.declared.movements.Word.TheVariants.{First, Second}
use Rattle.dvi_out.specs.declared.movements.Movement.{Movement}
use Rattle.dvi_out.specs.Places.{Placed, Glyph, Bar, Text}
use Rattle.dvi_out.specs.SpellingMovements.{Family, no_movements, moved, opened, closed, movement_at}
use Rattle.dvi_out.specs.SpellingPage.{Spelled, spelled, Given, given_for, across, down, horizontal, vertical, movement_bytes, with_bytes, with_definition, with_choice, with_font, with_right, with_down, is_chosen, is_defined, is_font, definition, choice, character_bytes, special_bytes, signed_four, spell}
use Rattle.dvi_out.specs.DviReading.{Kept, Reader, reader, push, pop_to, go_right, go_down, choose, set_char, put_rule, with_item}
use Rattle.dvi_out.specs.Obeying.{obeyed, all_obeyed, CanBeSpelled, HasShortName, Leads, SetTheSame, CommandsAreReadBack}
use Rattle.dvi_out.proofs.MarksServe.{is_here, Later, later-same, later-later}
use Rattle.dvi_out.proofs.MarksFound.{serves, InRange, added}
use Rattle.dvi_out.proofs.ReadingCommands.{right_word, down_word, after_right, after_down, leads_none, leads_then, leads_right, leads_down, leads_push, leads_pop, leads_character, leads_choice, leads_set_rule, leads_put_rule, leads_special, leads_definition}
use Rattle.dvi_out.proofs.WordsKept.{moves_to, Holds, holds_none, holds_same, holds_moved, holds_opened, holds_closed, in_range_push}

-- ---- the movements of a page are those that came, later

ranges_moved : (width : ℤ) (f : Family) → InRange f → InRange (moved width f)
ranges_moved width f ranges i below =
    let there = in_range_push f.open_places (length f.moves) ranges i below (cases_lt i (length f.open_places)) in
    let new = added width f ranges in
    omega (arith, there, new.long)

ranges_closed : (f : Family) → InRange f → InRange (closed f)
ranges_closed f ranges i below =
    let b = slice_index f.began (length f.began - 1) in
    let small : i < b = omega (arith, length-take b f.open_places) in
    let there = ranges i (omega (arith, length-take b f.open_places)) in
    omega (arith, get_or-take b f.open_places i 0 small)

across_ranges : (f : Family) (c : Command) → InRange f → InRange (across f c)
across_ranges f Push ranges = ranges
across_ranges f Pop ranges = ranges_closed f ranges
across_ranges f (Right width) ranges = ranges_moved width f ranges
across_ranges f (Down height) ranges = ranges
across_ranges f (Character font byte) ranges = ranges
across_ranges f (SetRule height width) ranges = ranges
across_ranges f (PutRule height width) ranges = ranges
across_ranges f (Special bytes) ranges = ranges

across_later : (f : Family) (c : Command) → InRange f → Later f.moves (across f c).moves
across_later f Push ranges = later-same f.moves
across_later f Pop ranges = later-same f.moves
across_later f (Right width) ranges = (added width f ranges).later
across_later f (Down height) ranges = later-same f.moves
across_later f (Character font byte) ranges = later-same f.moves
across_later f (SetRule height width) ranges = later-same f.moves
across_later f (PutRule height width) ranges = later-same f.moves
across_later f (Special bytes) ranges = later-same f.moves

down_ranges : (f : Family) (c : Command) → InRange f → InRange (down f c)
down_ranges f Push ranges = ranges
down_ranges f Pop ranges = ranges_closed f ranges
down_ranges f (Right width) ranges = ranges
down_ranges f (Down height) ranges = ranges_moved height f ranges
down_ranges f (Character font byte) ranges = ranges
down_ranges f (SetRule height width) ranges = ranges
down_ranges f (PutRule height width) ranges = ranges
down_ranges f (Special bytes) ranges = ranges

down_later : (f : Family) (c : Command) → InRange f → Later f.moves (down f c).moves
down_later f Push ranges = later-same f.moves
down_later f Pop ranges = later-same f.moves
down_later f (Right width) ranges = later-same f.moves
down_later f (Down height) ranges = (added height f ranges).later
down_later f (Character font byte) ranges = later-same f.moves
down_later f (SetRule height width) ranges = later-same f.moves
down_later f (PutRule height width) ranges = later-same f.moves
down_later f (Special bytes) ranges = later-same f.moves

all_across : (f : Family) (cs : List Command) → InRange f → Later f.moves (fold across f cs).moves
all_across f [] ranges = later-same f.moves
all_across f (c ∷ cs) ranges =
    later-later f.moves (across f c).moves (fold across (across f c) cs).moves (across_later f c ranges)
    (all_across (across f c) cs (across_ranges f c ranges))

all_down : (f : Family) (cs : List Command) → InRange f → Later f.moves (fold down f cs).moves
all_down f [] ranges = later-same f.moves
all_down f (c ∷ cs) ranges =
    later-later f.moves (down f c).moves (fold down (down f c) cs).moves (down_later f c ranges)
    (all_down (down f c) cs (down_ranges f c ranges))

-- ---- two devices

abbrev SameStack : List Kept → List Kept → Type 0
SameStack [] [] = ⊤
SameStack [] (l ∷ ls) = ⊥
SameStack (k ∷ ks) [] = ⊥
SameStack (k ∷ ks) (l ∷ ls) = (k.h ≡ l.h) × (k.v ≡ l.v) × SameStack ks ls

abbrev w_of : Kept → ℤ
w_of k = k.w

abbrev x_of : Kept → ℤ
x_of k = k.x

abbrev y_of : Kept → ℤ
y_of k = k.y

abbrev z_of : Kept → ℤ
z_of k = k.z

-- a device that reads the bytes so far, and one that obeys the commands
record Agrees (given : Given) (fa fd : Family) (s : Spelled) (r q : Reader) : Type 0 where
  same : SetTheSame r q
  stacks : SameStack r.stack q.stack
  rights : s.rights ≡ length fa.moves
  downs : s.downs ≡ length fd.moves
  font : (f : ℕ) → s.font ≡ Some f → r.font ≡ f - 1
  across : Holds w_of x_of given.rights r.now r.stack fa
  down : Holds y_of z_of given.downs r.now r.stack fd

-- the bytes of a command, and where they lead
record Goes (widths : ℕ → ℕ → ℤ) (given : Given) (fa fd : Family) (s t : Spelled) (r q : Reader) : Type 0 where
  after : Reader
  piece : List ℕ
  bytes : t.bytes ≡ s.bytes ++ piece
  leads : Leads widths r piece after
  agrees : Agrees given fa fd t after q

-- ---- fonts

pub shorten : (fonts : List FontDef) (number : ℕ) (f : FontDef) → AllByRecursion HasShortName fonts →
    find (is_font number) fonts ≡ Some f → HasShortName f
shorten [] number f short is = cc
shorten (g ∷ fonts) number f short is = shorten_by fonts number f g (is_font number g) short refl (shorten fonts number f short.1) is
  where
    shorten_by : (fonts : List FontDef) (number : ℕ) (f g : FontDef) (b : Bool) → AllByRecursion HasShortName (g ∷ fonts) →
        is_font number g ≡ b → (find (is_font number) fonts ≡ Some f → HasShortName f) →
        cond b (Some g) (find (is_font number) fonts) ≡ Some f → HasShortName f
    shorten_by fonts number f g true short test rest is =
        let same : g ≡ f = cc in subst HasShortName same short.0
    shorten_by fonts number f g false short test rest is = rest is

-- bytes that choose a font
record FontGoes (widths : ℕ → ℕ → ℤ) (number : ℕ) (s t : Spelled) (r : Reader) : Type 0 where
  piece : List ℕ
  bytes : t.bytes ≡ s.bytes ++ piece
  leads : Leads widths r piece (choose number r)
  font : (f : ℕ) → t.font ≡ Some f → number ≡ f - 1
  rights : t.rights ≡ s.rights
  downs : t.downs ≡ s.downs

-- bytes that define a font
record DefinitionGoes (widths : ℕ → ℕ → ℤ) (s t : Spelled) (r : Reader) : Type 0 where
  piece : List ℕ
  bytes : t.bytes ≡ s.bytes ++ piece
  leads : Leads widths r piece r
  rights : t.rights ≡ s.rights
  downs : t.downs ≡ s.downs

defined_none : (widths : ℕ → ℕ → ℤ) (s : Spelled) (r : Reader) → DefinitionGoes widths s s r
defined_none widths s r = record {
  piece = [];
  bytes = sym (append-nil s.bytes);
  leads = leads_none widths r;
  rights = refl;
  downs = refl;
}

defined_by : (widths : ℕ → ℕ → ℤ) (s : Spelled) (r : Reader) (known : Bool) (o : Option FontDef) →
    ((f : FontDef) → o ≡ Some f → HasShortName f) → DefinitionGoes widths s (if known then s else with_definition o s) r
defined_by widths s r true o short = defined_none widths s r
defined_by widths s r false None short = defined_none widths s r
defined_by widths s r false (Some f) short = record {
  piece = definition f;
  bytes = refl;
  leads = leads_definition widths r f (short f refl);
  rights = refl;
  downs = refl;
}

choice_goes : (widths : ℕ → ℕ → ℤ) (given : Given) (font : ℕ) (s : Spelled) (r : Reader) →
    AllByRecursion HasShortName given.fonts → FontGoes widths (font - 1) s (with_choice given font s) r
unfolding with_choice
choice_goes widths given font s r short =
    let first = defined_by widths s r (is_defined font given.defined || is_defined font s.fresh) (find (is_font font) given.fonts)
    (λ f is. shorten given.fonts font f short is) in
    record {
      piece = first.piece ++ choice (font - 1);
      bytes = ap (λ (b : List ℕ). b ++ choice (font - 1)) first.bytes ∙ append_assoc s.bytes first.piece (choice (font - 1));
      leads = leads_then widths r r (choose (font - 1) r) first.piece (choice (font - 1)) first.leads (leads_choice widths r (font - 1));
      font = λ f is. let same : font ≡ f = cc in ap (λ (n : ℕ). n - 1) same;
      rights = first.rights;
      downs = first.downs;
    }

kept_goes : (widths : ℕ → ℕ → ℤ) (font : ℕ) (s : Spelled) (r : Reader) → ((f : ℕ) → s.font ≡ Some f → r.font ≡ f - 1) →
    s.font ≡ Some font → FontGoes widths (font - 1) s s r
kept_goes widths font s r fonts chosen =
    let is : r.font ≡ font - 1 = fonts font chosen in
    record {
      piece = [];
      bytes = sym (append-nil s.bytes);
      leads = subst (λ (n : ℕ). Leads widths r [] (choose n r)) is (leads_none widths r);
      font = λ f same. sym is ∙ fonts f same;
      rights = refl;
      downs = refl;
    }

font_by : (widths : ℕ → ℕ → ℤ) (given : Given) (font : ℕ) (s : Spelled) (r : Reader) (o : Option ℕ) (chosen : Bool) →
    AllByRecursion HasShortName given.fonts → ((f : ℕ) → s.font ≡ Some f → r.font ≡ f - 1) →
    s.font ≡ o → is_chosen font o ≡ chosen → FontGoes widths (font - 1) s (if chosen then s else with_choice given font s) r
font_by widths given font s r None true short fonts is test = let never : false ≡ true = test in cc
font_by widths given font s r (Some f) true short fonts is test =
    let same : f ≡ font = eqb-true f font test in
    kept_goes widths font s r fonts (is ∙ ap (λ (n : ℕ). Some n) same)
font_by widths given font s r o false short fonts is test = choice_goes widths given font s r short

font_goes : (widths : ℕ → ℕ → ℤ) (given : Given) (font : ℕ) (s : Spelled) (r : Reader) →
    AllByRecursion HasShortName given.fonts → ((f : ℕ) → s.font ≡ Some f → r.font ≡ f - 1) →
    FontGoes widths (font - 1) s (with_font given font s) r
unfolding with_font
font_goes widths given font s r short fonts =
    font_by widths given font s r s.font (is_chosen font s.font) short fonts refl refl

-- ---- each command

module _ (widths : ℕ → ℕ → ℤ) (given : Given) (short : AllByRecursion HasShortName given.fonts) (fa fd : Family) (s : Spelled) (r q : Reader)
    (a : Agrees given fa fd s r q) where
  push_goes : Goes widths given (opened fa) (opened fd) s (with_bytes (141 ∷ []) s) r (push q)
  push_goes = record {
    after = push r;
    piece = 141 ∷ [];
    bytes = refl;
    leads = leads_push widths r;
    agrees = record {
      same = record { h = a.same.h; v = a.same.v; counts = a.same.counts; items = a.same.items; pages = a.same.pages };
      stacks = (a.same.h, a.same.v, a.stacks);
      rights = a.rights;
      downs = a.downs;
      font = a.font;
      across = holds_opened w_of x_of given.rights r.now r.stack fa a.across;
      down = holds_opened y_of z_of given.downs r.now r.stack fd a.down;
    };
  }

  pop_by : (rs qs : List Kept) (after : Reader) → r.stack ≡ rs → SameStack rs qs → pop_to qs q ≡ Some after →
      Holds w_of x_of given.rights r.now rs fa → Holds y_of z_of given.downs r.now rs fd →
      Goes widths given (closed fa) (closed fd) s (with_bytes (142 ∷ []) s) r after
  pop_by [] [] after rs_is stacks is across down = cc
  pop_by [] (l ∷ ls) after rs_is stacks is across down = absurd stacks
  pop_by (k ∷ ks) [] after rs_is stacks is across down = absurd stacks
  pop_by (k ∷ ks) (l ∷ ls) after rs_is stacks is across down =
      let popped = reader k ks r.font r.counts r.items r.pages in
      let to : reader l ls q.font q.counts q.items q.pages ≡ after = cc in
      subst (λ (t : Reader). Goes widths given (closed fa) (closed fd) s (with_bytes (142 ∷ []) s) r t) to
      (let goes : Goes widths given (closed fa) (closed fd) s (with_bytes (142 ∷ []) s) r (reader l ls q.font q.counts q.items q.pages) = record {
        after = popped;
        piece = 142 ∷ [];
        bytes = refl;
        leads = leads_pop widths r popped (ap (λ (st : List Kept). pop_to st r) rs_is);
        agrees = record {
          same = record { h = stacks.0; v = stacks.1; counts = a.same.counts; items = a.same.items; pages = a.same.pages };
          stacks = stacks.2;
          rights = a.rights;
          downs = a.downs;
          font = a.font;
          across = holds_closed w_of x_of given.rights r.now k ks fa across;
          down = holds_closed y_of z_of given.downs r.now k ks fd down;
        };
      } in goes)

  has_right : (m : Movement) → ((w : Word) → m.repeats ≡ Some w →
      (serves w m.width (map (movement_at given.rights) (reverse fa.open_places)) ≡ true) × (is_here w m.mark ≡ true)) →
      (word : Word) → m.repeats ≡ Some word → right_word word r.now ≡ m.width
  has_right m served First is = a.across.words.one m.width (served First is).0
  has_right m served Second is = a.across.words.two m.width (served Second is).0

  has_down : (m : Movement) → ((w : Word) → m.repeats ≡ Some w →
      (serves w m.width (map (movement_at given.downs) (reverse fd.open_places)) ≡ true) × (is_here w m.mark ≡ true)) →
      (word : Word) → m.repeats ≡ Some word → down_word word r.now ≡ m.width
  has_down m served First is = a.down.words.one m.width (served First is).0
  has_down m served Second is = a.down.words.two m.width (served Second is).0

  right_goes : (width : ℤ) → FitsSigned w32 width → Later (moved width fa).moves given.rights →
      Goes widths given (moved width fa) fd s (with_right given s) r (go_right width q)
  unfolding with_right
  right_goes width fits later =
      let p = length fa.moves in
      let m = movement_at given.rights p in
      let new = moves_to width fa given.rights a.across.ranges later in
      let long = (added width fa a.across.ranges).long in
      let after = after_right m.mark m.repeats m.width r in
      record {
        after = after;
        piece = movement_bytes horizontal m;
        bytes = ap (λ (n : ℕ). s.bytes ++ movement_bytes horizontal (movement_at given.rights n)) a.rights;
        leads = leads_right widths r m (subst (FitsSigned w32) (sym new.width_is) fits) (has_right m new.served);
        agrees = record {
          same = record {
            h = ap (λ (z : ℤ). int_wrap w32 (z +ℤ m.width)) a.same.h ∙ ap (λ (z : ℤ). int_wrap w32 (q.now.h +ℤ z)) new.width_is;
            v = ap (λ (z : ℤ). int_wrap w32 (z +ℤ pos 0)) a.same.v;
            counts = a.same.counts;
            items = a.same.items;
            pages = a.same.pages;
          };
          stacks = a.stacks;
          rights = omega (arith, a.rights, long);
          downs = a.downs;
          font = a.font;
          across = holds_moved w_of x_of given.rights r.now after.now r.stack fa width a.across new long refl refl;
          down = holds_same y_of z_of given.downs r.now after.now r.stack fd refl refl a.down;
        };
      }

  down_goes : (height : ℤ) → FitsSigned w32 height → Later (moved height fd).moves given.downs →
      Goes widths given fa (moved height fd) s (with_down given s) r (go_down height q)
  unfolding with_down
  down_goes height fits later =
      let p = length fd.moves in
      let m = movement_at given.downs p in
      let new = moves_to height fd given.downs a.down.ranges later in
      let long = (added height fd a.down.ranges).long in
      let after = after_down m.mark m.repeats m.width r in
      record {
        after = after;
        piece = movement_bytes vertical m;
        bytes = ap (λ (n : ℕ). s.bytes ++ movement_bytes vertical (movement_at given.downs n)) a.downs;
        leads = leads_down widths r m (subst (FitsSigned w32) (sym new.width_is) fits) (has_down m new.served);
        agrees = record {
          same = record {
            h = ap (λ (z : ℤ). int_wrap w32 (z +ℤ pos 0)) a.same.h;
            v = ap (λ (z : ℤ). int_wrap w32 (z +ℤ m.width)) a.same.v ∙ ap (λ (z : ℤ). int_wrap w32 (q.now.v +ℤ z)) new.width_is;
            counts = a.same.counts;
            items = a.same.items;
            pages = a.same.pages;
          };
          stacks = a.stacks;
          rights = a.rights;
          downs = omega (arith, a.downs, long);
          font = a.font;
          across = holds_same w_of x_of given.rights r.now after.now r.stack fa refl refl a.across;
          down = holds_moved y_of z_of given.downs r.now after.now r.stack fd height a.down new long refl refl;
        };
      }

  -- something is set, and the place moves to the right by a width or stays
  set_at : (item : ℤ → ℤ → Placed) → r.items ++ item r.now.h r.now.v ∷ [] ≡ q.items ++ item q.now.h q.now.v ∷ []
  set_at item = rw (a.same.items, a.same.h, a.same.v) refl

  character_goes : (font byte : ℕ) →
      Goes widths given fa fd s (with_bytes (character_bytes byte) (with_font given font s)) r (set_char widths byte (choose (font - 1) q))
  character_goes font byte =
      let f = font_goes widths given font s r short a.font in
      let chosen = choose (font - 1) r in
      let after = set_char widths byte chosen in
      record {
        after = after;
        piece = f.piece ++ character_bytes byte;
        bytes = ap (λ (b : List ℕ). b ++ character_bytes byte) f.bytes ∙ append_assoc s.bytes f.piece (character_bytes byte);
        leads = leads_then widths r chosen after f.piece (character_bytes byte) f.leads (leads_character widths chosen byte);
        agrees = record {
          same = record {
            h = ap (λ (z : ℤ). int_wrap w32 (z +ℤ widths (font - 1) byte)) a.same.h;
            v = ap (λ (z : ℤ). int_wrap w32 (z +ℤ pos 0)) a.same.v;
            counts = a.same.counts;
            items = set_at (λ h v. Glyph h v (font - 1) byte);
            pages = a.same.pages;
          };
          stacks = a.stacks;
          rights = f.rights ∙ a.rights;
          downs = f.downs ∙ a.downs;
          font = f.font;
          across = holds_same w_of x_of given.rights r.now after.now r.stack fa refl refl a.across;
          down = holds_same y_of z_of given.downs r.now after.now r.stack fd refl refl a.down;
        };
      }

  set_rule_goes : (height width : ℤ) → FitsSigned w32 height → FitsSigned w32 width →
      Goes widths given fa fd s (with_bytes (132 ∷ signed_four height ++ signed_four width) s) r (go_right width (put_rule height width q))
  set_rule_goes height width tall wide =
      let after = go_right width (put_rule height width r) in
      record {
        after = after;
        piece = 132 ∷ signed_four height ++ signed_four width;
        bytes = refl;
        leads = leads_set_rule widths r height width tall wide;
        agrees = record {
          same = record {
            h = ap (λ (z : ℤ). int_wrap w32 (z +ℤ width)) a.same.h;
            v = ap (λ (z : ℤ). int_wrap w32 (z +ℤ pos 0)) a.same.v;
            counts = a.same.counts;
            items = set_at (λ h v. Bar h v height width);
            pages = a.same.pages;
          };
          stacks = a.stacks;
          rights = a.rights;
          downs = a.downs;
          font = a.font;
          across = holds_same w_of x_of given.rights r.now after.now r.stack fa refl refl a.across;
          down = holds_same y_of z_of given.downs r.now after.now r.stack fd refl refl a.down;
        };
      }

  put_rule_goes : (height width : ℤ) → FitsSigned w32 height → FitsSigned w32 width →
      Goes widths given fa fd s (with_bytes (137 ∷ signed_four height ++ signed_four width) s) r (put_rule height width q)
  put_rule_goes height width tall wide = record {
    after = put_rule height width r;
    piece = 137 ∷ signed_four height ++ signed_four width;
    bytes = refl;
    leads = leads_put_rule widths r height width tall wide;
    agrees = record {
      same = record { h = a.same.h; v = a.same.v; counts = a.same.counts; items = set_at (λ h v. Bar h v height width); pages = a.same.pages };
      stacks = a.stacks;
      rights = a.rights;
      downs = a.downs;
      font = a.font;
      across = a.across;
      down = a.down;
    };
  }

  special_goes : (bytes : List ℕ) → length bytes < 2 ^ 32 →
      Goes widths given fa fd s (with_bytes (special_bytes bytes) s) r (with_item (Text q.now.h q.now.v bytes) q)
  special_goes bytes within = record {
    after = with_item (Text r.now.h r.now.v bytes) r;
    piece = special_bytes bytes;
    bytes = refl;
    leads = leads_special widths r bytes within;
    agrees = record {
      same = record { h = a.same.h; v = a.same.v; counts = a.same.counts; items = set_at (λ h v. Text h v bytes); pages = a.same.pages };
      stacks = a.stacks;
      rights = a.rights;
      downs = a.downs;
      font = a.font;
      across = a.across;
      down = a.down;
    };
  }

  goes_to : (ga gd : Family) (t : Spelled) (q1 q2 : Reader) → Some q1 ≡ Some q2 → Goes widths given ga gd s t r q1 → Goes widths given ga gd s t r q2
  goes_to ga gd t q1 q2 is goes =
      let same : q1 ≡ q2 = cc in subst (λ (x : Reader). Goes widths given ga gd s t r x) same goes

  one_goes : (c : Command) (next : Reader) → CanBeSpelled c → Later (across fa c).moves given.rights → Later (down fd c).moves given.downs →
      obeyed widths c q ≡ Some next → Goes widths given (across fa c) (down fd c) s (spell given s c) r next
  one_goes Push next can la ld is = goes_to (opened fa) (opened fd) (with_bytes (141 ∷ []) s) (push q) next is push_goes
  one_goes Pop next can la ld is = pop_by r.stack q.stack next refl a.stacks is a.across a.down
  one_goes (Right width) next can la ld is = goes_to (moved width fa) fd (with_right given s) (go_right width q) next is (right_goes width can la)
  one_goes (Down height) next can la ld is = goes_to fa (moved height fd) (with_down given s) (go_down height q) next is (down_goes height can ld)
  one_goes (Character font byte) next can la ld is =
      goes_to fa fd (with_bytes (character_bytes byte) (with_font given font s)) (set_char widths byte (choose (font - 1) q)) next is (character_goes font byte)
  one_goes (SetRule height width) next can la ld is =
      goes_to fa fd (with_bytes (132 ∷ signed_four height ++ signed_four width) s) (go_right width (put_rule height width q)) next is (set_rule_goes height width can.0 can.1)
  one_goes (PutRule height width) next can la ld is =
      goes_to fa fd (with_bytes (137 ∷ signed_four height ++ signed_four width) s) (put_rule height width q) next is (put_rule_goes height width can.0 can.1)
  one_goes (Special bytes) next can la ld is =
      goes_to fa fd (with_bytes (special_bytes bytes) s) (with_item (Text q.now.h q.now.v bytes) q) next is (special_goes bytes can)

-- ---- all commands

record AllGo (widths : ℕ → ℕ → ℤ) (s t : Spelled) (r q : Reader) : Type 0 where
  after : Reader
  piece : List ℕ
  bytes : t.bytes ≡ s.bytes ++ piece
  leads : Leads widths r piece after
  same : SetTheSame after q

module _ (widths : ℕ → ℕ → ℤ) (given : Given) (short : AllByRecursion HasShortName given.fonts) where
  abbrev RestGoes : List Command → Reader → Type 0
  RestGoes cs end =
      (fa fd : Family) (s : Spelled) (r q : Reader) → Agrees given fa fd s r q → given.rights ≡ (fold across fa cs).moves →
      given.downs ≡ (fold down fd cs).moves → all_obeyed widths cs q ≡ Some end → AllGo widths s (fold (spell given) s cs) r end

  then_go : (c : Command) (cs : List Command) (end : Reader) → RestGoes cs end → CanBeSpelled c → (fa fd : Family) (s : Spelled)
      (r q : Reader) → Agrees given fa fd s r q → given.rights ≡ (fold across (across fa c) cs).moves →
      given.downs ≡ (fold down (down fd c) cs).moves → (o : Option Reader) → obeyed widths c q ≡ o →
      option_and_then (λ next. all_obeyed widths cs next) o ≡ Some end → AllGo widths s (fold (spell given) (spell given s c) cs) r end
  then_go c cs end rest can fa fd s r q a rights downs None o_is is = cc
  then_go c cs end rest can fa fd s r q a rights downs (Some next) o_is is =
      let la : Later (across fa c).moves given.rights =
      subst (Later (across fa c).moves) (sym rights) (all_across (across fa c) cs (across_ranges fa c a.across.ranges)) in
      let ld : Later (down fd c).moves given.downs =
      subst (Later (down fd c).moves) (sym downs) (all_down (down fd c) cs (down_ranges fd c a.down.ranges)) in
      let one = one_goes widths given short fa fd s r q a c next can la ld o_is in
      let more = rest (across fa c) (down fd c) (spell given s c) one.after next one.agrees rights downs is in
      record {
        after = more.after;
        piece = one.piece ++ more.piece;
        bytes = more.bytes ∙ ap (λ (b : List ℕ). b ++ more.piece) one.bytes ∙ append_assoc s.bytes one.piece more.piece;
        leads = leads_then widths r one.after more.after one.piece more.piece one.leads more.leads;
        same = more.same;
      }

  all_go : (cs : List Command) (end : Reader) → AllByRecursion CanBeSpelled cs → RestGoes cs end
  unfolding all_obeyed
  all_go [] end can = λ fa fd s r q a rights downs is.
      let same : q ≡ end = cc in
      record {
        after = r;
        piece = [];
        bytes = sym (append-nil s.bytes);
        leads = leads_none widths r;
        same = subst (SetTheSame r) same a.same;
      }
  all_go (c ∷ cs) end can = λ fa fd s r q a rights downs is.
      then_go c cs end (all_go cs end can.1) can.0 fa fd s r q a rights downs (obeyed widths c q) refl is

same_stack : (ks : List Kept) → SameStack ks ks
same_stack [] = tt
same_stack (k ∷ ks) = (refl, refl, same_stack ks)

at_start : (given : Given) (r : Reader) → r.stack ≡ [] → Agrees given no_movements no_movements (spelled [] None [] 0 0) r r
at_start given r none = record {
  same = record { h = refl; v = refl; counts = refl; items = refl; pages = refl };
  stacks = same_stack r.stack;
  rights = refl;
  downs = refl;
  font = λ f is. let never : None ≡ Some f = is in cc;
  across = subst (λ (st : List Kept). Holds w_of x_of given.rights r.now st no_movements) (sym none) (holds_none w_of x_of given.rights r.now);
  down = subst (λ (st : List Kept). Holds y_of z_of given.downs r.now st no_movements) (sym none) (holds_none y_of z_of given.downs r.now);
}

pub commands_read_back : CommandsAreReadBack
commands_read_back widths commands defined fonts r s can short none is =
    let given = given_for commands defined fonts in
    let goes = all_go widths given (recursion_from_All HasShortName fonts short) commands s
    (recursion_from_All CanBeSpelled commands can) no_movements no_movements (spelled [] None [] 0 0) r r (at_start given r none) refl refl is in
    (goes.after, subst (λ (b : List ℕ). Leads widths r b goes.after) (sym goes.bytes) goes.leads, goes.same)
