-- What the steps of a walk set: boxes, characters, rules and specials.
use Rattle.std.proofs.Common.{◌≡◌, ℕ, ◌-◌, ℤ, pos, ◌+ℤ◌, Option, Some, None, List, [], ◌∷◌, ◌++◌, length, take, refl, sym, ap, ◌∙◌, arith, subst, option_and_then, if◌then◌else◌, slice_get}
use Rattle.std.specs.Int.{w32, int_wrap}
use Rattle.std.specs.Int.RustNames.{FitsSigned}
use Rattle.std.specs.List.{AllByRecursion}
use Rattle.std.proofs.lemmas.Int.{SFits-int_wrap}
use Rattle.std.proofs.lemmas.List.{take_at, length_push}
use Rattle.dvi_out.specs.declared.command.Command.{Command}
use Rattle.dvi_out.specs.declared.command.Command.TheVariants.{Push, Pop, Right, Down, Character, SetRule, PutRule, Special}
use Rattle.dvi_out.specs.Places.{Placed, Glyph, Bar, Text}
use Rattle.dvi_out.specs.DviReading.{Kept, Reader, reader, push, pop_to, choose, set_char, put_rule, with_item}
use Rattle.dvi_out.specs.Obeying.{obeyed, all_obeyed}
use Rattle.dvi_out.specs.WalksSet.{SizesFit}
use Rattle.dvi_out.specs.SpellingWalk.{Walk, plus, to_h, with_reader, with_glue, with_command, synched_h, synched_v, entered, left, popped, is_push, with_special}
use Rattle.dvi_out.proofs.Following.{Ending, none, last, ending, can_more, can_less, obeyed_more, Follows, Sets, sets_then, sets_by, sets_synched_h, sets_synched_v, AtWalk, at_walk, still, same_h}

-- ---- a pop, which is dropped with its push where nothing stands between

slice_get_last : (front : List Command) (c : Command) → slice_get (front ++ c ∷ []) (length front) ≡ Some c
slice_get_last [] c = refl
slice_get_last (b ∷ front) c = slice_get_last front c

pop_last : (front : List Command) (c : Command) →
    popped (front ++ c ∷ []) ≡ (if is_push (Some c) then front else (front ++ c ∷ []) ++ Pop ∷ [])
unfolding popped
pop_last front c =
    let cs = front ++ c ∷ [] in
    let long : length cs - 1 ≡ length front = omega (arith, length_push front c) in
    ap (λ (n : ℕ). if is_push (slice_get cs n) then take n cs else cs ++ Pop ∷ []) long
    ∙ ap (λ (o : Option Command). if is_push o then take (length front) cs else cs ++ Pop ∷ []) (slice_get_last front c)
    ∙ ap (λ (l : List Command). if is_push (Some c) then l else cs ++ Pop ∷ []) (take_at front (c ∷ []) (length front) refl)

-- commands that end with a pop, and where they lead
record Popped (widths : ℕ → ℕ → ℤ) (start : Reader) (cs : List Command) (k : Kept) (ks : List Kept) (q : Reader) : Type 0 where
  after : Reader
  obeys : all_obeyed widths cs start ≡ Some after
  can : AllByRecursion SizesFit cs
  now : after.now ≡ k
  stack : after.stack ≡ ks
  items : after.items ≡ q.items
  counts : after.counts ≡ q.counts
  pages : after.pages ≡ q.pages

module _ (widths : ℕ → ℕ → ℤ) (start : Reader) where
  pop_kept : (cs : List Command) (k : Kept) (ks : List Kept) (q : Reader) → all_obeyed widths cs start ≡ Some q →
      AllByRecursion SizesFit cs → q.stack ≡ k ∷ ks → Popped widths start (cs ++ Pop ∷ []) k ks q
  pop_kept cs k ks q is can on = record {
    after = reader k ks q.font q.counts q.items q.pages;
    obeys =
        obeyed_more widths cs Pop start ∙ ap (λ (o : Option Reader). option_and_then (obeyed widths Pop) o) is
        ∙ ap (λ (st : List Kept). pop_to st q) on;
    can = can_more cs Pop can tt;
    now = refl;
    stack = refl;
    items = refl;
    counts = refl;
    pages = refl;
  }

  pop_dropped : (front : List Command) (k : Kept) (ks : List Kept) (q : Reader) (o : Option Reader) →
      all_obeyed widths front start ≡ o → option_and_then (obeyed widths Push) o ≡ Some q →
      AllByRecursion SizesFit front → q.stack ≡ k ∷ ks → Popped widths start front k ks q
  pop_dropped front k ks q None is then_is can on = cc
  pop_dropped front k ks q (Some r) is then_is can on =
      let same : push r ≡ q = cc in
      let stacks : r.now ∷ r.stack ≡ k ∷ ks = ap (λ (x : Reader). x.stack) same ∙ on in
      record {
        after = r;
        obeys = is;
        can = can;
        now = cc;
        stack = cc;
        items = ap (λ (x : Reader). x.items) same;
        counts = ap (λ (x : Reader). x.counts) same;
        pages = ap (λ (x : Reader). x.pages) same;
      }

  to_popped : (cs ds : List Command) (k : Kept) (ks : List Kept) (q : Reader) → cs ≡ ds → Popped widths start ds k ks q →
      Popped widths start cs k ks q
  to_popped cs ds k ks q is p = subst (λ (l : List Command). Popped widths start l k ks q) (sym is) p

  pop_none : (k : Kept) (ks : List Kept) (q : Reader) → all_obeyed widths [] start ≡ Some q → q.stack ≡ k ∷ ks →
      Popped widths start (popped []) k ks q
  unfolding popped
  pop_none k ks q is on = pop_kept [] k ks q is tt on

  pop_by : (cs : List Command) → Ending cs → (k : Kept) (ks : List Kept) (q : Reader) → all_obeyed widths cs start ≡ Some q →
      AllByRecursion SizesFit cs → q.stack ≡ k ∷ ks → Popped widths start (popped cs) k ks q
  pop_by _ none k ks q is can on = pop_none k ks q is on
  pop_by _ (last front Push) k ks q is can on =
      to_popped (popped (front ++ Push ∷ [])) front k ks q (pop_last front Push)
      (pop_dropped front k ks q (all_obeyed widths front start) refl (sym (obeyed_more widths front Push start) ∙ is)
      (can_less front Push can) on)
  pop_by _ (last front Pop) k ks q is can on =
      to_popped (popped (front ++ Pop ∷ [])) ((front ++ Pop ∷ []) ++ Pop ∷ []) k ks q (pop_last front Pop) (pop_kept (front ++ Pop ∷ []) k ks q is can on)
  pop_by _ (last front (Right width)) k ks q is can on =
      to_popped (popped (front ++ Right width ∷ [])) ((front ++ Right width ∷ []) ++ Pop ∷ []) k ks q (pop_last front (Right width)) (pop_kept (front ++ Right width ∷ []) k ks q is can on)
  pop_by _ (last front (Down height)) k ks q is can on =
      to_popped (popped (front ++ Down height ∷ [])) ((front ++ Down height ∷ []) ++ Pop ∷ []) k ks q (pop_last front (Down height)) (pop_kept (front ++ Down height ∷ []) k ks q is can on)
  pop_by _ (last front (Character font byte)) k ks q is can on =
      to_popped (popped (front ++ Character font byte ∷ [])) ((front ++ Character font byte ∷ []) ++ Pop ∷ []) k ks q (pop_last front (Character font byte)) (pop_kept (front ++ Character font byte ∷ []) k ks q is can on)
  pop_by _ (last front (SetRule height width)) k ks q is can on =
      to_popped (popped (front ++ SetRule height width ∷ [])) ((front ++ SetRule height width ∷ []) ++ Pop ∷ []) k ks q (pop_last front (SetRule height width)) (pop_kept (front ++ SetRule height width ∷ []) k ks q is can on)
  pop_by _ (last front (PutRule height width)) k ks q is can on =
      to_popped (popped (front ++ PutRule height width ∷ [])) ((front ++ PutRule height width ∷ []) ++ Pop ∷ []) k ks q (pop_last front (PutRule height width)) (pop_kept (front ++ PutRule height width ∷ []) k ks q is can on)
  pop_by _ (last front (Special bytes)) k ks q is can on =
      to_popped (popped (front ++ Special bytes ∷ [])) ((front ++ Special bytes ∷ []) ++ Pop ∷ []) k ks q (pop_last front (Special bytes)) (pop_kept (front ++ Special bytes ∷ []) k ks q is can on)

  -- the list of a box between push and pop
  pub sets_box : (w inside : Walk) (new : List Placed) → Sets widths start (entered w) inside new →
      Sets widths start w (with_glue w.sum w.grown (with_reader w.reader_h w.reader_v (left inside))) new
  unfolding entered left
  sets_box w inside new second q f =
      let began : Follows widths start (entered w) (push q) = record {
        obeys =
            obeyed_more widths w.commands Push start
            ∙ ap (λ (o : Option Reader). option_and_then (obeyed widths Push) o) f.obeys;
        can = can_more w.commands Push f.can tt;
        h = f.h;
        v = f.v;
        h_fits = f.h_fits;
        v_fits = f.v_fits;
      } in
      let did = second (push q) began in
      let p = pop_by inside.commands (ending inside.commands) q.now q.stack did.after did.follows.obeys did.follows.can did.stack in
      record {
        after = p.after;
        follows = record {
          obeys = p.obeys;
          can = p.can;
          h = ap (λ (k : Kept). k.h) p.now ∙ f.h;
          v = ap (λ (k : Kept). k.v) p.now ∙ f.v;
          h_fits = f.h_fits;
          v_fits = f.v_fits;
        };
        stack = p.stack;
        items = p.items ∙ did.items;
        counts = p.counts ∙ did.counts;
        pages = p.pages ∙ did.pages;
      }

  -- ---- things that are set

  -- the reader is brought to the walk's place
  pub sets_at_walk : (w : Walk) → FitsSigned w32 w.h → FitsSigned w32 w.v → Sets widths start w (synched_v (synched_h w)) []
  sets_at_walk w h_fits v_fits =
      sets_then widths start w (synched_h w) (synched_v (synched_h w)) [] []
      (sets_synched_h widths start w h_fits)
      (sets_synched_v widths start (synched_h w) (subst (FitsSigned w32) (sym (same_h w).0.v) v_fits))

  -- a thing, where the walk is
  put : (item : ℤ → ℤ → Placed) (w x : Walk) (q : Reader) → AtWalk w x → Follows widths start x q →
      q.items ++ item q.now.h q.now.v ∷ [] ≡ q.items ++ item w.h w.v ∷ []
  put item w x q at f =
      ap (λ (z : ℤ). q.items ++ item z q.now.v ∷ []) (f.h ∙ at.reader_h) ∙ ap (λ (z : ℤ). q.items ++ item w.h z ∷ []) (f.v ∙ at.reader_v)

  pub sets_character : (font byte : ℕ) (width : ℤ) (w : Walk) → FitsSigned w32 w.h → FitsSigned w32 w.v →
      widths (font - 1) byte ≡ width →
      let set = with_command (Character font byte) (synched_v (synched_h w)) in
      Sets widths start w (with_reader (plus set.reader_h width) set.reader_v (to_h (plus set.h width) set)) (Glyph w.h w.v (font - 1) byte ∷ [])
  sets_character font byte width w h_fits v_fits is =
      let x = synched_v (synched_h w) in
      let set = with_command (Character font byte) x in
      let y = with_reader (plus set.reader_h width) set.reader_v (to_h (plus set.h width) set) in
      let at = at_walk w in
      sets_then widths start w x y [] (Glyph w.h w.v (font - 1) byte ∷ []) (sets_at_walk w h_fits v_fits)
      (sets_by widths start x y (Character font byte) (Glyph w.h w.v (font - 1) byte ∷ []) tt refl
      (λ q f. record {
        after = set_char widths byte (choose (font - 1) q);
        is = refl;
        h = ap (λ (z : ℤ). int_wrap w32 (z +ℤ widths (font - 1) byte)) f.h ∙ ap (plus x.reader_h) is;
        v = ap (λ (z : ℤ). int_wrap w32 (z +ℤ pos 0)) f.v ∙ still x.reader_v f.v_fits;
        h_fits = SFits-int_wrap w32 (x.reader_h +ℤ width);
        v_fits = f.v_fits;
        stack = refl;
        items = put (λ h v. Glyph h v (font - 1) byte) w x q at f;
        counts = refl;
        pages = refl;
      }))

  pub sets_special : (bytes : List ℕ) (w : Walk) → FitsSigned w32 w.h → FitsSigned w32 w.v →
      Sets widths start w (with_special bytes w) (Text w.h w.v bytes ∷ [])
  unfolding with_special
  sets_special bytes w h_fits v_fits =
      let x = synched_v (synched_h w) in
      let at = at_walk w in
      sets_then widths start w x (with_command (Special bytes) x) [] (Text w.h w.v bytes ∷ []) (sets_at_walk w h_fits v_fits)
      (sets_by widths start x (with_command (Special bytes) x) (Special bytes) (Text w.h w.v bytes ∷ []) tt refl
      (λ q f. record {
        after = with_item (Text q.now.h q.now.v bytes) q;
        is = refl;
        h = f.h;
        v = f.v;
        h_fits = f.h_fits;
        v_fits = f.v_fits;
        stack = refl;
        items = put (λ h v. Text h v bytes) w x q at f;
        counts = refl;
        pages = refl;
      }))

  -- a rule that the reader doesn't move by
  pub sets_put_rule : (height width : ℤ) (w : Walk) → FitsSigned w32 w.h → FitsSigned w32 w.v → FitsSigned w32 height →
      FitsSigned w32 width → Sets widths start w (with_command (PutRule height width) (synched_v (synched_h w))) (Bar w.h w.v height width ∷ [])
  sets_put_rule height width w h_fits v_fits tall wide =
      let x = synched_v (synched_h w) in
      let at = at_walk w in
      sets_then widths start w x (with_command (PutRule height width) x) [] (Bar w.h w.v height width ∷ []) (sets_at_walk w h_fits v_fits)
      (sets_by widths start x (with_command (PutRule height width) x) (PutRule height width) (Bar w.h w.v height width ∷ []) (tall, wide) refl
      (λ q f. record {
        after = put_rule height width q;
        is = refl;
        h = f.h;
        v = f.v;
        h_fits = f.h_fits;
        v_fits = f.v_fits;
        stack = refl;
        items = put (λ h v. Bar h v height width) w x q at f;
        counts = refl;
        pages = refl;
      }))
