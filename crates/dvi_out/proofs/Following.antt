-- A device that obeys the commands of a walk stands where the walk's reader does.
use Rattle.std.proofs.Common.{◌≡◌, ℕ, ℤ, pos, ◌+ℤ◌, ◌-ℤ◌, Bool, true, false, Option, Some, None, List, [], ◌∷◌, ◌++◌, refl, sym, ap, ◌∙◌, arith, subst, append_assoc, option_and_then, if◌then◌else◌}
use Rattle.std.specs.Int.{w32, int_wrap}
use Rattle.std.specs.Int.RustNames.{FitsSigned}
use Rattle.std.specs.List.{AllByRecursion}
use Rattle.std.specs.Ordering.{int_eq}
use Rattle.std.proofs.lemmas.Bool.Decides.{Decides-int_eq}
use Rattle.std.proofs.lemmas.Int.{ints, int_wrap_fits, int_wrap-add_left, int_wrap-add_right, SFits-int_wrap}
use Rattle.std.proofs.lemmas.List.{append-nil}
use Rattle.dvi_out.specs.declared.command.Command.{Command}
use Rattle.dvi_out.specs.declared.command.Command.TheVariants.{Right, Down}
use Rattle.dvi_out.specs.Places.{Placed, modulo}
use Rattle.dvi_out.specs.DviReading.{Reader, go_right, go_down}
use Rattle.dvi_out.specs.Obeying.{obeyed, all_obeyed}
use Rattle.dvi_out.specs.WalksSet.{SizesFit}
use Rattle.dvi_out.specs.SpellingWalk.{Walk, plus, minus, with_reader, with_command, synched_h, synched_v}

-- ---- numbers modulo 2^32

pub plus_is : (a b A B : ℤ) → a ≡ modulo A → b ≡ modulo B → plus a b ≡ modulo (A +ℤ B)
plus_is a b A B is_a is_b =
    ap (λ (x : ℤ). int_wrap w32 (x +ℤ b)) is_a ∙ ap (λ (x : ℤ). int_wrap w32 (int_wrap w32 A +ℤ x)) is_b
    ∙ int_wrap-add_right w32 (int_wrap w32 A) B ∙ int_wrap-add_left w32 A B

pub plus_on : (a b A : ℤ) → a ≡ modulo A → plus a b ≡ modulo (A +ℤ b)
plus_on a b A is_a = ap (λ (x : ℤ). int_wrap w32 (x +ℤ b)) is_a ∙ int_wrap-add_left w32 A b

sub_as_add : (a b : ℤ) → a -ℤ b ≡ a +ℤ (pos 0 -ℤ b)
sub_as_add a b = omega (arith, ints)

pub minus_on : (a b A : ℤ) → a ≡ modulo A → minus a b ≡ modulo (A -ℤ b)
minus_on a b A is_a =
    ap (int_wrap w32) (sub_as_add a b) ∙ plus_on a (pos 0 -ℤ b) A is_a ∙ ap (int_wrap w32) (sym (sub_as_add A b))

-- a way back to where one was
pub there : (from to : ℤ) → FitsSigned w32 to → int_wrap w32 (from +ℤ minus to from) ≡ to
there from to fits =
    int_wrap-add_right w32 from (to -ℤ from)
    ∙ ap (int_wrap w32) (around from to) ∙ int_wrap_fits w32 to fits
  where
    around : (from to : ℤ) → from +ℤ (to -ℤ from) ≡ to
    around from to = omega (arith, ints)

pub still : (z : ℤ) → FitsSigned w32 z → int_wrap w32 (z +ℤ pos 0) ≡ z
still z fits = ap (int_wrap w32) (alone z) ∙ int_wrap_fits w32 z fits
  where
    alone : (z : ℤ) → z +ℤ pos 0 ≡ z
    alone z = omega (arith, ints)

pub wrapped_fits : (z A : ℤ) → z ≡ modulo A → FitsSigned w32 z
wrapped_fits z A is = subst (FitsSigned w32) (sym is) (SFits-int_wrap w32 A)

-- ---- lists of commands

pub can_more : (cs : List Command) (c : Command) → AllByRecursion SizesFit cs → SizesFit c →
    AllByRecursion SizesFit (cs ++ c ∷ [])
can_more [] c all can = (can, tt)
can_more (b ∷ cs) c all can = (all.0, can_more cs c all.1 can)

pub can_less : (cs : List Command) (c : Command) → AllByRecursion SizesFit (cs ++ c ∷ []) → AllByRecursion SizesFit cs
can_less [] c all = tt
can_less (b ∷ cs) c all = (all.0, can_less cs c all.1)

pub obeyed_more : (widths : ℕ → ℕ → ℤ) (cs : List Command) (c : Command) (r : Reader) →
    all_obeyed widths (cs ++ c ∷ []) r ≡ option_and_then (obeyed widths c) (all_obeyed widths cs r)
unfolding all_obeyed
obeyed_more widths [] c r = last (obeyed widths c r)
  where
    last : (o : Option Reader) → option_and_then (λ (next : Reader). Some next) o ≡ o
    last None = refl
    last (Some x) = refl
obeyed_more widths (b ∷ cs) c r = further (obeyed widths b r) (λ next. obeyed_more widths cs c next)
  where
    further : (o : Option Reader) →
        ((next : Reader) → all_obeyed widths (cs ++ c ∷ []) next ≡ option_and_then (obeyed widths c) (all_obeyed widths cs next)) →
        option_and_then (λ next. all_obeyed widths (cs ++ c ∷ []) next) o
        ≡ option_and_then (obeyed widths c) (option_and_then (λ next. all_obeyed widths cs next) o)
    further None rest = refl
    further (Some next) rest = rest next

-- a list of commands is empty, or has a last one
pub data Ending : List Command → Type 0 where
  none : Ending []
  last : (cs : List Command) (c : Command) → Ending (cs ++ c ∷ [])

longer : (c : Command) (cs : List Command) → Ending cs → Ending (c ∷ cs)
longer c _ none = last [] c
longer c _ (last cs d) = last (c ∷ cs) d

pub ending : (cs : List Command) → Ending cs
ending [] = none
ending (c ∷ cs) = longer c cs (ending cs)

-- ---- a device at a walk

pub record Follows (widths : ℕ → ℕ → ℤ) (start : Reader) (w : Walk) (q : Reader) : Type 0 where
  pub obeys : all_obeyed widths w.commands start ≡ Some q
  pub can : AllByRecursion SizesFit w.commands
  pub h : q.now.h ≡ w.reader_h
  pub v : q.now.v ≡ w.reader_v
  pub h_fits : FitsSigned w32 w.reader_h
  pub v_fits : FitsSigned w32 w.reader_v

-- a device after another has set something more
pub record Did (widths : ℕ → ℕ → ℤ) (start : Reader) (x : Walk) (q : Reader) (new : List Placed) : Type 0 where
  pub after : Reader
  pub follows : Follows widths start x after
  pub stack : after.stack ≡ q.stack
  pub items : after.items ≡ q.items ++ new
  pub counts : after.counts ≡ q.counts
  pub pages : after.pages ≡ q.pages

-- from one walk to another, this is set
abbrev pub Sets : (ℕ → ℕ → ℤ) → Reader → Walk → Walk → List Placed → Type 0
Sets widths start w x new = (q : Reader) → Follows widths start w q → Did widths start x q new

-- what one command does
pub record Obeys (widths : ℕ → ℕ → ℤ) (x : Walk) (c : Command) (q : Reader) (new : List Placed) : Type 0 where
  pub after : Reader
  pub is : obeyed widths c q ≡ Some after
  pub h : after.now.h ≡ x.reader_h
  pub v : after.now.v ≡ x.reader_v
  pub h_fits : FitsSigned w32 x.reader_h
  pub v_fits : FitsSigned w32 x.reader_v
  pub stack : after.stack ≡ q.stack
  pub items : after.items ≡ q.items ++ new
  pub counts : after.counts ≡ q.counts
  pub pages : after.pages ≡ q.pages

module _ (widths : ℕ → ℕ → ℤ) (start : Reader) where
  -- nothing is set, and the reader stays
  pub quiet : (w x : Walk) → x.commands ≡ w.commands → x.reader_h ≡ w.reader_h → x.reader_v ≡ w.reader_v → Sets widths start w x []
  quiet w x same same_h same_v q f = record {
    after = q;
    follows = record {
      obeys = ap (λ (cs : List Command). all_obeyed widths cs start) same ∙ f.obeys;
      can = subst (AllByRecursion SizesFit) (sym same) f.can;
      h = f.h ∙ sym same_h;
      v = f.v ∙ sym same_v;
      h_fits = subst (FitsSigned w32) (sym same_h) f.h_fits;
      v_fits = subst (FitsSigned w32) (sym same_v) f.v_fits;
    };
    stack = refl;
    items = sym (append-nil q.items);
    counts = refl;
    pages = refl;
  }

  pub sets_then : (w x y : Walk) (a b : List Placed) → Sets widths start w x a → Sets widths start x y b → Sets widths start w y (a ++ b)
  sets_then w x y a b first second q f =
      let one = first q f in
      let two = second one.after one.follows in
      record {
        after = two.after;
        follows = two.follows;
        stack = two.stack ∙ one.stack;
        items = two.items ∙ ap (λ (l : List Placed). l ++ b) one.items ∙ append_assoc q.items a b;
        counts = two.counts ∙ one.counts;
        pages = two.pages ∙ one.pages;
      }

  pub sets_quietly : (w x y : Walk) (a : List Placed) → Sets widths start w x a → Sets widths start x y [] → Sets widths start w y a
  sets_quietly w x y a first second =
      subst (λ (l : List Placed). Sets widths start w y l) (append-nil a) (sets_then w x y a [] first second)

  -- a command more
  pub sets_by : (w x : Walk) (c : Command) (new : List Placed) → SizesFit c → x.commands ≡ w.commands ++ c ∷ [] →
      ((q : Reader) → Follows widths start w q → Obeys widths x c q new) → Sets widths start w x new
  sets_by w x c new can is does q f =
      let did = does q f in
      record {
        after = did.after;
        follows = record {
          obeys =
              ap (λ (cs : List Command). all_obeyed widths cs start) is ∙ obeyed_more widths w.commands c start
              ∙ ap (λ (o : Option Reader). option_and_then (obeyed widths c) o) f.obeys ∙ did.is;
          can = subst (AllByRecursion SizesFit) (sym is) (can_more w.commands c f.can can);
          h = did.h;
          v = did.v;
          h_fits = did.h_fits;
          v_fits = did.v_fits;
        };
        stack = did.stack;
        items = did.items;
        counts = did.counts;
        pages = did.pages;
      }

  -- ---- the reader comes to the walk

  synch_h_by : (w : Walk) (b : Bool) → FitsSigned w32 w.h →
      Sets widths start w (if b then w else with_reader w.h w.reader_v (with_command (Right (minus w.h w.reader_h)) w)) []
  synch_h_by w true fits = quiet w w refl refl refl
  synch_h_by w false fits =
      sets_by w (with_reader w.h w.reader_v (with_command (Right (minus w.h w.reader_h)) w)) (Right (minus w.h w.reader_h)) []
      (SFits-int_wrap w32 (w.h -ℤ w.reader_h)) refl
      (λ q f. record {
        after = go_right (minus w.h w.reader_h) q;
        is = refl;
        h = ap (λ (z : ℤ). int_wrap w32 (z +ℤ minus w.h w.reader_h)) f.h ∙ there w.reader_h w.h fits;
        v = ap (λ (z : ℤ). int_wrap w32 (z +ℤ pos 0)) f.v ∙ still w.reader_v f.v_fits;
        h_fits = fits;
        v_fits = f.v_fits;
        stack = refl;
        items = sym (append-nil q.items);
        counts = refl;
        pages = refl;
      })

  pub sets_synched_h : (w : Walk) → FitsSigned w32 w.h → Sets widths start w (synched_h w) []
  unfolding synched_h
  sets_synched_h w fits = synch_h_by w (int_eq w.h w.reader_h) fits

  synch_v_by : (w : Walk) (b : Bool) → FitsSigned w32 w.v →
      Sets widths start w (if b then w else with_reader w.reader_h w.v (with_command (Down (minus w.v w.reader_v)) w)) []
  synch_v_by w true fits = quiet w w refl refl refl
  synch_v_by w false fits =
      sets_by w (with_reader w.reader_h w.v (with_command (Down (minus w.v w.reader_v)) w)) (Down (minus w.v w.reader_v)) []
      (SFits-int_wrap w32 (w.v -ℤ w.reader_v)) refl
      (λ q f. record {
        after = go_down (minus w.v w.reader_v) q;
        is = refl;
        h = ap (λ (z : ℤ). int_wrap w32 (z +ℤ pos 0)) f.h ∙ still w.reader_h f.h_fits;
        v = ap (λ (z : ℤ). int_wrap w32 (z +ℤ minus w.v w.reader_v)) f.v ∙ there w.reader_v w.v fits;
        h_fits = f.h_fits;
        v_fits = fits;
        stack = refl;
        items = sym (append-nil q.items);
        counts = refl;
        pages = refl;
      })

  pub sets_synched_v : (w : Walk) → FitsSigned w32 w.v → Sets widths start w (synched_v w) []
  unfolding synched_v
  sets_synched_v w fits = synch_v_by w (int_eq w.v w.reader_v) fits

-- what stays when the reader comes to the walk
pub record SameWalk (w x : Walk) : Type 0 where
  pub h : x.h ≡ w.h
  pub v : x.v ≡ w.v
  pub sum : x.sum ≡ w.sum
  pub grown : x.grown ≡ w.grown

same_h_by : (w : Walk) (b : Bool) → int_eq w.h w.reader_h ≡ b →
    let x = if b then w else with_reader w.h w.reader_v (with_command (Right (minus w.h w.reader_h)) w) in
    SameWalk w x × (x.reader_h ≡ w.h) × (x.reader_v ≡ w.reader_v)
same_h_by w true is =
    (record { h = refl; v = refl; sum = refl; grown = refl }, sym ((Decides-int_eq w.h w.reader_h).0 is), refl)
same_h_by w false is = (record { h = refl; v = refl; sum = refl; grown = refl }, refl, refl)

pub same_h : (w : Walk) → SameWalk w (synched_h w) × ((synched_h w).reader_h ≡ w.h) × ((synched_h w).reader_v ≡ w.reader_v)
unfolding synched_h
same_h w = same_h_by w (int_eq w.h w.reader_h) refl

same_v_by : (w : Walk) (b : Bool) → int_eq w.v w.reader_v ≡ b →
    let x = if b then w else with_reader w.reader_h w.v (with_command (Down (minus w.v w.reader_v)) w) in
    SameWalk w x × (x.reader_h ≡ w.reader_h) × (x.reader_v ≡ w.v)
same_v_by w true is =
    (record { h = refl; v = refl; sum = refl; grown = refl }, refl, sym ((Decides-int_eq w.v w.reader_v).0 is))
same_v_by w false is = (record { h = refl; v = refl; sum = refl; grown = refl }, refl, refl)

pub same_v : (w : Walk) → SameWalk w (synched_v w) × ((synched_v w).reader_h ≡ w.reader_h) × ((synched_v w).reader_v ≡ w.v)
unfolding synched_v
same_v w = same_v_by w (int_eq w.v w.reader_v) refl

-- the reader at the walk's place: it came there to the right and then down
pub record AtWalk (w x : Walk) : Type 0 where
  pub same : SameWalk w x
  pub reader_h : x.reader_h ≡ w.h
  pub reader_v : x.reader_v ≡ w.v

pub at_walk : (w : Walk) → AtWalk w (synched_v (synched_h w))
at_walk w =
    let one = same_h w in
    let two = same_v (synched_h w) in
    record {
      same = record {
        h = two.0.h ∙ one.0.h;
        v = two.0.v ∙ one.0.v;
        sum = two.0.sum ∙ one.0.sum;
        grown = two.0.grown ∙ one.0.grown;
      };
      reader_h = two.1 ∙ one.1;
      reader_v = two.2 ∙ one.0.v;
    }
