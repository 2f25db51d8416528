-- The automaton's steps are what the trees say.
use Rattle.std.proofs.Common.{◌≡◌, ℕ, Bool, true, false, ◌&&◌, ◌||◌, IsTrue, ℤ, pos, List, [], ◌∷◌, ◌++◌, Option, Some, None, option_and_then, refl, sym, ap, subst, ◌∙◌, if◌then◌else◌}
use Rattle.std.specs.Prelude.{⊤, Result, Ok, Err, IfOk}
use Rattle.std.specs.declared.alloc.AllocError.{AllocError}
use Rattle.std.specs.Option.{option_map, option_map_or, is_some}
use Rattle.scaled.specs.declared.spacing.Glue.{Glue}
use Rattle.tokens.specs.declared.token.Token.{Token}
use Rattle.tokens.specs.declared.meaning.Meaning.{Meaning}
use Rattle.scan_nums.specs.Number.{is_of_phrase}
use Rattle.scan_nums.specs.Taken.{Taken, Seen, Told}
use Rattle.scan_nums.specs.declared.number.Number.{Number}
use Rattle.scan_nums.specs.declared.verdict.Verdict.{Verdict}
use Rattle.scan_nums.specs.declared.verdict.Verdict.TheVariants.{Need, Ask, Sub, Done, DoneBefore, Trouble, Pass}
use Rattle.tokens.specs.declared.kind.Kind.TheVariants.{ArithOverflow, MissingParenthesis, IncompatibleGlue}
use Rattle.etex_exprs.specs.declared.sort.Sort.{Sort}
use Rattle.etex_exprs.specs.declared.mark.Operator as operator
use Rattle.etex_exprs.specs.declared.mark.Operator.TheVariants as operators
use Rattle.etex_exprs.specs.declared.mark.Mark.{Mark}
use Rattle.etex_exprs.specs.declared.mark.Mark.TheVariants as mark
use Rattle.etex_exprs.specs.declared.sort.Sort.TheVariants.{Whole}
use Rattle.etex_exprs.specs.declared.level.Lead as lead
use Rattle.etex_exprs.specs.declared.level.Lead.TheVariants as leads
use Rattle.etex_exprs.specs.declared.level.Product as product
use Rattle.etex_exprs.specs.declared.level.Product.TheVariants as products
use Rattle.etex_exprs.specs.declared.level.Level.{Level}
use Rattle.etex_exprs.specs.declared.place.Place.{Place}
use Rattle.etex_exprs.specs.declared.place.Place.TheVariants.{Operand, Begun, Behind, Ended}
use Rattle.etex_exprs.specs.TermTreeMarks.{mark_of}
use Rattle.etex_exprs.specs.TermTreeParts.{phrase_of, bound_of, number_of, parts_of, checked, is_mixed}
use Rattle.etex_exprs.specs.TermTree.{Sum, Term, single, times, over, Factor, operand, enclosed, Said, Value, sum_value, term_value, factor_value, whole_value}
use Rattle.etex_exprs.specs.TermTreeReading as tree
use Rattle.etex_exprs.specs.TermTreeReading.{Unfinished, Reading, before, begun, behind, end, unclosed, mixed, nothing, has_values, has_front, all_have_values, fresh, factor_sort_behind, sum_of, read, read_before, read_behind, read_value, read_next, read_all, reading, wanted_behind, ended, overflow}
use Rattle.etex_exprs.specs.Levels as levels
use Rattle.etex_exprs.specs.Steps as steps
use Rattle.etex_exprs.specs.Levels.{State}
use Rattle.etex_exprs.specs.Steps.{state_of, Step, goes, asks, stops, step_before, step_behind, step_bound, step_end, step_close, step_operator, step_at, step_of}
use Rattle.etex_exprs.specs.Standing.{front_kept, product_kept, level_kept, outer_kept, levels_kept, kept, AreNested, IsNested, IsForToken, IsForAnswer, WantsToken, WantsAnswer, IsAnswer, IsReady, Stands, StandsUnlessEnded, Says}
use Rattle.etex_exprs.proofs.KeptLaws.{some_of, sum_kept, term_kept, sort_kept, is_some-along, is_some-product_kept, is_some-level_kept, is_some-outer_kept}

-- ---- an unfinished expression and what is kept of it

-- a level is kept of an unfinished expression, and levels of those outside it
record Keeps (u : Unfinished) (us : List Unfinished) (q : lead.Lead) (p : product.Product) (ls : List Level) : Type 0 where
  front : front_kept u.front u.sort ≡ Some q
  product : product_kept u.product u.sort ≡ Some p
  outside : outer_kept us ≡ Some ls
  nested : AreNested u us

abbrev level_of : Unfinished → lead.Lead → product.Product → Level
level_of u q p = levels.level_with u.sort q p

and_then-along : {A B : Type 0} → (f : A → Option B) (x : Option A) (a : A) → x ≡ Some a → option_and_then f x ≡ f a
and_then-along f x a e = ap (option_and_then f) e

map-along : {A B : Type 0} → (f : A → B) (x : Option A) (a : A) → x ≡ Some a → option_map f x ≡ Some (f a)
map-along f x a e = ap (option_map f) e

abbrev with_leads : Unfinished → lead.Lead → Option Level
with_leads u l = option_map (λ p. levels.level_with u.sort l p) (product_kept u.product u.sort)

level_is : (u : Unfinished) (us : List Unfinished) (q : lead.Lead) (p : product.Product) (ls : List Level) → Keeps u us q p ls → level_kept u ≡ Some (level_of u q p)
level_is u us q p ls k =
    and_then-along (with_leads u) (front_kept u.front u.sort) q k.front
    ∙ map-along (λ p. levels.level_with u.sort q p) (product_kept u.product u.sort) p k.product

abbrev with_outer : List Unfinished → Place → Level → Option State
with_outer us place l = option_map (λ ls. state_of l ls place) (outer_kept us)

levels_are : (u : Unfinished) (us : List Unfinished) (q : lead.Lead) (p : product.Product) (ls : List Level) (place : Place) → Keeps u us q p ls → levels_kept u us place ≡ Some (state_of (level_of u q p) ls place)
levels_are u us q p ls place k =
    and_then-along (with_outer us place) (level_kept u) (level_of u q p) (level_is u us q p ls k)
    ∙ map-along (λ ls. state_of (level_of u q p) ls place) (outer_kept us) ls k.outside

values_there : (u : Unfinished) (us : List Unfinished) (q : lead.Lead) (p : product.Product) (ls : List Level) → Keeps u us q p ls → (has_values u && all_have_values us) ≡ true
values_there u us q p ls k =
    ap (λ b. b && all_have_values us) (sym (is_some-level_kept u) ∙ is_some-along (level_kept u) (level_of u q p) (level_is u us q p ls k))
    ∙ (sym (is_some-outer_kept us) ∙ is_some-along (outer_kept us) ls k.outside)

-- what is kept, taken apart
record Parts (u : Unfinished) (us : List Unfinished) (place : Place) (s : State) : Type 0 where
  q : lead.Lead
  p : product.Product
  ls : List Level
  keeps : Keeps u us q p ls
  state_is : state_of (level_of u q p) ls place ≡ s

parts_apart : (u : Unfinished) (us : List Unfinished) (place : Place) (s : State) (x : Option lead.Lead) (y : Option product.Product) (z : Option (List Level))
    → front_kept u.front u.sort ≡ x → product_kept u.product u.sort ≡ y → outer_kept us ≡ z
    → AreNested u us → option_and_then (λ l. option_map (λ ls. state_of l ls place) z) (option_and_then (λ l. option_map (λ p. levels.level_with u.sort l p) y) x) ≡ Some s
    → Parts u us place s
parts_apart u us place s None y z a b c n e = cc
parts_apart u us place s (Some q) None z a b c n e = cc
parts_apart u us place s (Some q) (Some p) None a b c n e = cc
parts_apart u us place s (Some q) (Some p) (Some ls) a b c n e =
    record { q = q; p = p; ls = ls; keeps = record { front = a; product = b; outside = c; nested = n }; state_is = cc }

parts_of_kept : (u : Unfinished) (us : List Unfinished) (place : Place) (s : State) → AreNested u us → levels_kept u us place ≡ Some s → Parts u us place s
parts_of_kept u us place s n e =
    parts_apart u us place s (front_kept u.front u.sort) (product_kept u.product u.sort) (outer_kept us) refl refl refl n e

-- ---- what a step promises

abbrev IsLast : Verdict → Type 0
IsLast (Done n) = ⊤
IsLast (DoneBefore n back) = ⊤
IsLast (Trouble kind) = ⊤
IsLast _ = ⊥

abbrev pub Holds : Reading → Step → Type 0
Holds r (goes s) = (wanted_behind r ≡ Some Need) × (kept r ≡ Some s) × IsNested r
Holds r (asks s sort) = (wanted_behind r ≡ Some (Sub (phrase_of sort))) × (kept r ≡ Some s) × IsNested r
Holds r (stops v) = (wanted_behind r ≡ Some v) × IsLast v

if_true : {A : Type 0} → (b : Bool) (x y : A) → b ≡ true → (if b then x else y) ≡ x
if_true b x y e = ap (λ c. if c then x else y) e

before_holds : (u : Unfinished) (us : List Unfinished) (q : lead.Lead) (p : product.Product) (ls : List Level) → Keeps u us q p ls → Holds (before u us) (goes (state_of (level_of u q p) ls Operand))
before_holds u us q p ls k =
    (ap Some (if_true (has_values u && all_have_values us) Need overflow (values_there u us q p ls k)), levels_are u us q p ls Operand k, k.nested)

begun_holds : (u : Unfinished) (us : List Unfinished) (q : lead.Lead) (p : product.Product) (ls : List Level) (m : Mark) → Keeps u us q p ls
    → Holds (begun u us m) (asks (state_of (level_of u q p) ls Begun) (levels.factor_sort (level_of u q p)))
begun_holds u us q p ls m k = (
  ap Some (if_true (has_values u && all_have_values us) (Sub (phrase_of (tree.factor_sort u))) overflow (values_there u us q p ls k))
      ∙ ap (λ s. Some (Sub (phrase_of s))) (sort_kept u.product u.sort p k.product),
  levels_are u us q p ls Begun k,
  k.nested,
)

behind_holds : (u : Unfinished) (us : List Unfinished) (q : lead.Lead) (p : product.Product) (ls : List Level) (f : Factor) (g : Glue) → Keeps u us q p ls
    → factor_value f (tree.factor_sort u) ≡ Some g → Holds (behind u us f) (goes (state_of (level_of u q p) ls (Behind g)))
behind_holds u us q p ls f g k e = (
  ap Some (if_true ((has_values u && all_have_values us) && is_some (factor_value f (tree.factor_sort u))) Need overflow
      (ap (λ b. b && is_some (factor_value f (tree.factor_sort u))) (values_there u us q p ls k) ∙ is_some-along (factor_value f (tree.factor_sort u)) g e)),
  and_then-along (λ g. levels_kept u us (Behind g)) (factor_value f (tree.factor_sort u)) g e ∙ levels_are u us q p ls (Behind g) k,
  k.nested,
)

-- ---- in front of an operand

fresh_keeps : (u : Unfinished) (us : List Unfinished) (q : lead.Lead) (p : product.Product) (ls : List Level) → Keeps u us q p ls
    → Keeps (fresh (tree.factor_sort u)) (u ∷ us) leads.Nothing products.Nothing (level_of u q p ∷ ls)
fresh_keeps u us q p ls k = record {
  front = refl;
  product = refl;
  outside = and_then-along (λ l. option_map (λ ls. l ∷ ls) (outer_kept us)) (level_kept u) (level_of u q p) (level_is u us q p ls k)
      ∙ map-along (λ ls. level_of u q p ∷ ls) (outer_kept us) ls k.outside;
  nested = (refl, k.nested);
}

open_holds : (u : Unfinished) (us : List Unfinished) (q : lead.Lead) (p : product.Product) (ls : List Level) → Keeps u us q p ls
    → Holds (read_before u us mark.Open) (step_before (level_of u q p) ls mark.Open)
open_holds u us q p ls k =
    let P : Sort → Type 0 = λ s. Holds (before (fresh (tree.factor_sort u)) (u ∷ us)) (goes (state_of (steps.start_level s) (level_of u q p ∷ ls) Operand)) in
    subst P (sort_kept u.product u.sort p k.product)
    (before_holds (fresh (tree.factor_sort u)) (u ∷ us) leads.Nothing products.Nothing (level_of u q p ∷ ls) (fresh_keeps u us q p ls k))

before_steps : (u : Unfinished) (us : List Unfinished) (q : lead.Lead) (p : product.Product) (ls : List Level) → Keeps u us q p ls → (m : Mark)
    → Holds (read_before u us m) (step_before (level_of u q p) ls m)
before_steps u us q p ls k mark.Blank = before_holds u us q p ls k
before_steps u us q p ls k mark.Open = open_holds u us q p ls k
before_steps u us q p ls k mark.Close = begun_holds u us q p ls mark.Close k
before_steps u us q p ls k (mark.Operator o) = begun_holds u us q p ls (mark.Operator o) k
before_steps u us q p ls k mark.Relax = begun_holds u us q p ls mark.Relax k
before_steps u us q p ls k mark.Other = begun_holds u us q p ls mark.Other k

-- ---- behind a factor

-- the value of the term with its last factor
term_is : (u : Unfinished) (us : List Unfinished) (q : lead.Lead) (p : product.Product) (ls : List Level) (f : Factor) (g : Glue) → Keeps u us q p ls
    → factor_value f (tree.factor_sort u) ≡ Some g → term_value (tree.term_with u.product f) u.sort ≡ steps.term_of (level_of u q p) g
term_is u us q p ls f g k e = term_kept u.product u.sort p f g k.product e

whole_is : (u : Unfinished) (us : List Unfinished) (q : lead.Lead) (p : product.Product) (ls : List Level) (f : Factor) (g : Glue) → Keeps u us q p ls
    → factor_value f (tree.factor_sort u) ≡ Some g → sum_value (sum_of u f) u.sort ≡ steps.whole_of (level_of u q p) g
whole_is u us q p ls f g k e =
    sum_kept u.front u.sort q (tree.term_with u.product f) k.front
    ∙ ap (option_and_then (steps.sum_with (bound_of u.sort) q)) (term_is u us q p ls f g k e)

-- the whole expression ends
end_case : (sort : Sort) (s : Sum) (m : Mark) (w : Option Glue) → IsLast (option_map_or (λ g. ended m (number_of sort g)) w overflow)
    → sum_value s sort ≡ w → Holds (end sort s m) (stops (option_map_or (λ g. ended m (number_of sort g)) w overflow))
end_case sort s m w last e = (ap (λ x. Some (option_map_or (λ g. ended m (number_of sort g)) x overflow)) e, last)

last_of : (sort : Sort) (m : Mark) (w : Option Glue) → IsLast (option_map_or (λ g. ended m (number_of sort g)) w overflow)
last_of sort m None = tt
last_of sort mark.Blank (Some g) = tt
last_of sort mark.Open (Some g) = tt
last_of sort mark.Close (Some g) = tt
last_of sort (mark.Operator o) (Some g) = tt
last_of sort mark.Relax (Some g) = tt
last_of sort mark.Other (Some g) = tt

end_steps : (u : Unfinished) (q : lead.Lead) (p : product.Product) (f : Factor) (g : Glue) (m : Mark) → Keeps u [] q p []
    → factor_value f (tree.factor_sort u) ≡ Some g → Holds (end u.sort (sum_of u f) m) (step_end (level_of u q p) g m)
end_steps u q p f g m k e =
    end_case u.sort (sum_of u f) m (steps.whole_of (level_of u q p) g) (last_of u.sort m (steps.whole_of (level_of u q p) g)) (whole_is u [] q p [] f g k e)

-- a parenthesis ends
no_value : (a b : Bool) → (if (a && b) && false then Need else overflow) ≡ overflow
no_value true true = refl
no_value true false = refl
no_value false b = refl

close_case : (o : Unfinished) (us : List Unfinished) (q : lead.Lead) (p : product.Product) (ls : List Level) (s : Sum) (w : Option Glue) → Keeps o us q p ls
    → factor_value (enclosed s) (tree.factor_sort o) ≡ w
    → Holds (behind o us (enclosed s)) (option_map_or (λ v. goes (state_of (level_of o q p) ls (Behind v))) w (stops overflow))
close_case o us q p ls s None k e = (
  ap (λ v. Some (if (has_values o && all_have_values us) && is_some v then Need else overflow)) e
      ∙ ap Some (no_value (has_values o) (all_have_values us)),
  tt,
)
close_case o us q p ls s (Some v) k e = behind_holds o us q p ls (enclosed s) v k e

close_steps : (u o : Unfinished) (us : List Unfinished) (q r : lead.Lead) (p t : product.Product) (ls ms : List Level) (f : Factor) (g : Glue)
    → Keeps u (o ∷ us) q p ls → Keeps o us r t ms → factor_value f (tree.factor_sort u) ≡ Some g
    → Holds (behind o us (enclosed (sum_of u f))) (step_close (level_of u q p) g (level_of o r t) ms)
close_steps u o us q r p t ls ms f g k outside e =
    close_case o us r t ms (sum_of u f) (steps.whole_of (level_of u q p) g) outside
    (ap (sum_value (sum_of u f)) (sym k.nested.0) ∙ whole_is u (o ∷ us) q p ls f g k e)

-- the levels outside
record Outside (o : Unfinished) (us : List Unfinished) (ls : List Level) : Type 0 where
  q : lead.Lead
  p : product.Product
  ms : List Level
  keeps : Keeps o us q p ms
  levels_are : level_of o q p ∷ ms ≡ ls

outside_apart : (o : Unfinished) (us : List Unfinished) (ls : List Level) (x : Option lead.Lead) (y : Option product.Product) (z : Option (List Level))
    → front_kept o.front o.sort ≡ x → product_kept o.product o.sort ≡ y → outer_kept us ≡ z → AreNested o us
    → option_and_then (λ l. option_map (λ ls. l ∷ ls) z) (option_and_then (λ l. option_map (λ p. levels.level_with o.sort l p) y) x) ≡ Some ls
    → Outside o us ls
outside_apart o us ls None y z a b c n e = cc
outside_apart o us ls (Some q) None z a b c n e = cc
outside_apart o us ls (Some q) (Some p) None a b c n e = cc
outside_apart o us ls (Some q) (Some p) (Some ms) a b c n e =
    record { q = q; p = p; ms = ms; keeps = record { front = a; product = b; outside = c; nested = n }; levels_are = cc }

outside_of : (o : Unfinished) (us : List Unfinished) (ls : List Level) → AreNested o us → outer_kept (o ∷ us) ≡ Some ls → Outside o us ls
outside_of o us ls n e =
    outside_apart o us ls (front_kept o.front o.sort) (product_kept o.product o.sort) (outer_kept us) refl refl refl n e

-- ---- operators

-- what was read since a parenthesis doesn't change its sort
still_nested : (u : Unfinished) (us : List Unfinished) (p : tree.Product) (f : tree.Front) → AreNested u us → AreNested (record { sort = u.sort; front = f; product = p }) us
still_nested u [] p f n = tt
still_nested u (o ∷ us) p f n = n

abbrev OnLevel : List Level → Option Level → Step
OnLevel ls w = option_map_or (λ n. goes (state_of n ls Operand)) w (stops overflow)

no_term_there : (b c : Bool) → (if (b && false) && c then Need else overflow) ≡ overflow
no_term_there true c = refl
no_term_there false c = refl

plus_case : (u : Unfinished) (us : List Unfinished) (q : lead.Lead) (p : product.Product) (ls : List Level) (s : Sum) (w : Option Glue) → Keeps u us q p ls → sum_value s u.sort ≡ w
    → Holds (before (record { sort = u.sort; front = tree.added s; product = tree.no_term }) us) (OnLevel ls (option_map (λ v. steps.with_sum (level_of u q p) (leads.Plus v)) w))
plus_case u us q p ls s None k e =
    (ap (λ v. Some (if (is_some v && true) && all_have_values us then Need else overflow)) e, tt)
plus_case u us q p ls s (Some v) k e =
    before_holds (record { sort = u.sort; front = tree.added s; product = tree.no_term }) us (leads.Plus v) products.Nothing ls
    (record { front = map-along leads.Plus (sum_value s u.sort) v e; product = refl; outside = k.outside; nested = still_nested u us tree.no_term (tree.added s) k.nested })

minus_case : (u : Unfinished) (us : List Unfinished) (q : lead.Lead) (p : product.Product) (ls : List Level) (s : Sum) (w : Option Glue) → Keeps u us q p ls → sum_value s u.sort ≡ w
    → Holds (before (record { sort = u.sort; front = tree.subtracted s; product = tree.no_term }) us) (OnLevel ls (option_map (λ v. steps.with_sum (level_of u q p) (leads.Minus v)) w))
minus_case u us q p ls s None k e =
    (ap (λ v. Some (if (is_some v && true) && all_have_values us then Need else overflow)) e, tt)
minus_case u us q p ls s (Some v) k e =
    before_holds (record { sort = u.sort; front = tree.subtracted s; product = tree.no_term }) us (leads.Minus v) products.Nothing ls
    (record { front = map-along leads.Minus (sum_value s u.sort) v e; product = refl; outside = k.outside; nested = still_nested u us tree.no_term (tree.subtracted s) k.nested })

times_case : (u : Unfinished) (us : List Unfinished) (q : lead.Lead) (p : product.Product) (ls : List Level) (t : Term) (w : Option Glue) → Keeps u us q p ls → term_value t u.sort ≡ w
    → Holds (before (record { sort = u.sort; front = u.front; product = tree.multiplied t }) us) (OnLevel ls (option_map (λ v. steps.with_product (level_of u q p) (products.Times v)) w))
times_case u us q p ls t None k e = (
  ap (λ v. Some (if (has_front u.front u.sort && is_some v) && all_have_values us then Need else overflow)) e
      ∙ ap Some (no_term_there (has_front u.front u.sort) (all_have_values us)),
  tt,
)
times_case u us q p ls t (Some v) k e =
    before_holds (record { sort = u.sort; front = u.front; product = tree.multiplied t }) us q (products.Times v) ls
    (record { front = k.front; product = map-along products.Times (term_value t u.sort) v e; outside = k.outside; nested = still_nested u us (tree.multiplied t) u.front k.nested })

over_case : (u : Unfinished) (us : List Unfinished) (q : lead.Lead) (p : product.Product) (ls : List Level) (t : Term) (w : Option product.Product) → Keeps u us q p ls → product_kept (tree.divided t) u.sort ≡ w
    → Holds (before (record { sort = u.sort; front = u.front; product = tree.divided t }) us) (OnLevel ls (option_map (λ v. steps.with_product (level_of u q p) v) w))
over_case u us q p ls t None k e = (
  ap (λ b. Some (if (has_front u.front u.sort && b) && all_have_values us then Need else overflow)) (sym (is_some-product_kept (tree.divided t) u.sort) ∙ ap is_some e)
      ∙ ap Some (no_term_there (has_front u.front u.sort) (all_have_values us)),
  tt,
)
over_case u us q p ls t (Some v) k e =
    before_holds (record { sort = u.sort; front = u.front; product = tree.divided t }) us q v ls
    (record { front = k.front; product = e; outside = k.outside; nested = still_nested u us (tree.divided t) u.front k.nested })

-- the product behind a factor and `/`
abbrev product_after : product.Product → Level → Glue → Option product.Product
product_after (products.Times t) l g = option_map (λ h. products.Fraction t h.width) (checked (bound_of Whole) g)
product_after products.Nothing l g = option_map products.Over (steps.term_of l g)
product_after (products.Over _) l g = option_map products.Over (steps.term_of l g)
product_after (products.Fraction _ _) l g = option_map products.Over (steps.term_of l g)

map-map : {A B C : Type 0} → (f : A → B) (h : B → C) (v : Option A) → option_map h (option_map f v) ≡ option_map (λ x. h (f x)) v
map-map f h None = refl
map-map f h (Some x) = refl

divided_is : (p : product.Product) (l : Level) (g : Glue) → option_map (steps.with_product l) (product_after p l g) ≡ steps.divided_behind p l g
divided_is (products.Times t) l g = map-map (λ h. products.Fraction t h.width) (steps.with_product l) (checked (bound_of Whole) g)
divided_is products.Nothing l g = map-map products.Over (steps.with_product l) (steps.term_of l g)
divided_is (products.Over _) l g = map-map products.Over (steps.with_product l) (steps.term_of l g)
divided_is (products.Fraction _ _) l g = map-map products.Over (steps.with_product l) (steps.term_of l g)

-- what is kept of a term that is divided is no pending product
abbrev IsCarriedOut : Level → Glue → product.Product → Type 0
IsCarriedOut l g p = option_map products.Over (steps.term_of l g) ≡ product_after p l g

carried_from_over : (l : Level) (g : Glue) (t : Option Glue) (p : product.Product) → option_map products.Over t ≡ Some p → IsCarriedOut l g p
carried_from_over l g None p e = cc
carried_from_over l g (Some x) p e = subst (IsCarriedOut l g) (some_of (products.Over x) p e) refl

carried_from_fraction : (l : Level) (g : Glue) (t n : Option Glue) (p : product.Product) → option_and_then (λ x. option_map (λ y. products.Fraction x y.width) n) t ≡ Some p → IsCarriedOut l g p
carried_from_fraction l g None n p e = cc
carried_from_fraction l g (Some x) None p e = cc
carried_from_fraction l g (Some x) (Some y) p e = subst (IsCarriedOut l g) (some_of (products.Fraction x y.width) p e) refl

carried_out_of : (l : Level) (g : Glue) (t : Term) (sort : Sort) (p : product.Product) → product_kept (tree.divided t) sort ≡ Some p → IsCarriedOut l g p
carried_out_of l g (times t n) sort p e = carried_from_fraction l g (term_value t sort) (whole_value n) p e
carried_out_of l g (single n) sort p e = carried_from_over l g (term_value (single n) sort) p e
carried_out_of l g (over t n) sort p e = carried_from_over l g (term_value (over t n) sort) p e

pending_case : (l : Level) (g : Glue) (t f : Option Glue) (p : product.Product) → option_map products.Times t ≡ Some p → f ≡ Some g
    → option_and_then (λ x. option_map (λ y. products.Fraction x y.width) (option_and_then (checked (bound_of Whole)) f)) t ≡ product_after p l g
pending_case l g None f p e h = cc
pending_case l g (Some x) f p e h =
    let P : product.Product → Type 0 = λ k. option_map (λ y. products.Fraction x y.width) (option_and_then (checked (bound_of Whole)) f) ≡ product_after k l g in
    subst P (some_of (products.Times x) p e)
    (ap (λ v. option_map (λ y. products.Fraction x y.width) (option_and_then (checked (bound_of Whole)) v)) h)

-- what is kept of the product behind a factor and `/`
after_kept : (pr : tree.Product) (sort : Sort) (q : lead.Lead) (p : product.Product) (f : Factor) (g : Glue) → product_kept pr sort ≡ Some p → factor_value f (factor_sort_behind pr sort) ≡ Some g
    → product_kept (tree.divided (tree.term_with pr f)) sort ≡ product_after p (levels.level_with sort q p) g
after_kept tree.no_term sort q p f g e h =
    ap (option_map products.Over) (term_kept tree.no_term sort p f g e h)
    ∙ subst (IsCarriedOut (levels.level_with sort q p) g) (some_of products.Nothing p e) refl
after_kept (tree.multiplied t) sort q p f g e h =
    pending_case (levels.level_with sort q p) g (term_value t sort) (factor_value f Whole) p e h
after_kept (tree.divided t) sort q p f g e h =
    ap (option_map products.Over) (term_kept (tree.divided t) sort p f g e h)
    ∙ carried_out_of (levels.level_with sort q p) g t sort p e

operator_steps : (u : Unfinished) (us : List Unfinished) (q : lead.Lead) (p : product.Product) (ls : List Level) (f : Factor) (g : Glue) (o : operator.Operator) → Keeps u us q p ls
    → factor_value f (tree.factor_sort u) ≡ Some g → Holds (before (tree.with_operator u f o) us) (step_operator (level_of u q p) g ls o)
operator_steps u us q p ls f g operators.Plus k e =
    plus_case u us q p ls (sum_of u f) (steps.whole_of (level_of u q p) g) k (whole_is u us q p ls f g k e)
operator_steps u us q p ls f g operators.Minus k e =
    minus_case u us q p ls (sum_of u f) (steps.whole_of (level_of u q p) g) k (whole_is u us q p ls f g k e)
operator_steps u us q p ls f g operators.Times k e =
    times_case u us q p ls (tree.term_with u.product f) (steps.term_of (level_of u q p) g) k (term_is u us q p ls f g k e)
operator_steps u us q p ls f g operators.Over k e =
    let P : Option Level → Type 0 = λ w. Holds (before (tree.with_operator u f operators.Over) us) (OnLevel ls w) in
    subst P (divided_is p (level_of u q p) g)
    (over_case u us q p ls (tree.term_with u.product f) (product_after p (level_of u q p) g) k (after_kept u.product u.sort q p f g k.product e))

-- ---- all steps

-- a token that is neither blank nor operator
abbrev IsBound : Mark → Type 0
IsBound mark.Blank = ⊥
IsBound (mark.Operator o) = ⊥
IsBound mark.Open = ⊤
IsBound mark.Close = ⊤
IsBound mark.Relax = ⊤
IsBound mark.Other = ⊤

alone_steps : (u : Unfinished) (q : lead.Lead) (p : product.Product) (f : Factor) (g : Glue) (m : Mark) → Keeps u [] q p []
    → factor_value f (tree.factor_sort u) ≡ Some g → IsBound m → Holds (read_behind u [] f m) (step_bound (level_of u q p) [] g m)
alone_steps u q p f g mark.Blank k e b = absurd b
alone_steps u q p f g (mark.Operator o) k e b = absurd b
alone_steps u q p f g mark.Open k e b = end_steps u q p f g mark.Open k e
alone_steps u q p f g mark.Close k e b = end_steps u q p f g mark.Close k e
alone_steps u q p f g mark.Relax k e b = end_steps u q p f g mark.Relax k e
alone_steps u q p f g mark.Other k e b = end_steps u q p f g mark.Other k e

inner_steps : (u o : Unfinished) (us : List Unfinished) (q r : lead.Lead) (p t : product.Product) (ls ms : List Level) (f : Factor) (g : Glue) (m : Mark)
    → Keeps u (o ∷ us) q p ls → Keeps o us r t ms → factor_value f (tree.factor_sort u) ≡ Some g → IsBound m
    → Holds (read_behind u (o ∷ us) f m) (step_bound (level_of u q p) (level_of o r t ∷ ms) g m)
inner_steps u o us q r p t ls ms f g mark.Blank k outside e b = absurd b
inner_steps u o us q r p t ls ms f g (mark.Operator x) k outside e b = absurd b
inner_steps u o us q r p t ls ms f g mark.Open k outside e b = (refl, tt)
inner_steps u o us q r p t ls ms f g mark.Close k outside e b = close_steps u o us q r p t ls ms f g k outside e
inner_steps u o us q r p t ls ms f g mark.Relax k outside e b = (refl, tt)
inner_steps u o us q r p t ls ms f g mark.Other k outside e b = (refl, tt)

bound_steps : (u : Unfinished) (us : List Unfinished) (q : lead.Lead) (p : product.Product) (ls : List Level) (f : Factor) (g : Glue) (m : Mark) → Keeps u us q p ls
    → factor_value f (tree.factor_sort u) ≡ Some g → IsBound m → Holds (read_behind u us f m) (step_bound (level_of u q p) ls g m)
bound_steps u [] q p ls f g m k e b =
    let same : [] ≡ ls = some_of [] ls k.outside in
    let P : List Level → Type 0 = λ x. Keeps u [] q p x → Holds (read_behind u [] f m) (step_bound (level_of u q p) x g m) in
    subst P same (λ at_end. alone_steps u q p f g m at_end e b) k
bound_steps u (o ∷ us) q p ls f g m k e b =
    let r = outside_of o us ls k.nested.1 k.outside in
    let P : List Level → Type 0 = λ x. Keeps u (o ∷ us) q p x → Holds (read_behind u (o ∷ us) f m) (step_bound (level_of u q p) x g m) in
    subst P r.levels_are (λ inside. inner_steps u o us q r.q p r.p (level_of o r.q r.p ∷ r.ms) r.ms f g m inside r.keeps e b) k

behind_steps : (u : Unfinished) (us : List Unfinished) (q : lead.Lead) (p : product.Product) (ls : List Level) (f : Factor) (g : Glue) (m : Mark) → Keeps u us q p ls
    → factor_value f (tree.factor_sort u) ≡ Some g → Holds (read_behind u us f m) (step_behind (level_of u q p) ls g m)
behind_steps u us q p ls f g mark.Blank k e = behind_holds u us q p ls f g k e
behind_steps u us q p ls f g (mark.Operator o) k e = operator_steps u us q p ls f g o k e
behind_steps u us q p ls f g mark.Open k e = bound_steps u us q p ls f g mark.Open k e tt
behind_steps u us q p ls f g mark.Close k e = bound_steps u us q p ls f g mark.Close k e tt
behind_steps u us q p ls f g mark.Relax k e = bound_steps u us q p ls f g mark.Relax k e tt
behind_steps u us q p ls f g mark.Other k e = bound_steps u us q p ls f g mark.Other k e tt

step_before_at : (u : Unfinished) (us : List Unfinished) (s : State) (m : Mark) → Parts u us Operand s → Holds (read_before u us m) (step_of s m)
step_before_at u us s m x =
    let P : State → Type 0 = λ y. Holds (read_before u us m) (step_of y m) in
    subst P x.state_is (before_steps u us x.q x.p x.ls x.keeps m)

step_behind_at : (u : Unfinished) (us : List Unfinished) (s : State) (f : Factor) (g : Glue) (m : Mark) → factor_value f (tree.factor_sort u) ≡ Some g → Parts u us (Behind g) s → Holds (read_behind u us f m) (step_of s m)
step_behind_at u us s f g m e x =
    let P : State → Type 0 = λ y. Holds (read_behind u us f m) (step_of y m) in
    subst P x.state_is (behind_steps u us x.q x.p x.ls f g m x.keeps e)

not_begun : (u : Unfinished) (us : List Unfinished) (s : State) → Parts u us Begun s → WantsToken s → ⊥
not_begun u us s x h =
    let P : State → Type 0 = λ y. IsForToken y.place in subst P (sym x.state_is) h

behind_value : (u : Unfinished) (us : List Unfinished) (s : State) (f : Factor) (m : Mark) (v : Option Glue) → factor_value f (tree.factor_sort u) ≡ v → AreNested u us
    → option_and_then (λ g. levels_kept u us (Behind g)) v ≡ Some s → Holds (read_behind u us f m) (step_of s m)
behind_value u us s f m None h n e = cc
behind_value u us s f m (Some g) h n e = step_behind_at u us s f g m h (parts_of_kept u us (Behind g) s n e)

-- a token
pub step_holds : (r : Reading) (s : State) (m : Mark) → kept r ≡ Some s → IsNested r → WantsToken s → Holds (read r (Said m)) (step_of s m)
step_holds (before u us) s m e n h = step_before_at u us s m (parts_of_kept u us Operand s n e)
step_holds (begun u us k) s m e n h = absurd (not_begun u us s (parts_of_kept u us Begun s n e) h)
step_holds (behind u us f) s m e n h = behind_value u us s f m (factor_value f (tree.factor_sort u)) refl n e
step_holds (end sort t k) s m e n h = cc
step_holds (unclosed u o us f k) s m e n h = cc
step_holds (mixed u us k v) s m e n h = cc
step_holds nothing s m e n h = cc

-- ---- answers

chosen : (b a : Bool) (x y : Reading) (s t : Step) → IsTrue (a || b) → Holds x s → Holds y t → Holds (if b then x else (if a then y else nothing)) (if b then s else t)
chosen true a x y s t h first second = first
chosen false true x y s t h first second = second
chosen false false x y s t h first second = cc

answer_steps : (u : Unfinished) (us : List Unfinished) (q : lead.Lead) (p : product.Product) (ls : List Level) (m : Mark) (n : Number) → Keeps u us q p ls
    → IsAnswer (state_of (level_of u q p) ls Begun) n → Holds (read_value u us m n) (steps.step_answer (state_of (level_of u q p) ls Begun) n)
answer_steps u us q p ls m n k =
    let P : Sort → Type 0 = λ s. IsTrue (is_of_phrase (phrase_of s) n || is_mixed (phrase_of s) n)
    → Holds (read_value u us m n) (if is_mixed (phrase_of s) n then stops (Trouble IncompatibleGlue) else goes (state_of (level_of u q p) ls (Behind (parts_of n)))) in
    subst P (sort_kept u.product u.sort p k.product)
    (λ h. chosen (is_mixed (phrase_of (tree.factor_sort u)) n) (is_of_phrase (phrase_of (tree.factor_sort u)) n) (mixed u us m n) (behind u us (operand m n))
    (stops (Trouble IncompatibleGlue)) (goes (state_of (level_of u q p) ls (Behind (parts_of n)))) h (refl, tt)
    (behind_holds u us q p ls (operand m n) (parts_of n) k refl))

answer_at : (u : Unfinished) (us : List Unfinished) (s : State) (m : Mark) (n : Number) → Parts u us Begun s → IsAnswer s n → Holds (read_value u us m n) (steps.step_answer s n)
answer_at u us s m n x =
    let P : State → Type 0 = λ y. IsAnswer y n → Holds (read_value u us m n) (steps.step_answer y n) in
    subst P x.state_is (answer_steps u us x.q x.p x.ls m n x.keeps)

not_waiting : (u : Unfinished) (us : List Unfinished) (place : Place) (s : State) → Parts u us place s → WantsAnswer s → IsForAnswer place
not_waiting u us place s x h =
    let P : State → Type 0 = λ y. IsForAnswer y.place in subst P (sym x.state_is) h

behind_not_waiting : (u : Unfinished) (us : List Unfinished) (s : State) (v : Option Glue) → AreNested u us
    → option_and_then (λ g. levels_kept u us (Behind g)) v ≡ Some s → WantsAnswer s → ⊥
behind_not_waiting u us s None n e h = cc
behind_not_waiting u us s (Some g) n e h = not_waiting u us (Behind g) s (parts_of_kept u us (Behind g) s n e) h

-- the value of an operand
pub answer_holds : (r : Reading) (s : State) (n : Number) → kept r ≡ Some s → IsNested r → WantsAnswer s → IsAnswer s n → Holds (read r (Value n)) (steps.step_answer s n)
answer_holds (before u us) s n e d h a = absurd (not_waiting u us Operand s (parts_of_kept u us Operand s d e) h)
answer_holds (begun u us m) s n e d h a = answer_at u us s m n (parts_of_kept u us Begun s d e) a
answer_holds (behind u us f) s n e d h a = absurd (behind_not_waiting u us s (factor_value f (tree.factor_sort u)) d e h)
answer_holds (end sort t k) s n e d h a = cc
answer_holds (unclosed u o us f k) s n e d h a = cc
answer_holds (mixed u us k v) s n e d h a = cc
answer_holds nothing s n e d h a = cc

-- ---- what the calls promise

last_stands : (v : Verdict) (s : State) (sort : Sort) (taken : List Taken) → IsLast v → StandsUnlessEnded v s sort taken
last_stands (Done n) s sort taken h = tt
last_stands (DoneBefore n back) s sort taken h = tt
last_stands (Trouble kind) s sort taken h = tt
last_stands Need s sort taken h = absurd h
last_stands (Ask q) s sort taken h = absurd h
last_stands (Sub p) s sort taken h = absurd h
last_stands (Pass kind back) s sort taken h = absurd h

stands_where : (r : Reading) (s : State) (sort : Sort) (taken : List Taken) → reading sort taken ≡ r → kept r ≡ Some s → IsNested r → Stands s sort taken
stands_where r s sort taken e k n = record { kept_is = ap kept e ∙ k; nested = subst IsNested (sym e) n }

says_of : (r : Reading) (step : Step) (v : Verdict) (new : State) (sort : Sort) (taken : List Taken) → reading sort taken ≡ r → Holds r step → steps.Did step v new → Says v new sort taken
says_of r (goes s) v new sort taken e h d =
    let V : Verdict → Type 0 = λ x. Says x new sort taken in
    let S : State → Type 0 = λ x. Says Need x sort taken in
    subst V (sym d.0) (subst S (sym d.1)
    (record { verdict_is = ap wanted_behind e ∙ h.0; stands = stands_where r s sort taken e h.1 h.2 }))
says_of r (asks s k) v new sort taken e h d =
    let V : Verdict → Type 0 = λ x. Says x new sort taken in
    let S : State → Type 0 = λ x. Says (Sub (phrase_of k)) x sort taken in
    subst V (sym d.0) (subst S (sym d.1)
    (record { verdict_is = ap wanted_behind e ∙ h.0; stands = stands_where r s sort taken e h.1 h.2 }))
says_of r (stops w) v new sort taken e h d =
    let V : Verdict → Type 0 = λ x. Says x new sort taken in
    subst V (sym d.0) (record { verdict_is = ap wanted_behind e ∙ h.0; stands = last_stands w new sort taken h.1 })

read_all-snoc : (r : Reading) (taken : List Taken) (x : Taken) → read_all r (taken ++ x ∷ []) ≡ read_next (read_all r taken) x
read_all-snoc r [] x = refl
read_all-snoc r (y ∷ more) x = read_all-snoc (read_next r y) more x

pub take_says : (old new : State) (v : Verdict) (t : Token) (m : Meaning) → WantsToken old → steps.Did (step_of old (mark_of t m)) v new
    → (sort : Sort) (taken : List Taken) → Stands old sort taken → Says v new sort (taken ++ Seen t m ∷ [])
take_says old new v t m w d sort taken h =
    says_of (read (reading sort taken) (Said (mark_of t m))) (step_of old (mark_of t m)) v new sort (taken ++ Seen t m ∷ [])
    (read_all-snoc (before (fresh sort) []) taken (Seen t m)) (step_holds (reading sort taken) old (mark_of t m) h.kept_is h.nested w) d

pub answer_says : (old new : State) (v : Verdict) (n : Number) → WantsAnswer old → IsAnswer old n → steps.Did (steps.step_answer old n) v new
    → (sort : Sort) (taken : List Taken) → Stands old sort taken → Says v new sort (taken ++ Told n ∷ [])
answer_says old new v n w a d sort taken h =
    says_of (read (reading sort taken) (Value n)) (steps.step_answer old n) v new sort (taken ++ Told n ∷ [])
    (read_all-snoc (before (fresh sort) []) taken (Told n)) (answer_holds (reading sort taken) old n h.kept_is h.nested w a) d

-- ---- what may be handed in next

abbrev StepIsReady : Step → Type 0
StepIsReady (goes s) = WantsToken s
StepIsReady (asks s k) = WantsAnswer s × (k ≡ levels.factor_sort s.level)
StepIsReady (stops v) = IsLast v

last_is_ready : (v : Verdict) (s : State) → IsLast v → IsReady v s
last_is_ready (Done n) s h = tt
last_is_ready (DoneBefore n back) s h = tt
last_is_ready (Trouble kind) s h = tt
last_is_ready Need s h = absurd h
last_is_ready (Ask q) s h = absurd h
last_is_ready (Sub p) s h = absurd h
last_is_ready (Pass kind back) s h = absurd h

ready_of : (step : Step) (v : Verdict) (new : State) → StepIsReady step → steps.Did step v new → IsReady v new
ready_of (goes s) v new h d =
    let V : Verdict → Type 0 = λ x. IsReady x new in
    subst V (sym d.0) (subst WantsToken (sym d.1) h)
ready_of (asks s k) v new h d =
    let V : Verdict → Type 0 = λ x. IsReady x new in
    let S : State → Type 0 = λ x. IsReady (Sub (phrase_of k)) x in
    subst V (sym d.0) (subst S (sym d.1) (h.0, ap phrase_of h.1))
ready_of (stops w) v new h d =
    let V : Verdict → Type 0 = λ x. IsReady x new in
    subst V (sym d.0) (last_is_ready w new h)

ready_step : {A : Type 0} → (f : A → Step) (w : Option A) → ((a : A) → StepIsReady (f a)) → StepIsReady (option_map_or f w (stops overflow))
ready_step f None h = tt
ready_step f (Some a) h = h a

bound_ready : (l : Level) (ls : List Level) (g : Glue) (m : Mark) → StepIsReady (step_bound l ls g m)
bound_ready l [] g m = last_of l.sort m (steps.whole_of l g)
bound_ready l (o ∷ ls) g mark.Close = ready_step (λ v. goes (state_of o ls (Behind v))) (steps.whole_of l g) (λ a. tt)
bound_ready l (o ∷ ls) g mark.Blank = tt
bound_ready l (o ∷ ls) g mark.Open = tt
bound_ready l (o ∷ ls) g (mark.Operator x) = tt
bound_ready l (o ∷ ls) g mark.Relax = tt
bound_ready l (o ∷ ls) g mark.Other = tt

behind_ready : (l : Level) (ls : List Level) (g : Glue) (m : Mark) → StepIsReady (step_behind l ls g m)
behind_ready l ls g mark.Blank = tt
behind_ready l ls g (mark.Operator o) = ready_step (λ n. goes (state_of n ls Operand)) (steps.with_operator l g o) (λ a. tt)
behind_ready l ls g mark.Open = bound_ready l ls g mark.Open
behind_ready l ls g mark.Close = bound_ready l ls g mark.Close
behind_ready l ls g mark.Relax = bound_ready l ls g mark.Relax
behind_ready l ls g mark.Other = bound_ready l ls g mark.Other

before_ready : (l : Level) (ls : List Level) (m : Mark) → StepIsReady (step_before l ls m)
before_ready l ls mark.Blank = tt
before_ready l ls mark.Open = tt
before_ready l ls mark.Close = (tt, refl)
before_ready l ls (mark.Operator o) = (tt, refl)
before_ready l ls mark.Relax = (tt, refl)
before_ready l ls mark.Other = (tt, refl)

at_ready : (l : Level) (ls : List Level) (p : Place) (m : Mark) → IsForToken p → StepIsReady (step_at l ls p m)
at_ready l ls Operand m h = before_ready l ls m
at_ready l ls Begun m h = absurd h
at_ready l ls (Behind g) m h = behind_ready l ls g m
at_ready l ls Ended m h = absurd h

pub take_ready : (old new : State) (v : Verdict) (m : Mark) → WantsToken old → steps.Did (step_of old m) v new → IsReady v new
take_ready old new v m h d = ready_of (step_of old m) v new (at_ready old.level old.outer old.place m h) d

-- ---- the same of a result

pub take_value : (r : Result Verdict AllocError) (old new : State) (k : Mark) (t : Token) (m : Meaning) → k ≡ mark_of t m → WantsToken old
    → IfOk r (λ v. steps.Did (step_of old k) v new)
    → IfOk r (λ v. (sort : Sort) (taken : List Taken) → Stands old sort taken → Says v new sort (taken ++ Seen t m ∷ []))
take_value (Ok v) old new k t m e w d =
    let P : Mark → Type 0 = λ x. steps.Did (step_of old x) v new in
    take_says old new v t m w (subst P e d)
take_value (Err x) old new k t m e w d = tt

pub take_is_ready : (r : Result Verdict AllocError) (old new : State) (k : Mark) → WantsToken old
    → IfOk r (λ v. steps.Did (step_of old k) v new) → IfOk r (λ v. IsReady v new)
take_is_ready (Ok v) old new k w d = take_ready old new v k w d
take_is_ready (Err x) old new k w d = tt
