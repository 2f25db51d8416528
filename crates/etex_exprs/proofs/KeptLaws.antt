-- What is kept by values goes on as the trees do.
use Rattle.std.proofs.Common.{◌≡◌, ℕ, Bool, true, false, ◌&&◌, ℤ, pos, List, [], ◌∷◌, ◌++◌, Option, Some, None, option_and_then, refl, sym, ap, subst, ◌∙◌, if◌then◌else◌}
use Rattle.std.specs.Prelude.{⊤}
use Rattle.std.specs.Option.{option_map, option_map_or, is_some}
use Rattle.scaled.specs.declared.spacing.Glue.{Glue}
use Rattle.etex_exprs.specs.declared.sort.Sort.{Sort}
use Rattle.etex_exprs.specs.declared.sort.Sort.TheVariants.{Whole}
use Rattle.etex_exprs.specs.declared.level.Lead as lead
use Rattle.etex_exprs.specs.declared.level.Lead.TheVariants as leads
use Rattle.etex_exprs.specs.declared.level.Product as product
use Rattle.etex_exprs.specs.declared.level.Product.TheVariants as products
use Rattle.etex_exprs.specs.declared.level.Level.{Level}
use Rattle.etex_exprs.specs.TermTreeParts.{bound_of, multiplied, divided, scaled_by, glue_sum, glue_difference, checked}
use Rattle.etex_exprs.specs.TermTree.{Sum, Term, single, times, over, Factor, of_both, of_three, sum_value, term_value, factor_value, whole_value}
use Rattle.etex_exprs.specs.TermTreeReading as tree
use Rattle.etex_exprs.specs.TermTreeReading.{Front, no_sum, added, subtracted, no_term, Unfinished, has_front, has_product, has_values, all_have_values, factor_sort_behind, term_with}
use Rattle.etex_exprs.specs.Levels as levels
use Rattle.etex_exprs.specs.Steps as steps
use Rattle.etex_exprs.specs.Standing.{front_kept, product_kept, level_kept, outer_kept}

-- ---- values that are there

pub some_of : {A : Type 0} → (x y : A) → Some x ≡ Some y → x ≡ y
some_of x y e = cc

and_then-Some : {A : Type 0} → (v : Option A) → option_and_then Some v ≡ v
and_then-Some None = refl
and_then-Some (Some x) = refl

pub is_some-along : {A : Type 0} → (v : Option A) (x : A) → v ≡ Some x → is_some v ≡ true
is_some-along v x e = ap is_some e

is_some-map : {A B : Type 0} → (f : A → B) (v : Option A) → is_some (option_map f v) ≡ is_some v
is_some-map f None = refl
is_some-map f (Some x) = refl

-- ---- sums

added_case : (b : ℤ) (s t : Option Glue) (l : lead.Lead) → option_map leads.Plus s ≡ Some l → of_both (glue_sum b) s t ≡ option_and_then (steps.sum_with b l) t
added_case b None t l e = cc
added_case b (Some x) t l e =
    let P : lead.Lead → Type 0 = λ k. option_and_then (glue_sum b x) t ≡ option_and_then (steps.sum_with b k) t in
    subst P (some_of (leads.Plus x) l e) refl

subtracted_case : (b : ℤ) (s t : Option Glue) (l : lead.Lead) → option_map leads.Minus s ≡ Some l → of_both (glue_difference b) s t ≡ option_and_then (steps.sum_with b l) t
subtracted_case b None t l e = cc
subtracted_case b (Some x) t l e =
    let P : lead.Lead → Type 0 = λ k. option_and_then (glue_difference b x) t ≡ option_and_then (steps.sum_with b k) t in
    subst P (some_of (leads.Minus x) l e) refl

first_case : (b : ℤ) (t : Option Glue) (l : lead.Lead) → Some leads.Nothing ≡ Some l → t ≡ option_and_then (steps.sum_with b l) t
first_case b t l e =
    let P : lead.Lead → Type 0 = λ k. t ≡ option_and_then (steps.sum_with b k) t in
    subst P (some_of leads.Nothing l e) (sym (and_then-Some t))

-- the sum with one more term
pub sum_kept : (f : Front) (sort : Sort) (l : lead.Lead) (t : Term) → front_kept f sort ≡ Some l → sum_value (tree.sum_with f t) sort ≡ option_and_then (steps.sum_with (bound_of sort) l) (term_value t sort)
sum_kept no_sum sort l t e = first_case (bound_of sort) (term_value t sort) l e
sum_kept (added s) sort l t e = added_case (bound_of sort) (sum_value s sort) (term_value t sort) l e
sum_kept (subtracted s) sort l t e = subtracted_case (bound_of sort) (sum_value s sort) (term_value t sort) l e

-- ---- terms

-- the value of a term with one more factor
abbrev Goes : Sort → product.Product → Option Glue → Glue → Type 0
Goes sort q v g = v ≡ option_and_then (steps.product_with (bound_of sort) q) (checked (bound_of (levels.sort_behind q sort)) g)

single_case : (sort : Sort) (f : Option Glue) (q : product.Product) (g : Glue) → Some products.Nothing ≡ Some q → f ≡ Some g → Goes sort q (option_and_then (checked (bound_of sort)) f) g
single_case sort f q g e h =
    let P : product.Product → Type 0 = λ k. Goes sort k (option_and_then (checked (bound_of sort)) f) g in
    subst P (some_of products.Nothing q e)
    (ap (option_and_then (checked (bound_of sort))) h ∙ sym (and_then-Some (checked (bound_of sort) g)))

abbrev whole : Option Glue → Option Glue
whole f = option_and_then (checked (bound_of Whole)) f

times_case : (sort : Sort) (t f : Option Glue) (q : product.Product) (g : Glue) → option_map products.Times t ≡ Some q → f ≡ Some g → Goes sort q (of_both (λ g n. multiplied (bound_of sort) g n.width) t (whole f)) g
times_case sort None f q g e h = cc
times_case sort (Some x) f q g e h =
    let P : product.Product → Type 0 = λ k. Goes sort k (of_both (λ g n. multiplied (bound_of sort) g n.width) (Some x) (whole f)) g in
    subst P (some_of (products.Times x) q e)
    (ap (λ v. of_both (λ g n. multiplied (bound_of sort) g n.width) (Some x) (whole v)) h)

over_case : (sort : Sort) (t f : Option Glue) (q : product.Product) (g : Glue) → option_map products.Over t ≡ Some q → f ≡ Some g → Goes sort q (of_both (λ g n. divided (bound_of sort) g n.width) t (whole f)) g
over_case sort None f q g e h = cc
over_case sort (Some x) f q g e h =
    let P : product.Product → Type 0 = λ k. Goes sort k (of_both (λ g n. divided (bound_of sort) g n.width) (Some x) (whole f)) g in
    subst P (some_of (products.Over x) q e)
    (ap (λ v. of_both (λ g n. divided (bound_of sort) g n.width) (Some x) (whole v)) h)

fraction_case : (sort : Sort) (t n f : Option Glue) (q : product.Product) (g : Glue) → option_and_then (λ x. option_map (λ y. products.Fraction x y.width) n) t ≡ Some q → f ≡ Some g → Goes sort q (of_three (bound_of sort) t n (whole f)) g
fraction_case sort None n f q g e h = cc
fraction_case sort (Some x) None f q g e h = cc
fraction_case sort (Some x) (Some y) f q g e h =
    let P : product.Product → Type 0 = λ k. Goes sort k (of_three (bound_of sort) (Some x) (Some y) (whole f)) g in
    subst P (some_of (products.Fraction x y.width) q e)
    (ap (λ v. of_three (bound_of sort) (Some x) (Some y) (whole v)) h)

pub term_kept : (p : tree.Product) (sort : Sort) (q : product.Product) (f : Factor) (g : Glue) → product_kept p sort ≡ Some q → factor_value f (factor_sort_behind p sort) ≡ Some g → Goes sort q (term_value (term_with p f) sort) g
term_kept no_term sort q f g e h = single_case sort (factor_value f sort) q g e h
term_kept (tree.multiplied t) sort q f g e h = times_case sort (term_value t sort) (factor_value f Whole) q g e h
term_kept (tree.divided (times t n)) sort q f g e h =
    fraction_case sort (term_value t sort) (whole_value n) (factor_value f Whole) q g e h
term_kept (tree.divided (single n)) sort q f g e h =
    over_case sort (term_value (single n) sort) (factor_value f Whole) q g e h
term_kept (tree.divided (over t n)) sort q f g e h =
    over_case sort (term_value (over t n) sort) (factor_value f Whole) q g e h

-- ---- which values are there

pub is_some-front_kept : (f : Front) (sort : Sort) → is_some (front_kept f sort) ≡ has_front f sort
is_some-front_kept no_sum sort = refl
is_some-front_kept (added s) sort = is_some-map leads.Plus (sum_value s sort)
is_some-front_kept (subtracted s) sort = is_some-map leads.Minus (sum_value s sort)

fraction_there : (t n : Option Glue) → is_some (option_and_then (λ x. option_map (λ y. products.Fraction x y.width) n) t) ≡ (is_some t && is_some n)
fraction_there None n = refl
fraction_there (Some x) None = refl
fraction_there (Some x) (Some y) = refl

pub is_some-product_kept : (p : tree.Product) (sort : Sort) → is_some (product_kept p sort) ≡ has_product p sort
is_some-product_kept no_term sort = refl
is_some-product_kept (tree.multiplied t) sort = is_some-map products.Times (term_value t sort)
is_some-product_kept (tree.divided (times t n)) sort = fraction_there (term_value t sort) (whole_value n)
is_some-product_kept (tree.divided (single n)) sort = is_some-map products.Over (term_value (single n) sort)
is_some-product_kept (tree.divided (over t n)) sort = is_some-map products.Over (term_value (over t n) sort)

both_there : {A B C : Type 0} → (f : A → B → C) (x : Option A) (y : Option B) → is_some (option_and_then (λ a. option_map (f a) y) x) ≡ (is_some x && is_some y)
both_there f None y = refl
both_there f (Some a) None = refl
both_there f (Some a) (Some b) = refl

pub is_some-level_kept : (u : Unfinished) → is_some (level_kept u) ≡ has_values u
is_some-level_kept u =
    let both = both_there (λ (l : lead.Lead) (p : product.Product). levels.level_with u.sort l p) (front_kept u.front u.sort) (product_kept u.product u.sort) in
    both ∙ (ap (λ b. b && is_some (product_kept u.product u.sort)) (is_some-front_kept u.front u.sort)
    ∙ ap (λ b. has_front u.front u.sort && b) (is_some-product_kept u.product u.sort))

pub is_some-outer_kept : (us : List Unfinished) → is_some (outer_kept us) ≡ all_have_values us
is_some-outer_kept [] = refl
is_some-outer_kept (u ∷ us) =
    let both = both_there (λ (l : Level) (ls : List Level). l ∷ ls) (level_kept u) (outer_kept us) in
    both ∙ (ap (λ b. b && is_some (outer_kept us)) (is_some-level_kept u)
    ∙ ap (λ b. has_values u && b) (is_some-outer_kept us))

-- ---- the sort of the next factor

sort_from_times : (sort : Sort) (t : Option Glue) (q : product.Product) → option_map products.Times t ≡ Some q → Whole ≡ levels.sort_behind q sort
sort_from_times sort None q e = cc
sort_from_times sort (Some x) q e = ap (λ k. levels.sort_behind k sort) (some_of (products.Times x) q e)

sort_from_over : (sort : Sort) (t : Option Glue) (q : product.Product) → option_map products.Over t ≡ Some q → Whole ≡ levels.sort_behind q sort
sort_from_over sort None q e = cc
sort_from_over sort (Some x) q e = ap (λ k. levels.sort_behind k sort) (some_of (products.Over x) q e)

sort_from_fraction : (sort : Sort) (t n : Option Glue) (q : product.Product) → option_and_then (λ x. option_map (λ y. products.Fraction x y.width) n) t ≡ Some q → Whole ≡ levels.sort_behind q sort
sort_from_fraction sort None n q e = cc
sort_from_fraction sort (Some x) None q e = cc
sort_from_fraction sort (Some x) (Some y) q e = ap (λ k. levels.sort_behind k sort) (some_of (products.Fraction x y.width) q e)

pub sort_kept : (p : tree.Product) (sort : Sort) (q : product.Product) → product_kept p sort ≡ Some q → factor_sort_behind p sort ≡ levels.sort_behind q sort
sort_kept no_term sort q e = ap (λ k. levels.sort_behind k sort) (some_of products.Nothing q e)
sort_kept (tree.multiplied t) sort q e = sort_from_times sort (term_value t sort) q e
sort_kept (tree.divided (times t n)) sort q e = sort_from_fraction sort (term_value t sort) (whole_value n) q e
sort_kept (tree.divided (single n)) sort q e = sort_from_over sort (term_value (single n) sort) q e
sort_kept (tree.divided (over t n)) sort q e = sort_from_over sort (term_value (over t n) sort) q e
