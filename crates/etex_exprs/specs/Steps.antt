-- How the automaton goes on, by values in place of trees. Only clauses of private functions speak of it: they cut the
-- proof in two. What the public calls answer is said by the trees alone (TermTreeReading.antt, Standing.antt).
use Rattle.std.specs.Prelude.{◌≡◌, ℕ, Bool, true, false, ℤ, pos, List, [], ◌∷◌, Option, Some, None, option_and_then, if◌then◌else◌}
use Rattle.std.specs.Option.{option_map, option_map_or}
use Rattle.scaled.specs.declared.spacing.Glue.{Glue}
use Rattle.tokens.specs.declared.kind.Kind.TheVariants.{ArithOverflow, MissingParenthesis, IncompatibleGlue}
use Rattle.scan_nums.specs.declared.number.Number.{Number}
use Rattle.scan_nums.specs.declared.verdict.Verdict.{Verdict}
use Rattle.scan_nums.specs.declared.verdict.Verdict.TheVariants.{Need, Sub, Done, DoneBefore, Trouble}
use Rattle.etex_exprs.specs.declared.sort.Sort.{Sort}
use Rattle.etex_exprs.specs.declared.sort.Sort.TheVariants.{Whole, Length, Spread, MuSpread}
use Rattle.etex_exprs.specs.declared.mark.Operator as operator
use Rattle.etex_exprs.specs.declared.mark.Operator.TheVariants as operators
use Rattle.etex_exprs.specs.declared.mark.Mark.{Mark}
use Rattle.etex_exprs.specs.declared.mark.Mark.TheVariants as mark
use Rattle.etex_exprs.specs.declared.level.Lead as lead
use Rattle.etex_exprs.specs.declared.level.Lead.TheVariants as leads
use Rattle.etex_exprs.specs.declared.level.Product as product
use Rattle.etex_exprs.specs.declared.level.Product.TheVariants as products
use Rattle.etex_exprs.specs.declared.level.Level.{Level}
use Rattle.etex_exprs.specs.declared.place.Place.{Place}
use Rattle.etex_exprs.specs.declared.place.Place.TheVariants.{Operand, Begun, Behind, Ended}
use Rattle.etex_exprs.specs.Levels.{State, factor_sort}
use Rattle.etex_exprs.specs.TermTreeReading.{ended, overflow}
use Rattle.etex_exprs.specs.TermTreeParts.{phrase_of, bound_of, parts_of, number_of, multiplied, divided, scaled_by, glue_sum, glue_difference, checked, is_mixed}

abbrev pub start_level : Sort → Level
start_level sort = record { sort = sort; lead = leads.Nothing; product = products.Nothing }

-- the product with one more factor
abbrev pub product_with : ℤ → product.Product → Glue → Option Glue
product_with bound products.Nothing g = Some g
product_with bound (products.Times t) g = multiplied bound t g.width
product_with bound (products.Over t) g = divided bound t g.width
product_with bound (products.Fraction t n) g = scaled_by bound t n g.width

abbrev pub carried_out : Level → Glue → Option Glue
carried_out l g = product_with (bound_of l.sort) l.product g

abbrev pub term_of : Level → Glue → Option Glue
term_of l g = option_and_then (carried_out l) (checked (bound_of (factor_sort l)) g)

-- the sum with one more term
abbrev pub sum_with : ℤ → lead.Lead → Glue → Option Glue
sum_with bound leads.Nothing g = Some g
sum_with bound (leads.Plus s) g = glue_sum bound s g
sum_with bound (leads.Minus s) g = glue_difference bound s g

abbrev pub joined : Level → Glue → Option Glue
joined l g = sum_with (bound_of l.sort) l.lead g

abbrev pub whole_of : Level → Glue → Option Glue
whole_of l g = option_and_then (joined l) (term_of l g)

abbrev pub with_sum : Level → lead.Lead → Level
with_sum l s = record { sort = l.sort; lead = s; product = products.Nothing }

abbrev pub with_product : Level → product.Product → Level
with_product l p = record { sort = l.sort; lead = l.lead; product = p }

-- the level behind a factor and `/`: a product isn't carried out
abbrev pub divided_behind : product.Product → Level → Glue → Option Level
divided_behind (products.Times t) l g =
    option_map (λ h. with_product l (products.Fraction t h.width)) (checked (bound_of Whole) g)
divided_behind products.Nothing l g = option_map (λ t. with_product l (products.Over t)) (term_of l g)
divided_behind (products.Over _) l g = option_map (λ t. with_product l (products.Over t)) (term_of l g)
divided_behind (products.Fraction _ _) l g = option_map (λ t. with_product l (products.Over t)) (term_of l g)

abbrev pub divided_level : Level → Glue → Option Level
divided_level l g = divided_behind l.product l g

-- the level behind a factor and an operator
abbrev pub with_operator : Level → Glue → operator.Operator → Option Level
with_operator l g operators.Plus = option_map (λ s. with_sum l (leads.Plus s)) (whole_of l g)
with_operator l g operators.Minus = option_map (λ s. with_sum l (leads.Minus s)) (whole_of l g)
with_operator l g operators.Times = option_map (λ t. with_product l (products.Times t)) (term_of l g)
with_operator l g operators.Over = divided_level l g

-- ---- steps

-- a step takes the next token, asks for the operand that a token begins, or is the last with its verdict
pub data Step : Type 0 where
  goes : State → Step
  asks : State → Sort → Step
  stops : Verdict → Step

-- the verdict and the new state are the step's
abbrev pub Did : Step → Verdict → State → Type 0
Did (goes s) v new = (v ≡ Need) × (new ≡ s)
Did (asks s sort) v new = (v ≡ Sub (phrase_of sort)) × (new ≡ s)
Did (stops w) v new = (v ≡ w) × (new.place ≡ Ended)

abbrev pub state_of : Level → List Level → Place → State
state_of l ls p = record { level = l; outer = ls; place = p }

-- in front of an operand
abbrev pub step_before : Level → List Level → Mark → Step
step_before l ls mark.Blank = goes (state_of l ls Operand)
step_before l ls mark.Open = goes (state_of (start_level (factor_sort l)) (l ∷ ls) Operand)
step_before l ls mark.Close = asks (state_of l ls Begun) (factor_sort l)
step_before l ls (mark.Operator o) = asks (state_of l ls Begun) (factor_sort l)
step_before l ls mark.Relax = asks (state_of l ls Begun) (factor_sort l)
step_before l ls mark.Other = asks (state_of l ls Begun) (factor_sort l)

-- an expression ends
abbrev pub step_end : Level → Glue → Mark → Step
step_end l g m = stops (option_map_or (λ v. ended m (number_of l.sort v)) (whole_of l g) overflow)

-- a parenthesis ends
abbrev pub step_close : Level → Glue → Level → List Level → Step
step_close l g o ls = option_map_or (λ v. goes (state_of o ls (Behind v))) (whole_of l g) (stops overflow)

-- an operator
abbrev pub step_operator : Level → Glue → List Level → operator.Operator → Step
step_operator l g ls o = option_map_or (λ n. goes (state_of n ls Operand)) (with_operator l g o) (stops overflow)

-- behind a factor a token that is neither blank nor operator
abbrev pub step_bound : Level → List Level → Glue → Mark → Step
step_bound l [] g m = step_end l g m
step_bound l (o ∷ ls) g mark.Close = step_close l g o ls
step_bound l (o ∷ ls) g mark.Blank = stops (Trouble MissingParenthesis)
step_bound l (o ∷ ls) g mark.Open = stops (Trouble MissingParenthesis)
step_bound l (o ∷ ls) g (mark.Operator p) = stops (Trouble MissingParenthesis)
step_bound l (o ∷ ls) g mark.Relax = stops (Trouble MissingParenthesis)
step_bound l (o ∷ ls) g mark.Other = stops (Trouble MissingParenthesis)

-- behind a factor
abbrev pub step_behind : Level → List Level → Glue → Mark → Step
step_behind l ls g mark.Blank = goes (state_of l ls (Behind g))
step_behind l ls g (mark.Operator o) = step_operator l g ls o
step_behind l ls g mark.Open = step_bound l ls g mark.Open
step_behind l ls g mark.Close = step_bound l ls g mark.Close
step_behind l ls g mark.Relax = step_bound l ls g mark.Relax
step_behind l ls g mark.Other = step_bound l ls g mark.Other

-- a token, where one may be handed in
abbrev pub step_at : Level → List Level → Place → Mark → Step
step_at l ls Operand m = step_before l ls m
step_at l ls (Behind g) m = step_behind l ls g m
step_at l ls Begun m = stops overflow
step_at l ls Ended m = stops overflow

abbrev pub step_of : State → Mark → Step
step_of s m = step_at s.level s.outer s.place m

-- the value of an operand
abbrev pub step_answer : State → Number → Step
step_answer s n =
    if is_mixed (phrase_of (factor_sort s.level)) n then stops (Trouble IncompatibleGlue)
    else goes (state_of s.level s.outer (Behind (parts_of n)))
