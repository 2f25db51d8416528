-- What an automaton keeps, and for which lists of what was taken it stands.
use Rattle.std.specs.Prelude.{◌≡◌, ℕ, Bool, true, false, ℤ, pos, List, [], ◌∷◌, ⊤, Option, IsTrue, ◌||◌, Some, None, option_and_then, if◌then◌else◌}
use Rattle.std.specs.Option.{option_map, option_map_or}
use Rattle.scaled.specs.declared.spacing.Glue.{Glue}
use Rattle.tokens.specs.declared.token.Token.{Token}
use Rattle.tokens.specs.declared.meaning.Meaning.{Meaning}
use Rattle.tokens.specs.declared.kind.Kind.{Kind}
use Rattle.scan_nums.specs.declared.number.Number.{Number}
use Rattle.scan_nums.specs.declared.number.Quantity.{Quantity}
use Rattle.scan_nums.specs.declared.verdict.Phrase.{Phrase}
use Rattle.scan_nums.specs.declared.verdict.Phrase.TheVariants as phrase
use Rattle.scan_nums.specs.declared.verdict.Verdict.{Verdict}
use Rattle.scan_nums.specs.declared.verdict.Verdict.TheVariants.{Need, Ask, Sub, Done, DoneBefore, Trouble, Pass}
use Rattle.scan_nums.specs.Number.{is_of_phrase}
use Rattle.scan_nums.specs.Taken.{Taken}
use Rattle.etex_exprs.specs.declared.sort.Sort.{Sort}
use Rattle.etex_exprs.specs.declared.sort.Sort.TheVariants.{Whole, Length, Spread, MuSpread}
use Rattle.etex_exprs.specs.declared.level.Lead as lead
use Rattle.etex_exprs.specs.declared.level.Lead.TheVariants as leads
use Rattle.etex_exprs.specs.declared.level.Product as product
use Rattle.etex_exprs.specs.declared.level.Product.TheVariants as products
use Rattle.etex_exprs.specs.declared.level.Level.{Level}
use Rattle.etex_exprs.specs.declared.place.Place.{Place}
use Rattle.etex_exprs.specs.declared.place.Place.TheVariants.{Operand, Begun, Behind, Ended}
use Rattle.etex_exprs.specs.TermTreeParts.{phrase_of, bound_of, is_mixed}
use Rattle.etex_exprs.specs.TermTree.{Sum, Term, single, times, over, Factor, sum_value, term_value, factor_value, whole_value}
use Rattle.etex_exprs.specs.TermTreeReading as tree
use Rattle.etex_exprs.specs.Levels.{State, level_with, factor_sort}
use Rattle.etex_exprs.specs.TermTreeReading.{Front, no_sum, added, subtracted, no_term, multiplied, divided, Unfinished, Reading, before, begun, behind, end, unclosed, mixed, nothing, reading, wanted}

-- ---- trees by their values

abbrev pub front_kept : Front → Sort → Option lead.Lead
front_kept no_sum sort = Some leads.Nothing
front_kept (added s) sort = option_map leads.Plus (sum_value s sort)
front_kept (subtracted s) sort = option_map leads.Minus (sum_value s sort)

abbrev pub product_kept : tree.Product → Sort → Option product.Product
product_kept no_term sort = Some products.Nothing
product_kept (multiplied t) sort = option_map products.Times (term_value t sort)
product_kept (divided (times t n)) sort =
    option_and_then (λ g. option_map (λ h. products.Fraction g h.width) (whole_value n)) (term_value t sort)
product_kept (divided (single f)) sort = option_map products.Over (term_value (single f) sort)
product_kept (divided (over t n)) sort = option_map products.Over (term_value (over t n) sort)

abbrev pub level_kept : Unfinished → Option Level
level_kept u =
    option_and_then (λ l. option_map (λ p. level_with u.sort l p) (product_kept u.product u.sort))
    (front_kept u.front u.sort)

abbrev pub outer_kept : List Unfinished → Option (List Level)
outer_kept [] = Some []
outer_kept (u ∷ us) = option_and_then (λ l. option_map (λ ls. l ∷ ls) (outer_kept us)) (level_kept u)

abbrev pub levels_kept : Unfinished → List Unfinished → Place → Option State
levels_kept u us place =
    option_and_then (λ l. option_map (λ ls. record { level = l; outer = ls; place = place }) (outer_kept us)) (level_kept u)

-- what is kept of what was read; nothing of an expression that has ended
abbrev pub kept : Reading → Option State
kept (before u us) = levels_kept u us Operand
kept (begun u us m) = levels_kept u us Begun
kept (behind u us f) = option_and_then (λ g. levels_kept u us (Behind g)) (factor_value f (tree.factor_sort u))
kept (end sort s m) = None
kept (unclosed u o us f m) = None
kept (mixed u us m n) = None
kept nothing = None

-- ---- which lists an automaton stands for

-- an expression in parentheses is of the sort of the factor that it stands for
abbrev pub AreNested : Unfinished → List Unfinished → Type 0
AreNested u [] = ⊤
AreNested u (o ∷ us) = (u.sort ≡ tree.factor_sort o) × AreNested o us

abbrev pub IsNested : Reading → Type 0
IsNested (before u us) = AreNested u us
IsNested (begun u us m) = AreNested u us
IsNested (behind u us f) = AreNested u us
IsNested (end sort s m) = ⊤
IsNested (unclosed u o us f m) = ⊤
IsNested (mixed u us m n) = ⊤
IsNested nothing = ⊤

-- all this was taken by an automaton for this sort that has come to this state
pub record Stands (state : State) (sort : Sort) (taken : List Taken) : Type 0 where
  pub kept_is : kept (reading sort taken) ≡ Some state
  pub nested : IsNested (reading sort taken)

-- the automaton stands for the list, where it is not at its end
abbrev pub StandsUnlessEnded : Verdict → State → Sort → List Taken → Type 0
StandsUnlessEnded Need state sort taken = Stands state sort taken
StandsUnlessEnded (Sub p) state sort taken = Stands state sort taken
StandsUnlessEnded (Ask q) state sort taken = ⊥
StandsUnlessEnded (Done n) state sort taken = ⊤
StandsUnlessEnded (DoneBefore n back) state sort taken = ⊤
StandsUnlessEnded (Trouble kind) state sort taken = ⊤
StandsUnlessEnded (Pass kind back) state sort taken = ⊥

-- the verdict is what is wanted behind the list, and the automaton goes on as it
pub record Says (verdict : Verdict) (state : State) (sort : Sort) (taken : List Taken) : Type 0 where
  pub verdict_is : wanted sort taken ≡ Some verdict
  pub stands : StandsUnlessEnded verdict state sort taken

-- ---- when calls may be made

abbrev pub IsForToken : Place → Type 0
IsForToken Operand = ⊤
IsForToken Begun = ⊥
IsForToken (Behind g) = ⊤
IsForToken Ended = ⊥

abbrev pub IsForAnswer : Place → Type 0
IsForAnswer Operand = ⊥
IsForAnswer Begun = ⊤
IsForAnswer (Behind g) = ⊥
IsForAnswer Ended = ⊥

-- a token may be handed in: no verdict came yet, or the last one was Need
abbrev pub WantsToken : State → Type 0
WantsToken state = IsForToken state.place

-- an answer may be handed in: the last verdict was Sub
abbrev pub WantsAnswer : State → Type 0
WantsAnswer state = IsForAnswer state.place

-- the number is of the kind of the phrase that was asked for, or has the other units of glue
abbrev pub IsAnswer : State → Number → Type 0
IsAnswer state n =
    IsTrue (is_of_phrase (phrase_of (factor_sort state.level)) n || is_mixed (phrase_of (factor_sort state.level)) n)

-- what may be handed in behind a verdict
abbrev pub IsReady : Verdict → State → Type 0
IsReady Need state = WantsToken state
IsReady (Sub p) state = WantsAnswer state × (p ≡ phrase_of (factor_sort state.level))
IsReady (Ask q) state = ⊥
IsReady (Done n) state = ⊤
IsReady (DoneBefore n back) state = ⊤
IsReady (Trouble kind) state = ⊤
IsReady (Pass kind back) state = ⊥

-- the phrases that name a sort of expression
abbrev pub IsSorted : Phrase → Type 0
IsSorted phrase.Int = ⊤
IsSorted phrase.Dimen = ⊤
IsSorted phrase.Mu = ⊥
IsSorted phrase.Glue = ⊤
IsSorted phrase.MuGlue = ⊤
IsSorted (phrase.Expr k) = ⊥
