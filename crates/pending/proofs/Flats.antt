-- The flat list for which levels and sources stand together.
use Rattle.std.proofs.Common.{◌≡◌, ℕ, ℤ, true, false, List, [], ◌∷◌, ◌++◌, Ok, Err, ap, ◌∙◌, sym, subst, refl, map}
use Rattle.std.specs.Prelude.{Bool, Option, Some, None, Result, reverse, OnOk, IfErr}
use Rattle.std.proofs.lemmas.Result.{on_ok_weaker}
use Rattle.tokens.specs.Budget.{Allowance}
use Rattle.tokens.specs.declared.stop.Stop.{Stop}
use Rattle.tokens.specs.Ends.{Ends, EndsAs-map}
use Rattle.tokens.specs.declared.token.Token.{Token}
use Rattle.pending.specs.declared.level.Level.{Level}
use Rattle.pending.specs.declared.level.Level.TheVariants.{List as ListLevel, Body, Back, Source as SourceLevel}
use Rattle.pending.specs.declared.source.Origin.{Origin}
use Rattle.pending.specs.declared.source.Source.{Source}
use Rattle.pending.specs.declared.waiting.Waiting.{Waiting}
use Rattle.pending.specs.Origin.{count_from, is_file, is_input}
use Rattle.pending.specs.Pending.{Item, Ready, From, fresh, filled, with_list, innermost, replaced, sources_of, ended, line_number, line_at, begun_behind_name, begun_source, begun_at, with_begun, ended_at, ended_source, opening, Opening}
use Rattle.pending.specs.Levels.{joined, behind_front, all_sources, flat, StandBehind}
use Rattle.pending.proofs.Innermost.{first_of, innermost-joined, innermost-front, replaced-joined, replaced-front, sources_of-joined, sources_of-front}

module _ (front : Option Waiting) (top : Level) (below : List Level) (source : Option Source) (outer : List Source) where
  -- a list of tokens in front
  pub flat-list : (new_front : Option Waiting) (new_top : Level) (new_below : List Level) (tokens : List Token)
      → new_front ≡ None → new_top ≡ ListLevel tokens 0 → StandBehind front (top ∷ reverse below) (reverse new_below)
      → flat new_front new_top new_below source outer ≡ map fresh tokens ++ flat front top below source outer
  flat-list new_front new_top new_below tokens free is_top stands =
      ap (λ (f : Option Waiting). flat f new_top new_below source outer) free
      ∙ ap (λ (l : Level). flat None l new_below source outer) is_top
      ∙ ap (λ (items : List Item). map fresh tokens ++ items) (stands (all_sources source outer))

  -- what the sources are is seen through the levels
  pub flat-innermost : innermost (flat front top below source outer) ≡ source
  flat-innermost =
      innermost-front front (joined (top ∷ reverse below) (all_sources source outer))
      ∙ innermost-joined (top ∷ reverse below) (all_sources source outer) ∙ first source
    where
      first : (s : Option Source) → first_of (all_sources s outer) ≡ s
      first None = refl
      first (Some s) = refl

  pub flat-counted : (p : Origin → Bool) → sources_of p (flat front top below source outer) ≡ count_from p (all_sources source outer)
  flat-counted p =
      sources_of-front p front (joined (top ∷ reverse below) (all_sources source outer))
      ∙ sources_of-joined p (top ∷ reverse below) (all_sources source outer)

  pub flat-line : line_number (flat front top below source outer) ≡ line_at source
  flat-line = ap line_at flat-innermost

-- another source in the place of the innermost
pub flat-replaced : (front : Option Waiting) (top : Level) (below : List Level) (source new : Source) (outer : List Source)
    → replaced new (flat front top below (Some source) outer) ≡ flat front top below (Some new) outer
flat-replaced front top below source new outer =
    replaced-front new front (joined (top ∷ reverse below) (source ∷ reverse outer))
    ∙ ap (behind_front front) (replaced-joined new source (top ∷ reverse below) (reverse outer))

-- with the innermost source ending
pub flat-ended : (front : Option Waiting) (top : Level) (below : List Level) (source : Option Source) (outer : List Source)
    → flat front top below (ended_source source) outer ≡ ended (flat front top below source outer)
flat-ended front top below None outer =
    sym (ap (λ s. ended_at s (flat front top below None outer)) (flat-innermost front top below None outer))
flat-ended front top below (Some source) outer =
    sym (ap (λ s. ended_at s (flat front top below (Some source) outer)) (flat-innermost front top below (Some source) outer)
    ∙ flat-replaced front top below source (record source { is_ending = true }) outer)

-- a line that is begun
begun_flat : (endline : ℤ) (front : Option Waiting) (top : Level) (below : List Level) (source : Source) (outer : List Source) (budget : Allowance)
    → begun_behind_name endline (opening (flat front top below (Some source) outer) budget)
    ≡ with_begun (opening (flat front top below (Some source) outer) budget) (begun_source endline source budget)
begun_flat endline front top below source outer budget =
    ap (λ s. begun_at s endline (opening (flat front top below (Some source) outer) budget)) (flat-innermost front top below (Some source) outer)

pub begun-gives : (endline : ℤ) (front : Option Waiting) (top : Level) (below : List Level) (source after : Source) (outer : List Source)
    (budget then_budget : Allowance) → begun_source endline source budget ≡ Ok (after, then_budget)
    → begun_behind_name endline (opening (flat front top below (Some source) outer) budget)
    ≡ Ok (opening (flat front top below (Some after) outer) then_budget)
begun-gives endline front top below source after outer budget then_budget e =
    begun_flat endline front top below source outer budget
    ∙ ap (with_begun (opening (flat front top below (Some source) outer) budget)) e
    ∙ ap (λ (items : List Item). let found : Result Opening Stop = Ok (opening items then_budget) in found) (flat-replaced front top below source after outer)

pub begun-ends : (endline : ℤ) (front : Option Waiting) (top : Level) (below : List Level) (source : Source) (outer : List Source)
    (budget : Allowance) (stop : Stop) → Ends (begun_source endline source budget) stop
    → Ends (begun_behind_name endline (opening (flat front top below (Some source) outer) budget)) stop
begun-ends endline front top below source outer budget stop h =
    EndsAs-map (λ s. begun_source endline source budget ≡ Err s)
    (λ s. begun_behind_name endline (opening (flat front top below (Some source) outer) budget) ≡ Err s)
    (λ s e. begun_flat endline front top below source outer budget
    ∙ ap (with_begun (opening (flat front top below (Some source) outer) budget)) e) stop h

-- outside all sources nothing is begun
pub begun-none : (endline : ℤ) (front : Option Waiting) (top : Level) (below : List Level) (source : Option Source) (outer : List Source)
    (budget : Allowance) (now : List Item) → flat front top below source outer ≡ now → None ≡ source
    → begun_behind_name endline (opening now budget) ≡ Ok (opening (flat front top below source outer) budget)
begun-none endline front top below source outer budget now view none =
    let P : Option Source → Type 0 =
    λ s. flat front top below s outer ≡ now → begun_behind_name endline (opening now budget) ≡ Ok (opening (flat front top below s outer) budget) in
    let at_none : P None =
    λ same.
    ap (λ (items : List Item). begun_behind_name endline (opening items budget)) (sym same)
    ∙ ap (λ s. begun_at s endline (opening (flat front top below None outer) budget)) (flat-innermost front top below None outer) in
    subst P none at_none view

-- what a call on the innermost source answers is what beginning its line gives
pub begun-on_ok : (endline : ℤ) (front : Option Waiting) (top : Level) (below : List Level) (source : Option Source) (inner after : Source)
    (outer : List Source) (budget then_budget : Allowance) (now : List Item) → flat front top below source outer ≡ now → Some inner ≡ source
    → (result : Result (Unit {0}) Stop) → OnOk result (begun_source endline inner budget ≡ Ok (after, then_budget))
    → OnOk result (begun_behind_name endline (opening now budget) ≡ Ok (opening (flat front top below (Some after) outer) then_budget))
begun-on_ok endline front top below source inner after outer budget then_budget now view some result h =
    let same : flat front top below (Some inner) outer ≡ now = ap (λ s. flat front top below s outer) some ∙ view in
    on_ok_weaker result
    (λ e. ap (λ (items : List Item). begun_behind_name endline (opening items budget)) (sym same)
    ∙ begun-gives endline front top below inner after outer budget then_budget e) h

pub begun-if_err : (endline : ℤ) (front : Option Waiting) (top : Level) (below : List Level) (source : Option Source) (inner : Source)
    (outer : List Source) (budget : Allowance) (now : List Item) → flat front top below source outer ≡ now → Some inner ≡ source
    → (result : Result (Unit {0}) Stop) → IfErr result (λ stop. Ends (begun_source endline inner budget) stop)
    → IfErr result (λ stop. Ends (begun_behind_name endline (opening now budget)) stop)
begun-if_err endline front top below source inner outer budget now view some (Ok value) h = h
begun-if_err endline front top below source inner outer budget now view some (Err stop) h =
    let same : flat front top below (Some inner) outer ≡ now = ap (λ s. flat front top below s outer) some ∙ view in
    let P : List Item → Type 0 = λ items. Ends (begun_behind_name endline (opening items budget)) stop in
    subst P same (begun-ends endline front top below inner outer budget stop h)
