-- What comes next, from what stands in front.
use Rattle.std.proofs.Common.{◌≡◌, ℕ, ℤ, true, false, List, [], ◌∷◌, Ok, Err, ap, ◌∙◌, sym, subst, refl}
use Rattle.std.specs.Prelude.{Bool, Result, Option, None, reverse}
use Rattle.tokens.specs.Budget.{Allowance, is_spent, after_step}
use Rattle.tokens.specs.declared.stop.Stop.{Stop}
use Rattle.tokens.specs.declared.stop.Stop.TheVariants.{Spent}
use Rattle.tokens.specs.declared.token.Token.{Token}
use Rattle.pending.specs.declared.level.Level.{Level}
use Rattle.pending.specs.declared.pending.Event.{Event}
use Rattle.pending.specs.declared.pending.Event.TheVariants.{Token as TokenEvent, Eof, SourceEnd}
use Rattle.pending.specs.declared.source.Sight.{Sight}
use Rattle.pending.specs.declared.source.Sight.TheVariants.{Token as TokenSight, Eof as EofSight, End}
use Rattle.pending.specs.declared.source.Source.{Source}
use Rattle.pending.specs.declared.waiting.Waiting.{Waiting}
use Rattle.pending.specs.Did.{Did, Does, Ended, Ended-by}
use Rattle.pending.specs.Origin.{is_file}
use Rattle.pending.specs.Pending.{Item, Ready, From, Pays}
use Rattle.pending.specs.Take.{Looking, Reading, looking, reading, next_sight, next_event, event_of, by_paid, by_sight}
use Rattle.pending.specs.declared.level.State.TheVariants.{Ready as ReadyState}
use Rattle.pending.specs.Levels.{joined, flat, all_sources, state_of, passed, SameItems, IsAtSource}
use Rattle.pending.proofs.Stacks.{joined-source, joined-ready}

module _ (cats : List ℕ) (endline : ℤ) (names : List (List ℕ)) (budget then_budget : Allowance) where
  -- a token whose step is paid, or could be
  pub next-paid : (waiting : Waiting) (rest : List Item) → Pays waiting.paid true budget then_budget
      → next_event cats endline (reading (Ready waiting ∷ rest) names budget)
      ≡ Ok (TokenEvent waiting.token waiting.noexpand, reading rest names then_budget)
  next-paid waiting rest pays = by waiting.paid pays
    where
      by : (paid : Bool) → Pays paid true budget then_budget
          → by_paid waiting rest (reading (Ready waiting ∷ rest) names budget) paid
          ≡ Ok (TokenEvent waiting.token waiting.noexpand, reading rest names then_budget)
      by true h = rw h.1 refl
      by false h = rw (h.0, h.1) refl

  -- a token whose step is wanted where none is left
  pub next-unpaid : (waiting : Waiting) (rest : List Item) → Pays waiting.paid false budget then_budget
      → next_event cats endline (reading (Ready waiting ∷ rest) names budget)
      ≡ Err (Spent, reading (Ready waiting ∷ rest) names then_budget)
  next-unpaid waiting rest pays = by waiting.paid pays
    where
      by : (paid : Bool) → Pays paid false budget then_budget
          → by_paid waiting rest (reading (Ready waiting ∷ rest) names budget) paid
          ≡ Err (Spent, reading (Ready waiting ∷ rest) names then_budget)
      by true h = let wrong : false ≡ true = h.0 in cc
      by false h = rw (h.0, h.1) refl

module _ (cats : List ℕ) (endline : ℤ) (top : Level) (below : List Level) (source after : Source) (sources : List Source)
    (names then_names : List (List ℕ)) (budget then_budget : Allowance) (is_at : IsAtSource (state_of top) below) where
  at_source : next_event cats endline (reading (joined (top ∷ below) (source ∷ sources)) names budget)
      ≡ by_sight (joined below sources) (next_sight cats endline (looking source names budget))
  at_source = ap (λ (items : List Item). next_event cats endline (reading items names budget)) (joined-source top below source sources is_at)

  stays : reading (From after ∷ joined below sources) then_names then_budget
      ≡ reading (joined (top ∷ below) (after ∷ sources)) then_names then_budget
  stays = ap (λ (items : List Item). reading items then_names then_budget) (sym (joined-source top below after sources is_at))

  pub source-token : (token : Token) → next_sight cats endline (looking source names budget) ≡ Ok (TokenSight token, looking after then_names then_budget)
      → next_event cats endline (reading (joined (top ∷ below) (source ∷ sources)) names budget)
      ≡ Ok (TokenEvent token false, reading (joined (top ∷ below) (after ∷ sources)) then_names then_budget)
  source-token token e =
      at_source ∙ ap (by_sight (joined below sources)) e ∙ ap (λ (r : Reading). let found : Did Reading Event = Ok (TokenEvent token false, r) in found) stays

  pub source-eof : next_sight cats endline (looking source names budget) ≡ Ok (EofSight, looking after then_names then_budget)
      → next_event cats endline (reading (joined (top ∷ below) (source ∷ sources)) names budget)
      ≡ Ok (Eof, reading (joined (top ∷ below) (after ∷ sources)) then_names then_budget)
  source-eof e =
      at_source ∙ ap (by_sight (joined below sources)) e ∙ ap (λ (r : Reading). let found : Did Reading Event = Ok (Eof, r) in found) stays

  pub source-end : next_sight cats endline (looking source names budget) ≡ Ok (End, looking after then_names then_budget)
      → next_event cats endline (reading (joined (top ∷ below) (source ∷ sources)) names budget)
      ≡ Ok (SourceEnd (is_file after.origin), reading (joined below sources) then_names then_budget)
  source-end e = at_source ∙ ap (by_sight (joined below sources)) e

  pub source-stop : (stop : Stop) → Ended stop (looking after then_names then_budget) (next_sight cats endline (looking source names budget))
      → Ended stop (reading (joined (top ∷ below) (after ∷ sources)) then_names then_budget)
      (next_event cats endline (reading (joined (top ∷ below) (source ∷ sources)) names budget))
  source-stop stop h =
      Ended-by stop _ _ _ _
      (λ e. at_source ∙ ap (by_sight (joined below sources)) e ∙ ap (λ (r : Reading). let found : Did Reading Event = Err (stop, r) in found) stays) h

-- what comes next where levels were settled that stand for the same list
module _ (cats : List ℕ) (endline : ℤ) (old : List Level) (top : Level) (below : List Level) (sources : List Source)
    (names : List (List ℕ)) (budget then_budget : Allowance) (same : SameItems old (top ∷ below)) where
  pub settled-paid : (waiting : Waiting) → state_of top ≡ ReadyState waiting → Pays waiting.paid true budget then_budget
      → next_event cats endline (reading (joined old sources) names budget)
      ≡ Ok (TokenEvent waiting.token waiting.noexpand, reading (joined (passed top ∷ below) sources) names then_budget)
  settled-paid waiting ready pays =
      ap (λ (items : List Item). next_event cats endline (reading items names budget)) (sym (same sources) ∙ joined-ready waiting top below sources ready)
      ∙ next-paid cats endline names budget then_budget waiting (joined (passed top ∷ below) sources) pays

  pub settled-unpaid : (waiting : Waiting) → state_of top ≡ ReadyState waiting → Pays waiting.paid false budget then_budget
      → next_event cats endline (reading (joined old sources) names budget)
      ≡ Err (Spent, reading (joined (top ∷ below) sources) names then_budget)
  settled-unpaid waiting ready pays =
      ap (λ (items : List Item). next_event cats endline (reading items names budget)) (sym (same sources) ∙ joined-ready waiting top below sources ready)
      ∙ next-unpaid cats endline names budget then_budget waiting (joined (passed top ∷ below) sources) pays
      ∙ ap (λ (items : List Item). let ended : Did Reading Event = Err (Spent, reading items names then_budget) in ended)
      (sym (joined-ready waiting top below sources ready))

  pub settled-same : (result : Result Event Stop) (after : Reading)
      → Does result after (next_event cats endline (reading (joined (top ∷ below) sources) names budget))
      → Does result after (next_event cats endline (reading (joined old sources) names budget))
  settled-same result after does =
      let P : List Item → Type 0 = λ items. Does result after (next_event cats endline (reading items names budget)) in
      subst P (same sources) does

-- what comes next where a token stands ready in the innermost level
pub next-level : (cats : List ℕ) (endline : ℤ) (front : Option Waiting) (top passed_top : Level) (below : List Level) (source : Option Source)
    (outer : List Source) (names : List (List ℕ)) (budget then_budget : Allowance) (waiting : Waiting) (event : Event) (now : List Item)
    → flat front top below source outer ≡ now → None ≡ front → state_of top ≡ ReadyState waiting → passed_top ≡ passed top
    → event ≡ TokenEvent waiting.token waiting.noexpand → Pays waiting.paid true budget then_budget
    → next_event cats endline (reading now names budget) ≡ Ok (event, reading (flat front passed_top below source outer) names then_budget)
next-level cats endline front top passed_top below source outer names budget then_budget waiting event now view none ready is_passed is_event pays =
    let P : Option Waiting → Type 0 =
    λ f. flat f top below source outer ≡ now
    → next_event cats endline (reading now names budget) ≡ Ok (event, reading (flat f passed_top below source outer) names then_budget) in
    let levels : List Level = top ∷ reverse below in
    let sources : List Source = all_sources source outer in
    let at_none : P None =
    λ same.
    ap (λ (items : List Item). next_event cats endline (reading items names budget)) (sym same)
    ∙ settled-paid cats endline levels top (reverse below) sources names budget then_budget (λ ss. refl) waiting ready pays
    ∙ ap (λ (l : Level). let found : Did Reading Event = Ok (TokenEvent waiting.token waiting.noexpand, reading (joined (l ∷ reverse below) sources) names then_budget) in found) (sym is_passed)
    ∙ ap (λ (e : Event). let found : Did Reading Event = Ok (e, reading (joined (passed_top ∷ reverse below) sources) names then_budget) in found) (sym is_event)
    in
    subst P none at_none view
