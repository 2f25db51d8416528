-- What one thing more leads to, seen from a state and from a list.
use Rattle.std.proofs.Common.{◌≡◌, ℕ, zero, suc, ◌+◌, ◌*◌, ◌<◌, ◌≤◌, Bool, true, false, ◌&&◌, not, cond, min, ℤ, Option, Some, is_some, List, [], ◌∷◌, ◌++◌, take, refl, sym, ◌∙◌, ap, subst, append_assoc, arith}
use Rattle.std.specs.Option.{unwrap_or}
use Rattle.std.proofs.lemmas.Bool.{lt-ltb, ltb-true, ltb-false, and_parts, cond-false}
use Rattle.scaled.specs.declared.spacing.Order.{Order}
use Rattle.scaled.specs.ArithmeticDecimals.{fraction_of_digits}
use Rattle.tokens.specs.declared.token.Token.{Token}
use Rattle.tokens.specs.declared.meaning.Meaning.{Meaning}
use Rattle.tokens.specs.declared.kind.Kind.TheVariants.{NumberTooBig}
use Rattle.scan_nums.specs.declared.constant.Constant.{Constant}
use Rattle.scan_nums.specs.declared.constant.Radix.{Radix}
use Rattle.scan_nums.specs.declared.constant.Radix.TheVariants.{Base8, Base10, Base16}
use Rattle.scan_nums.specs.declared.decimals.Decimals.{Decimals}
use Rattle.scan_nums.specs.declared.keyword.UnitName.{UnitName}
use Rattle.scan_nums.specs.declared.keyword.Letters.{Letters}
use Rattle.scan_nums.specs.declared.keyword.Letters.TheVariants as letters
use Rattle.scan_nums.specs.declared.unit.Factor.{Factor}
use Rattle.scan_nums.specs.declared.unit.TrueFactor.{TrueFactor}
use Rattle.scan_nums.specs.declared.start.Start.TheVariants.{Other}
use Rattle.scan_nums.specs.declared.number.Number.TheVariants as number
use Rattle.scan_nums.specs.declared.verdict.Verdict.{Verdict}
use Rattle.scan_nums.specs.declared.verdict.Verdict.TheVariants.{Need, Ask, Sub, Done, DoneBefore, Trouble, Pass}
use Rattle.scan_nums.specs.declared.dimen_state.DimenKind.{DimenKind}
use Rattle.scan_nums.specs.declared.dimen_state.DimenState.{DimenState}
use Rattle.scan_nums.specs.declared.dimen_state.DimenState.TheVariants.{Digits, TooBig, Fraction, Word, PhysicalWord}
use Rattle.scan_nums.specs.declared.dimen_state.DimenStep.{DimenStep}
use Rattle.scan_nums.specs.declared.dimen_state.DimenStep.TheVariants.{Going, Finished}
use Rattle.scan_nums.specs.declared.dimen_scan.DimenScan.{DimenScan}
use Rattle.scan_nums.specs.Awaited.{WhileOpen}
use Rattle.scan_nums.specs.Taken.{Taken, Seen}
use Rattle.scan_nums.specs.Starts.{start_of}
use Rattle.scan_nums.specs.Constants.{base, digit_of, is_digit, is_leading, is_too_big, stretch, behind, constant_of, rest_of_constant}
use Rattle.scan_nums.specs.WholeNumber.{are_leading, is_accent, wants_character}
use Rattle.scan_nums.specs.Keywords.{Words, after_letter, keyword}
use Rattle.scan_nums.specs.UnitWords.{words_behind, letters_read}
use Rattle.scan_nums.specs.Decimals.{digits_of}
use Rattle.scan_nums.specs.Dimension.{Next, no_unit, physical_found, unit_found, unit, is_figure, figures, fraction_by, fraction, behind_constant, decimal, signed_dimension, dimension_then, dimension_end, dimension, stretching, stretch_end, stretching_dimension}
use Rattle.scan_nums.specs.IntStanding.{grown, grown_value, grown_verdict, grows_too_big}
use Rattle.scan_nums.specs.DimenStanding.{Says, Leads, IsNoEnd, StepAwaits, StateStands, state_rest, is_at_signs, is_at_character, step_at_signs, step_at_character, grown_step}
use Rattle.scan_nums.specs.DimenScan.{kind_of, phrase, stretching_of, Stands, OrderIs, IsFollowed}
use Rattle.scan_nums.proofs.ConstantLaws.{rest_grown, rest_big, rest_kept, while_open_along}
use Rattle.scan_nums.proofs.IntLaws.{are_leading-append, wants_character-append}

-- ---- one saying for another

pub leads_along : (mu orders : Bool) (says others : Says) (x : Taken) (step : DimenStep)
    → ((next : Next) (more : List Taken) → says next more ≡ others next more)
    → Leads mu orders others x step → Leads mu orders says x step
leads_along mu orders says others x (Going after verdict) same leads =
    (λ next. same next [] ∙ leads.0 next, while_open_along verdict _ _ (λ kept next y more. same next (y ∷ more) ∙ kept next y more) leads.1)
leads_along mu orders says others x (Finished v o false) same leads = λ next more. same next more ∙ leads next more
leads_along mu orders says others x (Finished v o true) same leads = λ next more. same next more ∙ leads next more

pub leads_by : {A : Type 0} → (mu orders : Bool) (says : A → Says) (a b : A) (x : Taken) (step : DimenStep)
    → a ≡ b → Leads mu orders (says a) x step → Leads mu orders (says b) x step
leads_by mu orders says a b x step e leads =
    leads_along mu orders (says b) (says a) x step (λ next more. ap (λ c. says c next more) (sym e)) leads

pub leads_state : (mu orders : Bool) (before same : DimenState) (x : Taken) (step : DimenStep) → before ≡ same
    → Leads mu orders (λ next more. state_rest mu orders same next x more) x step
    → Leads mu orders (λ next more. state_rest mu orders before next x more) x step
leads_state mu orders before same x step e leads =
    leads_by mu orders (λ s next more. state_rest mu orders s next x more) same before x step (sym e) leads

pub leads_to : (mu orders : Bool) (says : Says) (x : Taken) (step same : DimenStep) → step ≡ same
    → Leads mu orders says x same → Leads mu orders says x step
leads_to mu orders says x step same e leads =
    let P : DimenStep → Type 0 = λ s. Leads mu orders says x s in subst P (sym e) leads

-- ---- letters

-- what the letters of a unit have led to
abbrev pub word_says : Bool → ℕ → ℕ → ℕ → Words UnitName → Says
word_says negative whole fraction read words next more =
    after_letter words (no_unit negative whole fraction next read more) (λ name. unit_found negative whole fraction next name more)
    (keyword words read (unit_found negative whole fraction next) (no_unit negative whole fraction next) more)

abbrev pub physical_says : Bool → ℕ → ℕ → ℕ → Words UnitName → Says
physical_says negative whole fraction read words next more =
    after_letter words (no_unit negative whole fraction next read more) (λ name. physical_found negative whole fraction next name more)
    (keyword words read (physical_found negative whole fraction next) (no_unit negative whole fraction next) more)

word_more : (ls : Letters) (broken : Verdict) (whole : UnitName → Verdict) (longer : Verdict)
    → after_letter (words_behind ls) broken whole longer ≡ longer
unfolding words_behind
word_more letters.B broken whole longer = refl
word_more letters.C broken whole longer = refl
word_more letters.D broken whole longer = refl
word_more letters.E broken whole longer = refl
word_more letters.F broken whole longer = refl
word_more letters.Fi broken whole longer = refl
word_more letters.I broken whole longer = refl
word_more letters.M broken whole longer = refl
word_more letters.MOfMu broken whole longer = refl
word_more letters.P broken whole longer = refl
word_more letters.S broken whole longer = refl
word_more letters.T broken whole longer = refl
word_more letters.Tr broken whole longer = refl
word_more letters.Tru broken whole longer = refl

pub more_leads : (mu orders negative : Bool) (factor : Factor) (ls : Letters) (read : ℕ) (x : Taken) → letters_read ls ≡ read
    → Leads mu orders (word_says negative factor.whole factor.fraction read (words_behind ls)) x (Going (Word negative factor ls) Need)
more_leads mu orders negative factor ls read x e = (
  λ next. word_more ls _ _ _,
  λ next y more. (let F : ℕ → Verdict = λ n. keyword (words_behind ls) n (unit_found negative factor.whole factor.fraction next)
      (no_unit negative factor.whole factor.fraction next) (y ∷ more) in word_more ls _ _ _ ∙ ap F (sym e)),
)

pub more_physical_leads : (mu orders negative : Bool) (factor : TrueFactor) (ls : Letters) (read : ℕ) (x : Taken) → letters_read ls ≡ read
    → Leads mu orders (physical_says negative factor.whole factor.fraction read (words_behind ls)) x (Going (PhysicalWord negative factor ls) Need)
more_physical_leads mu orders negative factor ls read x e = (
  λ next. word_more ls _ _ _,
  λ next y more. (let F : ℕ → Verdict = λ n. keyword (words_behind ls) n (physical_found negative factor.whole factor.fraction next)
      (no_unit negative factor.whole factor.fraction next) (y ∷ more) in word_more ls _ _ _ ∙ ap F (sym e)),
)

-- ---- digits of a whole number

big_by : (w : ℕ) (b : Bool) → is_too_big w ≡ b → is_too_big w ≡ is_too_big (min w 2147483648)
big_by w true h =
    let big : 2147483647 < w = ltb-true 2147483647 w h in h ∙ sym (lt-ltb 2147483647 (min w 2147483648) (omega arith))
big_by w false h =
    let small : w ≤ 2147483647 = ltb-false 2147483647 w h in
    let same : w ≡ min w 2147483648 = omega arith in
    let F : ℕ → Bool = λ n. is_too_big n in
    ap F same

digit_says : (constant : Constant) (digit : ℕ) (next : Option ℕ → List Taken → Verdict) (t : Token) (m : Meaning)
    → digit_of constant.radix t ≡ Some digit
    → rest_of_constant constant.radix constant.has_digit constant.value next (Seen t m ∷ []) ≡ grown_verdict constant digit
digit_says constant digit next t m h =
    let D : Option ℕ → Bool = λ o. is_some o in
    let Q : Bool → Verdict = λ b. constant_of constant.radix constant.has_digit constant.value next (cond b (Seen t m ∷ []) []) (cond b [] (Seen t m ∷ [])) in
    let R : Option ℕ → Verdict = λ o. cond (is_too_big (constant.value * base constant.radix + unwrap_or o 0) && not (is_too_big constant.value)) (Pass NumberTooBig 0) Need in
    let S : Bool → Verdict = λ b. cond (b && not (is_too_big constant.value)) (Pass NumberTooBig 0) Need in
    ap Q (ap D h) ∙ ap R h ∙ ap S (big_by (constant.value * base constant.radix + digit) _ refl)

digit_by : (mu orders negative : Bool) (constant : Constant) (digit : ℕ) (t : Token) (m : Meaning) (b : Bool)
    → digit_of constant.radix t ≡ Some digit → grows_too_big constant digit ≡ b
    → Leads mu orders (λ next more. rest_of_constant constant.radix constant.has_digit constant.value (behind_constant constant.radix mu orders negative next) (Seen t m ∷ more)) (Seen t m)
    (cond b (Going (TooBig negative constant.radix) (Pass NumberTooBig 0)) (Going (Digits negative (grown constant digit)) Need))
digit_by mu orders negative constant digit t m true h e =
    let V : Bool → Verdict = λ b. cond b (Pass NumberTooBig 0) Need in
    let big : 2147483647 < grown_value constant digit =
    ltb-true 2147483647 _ (and_parts (is_too_big (grown_value constant digit)) (not (is_too_big constant.value)) e).0 in (
      λ next. digit_says constant digit (behind_constant constant.radix mu orders negative next) t m h ∙ ap V e,
      λ next y more. rest_grown constant.radix constant.has_digit constant.value digit (behind_constant constant.radix mu orders negative next) t m y more h
          ∙ rest_big constant.radix (constant.value * base constant.radix + digit) 2147483648 (behind_constant constant.radix mu orders negative next) y more (omega arith) (omega arith),
    )
digit_by mu orders negative constant digit t m false h e =
    let V : Bool → Verdict = λ b. cond b (Pass NumberTooBig 0) Need in (
      λ next. digit_says constant digit (behind_constant constant.radix mu orders negative next) t m h ∙ ap V e,
      λ next y more. rest_grown constant.radix constant.has_digit constant.value digit (behind_constant constant.radix mu orders negative next) t m y more h
          ∙ rest_kept constant.radix (constant.value * base constant.radix + digit) (behind_constant constant.radix mu orders negative next) y more,
    )

-- a digit leads to the state behind it
pub digit_leads : (mu orders negative : Bool) (constant : Constant) (digit : ℕ) (t : Token) (m : Meaning) (step : DimenStep)
    → digit_of constant.radix t ≡ Some digit → step ≡ grown_step negative constant digit
    → Leads mu orders (λ next more. rest_of_constant constant.radix constant.has_digit constant.value (behind_constant constant.radix mu orders negative next) (Seen t m ∷ more)) (Seen t m) step
digit_leads mu orders negative constant digit t m step h e =
    leads_to mu orders (λ next more. rest_of_constant constant.radix constant.has_digit constant.value (behind_constant constant.radix mu orders negative next) (Seen t m ∷ more)) (Seen t m) step
    (grown_step negative constant digit) e (digit_by mu orders negative constant digit t m (grows_too_big constant digit) h refl)

-- ---- digits behind a point

take_again : (n : ℕ) (xs ys : List ℕ) → take n (xs ++ ys) ≡ take n (take n xs ++ ys)
take_again zero xs ys = refl
take_again (suc n) [] ys = refl
take_again (suc n) (x ∷ xs) ys = let F : List ℕ → List ℕ = λ l. x ∷ l in ap F (take_again n xs ys)

fraction_same : (mu orders negative : Bool) (whole : ℕ) (ds es : List ℕ) (next : Next) (list : List Taken) → take 17 ds ≡ take 17 es
    → fraction_by mu orders negative whole ds next list ≡ fraction_by mu orders negative whole es next list
fraction_same mu orders negative whole ds es next [] e = refl
fraction_same mu orders negative whole ds es next (z ∷ zs) e =
    let F : List ℕ → Verdict = λ l. unit mu orders negative whole (fraction_of_digits l) next (z ∷ zs) in ap F e

figure_more : (mu orders negative : Bool) (whole : ℕ) (ds after : List ℕ) (digit : ℕ) (t : Token) (m : Meaning) (next : Next) (y : Taken) (more : List Taken)
    → digit_of Base10 t ≡ Some digit → after ≡ take 17 (ds ++ digit ∷ [])
    → fraction mu orders negative whole ds next (Seen t m ∷ y ∷ more) ≡ fraction mu orders negative whole after next (y ∷ more)
figure_more mu orders negative whole ds after digit t m next y more h e =
    let D : Option ℕ → Bool = λ o. is_some o in
    let Q : Bool → Verdict = λ v. fraction_by mu orders negative whole (ds ++ figures (cond v (Seen t m ∷ stretch is_figure (y ∷ more)) [])) next (cond v (behind is_figure (y ∷ more)) (Seen t m ∷ y ∷ more)) in
    let R : Option ℕ → Verdict = λ o. fraction_by mu orders negative whole (ds ++ (unwrap_or o 0 ∷ figures (stretch is_figure (y ∷ more)))) next (behind is_figure (y ∷ more)) in
    let T : List ℕ → List ℕ = λ l. take 17 l in
    let U : List ℕ → Verdict = λ l. fraction_by mu orders negative whole (l ++ figures (stretch is_figure (y ∷ more))) next (behind is_figure (y ∷ more)) in
    let kept : take 17 (ds ++ (digit ∷ figures (stretch is_figure (y ∷ more)))) ≡ take 17 (take 17 (ds ++ digit ∷ []) ++ figures (stretch is_figure (y ∷ more))) =
    ap T (sym (append_assoc ds (digit ∷ []) (figures (stretch is_figure (y ∷ more))))) ∙ take_again 17 (ds ++ digit ∷ []) (figures (stretch is_figure (y ∷ more))) in
    ap Q (ap D h) ∙ ap R h
    ∙ fraction_same mu orders negative whole _ _ next (behind is_figure (y ∷ more)) kept
    ∙ ap U (sym e)

figure_says : (mu orders negative : Bool) (whole : ℕ) (ds : List ℕ) (digit : ℕ) (t : Token) (m : Meaning) (next : Next)
    → digit_of Base10 t ≡ Some digit → fraction mu orders negative whole ds next (Seen t m ∷ []) ≡ Need
figure_says mu orders negative whole ds digit t m next h =
    let D : Option ℕ → Bool = λ o. is_some o in
    let Q : Bool → Verdict = λ v. fraction_by mu orders negative whole (ds ++ figures (cond v (Seen t m ∷ []) [])) next (cond v [] (Seen t m ∷ [])) in
    ap Q (ap D h)

-- a digit leads to the state behind it
pub figure_leads : (mu orders negative : Bool) (whole : ℕ) (before after : Decimals) (digit : ℕ) (t : Token) (m : Meaning) (step : DimenStep)
    → digit_of Base10 t ≡ Some digit → digits_of after ≡ take 17 (digits_of before ++ digit ∷ [])
    → step ≡ Going (Fraction negative whole after) Need
    → Leads mu orders (λ next more. fraction mu orders negative whole (digits_of before) next (Seen t m ∷ more)) (Seen t m) step
figure_leads mu orders negative whole before after digit t m step h e is =
    leads_to mu orders (λ next more. fraction mu orders negative whole (digits_of before) next (Seen t m ∷ more)) (Seen t m) step (Going (Fraction negative whole after) Need) is (
      λ next. figure_says mu orders negative whole (digits_of before) digit t m next h,
      λ next y more. figure_more mu orders negative whole (digits_of before) (digits_of after) digit t m next y more h e,
    )

-- ---- a decimal constant

pub dimen_other : (mu orders negative : Bool) (t : Token) (m : Meaning) (next : Next) (more : List Taken) → start_of t m ≡ Other
    → signed_dimension mu orders negative next (Seen t m ∷ more) ≡ decimal mu orders negative next (Seen t m) more
dimen_other mu orders negative t m next more h = simp h

-- ---- the whole list

pub and_none : (b : Bool) → (b && false) ≡ false
and_none true = refl
and_none false = refl

stands_behind : (mu orders : Bool) (before after : DimenState) (x : Taken) (taken : List Taken)
    → is_at_signs after ≡ (is_at_signs before && is_leading x)
    → is_at_character after ≡ (is_at_signs before && is_accent x)
    → StateStands mu orders before taken
    → ((next : Next) (y : Taken) (more : List Taken) → state_rest mu orders before next x (y ∷ more) ≡ state_rest mu orders after next y more)
    → StateStands mu orders after (taken ++ x ∷ [])
stands_behind mu orders before after x taken signs character stands steps =
    let S : Bool → Bool = λ b. b && is_leading x in
    let C : Bool → Bool = λ b. b && is_accent x in
    record {
      rest = λ next y more.
          (let W : List Taken → Verdict = λ l. dimension_then mu orders next l in
          ap W (append_assoc taken (x ∷ []) (y ∷ more)) ∙ stands.rest next x (y ∷ more) ∙ steps next y more);
      signs = signs ∙ ap S stands.signs ∙ sym (are_leading-append taken x);
      character = character ∙ ap C stands.signs ∙ sym (wants_character-append taken x);
    }

pub verdict_behind : (kind : DimenKind) (step : DimenStep) (scan : DimenScan) (verdict : Verdict) (state : DimenState) (x : Taken) (taken : List Taken)
    → Leads kind.mu kind.orders (λ next more. state_rest kind.mu kind.orders state next x more) x step
    → IsFollowed step scan verdict → StateStands kind.mu kind.orders state taken
    → verdict ≡ phrase kind (taken ++ x ∷ [])
verdict_behind kind (Going after v) scan verdict state x taken leads followed stands =
    followed.1 ∙ sym (stands.rest dimension_end x [] ∙ leads.0 dimension_end)
verdict_behind kind (Finished v o false) scan verdict state x taken leads followed stands =
    followed.1 ∙ sym (stands.rest dimension_end x [] ∙ leads dimension_end [])
verdict_behind kind (Finished v o true) scan verdict state x taken leads followed stands =
    followed.1 ∙ sym (stands.rest dimension_end x [] ∙ leads dimension_end [])

kept_at : (kind : DimenKind) (step : DimenStep) (scan : DimenScan) (verdict : Verdict) (state : DimenState) (x : Taken) (taken : List Taken)
    → Leads kind.mu kind.orders (λ next more. state_rest kind.mu kind.orders state next x more) x step
    → step_at_signs step ≡ (is_at_signs state && is_leading x) → step_at_character step ≡ (is_at_signs state && is_accent x)
    → IsFollowed step scan verdict → StateStands kind.mu kind.orders state taken
    → WhileOpen verdict (StateStands kind.mu kind.orders scan.state (taken ++ x ∷ []))
kept_at kind (Going after v) scan verdict state x taken leads signs character followed stands =
    let P : Verdict → Type 0 = λ r. WhileOpen r (StateStands kind.mu kind.orders scan.state (taken ++ x ∷ [])) in
    let Q : DimenState → Type 0 = λ s. WhileOpen v (StateStands kind.mu kind.orders s (taken ++ x ∷ [])) in
    subst P (sym followed.1) (subst Q (sym followed.0)
    (while_open_along v _ _ (stands_behind kind.mu kind.orders state after x taken signs character stands) leads.1))
kept_at kind (Finished v o false) scan verdict state x taken leads signs character followed stands =
    let P : Verdict → Type 0 = λ r. WhileOpen r (StateStands kind.mu kind.orders scan.state (taken ++ x ∷ [])) in
    subst P (sym followed.1) tt
kept_at kind (Finished v o true) scan verdict state x taken leads signs character followed stands =
    let P : Verdict → Type 0 = λ r. WhileOpen r (StateStands kind.mu kind.orders scan.state (taken ++ x ∷ [])) in
    subst P (sym followed.1) tt

pub kept_behind : (kind : DimenKind) (step : DimenStep) (scan : DimenScan) (verdict : Verdict) (state : DimenState) (x : Taken) (taken : List Taken)
    → kind_of scan ≡ kind
    → Leads kind.mu kind.orders (λ next more. state_rest kind.mu kind.orders state next x more) x step
    → step_at_signs step ≡ (is_at_signs state && is_leading x) → step_at_character step ≡ (is_at_signs state && is_accent x)
    → IsFollowed step scan verdict → StateStands kind.mu kind.orders state taken
    → WhileOpen verdict (Stands scan (taken ++ x ∷ []))
kept_behind kind step scan verdict state x taken same leads signs character followed stands =
    let P : DimenKind → Type 0 = λ k. WhileOpen verdict (StateStands k.mu k.orders scan.state (taken ++ x ∷ [])) in
    subst P (sym same) (kept_at kind step scan verdict state x taken leads signs character followed stands)

order_open : (scan : DimenScan) (kind : DimenKind) (verdict : Verdict) (taken : List Taken) → IsNoEnd verdict → OrderIs scan kind verdict taken
order_open scan kind Need taken h = tt
order_open scan kind (Ask q) taken h = tt
order_open scan kind (Sub p) taken h = tt
order_open scan kind (Done n) taken h = absurd h
order_open scan kind (DoneBefore n back) taken h = absurd h
order_open scan kind (Trouble k) taken h = tt
order_open scan kind (Pass k back) taken h = tt

pub order_behind : (kind : DimenKind) (step : DimenStep) (scan : DimenScan) (verdict : Verdict) (state : DimenState) (x : Taken) (taken : List Taken)
    → Leads kind.mu kind.orders (λ next more. state_rest kind.mu kind.orders state next x more) x step
    → StepAwaits step → IsFollowed step scan verdict → StateStands kind.mu kind.orders state taken
    → OrderIs scan kind verdict (taken ++ x ∷ [])
order_behind kind (Going after v) scan verdict state x taken leads awaits followed stands =
    let P : Verdict → Type 0 = λ r. OrderIs scan kind r (taken ++ x ∷ []) in
    subst P (sym followed.1) (order_open scan kind v (taken ++ x ∷ []) awaits.1)
order_behind kind (Finished v o false) scan verdict state x taken leads awaits followed stands =
    let P : Verdict → Type 0 = λ r. OrderIs scan kind r (taken ++ x ∷ []) in
    let F : Order → Verdict = λ p. Done (stretching v p) in
    subst P (sym followed.1) (stands.rest stretch_end x [] ∙ leads stretch_end [] ∙ ap F (sym followed.0))
order_behind kind (Finished v o true) scan verdict state x taken leads awaits followed stands =
    let P : Verdict → Type 0 = λ r. OrderIs scan kind r (taken ++ x ∷ []) in
    let F : Order → Verdict = λ p. DoneBefore (stretching v p) 1 in
    subst P (sym followed.1) (stands.rest stretch_end x [] ∙ leads stretch_end [] ∙ ap F (sym followed.0))
