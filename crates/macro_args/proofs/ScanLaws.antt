-- What one token does to the reader is what it does to the whole list.
use Rattle.std.specs.Prelude.{◌≡◌, ℕ, ◌+◌, ◌-◌, ◌<◌, ◌^◌, List, [], ◌∷◌, ◌++◌, length, take, drop, Option, Some, None, refl}
use Rattle.std.proofs.Common.{arith, sym, ap, subst, ◌∙◌, append_assoc, drop-cons, append-nil}
use Rattle.tokens.specs.declared.token.Token.{Token}
use Rattle.tokens.specs.declared.token.Token.TheVariants.{Char, Active, Name, Arg, Frozen}
use Rattle.macro_args.specs.declared.braces.Braces.{Braces}
use Rattle.macro_args.specs.declared.judge.Judgement.{Judgement}
use Rattle.macro_args.specs.declared.judge.Judgement.TheVariants as judgement
use Rattle.macro_args.specs.declared.place.Place.{Place}
use Rattle.macro_args.specs.declared.place.Place.TheVariants.{Front, Argument, End}
use Rattle.macro_args.specs.declared.rules.Rules.{Rules}
use Rattle.macro_args.specs.declared.verdict.Refusal.{Refusal}
use Rattle.macro_args.specs.declared.verdict.Verdict.{Verdict}
use Rattle.macro_args.specs.declared.verdict.Verdict.TheVariants.{Need, Done, Refused}
use Rattle.macro_args.specs.ParameterText.{parts_of}
use Rattle.macro_args.specs.BraceCount.{with_brace, no_braces, braces_of, without_braces}
use Rattle.macro_args.specs.Arguments.{Outcome, Refuses, Use, Open, Complete, Unfit, judged, ended, argument_of, argument_list, argument_from, after_argument, arguments_in, behind_front, use_from, use_of}
use Rattle.macro_args.specs.Scanning.{Scanning, front_rest, place_rest, scan_rest, IsPlaceOf, IsUnread, IsSound, StandsFor, Tells, StepsOn, Steps, verdict_at, EndsBy, EndsArgument}
use Rattle.macro_args.proofs.BraceLaws.{exact}
use Rattle.macro_args.proofs.PlaceLaws.{behind_delimiter}

-- ---- one place of an argument

-- an argument's end by what is said of the tokens with one more
abbrev pub outcome_by : Judgement → Rules → List Token → List Token → Token → List Token → Outcome
outcome_by judgement.Passed rules delimiter tokens token more = argument_from rules delimiter [] more
outcome_by judgement.Going rules delimiter tokens token more = argument_from rules delimiter (tokens ++ token ∷ []) more
outcome_by judgement.Found rules delimiter tokens token more =
    ended (argument_list (argument_of delimiter (tokens ++ token ∷ []))) more
outcome_by (judgement.Refused refusal) rules delimiter tokens token more = Refuses refusal more

same_outcome : (j : Judgement) (rules : Rules) (delimiter tokens : List Token) (token : Token) (more : List Token)
    → (elim j [
      | judgement.Passed ↦ argument_from rules delimiter [] more
      | judgement.Going ↦ argument_from rules delimiter (tokens ++ token ∷ []) more
      | judgement.Found ↦ ended (argument_list (argument_of delimiter (tokens ++ token ∷ []))) more
      | judgement.Refused refusal ↦ Refuses refusal more
    ]) ≡ outcome_by j rules delimiter tokens token more
same_outcome judgement.Passed rules delimiter tokens token more = refl
same_outcome judgement.Going rules delimiter tokens token more = refl
same_outcome judgement.Found rules delimiter tokens token more = refl
same_outcome (judgement.Refused refusal) rules delimiter tokens token more = refl

pub judged_outcome : (j : Judgement) (rules : Rules) (delimiter tokens : List Token) (token : Token) (more : List Token)
    → judged rules delimiter (tokens ++ token ∷ []) token ≡ j
    → argument_from rules delimiter tokens (token ∷ more) ≡ outcome_by j rules delimiter tokens token more
judged_outcome j rules delimiter tokens token more e =
    same_outcome (judged rules delimiter (tokens ++ token ∷ []) token) rules delimiter tokens token more
    ∙ ap (λ k. outcome_by k rules delimiter tokens token more) e

-- ---- a step

waits_in_front : (rules : Rules) (found : List (List Token)) (parameters : List Token) (next : ℕ) → next < length parameters
    → front_rest rules found (drop next parameters) [] ≡ Open
waits_in_front rules found parameters next inside = rw (drop-cons parameters next (Arg 0) inside) refl

steps_at : (place : Place) (before after : Scanning) (token : Token)
    → ((more : List Token) → scan_rest before (token ∷ more) ≡ scan_rest (record after { place = place }) more)
    → IsSound (record after { place = place })
    → Steps before token (verdict_at place) (record after { place = place })
steps_at (Front next) before after token rest sound = record {
  rest = rest;
  goes_on = waits_in_front after.rules after.found after.parameters next sound.placed;
  sound = sound;
}
steps_at (Argument begin end) before after token rest sound = record { rest = rest; goes_on = refl; sound = sound }
steps_at End before after token rest sound = rest

-- the answer at a place at which nothing was read yet
pub steps_from : (before after : Scanning) (token : Token) (verdict : Verdict)
    → ((more : List Token) → scan_rest before (token ∷ more) ≡ scan_rest after more) → IsSound after
    → verdict ≡ verdict_at after.place → Steps before token verdict after
steps_from before after token verdict rest sound answer =
    let P : Verdict → Type 0 = λ v. Steps before token v after in
    subst P (sym answer) (steps_at after.place before after token rest sound)

-- the same reader at a delimiter
abbrev pub there : Scanning → ℕ → ℕ → Scanning
there before begin end = record before { place = Argument begin end }

abbrev pub delimiter_at : Scanning → ℕ → List Token
delimiter_at before begin = (parts_of (drop begin before.parameters)).front

abbrev pub further : Scanning → ℕ → List Token → List Token → Use
further before begin argument rest =
    arguments_in before.rules (parts_of (drop begin before.parameters)).delimiters (before.found ++ argument ∷ []) rest

rest_by : (before : Scanning) (begin end : ℕ) (token : Token) (j : Judgement) (more : List Token)
    → judged before.rules (delimiter_at before begin) (before.tokens ++ token ∷ []) token ≡ j
    → scan_rest (there before begin end) (token ∷ more)
    ≡ after_argument (further before begin) (outcome_by j before.rules (delimiter_at before begin) before.tokens token more)
rest_by before begin end token j more e =
    ap (after_argument (further before begin)) (judged_outcome j before.rules (delimiter_at before begin) before.tokens token more e)

-- what the code finds out of the tokens with one more: their braces, and what is to be said of them
pub record Judges (before : Scanning) (begin end : ℕ) (token : Token) (braces : Braces) (j : Judgement) : Type 0 where
  pub counted : before.braces ≡ braces_of before.tokens → braces ≡ braces_of (before.tokens ++ token ∷ [])
  pub judgement : IsPlaceOf before.parameters (Argument begin end) → before.braces ≡ braces_of before.tokens
      → judged before.rules (delimiter_at before begin) (before.tokens ++ token ∷ []) token ≡ j

pub judges : (before : Scanning) (begin end : ℕ) (token : Token) (parameters delimiter tokens : List Token) (braces : Braces) (found j : Judgement)
    → parameters ≡ before.parameters → tokens ≡ before.tokens ++ token ∷ [] → length before.tokens + 1 < 2 ^ 64
    → (before.braces.lone + 1 < 2 ^ 64 → before.braces.unclosed + 1 < 2 ^ 64 → braces ≡ with_brace before.braces token)
    → (end ≡ begin + length (parts_of (drop begin parameters)).front → delimiter ≡ (parts_of (drop begin parameters)).front)
    → (braces ≡ braces_of tokens → found ≡ judged before.rules delimiter tokens token)
    → found ≡ j → Judges before begin end token braces j
judges before begin end token parameters delimiter tokens braces found j same pushed fits counts there says is =
    let counted : before.braces ≡ braces_of before.tokens → braces ≡ braces_of (before.tokens ++ token ∷ []) =
    λ was. exact before.braces braces before.tokens token fits was counts
    in
    record {
      counted = counted;
      judgement = λ placed was.
          let at : end ≡ begin + length (parts_of (drop begin parameters)).front =
          placed ∙ ap (λ p. begin + length (parts_of (drop begin p)).front) (sym same)
          in
          ap (λ d. judged before.rules d (before.tokens ++ token ∷ []) token)
          (ap (λ p. (parts_of (drop begin p)).front) (sym same) ∙ sym (there at))
          ∙ ap (λ t. judged before.rules delimiter t token) (sym pushed)
          ∙ sym (says (counted was ∙ ap braces_of (sym pushed)))
          ∙ is;
    }

-- the place of a reader that is at a delimiter
placed_at : (scan : Scanning) (begin end : ℕ) → scan.place ≡ Argument begin end → IsSound scan
    → IsPlaceOf scan.parameters (Argument begin end)
placed_at scan begin end at sound =
    let P : Place → Type 0 = λ place. IsPlaceOf scan.parameters place in subst P at sound.placed

pub passed : (before now : Scanning) (begin end : ℕ) (token : Token) (braces : Braces) (after : Scanning) → before ≡ now
    → Judges before begin end token braces judgement.Passed → after ≡ record before { tokens = []; braces = no_braces }
    → now.place ≡ Argument begin end → IsSound now → StepsOn now token after
passed before now begin end token braces after same judges made =
    let P : Scanning → Type 0 = λ s. s.place ≡ Argument begin end → IsSound s → StepsOn s token after in
    subst P same (λ at sound.
    let Q : Place → Type 0 =
    λ place. StepsOn (record before { place = place }) token (record before { place = place; tokens = []; braces = no_braces })
    in
    let R : Scanning → Type 0 = λ s. StepsOn before token s in
    let e = judges.judgement (placed_at before begin end at sound) sound.counted in
    subst R (sym made) (subst Q (sym at) (record {
      rest = λ more. rest_by before begin end token judgement.Passed more e;
      goes_on = refl;
      sound = record { placed = placed_at before begin end at sound; unread = tt; counted = refl };
    })))

pub going : (before now : Scanning) (begin end : ℕ) (token : Token) (tokens : List Token) (braces : Braces) → before ≡ now
    → tokens ≡ before.tokens ++ token ∷ [] → Judges before begin end token braces judgement.Going
    → now.place ≡ Argument begin end → IsSound now → StepsOn now token (record before { tokens = tokens; braces = braces })
going before now begin end token tokens braces same pushed judges =
    let P : Scanning → Type 0 =
    λ s. s.place ≡ Argument begin end → IsSound s → StepsOn s token (record before { tokens = tokens; braces = braces })
    in
    subst P same (λ at sound.
    let Q : Place → Type 0 =
    λ place. StepsOn (record before { place = place }) token (record before { place = place; tokens = before.tokens ++ token ∷ []; braces = braces })
    in
    let R : List Token → Type 0 = λ t. StepsOn before token (record before { tokens = t; braces = braces }) in
    let e = judges.judgement (placed_at before begin end at sound) sound.counted in
    subst R (sym pushed) (subst Q (sym at) (record {
      rest = λ more. rest_by before begin end token judgement.Going more e;
      goes_on = refl;
      sound = record { placed = placed_at before begin end at sound; unread = tt; counted = judges.counted sound.counted };
    })))

pub refused : (before now : Scanning) (begin end : ℕ) (token : Token) (braces : Braces) (refusal : Refusal) → before ≡ now
    → Judges before begin end token braces (judgement.Refused refusal)
    → now.place ≡ Argument begin end → IsSound now → (more : List Token) → scan_rest now (token ∷ more) ≡ Unfit refusal more
refused before now begin end token braces refusal same judges =
    let P : Scanning → Type 0 =
    λ s. s.place ≡ Argument begin end → IsSound s → (more : List Token) → scan_rest s (token ∷ more) ≡ Unfit refusal more
    in
    subst P same (λ at sound more.
    let Q : Place → Type 0 = λ place. scan_rest (record before { place = place }) (token ∷ more) ≡ Unfit refusal more in
    let e = judges.judgement (placed_at before begin end at sound) sound.counted in
    subst Q (sym at) (rest_by before begin end token (judgement.Refused refusal) more e))

found_there : (before after : Scanning) (begin end : ℕ) (token : Token) (verdict : Verdict) (list : Option (List Token))
    → IsPlaceOf before.parameters (Argument begin end)
    → ((more : List Token) → scan_rest (there before begin end) (token ∷ more) ≡ after_argument (further before begin) (ended list more))
    → (mid : Scanning) → mid.rules ≡ before.rules → mid.parameters ≡ before.parameters → mid.found ≡ before.found
    → EndsBy list end mid verdict after
    → Steps (there before begin end) token verdict after
found_there before after begin end token verdict None placed rest mid rules parameters found ends =
    let P : Verdict → Type 0 = λ v. Steps (there before begin end) token v after in
    subst P (sym ends) rest
found_there before after begin end token verdict (Some argument) placed rest mid rules parameters found ends =
    let goes : (more : List Token) → scan_rest (there before begin end) (token ∷ more) ≡ scan_rest after more =
    λ more.
    rest more
    ∙ ap (λ f. arguments_in before.rules (parts_of (drop begin before.parameters)).delimiters (f ++ argument ∷ []) more) (sym found)
    ∙ ap (λ f. arguments_in before.rules (parts_of (drop begin before.parameters)).delimiters f more) (sym ends.found)
    ∙ ap (λ parts. behind_front before.rules parts.front parts.delimiters after.found more) (sym (behind_delimiter before.parameters begin end placed))
    ∙ ap (λ r. use_from r after.found (drop end before.parameters) more) (sym rules)
    ∙ ap (λ p. use_from mid.rules after.found (drop end p) more) (sym parameters)
    ∙ sym (ends.rest more)
    in
    steps_from (there before begin end) after token verdict goes ends.sound ends.answer

pub found : (before now after : Scanning) (begin end own : ℕ) (token : Token) (tokens : List Token) (braces : Braces) (verdict : Verdict)
    → before ≡ now → tokens ≡ before.tokens ++ token ∷ [] → Judges before begin end token braces judgement.Found
    → (IsPlaceOf before.parameters (Argument begin end) → own ≡ length (delimiter_at before begin))
    → EndsArgument own end (record before { tokens = tokens; braces = braces }) verdict after
    → now.place ≡ Argument begin end → IsSound now → Steps now token verdict after
found before now after begin end own token tokens braces verdict same pushed judges long ends =
    let P : Scanning → Type 0 = λ s. s.place ≡ Argument begin end → IsSound s → Steps s token verdict after in
    subst P same (λ at sound.
    let Q : Place → Type 0 = λ place. Steps (record before { place = place }) token verdict after in
    let placed = placed_at before begin end at sound in
    let e = judges.judgement placed sound.counted in
    let mid : Scanning = record before { tokens = tokens; braces = braces } in
    let text : List Token = take (length tokens - own) tokens in
    let is : argument_of (delimiter_at before begin) (before.tokens ++ token ∷ []) ≡ without_braces text =
    ap (λ t. argument_of (delimiter_at before begin) t) (sym pushed)
    ∙ ap (λ n. without_braces (take (length tokens - n) tokens)) (sym (long placed))
    in
    subst Q (sym at) (found_there before after begin end token verdict (argument_list (without_braces text)) placed
    (λ more. rest_by before begin end token judgement.Found more e
    ∙ ap (λ a. after_argument (further before begin) (ended (argument_list a) more)) is)
    mid refl refl refl ends))

-- the code's delimiter is as long as that of the parameter text
pub as_long : (text : List Token) (begin end : ℕ) (parameters delimiter : List Token) → parameters ≡ text
    → (end ≡ begin + length (parts_of (drop begin parameters)).front → delimiter ≡ (parts_of (drop begin parameters)).front)
    → IsPlaceOf text (Argument begin end) → length delimiter ≡ length (parts_of (drop begin text)).front
as_long text begin end parameters delimiter same there placed =
    ap length (there (placed ∙ ap (λ p. begin + length (parts_of (drop begin p)).front) (sym same)))
    ∙ ap (λ p. length (parts_of (drop begin p)).front) same

-- ---- the whole list

-- a reader of nothing
begins : (rules : Rules) (found : List (List Token)) (parameters : List Token) → 0 < length parameters
    → use_from rules found parameters [] ≡ Open
begins rules found [] some = absurd (omega arith)
begins rules found (Char cat byte ∷ parameters) some = refl
begins rules found (Active byte ∷ parameters) some = refl
begins rules found (Name id ∷ parameters) some = refl
begins rules found (Arg number ∷ parameters) some = refl
begins rules found (Frozen number ∷ parameters) some = refl

unread_at : (place : Place) → IsUnread place []
unread_at (Front next) = refl
unread_at (Argument begin end) = tt
unread_at End = tt

pub scan_new : (rules : Rules) (parameters : List Token) (place : Place) (scan : Scanning) → 0 < length parameters
    → scan ≡ record { rules = rules; parameters = parameters; place = place; found = []; tokens = []; braces = no_braces }
    → ((more : List Token) → place_rest rules parameters [] [] place more ≡ use_from rules [] parameters more)
    → IsPlaceOf parameters place
    → StandsFor rules parameters [] scan
scan_new rules parameters place scan some made rest placed =
    let P : Scanning → Type 0 = λ s. StandsFor rules parameters [] s in
    subst P (sym made) (record {
      goes_on = begins rules [] parameters some;
      follows = λ more. sym (rest more);
      sound = record { placed = placed; unread = unread_at place; counted = refl };
    })

pub scan_waits : (rules : Rules) (parameters taken : List Token) (scan : Scanning) → StandsFor rules parameters taken scan
    → scan_rest scan [] ≡ Open
scan_waits rules parameters taken scan stands =
    sym (stands.follows []) ∙ ap (use_of rules parameters) (append-nil taken) ∙ stands.goes_on

pub scan_tells : (rules : Rules) (parameters taken : List Token) (before after : Scanning) (token : Token) (verdict : Verdict)
    → StandsFor rules parameters taken before → Steps before token verdict after
    → Tells rules parameters (taken ++ token ∷ []) verdict after
scan_tells rules parameters taken before after token Need stands steps =
    let follows : (more : List Token) → use_of rules parameters ((taken ++ token ∷ []) ++ more) ≡ scan_rest after more =
    λ more. ap (use_of rules parameters) (append_assoc taken (token ∷ []) more) ∙ stands.follows (token ∷ more) ∙ steps.rest more
    in
    record {
      goes_on = ap (use_of rules parameters) (sym (append-nil (taken ++ token ∷ []))) ∙ follows [] ∙ steps.goes_on;
      follows = follows;
      sound = steps.sound;
    }
scan_tells rules parameters taken before after token Done stands steps = λ more.
    ap (use_of rules parameters) (append_assoc taken (token ∷ []) more) ∙ stands.follows (token ∷ more) ∙ steps more
scan_tells rules parameters taken before after token (Refused refusal) stands steps = λ more.
    ap (use_of rules parameters) (append_assoc taken (token ∷ []) more) ∙ stands.follows (token ∷ more) ∙ steps more

-- a reader whose parameter text is at its end waits for nothing
pub none_at_end : {Q : Type 0} (before now : Scanning) → before ≡ now → before.place ≡ End → scan_rest now [] ≡ Open → Q
none_at_end before now same at waits =
    let P : Place → Type 0 = λ place. scan_rest (record before { place = place }) [] ≡ Open in
    let open_at_end : Complete before.found [] ≡ Open = subst P at (ap (λ s. scan_rest s []) same ∙ waits) in
    cc
