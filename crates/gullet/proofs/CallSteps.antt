-- A macro's call takes a token up.
use Rattle.std.proofs.Common.{◌≡◌, Bool, true, false, List, [], ◌∷◌, ◌++◌, None, refl, sym, ◌∙◌, ap, subst, append-nil}
use Rattle.tokens.specs.declared.token.Token.{Token}
use Rattle.tokens.specs.declared.meaning.Macro.{Macro}
use Rattle.tokens.specs.declared.meaning.Meaning.{Meaning}
use Rattle.macro_args.specs.declared.rules.Rules.{Rules}
use Rattle.macro_args.specs.declared.verdict.Refusal.{Refusal}
use Rattle.macro_args.specs.declared.verdict.Verdict.{Verdict}
use Rattle.macro_args.specs.declared.verdict.Verdict.TheVariants.{Need, Done, Refused}
use Rattle.macro_args.specs.Arguments.{Use, Complete, Unfit, use_of}
use Rattle.macro_args.specs.Scanning.{Scanning, StandsFor, Tells}
use Rattle.gullet.specs.declared.calling.Parts.{Parts}
use Rattle.gullet.specs.declared.context.Context.{Context}
use Rattle.gullet.specs.declared.progress.Progress.{Progress}
use Rattle.gullet.specs.declared.progress.Progress.TheVariants.{Call, Finishing}
use Rattle.gullet.specs.declared.task.Act.{Act}
use Rattle.gullet.specs.declared.task.Act.TheVariants as act
use Rattle.gullet.specs.declared.task.Task.{Task}
use Rattle.gullet.specs.declared.task.Task.TheVariants as task
use Rattle.gullet.specs.declared.task.Want.{Want}
use Rattle.gullet.specs.declared.task.Want.TheVariants as want
use Rattle.gullet.specs.Progress.{Stands, Follows, TakesUp}
use Rattle.gullet.specs.Wants.{Taken, Tok, Got, Was, wants, done, matching, tokens_in, was_done, behind_use, used_by}

tokens_in-append : (taken more : List Taken) → tokens_in (taken ++ more) ≡ tokens_in taken ++ tokens_in more
tokens_in-append [] more = refl
tokens_in-append (Tok t m ∷ taken) more = ap (λ ts. t ∷ ts) (tokens_in-append taken more)
tokens_in-append (Got tells ∷ taken) more = tokens_in-append taken more
tokens_in-append (Was tells ∷ taken) more = tokens_in-append taken more

was_done-append : (taken more : List Taken) → was_done taken ≡ false → was_done (taken ++ more) ≡ was_done more
was_done-append [] more undone = refl
was_done-append (Tok t m ∷ taken) more undone = was_done-append taken more undone
was_done-append (Got tells ∷ taken) more undone = cc
was_done-append (Was tells ∷ taken) more undone = cc

-- behind a whole use whatever is taken ends the call
behind_whole : (is_done : Bool) (w : Want) (t : Token) (behind : List Token) → behind_use w is_done (t ∷ behind) ≡ done
behind_whole true w t behind = refl
behind_whole false w t behind = refl

pub behind_taken : (w : Want) (x : Taken) (xs : List Taken) → behind_use w (was_done (x ∷ xs)) (tokens_in (x ∷ xs)) ≡ done
behind_taken w (Tok t m) xs = behind_whole (was_done xs) w t (tokens_in xs)
behind_taken w (Got tells) xs = refl
behind_taken w (Was tells) xs = refl

-- what the call wants behind more
wants_behind : (c : Context) (kind : Task) (name : Token) (called : Macro) (taken more : List Taken)
    → kind ≡ task.Call name called → was_done taken ≡ false
    → wants c kind (taken ++ more)
    ≡ used_by name called (was_done more) (use_of (matching called) called.params (tokens_in taken ++ tokens_in more))
unfolding wants
wants_behind c kind name called taken more is undone =
    ap (λ k. wants c k (taken ++ more)) is
    ∙ ap (λ b. used_by name called b (use_of (matching called) called.params (tokens_in (taken ++ more)))) (was_done-append taken more undone)
    ∙ ap (λ ts. used_by name called (was_done more) (use_of (matching called) called.params ts)) (tokens_in-append taken more)

-- a call of which this was read
abbrev pub parts : Token → Macro → Scanning → Parts
parts name called scan = record { name = name; called = called; scan = scan }

-- what the reader answers to a token
abbrev pub Answers : Scanning → Token → Verdict → Scanning → Type 0
Answers before t verdict after = (rules : Rules) (parameters taken : List Token)
    → StandsFor rules parameters taken before → Tells rules parameters (taken ++ t ∷ []) verdict after

pub answers_with : (before after : Scanning) (t : Token) (v w : Verdict) → v ≡ w → Answers before t v after → Answers before t w after
answers_with before after t v w same answers =
    let A : Verdict → Type 0 = λ u. Answers before t u after in
    subst A same answers

-- the use isn't whole yet
pub goes_on : (name : Token) (called : Macro) (before after : Scanning) (t : Token) (m : Meaning)
    → Answers before t Need after → TakesUp (Call (parts name called before)) (Tok t m) (Call (parts name called after)) want.Raw
goes_on name called before after t m answers = record {
  wants = λ c kind taken stands.
      let tells : StandsFor (matching called) called.params (tokens_in taken ++ t ∷ []) after =
      answers (matching called) called.params (tokens_in taken) stands.1
      in
      sym (wants_behind c kind name called taken (Tok t m ∷ []) stands.0 stands.2 ∙ ap (used_by name called false) tells.goes_on);
  stands = λ c kind taken stands.
      let P : List Token → Type 0 = λ ts. StandsFor (matching called) called.params ts after in (
        stands.0,
        subst P (sym (tokens_in-append taken (Tok t m ∷ []))) (answers (matching called) called.params (tokens_in taken) stands.1),
        was_done-append taken (Tok t m ∷ []) stands.2,
      );
  ready = tt;
}

-- whatever stands behind the token, the use is seen to be this, and then something is done
pub record Ends (name : Token) (called : Macro) (before : Scanning) (t : Token) (does : Act) : Type 0 where
  pub seen : List Token → Use
  pub whole : (taken : List Token) → StandsFor (matching called) called.params taken before
      → (more : List Token) → use_of (matching called) called.params ((taken ++ t ∷ []) ++ more) ≡ seen more
  pub used : (is_done : Bool) (more : List Token) → used_by name called is_done (seen more) ≡ behind_use (want.Act does) is_done more

wants_done : (name : Token) (called : Macro) (before : Scanning) (t : Token) (m : Meaning) (does : Act) → Ends name called before t does
    → (c : Context) (kind : Task) (taken : List Taken) → Stands (Call (parts name called before)) c kind taken
    → want.Act does ≡ wants c kind (taken ++ Tok t m ∷ [])
wants_done name called before t m does ends c kind taken stands =
    let all : List Token = tokens_in taken ++ t ∷ [] in
    sym
    (
    wants_behind c kind name called taken (Tok t m ∷ []) stands.0 stands.2
    ∙ ap (λ ts. used_by name called false (use_of (matching called) called.params ts)) (sym (append-nil all))
    ∙ ap (used_by name called false) (ends.whole (tokens_in taken) stands.1 [])
    ∙ ends.used false []
    )

follows_done : (name : Token) (called : Macro) (before : Scanning) (t : Token) (m : Meaning) (does : Act) → Ends name called before t does
    → (c : Context) (kind : Task) (taken : List Taken) → Stands (Call (parts name called before)) c kind taken
    → Follows (Finishing None) c kind (taken ++ Tok t m ∷ [])
follows_done name called before t m does ends c kind taken stands = λ x xs.
    let now : List Taken = taken ++ Tok t m ∷ [] in
    let more : List Token = tokens_in (x ∷ xs) in
    wants_behind c kind name called now (x ∷ xs) stands.0 (was_done-append taken (Tok t m ∷ []) stands.2)
    ∙ ap (λ ts. used_by name called (was_done (x ∷ xs)) (use_of (matching called) called.params (ts ++ more))) (tokens_in-append taken (Tok t m ∷ []))
    ∙ ap (used_by name called (was_done (x ∷ xs))) (ends.whole (tokens_in taken) stands.1 more)
    ∙ ends.used (was_done (x ∷ xs)) more
    ∙ behind_taken (want.Act does) x xs

takes_last : (name : Token) (called : Macro) (before : Scanning) (t : Token) (m : Meaning) (does : Act) → Ends name called before t does
    → TakesUp (Call (parts name called before)) (Tok t m) (Finishing None) (want.Act does)
takes_last name called before t m does ends = record {
  wants = wants_done name called before t m does ends;
  stands = follows_done name called before t m does ends;
  ready = tt;
}

-- the use is whole
pub ends_use : (name : Token) (called : Macro) (before after : Scanning) (t : Token) (m : Meaning) (arguments : List (List Token))
    → arguments ≡ after.found → Answers before t Done after
    → TakesUp (Call (parts name called before)) (Tok t m) (Finishing None) (want.Act (act.Text called.body arguments))
ends_use name called before after t m arguments same answers =
    let T : List (List Token) → Type 0 =
    λ found. TakesUp (Call (parts name called before)) (Tok t m) (Finishing None) (want.Act (act.Text called.body found))
    in
    subst T (sym same)
    (takes_last name called before t m (act.Text called.body after.found) (record {
      seen = Complete after.found;
      whole = λ taken stands more. answers (matching called) called.params taken stands more;
      used = λ is_done more. refl;
    }))

-- the tokens are no use
pub refuses : (name : Token) (called : Macro) (before after : Scanning) (t : Token) (m : Meaning) (refusal : Refusal)
    → Answers before t (Refused refusal) after
    → TakesUp (Call (parts name called before)) (Tok t m) (Finishing None) (want.Act (act.Refuse name refusal))
refuses name called before after t m refusal answers =
    takes_last name called before t m (act.Refuse name refusal) (record {
      seen = Unfit refusal;
      whole = λ taken stands more. answers (matching called) called.params taken stands more;
      used = λ is_done more. refl;
    })

-- ---- the same, of a call by its parts

-- the use isn't whole yet
pub call_goes_on : (before after : Parts) (t : Token) (m : Meaning) → after.name ≡ before.name → after.called ≡ before.called
    → Answers before.scan t Need after.scan → TakesUp (Call before) (Tok t m) (Call after) want.Raw
call_goes_on before after t m names calls answers =
    let T : Token → Macro → Type 0 = λ name called. TakesUp (Call before) (Tok t m) (Call (parts name called after.scan)) want.Raw in
    subst (λ name. T name after.called) (sym names)
    (subst (λ called. T before.name called) (sym calls) (goes_on before.name before.called before.scan after.scan t m answers))

-- the parts of a call are those of the same call
parts_in : Progress → Parts → Parts
parts_in (Call call) other = call
parts_in _ other = other

pub same_parts : (a b : Parts) → Call a ≡ Call b → a ≡ b
unfolding parts_in
same_parts a b same = ap (λ p. parts_in p a) same

-- the use is whole
pub call_ends : (before after last : Parts) (t : Token) (m : Meaning) → after.called ≡ before.called → Call after ≡ Call last
    → Answers before.scan t Done after.scan
    → TakesUp (Call before) (Tok t m) (Finishing None) (want.Act (act.Text last.called.body last.scan.found))
call_ends before after last t m calls same answers =
    let T : Parts → Type 0 = λ call. TakesUp (Call before) (Tok t m) (Finishing None) (want.Act (act.Text call.called.body call.scan.found)) in
    let M : Macro → Type 0 = λ called. TakesUp (Call before) (Tok t m) (Finishing None) (want.Act (act.Text called.body after.scan.found)) in
    subst T (same_parts after last same)
    (subst M (sym calls) (ends_use before.name before.called before.scan after.scan t m after.scan.found refl answers))

-- the tokens are no use
pub call_refuses : (before after last : Parts) (t : Token) (m : Meaning) (refusal : Refusal) → after.name ≡ before.name → Call after ≡ Call last
    → Answers before.scan t (Refused refusal) after.scan
    → TakesUp (Call before) (Tok t m) (Finishing None) (want.Act (act.Refuse last.name refusal))
call_refuses before after last t m refusal names same answers =
    let T : Parts → Type 0 = λ call. TakesUp (Call before) (Tok t m) (Finishing None) (want.Act (act.Refuse call.name refusal)) in
    let N : Token → Type 0 = λ name. TakesUp (Call before) (Tok t m) (Finishing None) (want.Act (act.Refuse name refusal)) in
    subst T (same_parts after last same)
    (subst N (sym names) (refuses before.name before.called before.scan after.scan t m refusal answers))
