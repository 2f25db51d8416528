-- A text that is passed over takes a token up.
use Rattle.std.proofs.Common.{◌≡◌, ℕ, ◌+◌, ◌<◌, ◌^◌, List, [], ◌∷◌, ◌++◌, length, map, Option, Some, None, sym, ◌∙◌, ap, subst, arith, append-nil, length-append}
use Rattle.std.proofs.lemmas.List.{length-map, map-append}
use Rattle.tokens.specs.declared.token.Token.{Token}
use Rattle.tokens.specs.declared.meaning.Meaning.{Meaning}
use Rattle.conditionals.specs.declared.skip.Skip.{Skip}
use Rattle.conditionals.specs.declared.skip.Skip.TheVariants.{Go, Stopped}
use Rattle.conditionals.specs.Branches.{Stopping, stop_of}
use Rattle.conditionals.specs.Skipping.{Skipping, StandsFor, Tells}
use Rattle.gullet.specs.declared.context.Context.{Context}
use Rattle.gullet.specs.declared.progress.Progress.TheVariants.{Passing, Telling}
use Rattle.gullet.specs.declared.task.Task.{Task}
use Rattle.gullet.specs.declared.task.Task.TheVariants.{PassOver}
use Rattle.gullet.specs.declared.task.Told.TheVariants.{Word}
use Rattle.gullet.specs.declared.task.Want.TheVariants.{Raw, Gives}
use Rattle.gullet.specs.Progress.{Stands, TakesUp}
use Rattle.gullet.specs.Wants.{Taken, Tok, wants, meaning_of, pass_over_by}

-- what the scan answers to a token with this meaning
abbrev pub Answers : Skipping → Meaning → Skip → Skipping → Type 0
Answers before m skip after = (sought : ℕ) (taken : List Meaning) → length taken + 1 < 2 ^ 64
    → StandsFor sought taken before → Tells sought (taken ++ m ∷ []) skip after

tells_then : (sought : ℕ) (before after : Skipping) (count : ℕ) (m : Meaning) (skip : Skip) (c : Context) (kind : Task) (taken : List Taken)
    → count + 1 < 2 ^ 64 → Answers before m skip after → Stands (Passing sought before count) c kind taken
    → Tells sought (map meaning_of taken ++ m ∷ []) skip after
tells_then sought before after count m skip c kind taken few answers stands =
    let same : length (map meaning_of taken) ≡ length taken = length-map taken meaning_of in
    let counted : count ≡ length taken = stands.2 in
    answers sought (map meaning_of taken) (omega arith) stands.1

-- what the phrase wants, by whether the text ends
wants_then : (sought : ℕ) (c : Context) (kind : Task) (taken : List Taken) (t : Token) (m : Meaning) (stop : Option Stopping) → kind ≡ PassOver sought
    → stop_of sought (map meaning_of taken ++ m ∷ []) ≡ stop → pass_over_by stop ≡ wants c kind (taken ++ Tok t m ∷ [])
unfolding wants
wants_then sought c kind taken t m stop is stops =
    ap pass_over_by (sym stops ∙ ap (stop_of sought) (sym (map-append meaning_of taken (Tok t m ∷ []))))
    ∙ ap (λ k. wants c k (taken ++ Tok t m ∷ [])) (sym is)

-- the text goes on
pub passes : (sought : ℕ) (before after : Skipping) (count longer : ℕ) (t : Token) (m : Meaning) → count + 1 < 2 ^ 64 → longer ≡ count + 1
    → Answers before m Go after → TakesUp (Passing sought before count) (Tok t m) (Passing sought after longer) Raw
passes sought before after count longer t m few counts answers = record {
  wants = λ c kind taken stands.
      let tells : StandsFor sought (map meaning_of taken ++ m ∷ []) after = tells_then sought before after count m Go c kind taken few answers stands in
      wants_then sought c kind taken t m None stands.0 tells.goes_on;
  stands = λ c kind taken stands.
      let tells : StandsFor sought (map meaning_of taken ++ m ∷ []) after = tells_then sought before after count m Go c kind taken few answers stands in
      let P : List Meaning → Type 0 = λ ms. StandsFor sought ms after in
      let long : length (taken ++ Tok t m ∷ []) ≡ length taken + 1 = length-append taken (Tok t m ∷ []) in
      let counted : count ≡ length taken = stands.2 in
      (stands.0, subst P (sym (map-append meaning_of taken (Tok t m ∷ []))) tells, omega arith);
  ready = tt;
}

-- the text ends
pub stops : (sought : ℕ) (before after : Skipping) (count word : ℕ) (t : Token) (m : Meaning) → count + 1 < 2 ^ 64
    → Answers before m (Stopped word) after → TakesUp (Passing sought before count) (Tok t m) Telling (Gives (Word word) None)
stops sought before after count word t m few answers = record {
  wants = λ c kind taken stands.
      let all : List Meaning = map meaning_of taken ++ m ∷ [] in
      let stop : Option Stopping = Some (record { taken = length all; word = word }) in
      let tells : (more : List Meaning) → stop_of sought (all ++ more) ≡ stop = tells_then sought before after count m (Stopped word) c kind taken few answers stands in
      wants_then sought c kind taken t m stop stands.0 (ap (stop_of sought) (sym (append-nil all)) ∙ tells []);
  stands = λ c kind taken stands. tt;
  ready = tt;
}
