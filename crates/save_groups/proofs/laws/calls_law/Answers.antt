-- By the list of calls.
use Rattle.std.proofs.Common.{◌≡◌, List, [], ◌∷◌, ap, subst, ◌∙◌}
use Rattle.save_groups.specs.Environments.{Copies}
use Rattle.save_groups.specs.Standing.{Store, copies_of}
use Rattle.save_groups.specs.Calls.{CallsLaw, Attempt, ComesTo, AreExact, IsExact, attempted, after_attempts}
use Rattle.save_groups.proofs.laws.calls_law.Goals as goal

comes_to : (c : Copies) (s t : Store) (attempts : List Attempt) → copies_of s ≡ c → ComesTo s attempts t
    → (copies_of t ≡ after_attempts attempts c) × AreExact attempts c
comes_to c s t [] here h = (ap copies_of h ∙ here, tt)
comes_to c s t (attempt ∷ attempts) here h =
    let P : Copies → Type 0 = λ d. IsExact attempt.call d attempt.answer in
    let rest = comes_to (attempted attempt c) h.0 t attempts (h.1.1 ∙ ap (attempted attempt) here) h.2 in
    (rest.0, (subst P here h.1.0, rest.1))

whole : CallsLaw
whole extended s t attempts begins h = comes_to _ s t attempts begins h

pub returns : goal.returns
returns c = record { law = whole }
