-- The parameter text is the list of the tokens so far.
use Rattle.std.proofs.Common.{List, [], ◌∷◌, ◌≡◌, ◌∙◌, subst}
use Rattle.tokens.specs.declared.token.Token.{Token}
use Rattle.gullet.specs.declared.in_text.Purpose.TheVariants.{Body}
use Rattle.gullet.specs.Progress.{rest_behind, WhileOpen}
use Rattle.gullet.specs.Wants.{Taken, Ahead, gathered}
use Rattle.gullet.proofs.definition.opened.Goals as goal

pub returns-clause-steps : goal.returns-clause-steps
returns-clause-steps c =
    let P : List Token → Type 0 = λ list. WhileOpen c.begun.result.1 ((x : Taken) (xs : List Taken)
    → gathered (Body list c.args.text.count c.args.brace) c.args.text.expanded Ahead 0 [] (x ∷ xs) ≡ rest_behind c.begun.result.0 x xs) in
    subst P (c.in_ok-parameters.ensures ∙ c.deref.ensures.value) c.begun.ensures.steps
