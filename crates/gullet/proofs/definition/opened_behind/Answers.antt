-- The parameter text has the brace as its last token.
use Rattle.std.proofs.Common.{List, [], ◌∷◌, ◌≡◌, IfOk, Some, subst}
use Rattle.tokens.specs.declared.token.Token.{Token}
use Rattle.gullet.specs.Progress.{rest_behind, WhileOpen}
use Rattle.gullet.specs.Wants.{Taken, body_opened}
use Rattle.gullet.proofs.definition.opened_behind.Goals as goal

pub returns-clause-steps : goal.returns-clause-steps
returns-clause-steps c =
    let P : List Token → Type 0 = λ list. IfOk c.opened.result (λ r. WhileOpen r.1 ((x : Taken) (xs : List Taken)
    → body_opened c.args.text.expanded c.args.text.count (Some c.args.token) (x ∷ xs) list ≡ rest_behind r.0 x xs)) in
    subst P c.in_ok-push.ensures.items c.opened.ensures.steps
