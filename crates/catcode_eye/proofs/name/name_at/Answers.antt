use Rattle.std.proofs.Common.{◌≡◌, List, ℕ, [], ap, ◌∙◌, sym}
use Rattle.std.proofs.lemmas.List.{drop_all}
use Rattle.catcode_eye.specs.declared.seen.Seen.TheVariants.{Word}
use Rattle.catcode_eye.specs.declared.seen.State.TheVariants.{MidLine}
use Rattle.catcode_eye.specs.Superscripts.{reduced, reduced-nil}
use Rattle.catcode_eye.specs.Seen.{Sight, named}
use Rattle.catcode_eye.proofs.name.name_at.Goals as goal

-- the empty name
empty_name : (cats name rest : List ℕ) → name ≡ [] → rest ≡ []
    → named cats (reduced cats rest) ≡ record { seen = Word name; rest = rest; state = MidLine }
empty_name cats name rest empty none =
    let mid : List ℕ → List ℕ → Sight = λ n r. record { seen = Word n; rest = r; state = MidLine } in
    ap (λ r. named cats (reduced cats r)) none ∙ ap (named cats) (reduced-nil cats)
    ∙ ap (λ n. mid n []) (sym empty) ∙ ap (mid name) (sym none)

pub returns-then-at-line-clause-value : goal.returns-then-at-line-clause-value
returns-then-at-line-clause-value c =
    empty_name _ _ _ c.requires.empty (drop_all _ _ c.if-at-line.true)
