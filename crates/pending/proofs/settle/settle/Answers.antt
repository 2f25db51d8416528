-- A level that is used up stands for nothing.
use Rattle.std.proofs.Common.{◌≡◌, ◌∙◌, ap, sym, List, [], ◌∷◌, ◌++◌}
use Rattle.std.specs.Prelude.{reverse}
use Rattle.std.proofs.lemmas.List.{reverse-append}
use Rattle.pending.specs.declared.level.Level.{Level}
use Rattle.pending.specs.Levels.{joined}
use Rattle.pending.proofs.Stacks.{joined-used}
use Rattle.pending.proofs.settle.settle.Goals as goal

pub levels-preserved-in-Some-2 : goal.levels-preserved-in-Some-2
levels-preserved-in-Some-2 c = λ sources.
    let popped : c.levels.below.items ≡ c.pop.new.self.items ++ c.in-Some.level ∷ [] = cc (c.in-Some.ensures.items) in
    let turned : reverse c.levels.below.items ≡ c.in-Some.level ∷ reverse c.pop.new.self.items =
    ap reverse popped ∙ reverse-append c.pop.new.self.items (c.in-Some.level ∷ []) in
    ap (λ (levels : List Level). joined levels sources) (sym turned)
    ∙ sym (joined-used c.levels.top (reverse c.levels.below.items) sources (sym c.in-Used.ensures))
    ∙ c.levels.invariant sources
