use Rattle.std.proofs.Common.{◌≡◌, ℤ, [], ◌∷◌, refl, sym, subst, ◌∙◌, arith, rules, w32, FitsSigned}
use Rattle.std.proofs.lemmas.Int.{to_z-of_z}
use Rattle.tfm.specs.declared.action.Action.TheVariants.{Nothing, Kern}
use Rattle.lig_kern.specs.Elements.{kern_node}
use Rattle.lig_kern.specs.Rewriting.{Word, passed}
use Rattle.lig_kern.specs.WordOf.{word_of}
use Rattle.lig_kern.proofs.Cursors.{turn-over, turn-on, turn-rewrites}
use Rattle.lig_kern.proofs.rewriter.Rewriter.meet.Goals as goal

pub returns-then-self-gt0 : goal.returns-then-self-gt0
returns-then-self-gt0 c =
    turn-over c.args.metrics.now (word_of c.args.self.now) (word_of c.pass.new.self) c.args.next c.args.budget.now c.if-self-gt0.true c.in_ok-pass.ensures

pub returns-in_ok-pass-in-Nothing : goal.returns-in_ok-pass-in-Nothing
returns-in_ok-pass-in-Nothing c =
    turn-on c.args.metrics.now (word_of c.args.self.now) (word_of c.pass-in-Nothing.new.self) c.args.next c.args.budget.now Nothing (omega arith)
    (sym c.action_between.ensures ∙ c.in-Nothing.is) refl c.in_ok-pass-in-Nothing.ensures

pub returns-in_ok-pass_with_kern-in-Kern : goal.returns-in_ok-pass_with_kern-in-Kern
returns-in_ok-pass_with_kern-in-Kern c =
    let m = c.args.metrics.now in
    let w : Word = word_of c.args.self.now in
    let new : Word = word_of c.pass_with_kern.new.self in
    let width = c.in-Kern.width in
    let fits : FitsSigned w32 width = search rules in
    let P : ℤ → Type 0 = λ z. new ≡ passed m c.args.next (kern_node z ∷ []) w in
    turn-on m w new c.args.next c.args.budget.now (Kern width) (omega arith) (sym c.action_between.ensures ∙ c.in-Kern.is) refl
    (subst P (to_z-of_z w32 width fits) c.in_ok-pass_with_kern-in-Kern.ensures)

pub returns-in-Lig : goal.returns-in-Lig
returns-in-Lig c =
    turn-rewrites c.args.metrics.now (word_of c.args.self.now) c.args.next c.args.budget.now c.in-Lig.byte c.in-Lig.skip c.in-Lig.keep_left c.in-Lig.keep_right
    c.rewrite_for_step.result (word_of c.rewrite_for_step.new.self) c.rewrite_for_step.new.budget (omega arith) (sym c.action_between.ensures ∙ c.in-Lig.is) c.rewrite_for_step.ensures
