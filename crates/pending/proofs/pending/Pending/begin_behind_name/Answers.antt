-- The innermost source is that of the flat list.
use Rattle.std.proofs.Common.{◌≡◌, ℤ, ap, sym, subst, ◌∙◌, None, Some, Ok, List}
use Rattle.std.specs.Prelude.{Option, OnOk, IfErr}
use Rattle.std.specs.Int.{w32}
use Rattle.std.proofs.lemmas.Int.{to_z-of_z}
use Rattle.std.proofs.lemmas.Result.{on_ok_weaker, MatchResult-weaker}
use Rattle.tokens.specs.Ends.{Ends, Gives}
use Rattle.pending.specs.Levels.{flat}
use Rattle.pending.specs.declared.source.Source.{Source}
use Rattle.pending.specs.Pending.{Item, begun_behind_name, begun_at, begun_source, opening}
use Rattle.pending.proofs.Flats.{begun-none, begun-on_ok, begun-if_err}
use Rattle.pending.proofs.pending.Pending.begin_behind_name.Goals as goal

pub returns-in-None-clause-gives : goal.returns-in-None-clause-gives
returns-in-None-clause-gives c =
    let p = c.self.inside in
    let none : None ≡ p.source = cc (c.in-None.is) in
    begun-none c.args.end_line p.front p.top p.below.items p.source p.outer.items c.args.budget.now c.args.self.now c.self.view_is none

pub returns-clause-gives : goal.returns-clause-gives
returns-clause-gives c =
    let p = c.self.inside in
    let some : Some c.in-Some.source ≡ p.source = cc (c.in-Some.is) in
    begun-on_ok c.args.end_line p.front p.top p.below.items p.source c.in-Some.source c.begin_behind_name.new.self p.outer.items c.args.budget.now
    c.begin_behind_name.new.budget c.args.self.now c.self.view_is some c.begin_behind_name.result
    (let P : ℤ → Type 0 = λ z. OnOk c.begin_behind_name.result (Gives (begun_source z c.in-Some.source c.args.budget.now) (c.begin_behind_name.new.self, c.begin_behind_name.new.budget)) in
    subst P (to_z-of_z w32 c.args.end_line c.ranges.end_line) c.begin_behind_name.ensures.gives)

pub returns-clause-ends : goal.returns-clause-ends
returns-clause-ends c =
    let p = c.self.inside in
    let some : Some c.in-Some.source ≡ p.source = cc (c.in-Some.is) in
    begun-if_err c.args.end_line p.front p.top p.below.items p.source c.in-Some.source p.outer.items c.args.budget.now
    c.args.self.now c.self.view_is some c.begin_behind_name.result
    (let P : ℤ → Type 0 = λ z. IfErr c.begin_behind_name.result (λ stop. Ends (begun_source z c.in-Some.source c.args.budget.now) stop) in
    subst P (to_z-of_z w32 c.args.end_line c.ranges.end_line) c.begin_behind_name.ensures.ends)
