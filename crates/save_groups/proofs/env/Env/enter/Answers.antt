-- There is room for 255 groups.
use Rattle.std.proofs.Common.{◌≡◌, refl, sym, ap, ◌∙◌, length, arith, subst, List, ◌∷◌}
use Rattle.std.proofs.lemmas.Bool.{false≢true}
use Rattle.save_groups.specs.InForce.{at}
use Rattle.save_groups.specs.Standing.{Mark}
use Rattle.save_groups.specs.Kept.{AreKept, marks_of}
use Rattle.save_groups.proofs.Keeping.{kept-entered}
use Rattle.save_groups.proofs.Marks.{length-copies, marks-push, marks-entered}
use Rattle.save_groups.proofs.Stores.{mark_at}
use Rattle.save_groups.proofs.env.Env.enter.Goals as goal

pub returns-then-len-ge-MAX_GROUPS-clause-full : goal.returns-then-len-ge-MAX_GROUPS-clause-full
returns-then-len-ge-MAX_GROUPS-clause-full c =
    (λ e. omega (arith, length-copies c.self.inside c.args.self.now c.self.view_is, c.len.ensures, c.self.inside.groups.ok.0, c.if-len-ge-MAX_GROUPS.true), λ h. refl)

pub returns-clause-full : goal.returns-clause-full
returns-clause-full c = (
  λ e. absurd (false≢true e),
  λ h. absurd (omega (arith, h, length-copies c.self.inside c.args.self.now c.self.view_is, c.len.ensures, c.self.inside.groups.ok.0, c.if-len-ge-MAX_GROUPS.false)),
)

pub invariant_of-self : goal.invariant_of-self
invariant_of-self c =
    let marks : marks_of c.push.new.self.items ≡ mark_at c.args.kind c.args.line (length c.self.inside.saves.items) ∷ marks_of c.self.inside.groups.items =
    ap marks_of c.in-Ok.ensures.items ∙ marks-push c.self.inside.groups.items _
    ∙ marks-entered c.args.kind c.args.line c.len-2.result (length c.self.inside.saves.items) c.new.result.items (marks_of c.self.inside.groups.items)
    c.new.ensures.items (c.len-2.ensures ∙ c.self.inside.saves.ok.0) in
    let P : List Mark → Type 0 = λ ms. AreKept ms c.self.inside.saves.items (at c.self.inside.current) in
    record {
      room = omega (arith, c.self.invariant.room, c.in-Ok.ensures.capacity);
      few = omega (arith, c.in-Ok.ensures.len, c.if-len-ge-MAX_GROUPS.false, c.len.ensures);
      kept = subst P (sym marks) (kept-entered _ (marks_of c.self.inside.groups.items) c.self.inside.saves.items (at c.self.inside.current) refl c.self.invariant.kept);
      returns = c.self.invariant.returns;
      in_mode = c.self.invariant.in_mode;
      held = c.self.invariant.held;
    }
