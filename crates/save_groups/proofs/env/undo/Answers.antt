-- Each turn undoes the last save.
use Rattle.std.proofs.Common.{◌≤◌, length, [], ◌∷◌, ap, arith, length-append}
use Rattle.std.proofs.lemmas.List.{length-drop}
use Rattle.save_groups.specs.InForce.{at}
use Rattle.save_groups.specs.Kept.{can_return}
use Rattle.save_groups.specs.Holding.{held_in}
use Rattle.save_groups.proofs.Held.{holds-of, held-unsaved}
use Rattle.save_groups.proofs.Steps.{all_last, all_before, returns-further, undone-step, front-step, undone-all}
use Rattle.save_groups.proofs.env.undo.Goals as goal

pub put_back-requires-clause-returns : goal.put_back-requires-clause-returns
put_back-requires-clause-returns g c =
    all_last (can_return c.undoing.current) c.undoing.saves.items c.pop.new.self.items c.in-Some.save c.in-Some.ensures.items c.undoing.invariant.returns

pub put_back-requires-clause-held : goal.put_back-requires-clause-held
put_back-requires-clause-held g c =
    holds-of c.undoing.current c.in-Some.save.key c.in-Some.save.value (held_in c.pop.new.self.items)
    (held-unsaved c.undoing.current c.pop.new.self.items c.undoing.saves.items c.in-Some.save c.in-Some.ensures.items c.undoing.invariant.held)

pub undoing-preserved : goal.undoing-preserved
undoing-preserved g c =
    let shorter : c.args.first ≤ length c.pop.new.self.items =
    omega (arith, c.in-Some.ensures.len, c.pop.new.self.ok.0, c.undoing.saves.ok.0, c.undoing-test.true, c.len.ensures) in
    record {
      within = shorter;
      left = undone-step c.undoing.saves.items c.pop.new.self.items c.in-Some.save c.args.first (at c.undoing.current) (at c.put_back.new.current) _
          c.in-Some.ensures.items shorter c.put_back.ensures.restored c.undoing.invariant.left;
      front = front-step c.undoing.saves.items c.pop.new.self.items c.in-Some.save c.args.first _ c.in-Some.ensures.items shorter c.undoing.invariant.front;
      returns = returns-further c.undoing.current c.put_back.new.current c.pop.new.self.items c.put_back.ensures.kept
          (all_before (can_return c.undoing.current) c.undoing.saves.items c.pop.new.self.items c.in-Some.save c.in-Some.ensures.items c.undoing.invariant.returns);
      held = c.put_back.ensures.held (held_in c.pop.new.self.items)
          (held-unsaved c.undoing.current c.pop.new.self.items c.undoing.saves.items c.in-Some.save c.in-Some.ensures.items c.undoing.invariant.held);
      counted = omega (arith, c.undoing.invariant.counted, c.put_back.ensures.steps, ap (λ xs. length xs) c.in-Some.ensures.items, length-append c.pop.new.self.items (c.in-Some.save ∷ []));
    }

pub returns-clause-undone : goal.returns-clause-undone
returns-clause-undone g c =
    undone-all c.undoing.saves.items c.args.first (at c.undoing.current) _
    (omega (arith, c.undoing.invariant.within, c.undoing-test.false, c.len.ensures, c.undoing.saves.ok.0)) c.undoing.invariant.left

pub returns-clause-steps : goal.returns-clause-steps
returns-clause-steps g c =
    omega (arith, c.undoing.invariant.counted, c.undoing.invariant.within, length-drop c.args.first c.args.saves.now.items, c.undoing-test.false, c.len.ensures, c.undoing.saves.ok.0, c.requires.within)
