-- What the saves that are left undo is what all of them undo.
use Rattle.std.proofs.Common.{◌≡◌, ◌+◌, ◌*◌, ◌≤◌, length, take, drop, vec_len}
use Rattle.std.specs.Prelude.{IsTrue}
use Rattle.std.specs.List.{list_all}
use Rattle.save_groups.specs.InForce.{at}
use Rattle.save_groups.specs.Standing.{undone}
use Rattle.save_groups.specs.Kept.{can_return}
use Rattle.save_groups.specs.Holding.{IsHeldBy, held_in}
use Rattle.save_groups.proofs.env.undo.Given as goal

abbrev pub invariant-undoing : goal.invariant-undoing
invariant-undoing g l = record {
  within : l.first ≤ length l.saves.items;
  left : undone (drop l.first l.saves.items) (at l.current) ≡ undone (drop l.first l.initial.saves.items) (at l.initial.current);
  front : take l.first l.saves.items ≡ take l.first l.initial.saves.items;
  returns : IsTrue (list_all (can_return l.current) l.saves.items);
  held : IsHeldBy l.current (held_in l.saves.items);
  counted : l.steps + 2 * length l.saves.items ≤ l.initial.steps + 2 * length l.initial.saves.items;
}

abbrev pub decreases-undoing : goal.decreases-undoing
decreases-undoing g l = vec_len l.saves
