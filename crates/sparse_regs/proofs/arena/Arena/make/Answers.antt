-- A node is made at a free place, and linked with its parent.
use Rattle.std.proofs.Common.{◌≡◌, ℕ, ◌+◌, ◌%◌, ap, sym, ◌∙◌, arith, rules}
use Rattle.std.specs.Prelude.{Some, None, slice_set, vec_capacity}
use Rattle.sparse_regs.proofs.Counting.{count-le}
use Rattle.sparse_regs.proofs.Shaping.{IsMaking, making-stored, making-count, making-registers, making-stays, making-here, making-tight}
use Rattle.sparse_regs.proofs.arena.Arena.make.Goals as goal

pub returns-clause-arena : goal.returns-clause-arena
returns-clause-arena g c =
    let making : IsMaking g.T.Slot.start c.args.self.now.top c.link.new.self.top c.args.self.now.places.items c.take_place-at.new.places.items c.link.new.self.places.items c.args.self.now.free.items c.link.new.self.free.items c.take_place-at.result c.args.parent c.args.prefix = record {
      stored = c.requires.arena.stored;
      same = c.take_place-at.ensures.same;
      count = c.take_place-at.ensures.count;
      kept = c.take_place-at.ensures.kept;
      spare = rw c.link.ensures.free c.take_place-at.ensures.spare;
      shape = c.requires.prefix;
      above = c.requires.above;
      absent = c.requires.absent;
      new_top = rw c.last_digit.ensures at c.link.ensures.top;
      new_places = rw (c.last_digit.ensures, c.new_content.ensures) at c.link.ensures.places;
    } in
    record {
      stored = making-stored g.T.Slot.start c.args.self.now.top c.link.new.self.top c.args.self.now.places.items c.take_place-at.new.places.items c.link.new.self.places.items c.args.self.now.free.items c.link.new.self.free.items c.take_place-at.result c.args.parent c.args.prefix making;
      room = omega (arith, ap vec_capacity c.link.ensures.free, c.link.new.self.places.ok, c.args.self.now.places.ok, c.take_place-at.new.places.ok, count-le c.args.self.now.places.items, (making-count g.T.Slot.start c.args.self.now.top c.link.new.self.top c.args.self.now.places.items c.take_place-at.new.places.items c.link.new.self.places.items c.args.self.now.free.items c.link.new.self.free.items c.take_place-at.result c.args.parent c.args.prefix making).1);
    }

pub returns-clause-here : goal.returns-clause-here
returns-clause-here g c =
    let making : IsMaking g.T.Slot.start c.args.self.now.top c.link.new.self.top c.args.self.now.places.items c.take_place-at.new.places.items c.link.new.self.places.items c.args.self.now.free.items c.link.new.self.free.items c.take_place-at.result c.args.parent c.args.prefix = record {
      stored = c.requires.arena.stored;
      same = c.take_place-at.ensures.same;
      count = c.take_place-at.ensures.count;
      kept = c.take_place-at.ensures.kept;
      spare = rw c.link.ensures.free c.take_place-at.ensures.spare;
      shape = c.requires.prefix;
      above = c.requires.above;
      absent = c.requires.absent;
      new_top = rw c.last_digit.ensures at c.link.ensures.top;
      new_places = rw (c.last_digit.ensures, c.new_content.ensures) at c.link.ensures.places;
    } in
    making-here g.T.Slot.start c.args.self.now.top c.link.new.self.top c.args.self.now.places.items c.take_place-at.new.places.items c.link.new.self.places.items c.args.self.now.free.items c.link.new.self.free.items c.take_place-at.result c.args.parent c.args.prefix making

pub returns-clause-grew : goal.returns-clause-grew
returns-clause-grew g c =
    let making : IsMaking g.T.Slot.start c.args.self.now.top c.link.new.self.top c.args.self.now.places.items c.take_place-at.new.places.items c.link.new.self.places.items c.args.self.now.free.items c.link.new.self.free.items c.take_place-at.result c.args.parent c.args.prefix = record {
      stored = c.requires.arena.stored;
      same = c.take_place-at.ensures.same;
      count = c.take_place-at.ensures.count;
      kept = c.take_place-at.ensures.kept;
      spare = rw c.link.ensures.free c.take_place-at.ensures.spare;
      shape = c.requires.prefix;
      above = c.requires.above;
      absent = c.requires.absent;
      new_top = rw c.last_digit.ensures at c.link.ensures.top;
      new_places = rw (c.last_digit.ensures, c.new_content.ensures) at c.link.ensures.places;
    } in
    record {
      stays = making-stays g.T.Slot.start c.args.self.now.top c.link.new.self.top c.args.self.now.places.items c.take_place-at.new.places.items c.link.new.self.places.items c.args.self.now.free.items c.link.new.self.free.items c.take_place-at.result c.args.parent c.args.prefix making;
      registers = making-registers g.T.Slot.start c.args.self.now.top c.link.new.self.top c.args.self.now.places.items c.take_place-at.new.places.items c.link.new.self.places.items c.args.self.now.free.items c.link.new.self.free.items c.take_place-at.result c.args.parent c.args.prefix making;
      slots = omega (arith, (making-count g.T.Slot.start c.args.self.now.top c.link.new.self.top c.args.self.now.places.items c.take_place-at.new.places.items c.link.new.self.places.items c.args.self.now.free.items c.link.new.self.free.items c.take_place-at.result c.args.parent c.args.prefix making).0, (making-count g.T.Slot.start c.args.self.now.top c.link.new.self.top c.args.self.now.places.items c.take_place-at.new.places.items c.link.new.self.places.items c.args.self.now.free.items c.link.new.self.free.items c.take_place-at.result c.args.parent c.args.prefix making).1, c.take_place-at.ensures.len);
      more = omega (arith, (making-count g.T.Slot.start c.args.self.now.top c.link.new.self.top c.args.self.now.places.items c.take_place-at.new.places.items c.link.new.self.places.items c.args.self.now.free.items c.link.new.self.free.items c.take_place-at.result c.args.parent c.args.prefix making).0);
    }

pub returns-clause-tight : goal.returns-clause-tight
returns-clause-tight g c =
    let making : IsMaking g.T.Slot.start c.args.self.now.top c.link.new.self.top c.args.self.now.places.items c.take_place-at.new.places.items c.link.new.self.places.items c.args.self.now.free.items c.link.new.self.free.items c.take_place-at.result c.args.parent c.args.prefix = record {
      stored = c.requires.arena.stored;
      same = c.take_place-at.ensures.same;
      count = c.take_place-at.ensures.count;
      kept = c.take_place-at.ensures.kept;
      spare = rw c.link.ensures.free c.take_place-at.ensures.spare;
      shape = c.requires.prefix;
      above = c.requires.above;
      absent = c.requires.absent;
      new_top = rw c.last_digit.ensures at c.link.ensures.top;
      new_places = rw (c.last_digit.ensures, c.new_content.ensures) at c.link.ensures.places;
    } in
    λ tight. making-tight g.T.Slot.start c.args.self.now.top c.link.new.self.top c.args.self.now.places.items c.take_place-at.new.places.items c.link.new.self.places.items c.args.self.now.free.items c.link.new.self.free.items c.take_place-at.result c.args.parent c.args.prefix making g.T.Slot.is_initial tight
