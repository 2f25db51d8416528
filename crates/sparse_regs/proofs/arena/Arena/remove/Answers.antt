-- A node without children goes: its place is free, and its parent has one child fewer.
use Rattle.std.proofs.Common.{◌≡◌, ℕ, ◌+◌, ◌%◌, ◌<◌, ap, sym, ◌∙◌, subst, arith}
use Rattle.std.specs.Prelude.{Option, Some, None, IfSome, slice_set, vec_capacity, vec_len, length}
use Rattle.sparse_regs.specs.declared.prefix.Prefix.{Prefix}
use Rattle.sparse_regs.specs.Linked.{of, shorter}
use Rattle.sparse_regs.specs.Places.{prefix_from, prefix_in}
use Rattle.sparse_regs.proofs.Shaping.{IsGoing, going-stored, going-count, going-registers, going-stays, going-above-new, going-tight, parent-within, free-fewer}
use Rattle.sparse_regs.proofs.arena.Arena.remove.Goals as goal

pub push_reserved-requires : goal.push_reserved-requires
push_reserved-requires g c =
    omega (arith, c.args.self.now.free.ok, c.args.self.now.places.ok, free-fewer c.args.self.now.places.items c.args.self.now.free.items c.args.at c.vacate-parent.result c.requires.arena.stored.counted c.vacate-parent.ensures.node)

pub link-requires-clause-parent : goal.link-requires-clause-parent
link-requires-clause-parent g c =
    parent-within c.args.self.now.top c.args.self.now.places.items c.args.self.now.free.items c.args.at c.vacate-parent.result c.vacate-parent.new.places.len
    c.requires.arena.stored c.vacate-parent.ensures.node (omega (arith, c.vacate-parent.ensures.len, c.args.self.now.places.ok))

pub returns-clause-arena : goal.returns-clause-arena
returns-clause-arena g c =
    let going : IsGoing g.T.Slot.is_initial c.args.self.now.top c.link.new.self.top c.args.self.now.places.items c.link.new.self.places.items c.args.self.now.free.items c.link.new.self.free.items c.args.at c.vacate-parent.result = record {
      stored = c.requires.arena.stored;
      here = c.vacate-parent.ensures.node;
      idle = c.requires.idle;
      new_free = rw c.link.ensures.free c.push_reserved.ensures.items;
      new_top = rw c.last_digit.ensures at c.link.ensures.top;
      new_places = rw (c.last_digit.ensures, c.vacate-parent.ensures.items) at c.link.ensures.places;
    } in
    record {
      stored = going-stored g.T.Slot.is_initial c.args.self.now.top c.link.new.self.top c.args.self.now.places.items c.link.new.self.places.items c.args.self.now.free.items c.link.new.self.free.items c.args.at c.vacate-parent.result going;
      room = omega (arith, ap vec_capacity c.link.ensures.free, c.link.new.self.places.ok, c.args.self.now.places.ok, (going-count g.T.Slot.is_initial c.args.self.now.top c.link.new.self.top c.args.self.now.places.items c.link.new.self.places.items c.args.self.now.free.items c.link.new.self.free.items c.args.at c.vacate-parent.result going).1);
    }

pub returns-clause-above : goal.returns-clause-above
returns-clause-above g c =
    let going : IsGoing g.T.Slot.is_initial c.args.self.now.top c.link.new.self.top c.args.self.now.places.items c.link.new.self.places.items c.args.self.now.free.items c.link.new.self.free.items c.args.at c.vacate-parent.result = record {
      stored = c.requires.arena.stored;
      here = c.vacate-parent.ensures.node;
      idle = c.requires.idle;
      new_free = rw c.link.ensures.free c.push_reserved.ensures.items;
      new_top = rw c.last_digit.ensures at c.link.ensures.top;
      new_places = rw (c.last_digit.ensures, c.vacate-parent.ensures.items) at c.link.ensures.places;
    } in
    let P : Option Prefix → Type 0 = λ x. IfSome x (λ prefix. of (prefix_from c.link.new.self.places.items) c.vacate-parent.result.parent ≡ Some (shorter prefix)) in
    subst P (sym (ap prefix_in going.here)) (going-above-new g.T.Slot.is_initial c.args.self.now.top c.link.new.self.top c.args.self.now.places.items c.link.new.self.places.items c.args.self.now.free.items c.link.new.self.free.items c.args.at c.vacate-parent.result going)

pub returns-clause-shrank : goal.returns-clause-shrank
returns-clause-shrank g c =
    let going : IsGoing g.T.Slot.is_initial c.args.self.now.top c.link.new.self.top c.args.self.now.places.items c.link.new.self.places.items c.args.self.now.free.items c.link.new.self.free.items c.args.at c.vacate-parent.result = record {
      stored = c.requires.arena.stored;
      here = c.vacate-parent.ensures.node;
      idle = c.requires.idle;
      new_free = rw c.link.ensures.free c.push_reserved.ensures.items;
      new_top = rw c.last_digit.ensures at c.link.ensures.top;
      new_places = rw (c.last_digit.ensures, c.vacate-parent.ensures.items) at c.link.ensures.places;
    } in
    record {
      stays = going-stays g.T.Slot.is_initial c.args.self.now.top c.link.new.self.top c.args.self.now.places.items c.link.new.self.places.items c.args.self.now.free.items c.link.new.self.free.items c.args.at c.vacate-parent.result going;
      registers = going-registers g.T.Slot.start g.T.Slot.is_initial (λ x e. g.met.T.Slot.same_is_equal x g.T.Slot.start (sym (g.met.T.Slot.initial_is_same x) ∙ e))
          c.args.self.now.top c.link.new.self.top c.args.self.now.places.items c.link.new.self.places.items c.args.self.now.free.items c.link.new.self.free.items c.args.at c.vacate-parent.result going;
      slots = (going-count g.T.Slot.is_initial c.args.self.now.top c.link.new.self.top c.args.self.now.places.items c.link.new.self.places.items c.args.self.now.free.items c.link.new.self.free.items c.args.at c.vacate-parent.result going).1;
    }

pub returns-clause-tight : goal.returns-clause-tight
returns-clause-tight g c =
    let going : IsGoing g.T.Slot.is_initial c.args.self.now.top c.link.new.self.top c.args.self.now.places.items c.link.new.self.places.items c.args.self.now.free.items c.link.new.self.free.items c.args.at c.vacate-parent.result = record {
      stored = c.requires.arena.stored;
      here = c.vacate-parent.ensures.node;
      idle = c.requires.idle;
      new_free = rw c.link.ensures.free c.push_reserved.ensures.items;
      new_top = rw c.last_digit.ensures at c.link.ensures.top;
      new_places = rw (c.last_digit.ensures, c.vacate-parent.ensures.items) at c.link.ensures.places;
    } in
    λ tight. going-tight g.T.Slot.is_initial c.args.self.now.top c.link.new.self.top c.args.self.now.places.items c.link.new.self.places.items c.args.self.now.free.items c.link.new.self.free.items c.args.at c.vacate-parent.result going tight
