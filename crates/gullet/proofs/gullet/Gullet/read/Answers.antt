-- Each way out of the loop, and each way on, by what a turn found.
use Rattle.std.proofs.Common.{List, sym, subst}
use Rattle.save_groups.specs.Standing.{copies_of}
use Rattle.gullet.specs.declared.frames.Frame.{Frame}
use Rattle.gullet.specs.Expansion.{outcome, by_want}
use Rattle.gullet.specs.Frames.{Reads}
use Rattle.gullet.specs.State.{state_of}
use Rattle.gullet.specs.Turned.{found_of}
use Rattle.gullet.specs.Meanings.{taken_meaning}
use Rattle.gullet.specs.Wants.{Tok, Was}
use Rattle.gullet.proofs.Reading.{is_left, unviewed, reads_start, start_ended, turn_ended, turn_cut, inner_ended, aside_ended, reads_over, reads_last, reads_token, reads_told, reads_again, reads_inner, reads_aside, reads_out}
use Rattle.gullet.proofs.gullet.Gullet.read.Goals as goal
use Rattle.gullet.proofs.gullet.Gullet.read.Goals.{in-Token+in-Ok-take, in-Told+in-Ok-take_was, in-Again, in-Inner+in-Ok-enter_inside, in-Aside+in-Ok-enter_inside-2, in-Ends+in-Some+in-Ok-resume}

pub returns-in-Err : goal.returns-in-Err
returns-in-Err g c = record {
  does = start_ended g.L.Library.outside (g.L.Library.seen c.args.library.now) c.args.context c.args.task (state_of c.args.self.now c.args.site.now)
      c.in-Err.stop (c.in-Err.ensures.does (state_of c.args.self.now c.args.site.now));
}

pub turns-init : goal.turns-init
turns-init g c =
    let o = g.L.Library.outside in
    let now = g.L.Library.seen c.args.library.now in
    let s = state_of c.args.self.now c.args.site.now in
    let top = c.in-Ok.top in
    let P : List Frame → Type 0 = λ below. Reads o now now (outcome o c.args.context c.args.task s) 0 below top.context top.progress top.want s in
    subst P (sym c.new-below.ensures)
    (reads_start o now c.args.context c.args.task s top.context top.progress top.want (c.in-Ok.ensures.does s) c.in-Ok.ensures.begins)

pub returns-in-Err-turn : goal.returns-in-Err-turn
returns-in-Err-turn g c =
    let whole = outcome g.L.Library.outside c.args.context c.args.task (state_of c.args.self.now c.args.site.now) in
    let o = g.L.Library.outside in
    let mid = g.L.Library.seen c.turn.new.library in
    let u = state_of c.turn.new.self c.turn.new.site in record {
      does = turn_ended {whole = whole} c.turns.invariant (is_left c.turns._made c.turns-test.true) mid u c.in-Err-turn.stop
          (unviewed (found_of (copies_of c.turn.new.site.env)) o (g.L.Library.seen c.turns.library) mid
          (by_want o c.turns.context (state_of c.turns.self c.turns.site) c.turns.want) u c.in-Err-turn.stop c.in-Err-turn.ensures.does);
    }

pub returns-in-Err-take : goal.returns-in-Err-take
returns-in-Err-take g c =
    let whole = outcome g.L.Library.outside c.args.context c.args.task (state_of c.args.self.now c.args.site.now) in record {
      does = turn_cut {whole = whole} c.turns.invariant (is_left c.turns._made c.turns-test.true) (g.L.Library.seen c.turn.new.library)
          (state_of c.turn.new.self c.turn.new.site) (found_of (copies_of c.turn.new.site.env) c.in-Ok-turn.turned) c.in-Ok-turn.ensures.does;
    }

pub returns-in-Err-take_was : goal.returns-in-Err-take_was
returns-in-Err-take_was g c =
    let whole = outcome g.L.Library.outside c.args.context c.args.task (state_of c.args.self.now c.args.site.now) in record {
      does = turn_cut {whole = whole} c.turns.invariant (is_left c.turns._made c.turns-test.true) (g.L.Library.seen c.turn.new.library)
          (state_of c.turn.new.self c.turn.new.site) (found_of (copies_of c.turn.new.site.env) c.in-Ok-turn.turned) c.in-Ok-turn.ensures.does;
    }

pub returns-in-Err-resume : goal.returns-in-Err-resume
returns-in-Err-resume g c =
    let whole = outcome g.L.Library.outside c.args.context c.args.task (state_of c.args.self.now c.args.site.now) in record {
      does = turn_cut {whole = whole} c.turns.invariant (is_left c.turns._made c.turns-test.true) (g.L.Library.seen c.turn.new.library)
          (state_of c.turn.new.self c.turn.new.site) (found_of (copies_of c.turn.new.site.env) c.in-Ok-turn.turned) c.in-Ok-turn.ensures.does;
    }

pub returns-in-Err-enter_inside : goal.returns-in-Err-enter_inside
returns-in-Err-enter_inside g c =
    let whole = outcome g.L.Library.outside c.args.context c.args.task (state_of c.args.self.now c.args.site.now) in
    let u = state_of c.turn.new.self c.turn.new.site in record {
      does = inner_ended {whole = whole} c.turns.invariant (is_left c.turns._made c.turns-test.true) (g.L.Library.seen c.turn.new.library) u c.in-Inner.task c.in-Err-enter_inside.stop
          (rw c.in-Inner.is at c.in-Ok-turn.ensures.does) (c.in-Err-enter_inside.ensures.does u);
    }

pub returns-in-Err-enter_inside-2 : goal.returns-in-Err-enter_inside-2
returns-in-Err-enter_inside-2 g c =
    let whole = outcome g.L.Library.outside c.args.context c.args.task (state_of c.args.self.now c.args.site.now) in
    let u = state_of c.turn.new.self c.turn.new.site in record {
      does = aside_ended {whole = whole} c.turns.invariant (is_left c.turns._made c.turns-test.true) (g.L.Library.seen c.turn.new.library) u c.in-Aside.task c.in-Err-enter_inside-2.stop
          (rw c.in-Aside.is at c.in-Ok-turn.ensures.does) (c.in-Err-enter_inside-2.ensures.does u);
    }

pub returns-in-None : goal.returns-in-None
returns-in-None g c =
    let whole = outcome g.L.Library.outside c.args.context c.args.task (state_of c.args.self.now c.args.site.now) in record {
      does = reads_last {whole = whole} c.turns.invariant (is_left c.turns._made c.turns-test.true) (g.L.Library.seen c.turn.new.library)
          (state_of c.turn.new.self c.turn.new.site) c.in-Ends.told c.pop.new.self c.in-None.ensures (rw c.in-Ends.is at c.in-Ok-turn.ensures.does);
    }

pub returns : goal.returns
returns g c =
    let whole = outcome g.L.Library.outside c.args.context c.args.task (state_of c.args.self.now c.args.site.now) in record { does = reads_over {whole = whole} c.turns.invariant }

pub turns-preserved : goal.turns-preserved
turns-preserved g c =
    let whole = outcome g.L.Library.outside c.args.context c.args.task (state_of c.args.self.now c.args.site.now) in
    let less = is_left c.turns._made c.turns-test.true in
    let mid = g.L.Library.seen c.turn.new.library in
    let u = state_of c.turn.new.self c.turn.new.site in
    let env = copies_of c.turn.new.site.env in
    elim c.match-turned.branch [
      | in-Token+in-Ok-take w ↦
          rw (w.below-is, w.context-is, w.progress-is, w.want-is)
          (reads_token {whole = whole} c.turns.invariant less mid u (Tok w.in-Token.token (taken_meaning env w.in-Token.of w.in-Token.noexpand))
          w.take.new.progress w.in-Ok-take.next (rw w.in-Token.is at c.in-Ok-turn.ensures.fits)
          (rw w.in-Token.is at c.in-Ok-turn.ensures.does) w.in-Ok-take.ensures)
      | in-Told+in-Ok-take_was w ↦
          rw (w.below-is, w.context-is, w.progress-is, w.want-is)
          (reads_told {whole = whole} c.turns.invariant less mid u (Was w.in-Told.told) w.take_was.new.progress w.in-Ok-take_was.next
          (rw w.in-Told.is at c.in-Ok-turn.ensures.fits) (rw w.in-Told.is at c.in-Ok-turn.ensures.does) w.in-Ok-take_was.ensures)
      | in-Again w ↦
          rw (w.below-is, w.context-is, w.progress-is, w.want-is)
          (reads_again {whole = whole} c.turns.invariant less mid u c.again-wanted_again.result (rw w.in-Again.is at c.in-Ok-turn.ensures.fits)
          c.again-wanted_again.ensures (rw w.in-Again.is at c.in-Ok-turn.ensures.does))
      | in-Inner+in-Ok-enter_inside w ↦
          let top = w.in-Ok-enter_inside.top in
          rw (w.below-is, w.context-is, w.progress-is, w.want-is, w.in-Ok-enter_inside.ensures.waits)
          (reads_inner {whole = whole} c.turns.invariant less mid u w.in-Inner.task top.context top.progress top.want (rw w.in-Inner.is at c.in-Ok-turn.ensures.fits)
          (rw w.in-Inner.is at c.in-Ok-turn.ensures.does) (w.in-Ok-enter_inside.ensures.does u) w.in-Ok-enter_inside.ensures.begins)
      | in-Aside+in-Ok-enter_inside-2 w ↦
          let top = w.in-Ok-enter_inside-2.top in
          rw (w.below-is, w.context-is, w.progress-is, w.want-is, w.in-Ok-enter_inside-2.ensures.waits)
          (reads_aside {whole = whole} c.turns.invariant less mid u w.in-Aside.task top.context top.progress top.want (rw w.in-Aside.is at c.in-Ok-turn.ensures.fits)
          (rw w.in-Aside.is at c.in-Ok-turn.ensures.does) (w.in-Ok-enter_inside-2.ensures.does u) w.in-Ok-enter_inside-2.ensures.begins)
      | in-Ends+in-Some+in-Ok-resume w ↦
          rw (w.below-is, w.context-is, w.progress-is, w.want-is)
          (reads_out {whole = whole} c.turns.invariant less mid u w.in-Ends.told w.in-Some.frame w.pop.new.self w.resume.new.progress w.in-Ok-resume.next
          w.in-Some.ensures (rw w.in-Ends.is at c.in-Ok-turn.ensures.does) w.in-Ok-resume.ensures)
    ]
