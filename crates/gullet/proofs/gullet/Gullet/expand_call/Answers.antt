-- A macro without parameters: its text is put in front at once.
use Rattle.gullet.specs.State.{state_of}
use Rattle.gullet.proofs.AtOnce.{plain_expanded}
use Rattle.gullet.proofs.gullet.Gullet.expand_call.Goals as goal

pub returns-in-Ok : goal.returns-in-Ok
returns-in-Ok g c = record {
  does = plain_expanded g.L.Library.outside (g.L.Library.seen c.args.library.now) c.args.name c.args.called
      (state_of c.args.self.now c.args.site.now) (state_of c.push_text.new.self c.args.site.now) (c.takes_tokens.ensures.none c.if-takes_tokens.false)
      (rw c.new.ensures.items at c.in-Ok.ensures.ok);
}
