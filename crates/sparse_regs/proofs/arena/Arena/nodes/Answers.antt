-- What isn't free stands, and has a prefix of a register that is kept.
use Rattle.std.proofs.Common.{◌≡◌, ap, sym, ◌∙◌}
use Rattle.sparse_regs.specs.Registers.{taken_count}
use Rattle.sparse_regs.proofs.Changing.{nodes-seen}
use Rattle.sparse_regs.proofs.NodeCount.{nodes-counted}
use Rattle.sparse_regs.proofs.arena.Arena.nodes.Goals as goal

pub returns-clause-taken : goal.returns-clause-taken
returns-clause-taken g c = c.count_taken.ensures ∙ ap taken_count c.deref.ensures.value ∙ sym (nodes-seen c.args.self.now.places.items)

pub returns-clause-prefixes : goal.returns-clause-prefixes
returns-clause-prefixes g c numbers lists =
    c.count_taken.ensures ∙ ap taken_count c.deref.ensures.value
    ∙ nodes-counted g.T.Slot.start g.T.Slot.is_initial c.args.self.now.top c.args.self.now.places.items c.args.self.now.free.items c.requires.linked.stored c.requires.tight g.met.T.Slot.start_is_initial numbers lists
