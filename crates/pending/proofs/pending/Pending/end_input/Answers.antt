-- The innermost source is that of the flat list.
use Rattle.std.proofs.Common.{◌≡◌, ap}
use Rattle.pending.specs.Levels.{flat}
use Rattle.pending.specs.Pending.{ended, ended_source}
use Rattle.pending.proofs.Flats.{flat-ended}
use Rattle.pending.proofs.pending.Pending.end_input.Goals as goal

pub returns : goal.returns
returns c =
    let p = c.self.inside in
    let same : flat p.front p.top p.below.items p.source p.outer.items ≡ c.args.self.now = c.self.view_is in
    let ended_list : flat p.front p.top p.below.items (ended_source p.source) p.outer.items ≡ ended (flat p.front p.top p.below.items p.source p.outer.items) =
    flat-ended p.front p.top p.below.items p.source p.outer.items in
    rw (← same, c.end_source.ensures) ended_list
