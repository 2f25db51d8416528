-- The innermost source is that of the flat list.
use Rattle.std.proofs.Common.{◌≡◌, ap}
use Rattle.pending.specs.Levels.{flat}
use Rattle.pending.specs.Pending.{line_number, line_at}
use Rattle.pending.proofs.Flats.{flat-line}
use Rattle.pending.proofs.pending.Pending.line.Goals as goal

pub returns-in-None : goal.returns-in-None
returns-in-None c =
    let p = c.self.inside in
    let same : flat p.front p.top p.below.items p.source p.outer.items ≡ c.args.self.now = c.self.view_is in
    let number : line_number (flat p.front p.top p.below.items p.source p.outer.items) ≡ line_at p.source =
    flat-line p.front p.top p.below.items p.source p.outer.items in
    let named : line_number (flat p.front p.top p.below.items p.source p.outer.items) ≡ line_number c.args.self.now = ap line_number same in
    cc

pub returns-in-Some : goal.returns-in-Some
returns-in-Some c =
    let p = c.self.inside in
    let same : flat p.front p.top p.below.items p.source p.outer.items ≡ c.args.self.now = c.self.view_is in
    let number : line_number (flat p.front p.top p.below.items p.source p.outer.items) ≡ line_at p.source =
    flat-line p.front p.top p.below.items p.source p.outer.items in
    let named : line_number (flat p.front p.top p.below.items p.source p.outer.items) ≡ line_number c.args.self.now = ap line_number same in
    cc
