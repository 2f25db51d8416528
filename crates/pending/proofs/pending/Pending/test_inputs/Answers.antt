-- The sources are those of the flat list.
use Rattle.std.proofs.Common.{◌≡◌, ap, refl}
use Rattle.pending.specs.Levels.{flat, all_sources}
use Rattle.pending.specs.Origin.{count_from, is_input}
use Rattle.pending.specs.Pending.{open_inputs}
use Rattle.pending.proofs.Flats.{flat-counted}
use Rattle.pending.proofs.pending.Pending.test_inputs.Goals as goal

pub returns-then-are_full : goal.returns-then-are_full
returns-then-are_full c =
    let p = c.self.inside in
    let same : flat p.front p.top p.below.items p.source p.outer.items ≡ c.args.self.now = c.self.view_is in
    let number : open_inputs (flat p.front p.top p.below.items p.source p.outer.items) ≡ count_from is_input (all_sources p.source p.outer.items) =
    flat-counted p.front p.top p.below.items p.source p.outer.items is_input in
    let named : open_inputs (flat p.front p.top p.below.items p.source p.outer.items) ≡ open_inputs c.args.self.now = ap open_inputs same in
    (refl, cc (c.open_inputs.ensures, c.deref.ensures.value))

pub returns : goal.returns
returns c =
    let p = c.self.inside in
    let same : flat p.front p.top p.below.items p.source p.outer.items ≡ c.args.self.now = c.self.view_is in
    let number : open_inputs (flat p.front p.top p.below.items p.source p.outer.items) ≡ count_from is_input (all_sources p.source p.outer.items) =
    flat-counted p.front p.top p.below.items p.source p.outer.items is_input in
    let named : open_inputs (flat p.front p.top p.below.items p.source p.outer.items) ≡ open_inputs c.args.self.now = ap open_inputs same in
    cc (c.open_inputs.ensures, c.deref.ensures.value)
