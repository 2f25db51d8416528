-- The sources are those of the flat list.
use Rattle.std.proofs.Common.{◌≡◌, ap}
use Rattle.pending.specs.Levels.{flat, all_sources}
use Rattle.pending.specs.Origin.{count_from, is_file}
use Rattle.pending.specs.Pending.{open_files}
use Rattle.pending.proofs.Flats.{flat-counted}
use Rattle.pending.proofs.pending.Pending.files.Goals as goal

pub returns : goal.returns
returns c =
    let p = c.self.inside in
    let same : flat p.front p.top p.below.items p.source p.outer.items ≡ c.args.self.now = c.self.view_is in
    let number : open_files (flat p.front p.top p.below.items p.source p.outer.items) ≡ count_from is_file (all_sources p.source p.outer.items) =
    flat-counted p.front p.top p.below.items p.source p.outer.items is_file in
    let named : open_files (flat p.front p.top p.below.items p.source p.outer.items) ≡ open_files c.args.self.now = ap open_files same in
    cc (c.open_files.ensures, c.deref.ensures.value)
