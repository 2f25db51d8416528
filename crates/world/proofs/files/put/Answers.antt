-- An insert into the map is one into the files that it keeps.
use Rattle.std.proofs.Common.{◌∙◌, ap}
use Rattle.world.specs.Memory.{files_of}
use Rattle.world.proofs.Kept.{files_of-insert_entry}
use Rattle.world.proofs.files.put.Goals as goal

pub returns-clause-ok : goal.returns-clause-ok
returns-clause-ok c =
    let entries = c.in_ok-insert.ensures.entries in
    let kept = files_of-insert_entry c.args.files.now.entries c.in_ok-name.name c.in_ok-bytes.bytes in
    let name = c.in_ok-name.ensures.items in
    let bytes = c.in_ok-bytes.ensures.items in
    rw (← name, ← bytes) (ap files_of entries ∙ kept)
