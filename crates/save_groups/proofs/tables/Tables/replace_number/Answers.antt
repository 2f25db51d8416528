-- A code stands in its row.
use Rattle.std.proofs.Common.{◌≡◌, ◌<◌, ◌-◌, rules}
use Rattle.std.specs.Prelude.{ℤ, slice_index_or}
use Rattle.save_groups.specs.declared.entry.Entry.{Entry}
use Rattle.save_groups.specs.Entries.{code_place}
use Rattle.save_groups.proofs.Reaching.{code_found}
use Rattle.save_groups.proofs.tables.Tables.replace_number.Goals as goal

pub returns-in-Code-clause-old : goal.returns-in-Code-clause-old
returns-in-Code-clause-old c =
    let behind : 0 < c.in-Code.table = search rules in
    let found : (rest : Entry ℤ) → slice_index_or c.args.self.now.codes (code_place (c.in-Code.table - 1) c.in-Code.byte) rest ≡ c.replace-in-Code.result = search rules in
    code_found c.args.key c.in-Code.table c.in-Code.byte c.args.self.now c.replace-in-Code.result c.in-Code.is behind c.requires.room found
