-- A value written through is put at its name in the files that the map keeps.
use Rattle.std.proofs.Common.{ap, Ok, Err, Result, OnErr}
use Rattle.std.proofs.lemmas.Result.{on_ok_weaker}
use Rattle.world.proofs.Kept.{files_of-same, files_of-longer, files_of-fresh}
use Rattle.world.proofs.files.add.Goals as goal

at_err : {A E P : Type 0} (r : Result A E) → P → OnErr r P
at_err (Ok _) p = tt
at_err (Err _) p = p

pub returns-in_err-extend_from_slice-in-Some-clause-err : goal.returns-in_err-extend_from_slice-in-Some-clause-err
returns-in_err-extend_from_slice-in-Some-clause-err c =
    at_err _ (files_of-same c.args.name.now c.args.files.now.entries _ c.in-Some.kept.now c.extend_from_slice.new.self
    c.in-Some.ensures.value (c.get_mut.follows.holds c.extend_from_slice.new.self).0 c.in_err-extend_from_slice-in-Some.ensures.items)

pub returns-in_ok-extend_from_slice-in-Some-clause-ok : goal.returns-in_ok-extend_from_slice-in-Some-clause-ok
returns-in_ok-extend_from_slice-in-Some-clause-ok c =
    files_of-longer c.args.name.now c.args.bytes.now c.args.files.now.entries _ c.in-Some.kept.now c.extend_from_slice.new.self
    c.in-Some.ensures.value (c.get_mut.follows.holds c.extend_from_slice.new.self).0 c.in_ok-extend_from_slice-in-Some.ensures.items

pub returns-in-None-clause-ok : goal.returns-in-None-clause-ok
returns-in-None-clause-ok c =
    on_ok_weaker c.put.result
    (files_of-fresh c.args.name.now c.args.bytes.now c.args.files.now.entries c.get_mut.follows.lender-at-none.entries _ (ap (λ m. m.entries) c.get_mut.follows.holds-at-none) c.in-None.ensures.value)
    c.put.ensures.ok
