use Rattle.std.proofs.Common.{◌≡◌, true, take, sym, ap, arith, rules}
use Rattle.std.specs.List.{list_all}
use Rattle.world.specs.Printed.{Strip, is_plain}
use Rattle.world.proofs.Runs.{run_then_rest, run_written}
use Rattle.world.proofs.strip.append_run.Goals as goal

pub returns-clause-bytes : goal.returns-clause-bytes
returns-clause-bytes c =
    let plain : list_all (is_plain c.args.newline) (take c.length_of_run-run.result c.args.bytes.now) ≡ true = search rules in
    run_written c.args.newline c.length_of_run-run.result c.args.column c.args.bytes.now c.args.out.now.items _ _
    c.length_of_run-run.ensures.within (omega arith) plain
    c.split_at.ensures.front c.in_ok-extend_from_slice.ensures.items

pub returns-clause-column : goal.returns-clause-column
returns-clause-column c =
    let plain : list_all (is_plain c.args.newline) (take c.length_of_run-run.result c.args.bytes.now) ≡ true = search rules in
    ap (λ (s : Strip). s.column)
    (sym (run_then_rest c.args.newline c.length_of_run-run.result c.args.column c.args.bytes.now
    c.length_of_run-run.ensures.within (omega arith) plain))
