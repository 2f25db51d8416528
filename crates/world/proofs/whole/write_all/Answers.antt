use Rattle.std.proofs.Common.{rules, ◌≡◌, ◌<◌, List, [], ℕ, ◌++◌, ◌+◌, ◌^◌, Bor, Ok, length, take, sym, subst, refl, ◌∙◌}
use Rattle.std.specs.Io.KnownBytes.{Appends}
use Rattle.std.proofs.KnownBytes.{Appends-nil, Appends-trans, Appends-kept}
use Rattle.world.specs.InTurn.{took_nothing}
use Rattle.world.specs.Trace.{wrote_to, contents_of}
use Rattle.world.proofs.Turns.{HasWritten, none_left, some_count, one_more_write, again_written, all_written, refused_write, nothing_written, written_in_vain}
use Rattle.world.proofs.Portions.{more_done, more_done_of, took_part}
use Rattle.world.proofs.whole.write_all.Goals as goal
use Rattle.world.proofs.whole.write_all.Goals.{in-Ok, in-Err+in-Interrupted}

pub loop-init : goal.loop-init
loop-init g c = (([], refl, Appends-nil _), ([], refl, refl, took_nothing))

pub returns-then-is_empty-clause-calls : goal.returns-then-is_empty-clause-calls
returns-then-is_empty-clause-calls g c =
    let none : length c.loop.rest.now ≡ 0 = search rules in
    all_written g.D.Disk.did c.args.disk.now c.args.outlet.now c.args.bytes.now c.loop.counter c.loop.rest.now c.loop.disk c.loop.outlet c.loop.invariant.1 c.loop.auto.counter-end (none_left _ none)

pub returns-in-Ok-eq0-clause-calls : goal.returns-in-Ok-eq0-clause-calls
returns-in-Ok-eq0-clause-calls g c =
    let some : 0 < length c.loop.rest.now = search rules in
    nothing_written g.D.Disk.did c.args.disk.now c.args.outlet.now c.args.bytes.now c.loop.counter c.loop.rest.now c.loop.disk _ c.loop.outlet _ c.loop.invariant.1 c.loop-test.true some (subst (λ count. g.D.Disk.did c.loop.disk (wrote_to c.loop.outlet c.loop.rest.now (Ok count) c.write_part.new.outlet) c.write_part.new.self) c.in-Ok-eq0.field-0-test c.in-Ok-eq0.ensures.answered) c.in-Ok-eq0.ensures.stays

pub returns-in-Ok-eq0-clause-refused : goal.returns-in-Ok-eq0-clause-refused
returns-in-Ok-eq0-clause-refused g c =
    let (done, split, appended) = c.loop.invariant.0 in
    took_part _ _ _ _ _ (more_done _ done c.loop.rest.now c.in-Ok-eq0.field-0 split) (Appends-trans _ _ _ _ _ appended c.in-Ok-eq0.ensures.bytes)

pub returns-in_default : goal.returns-in_default
returns-in_default g c =
    let (done, split, appended) = c.loop.invariant.0 in
    let some : 0 < length c.loop.rest.now = search rules in
    record {
      calls = refused_write g.D.Disk.did c.args.disk.now c.args.outlet.now c.args.bytes.now c.loop.counter c.loop.rest.now c.loop.disk _ c.loop.outlet _ c.in-Err.error c.refusal.result c.loop.invariant.1 c.loop-test.true some c.in-Err.ensures.answered c.in-Err.ensures.stays (λ e. c.in_default.not-Interrupted (c.kind.ensures ∙ e)) c.refusal.ensures;
      taken = tt;
      refused = took_part _ _ _ _ _ split (Appends-kept _ _ _ done appended c.in-Err.ensures.bytes);
    }

pub loop-preserved : goal.loop-preserved
loop-preserved g c =
    let (done, split, appended) = c.loop.invariant.0 in
    let written = c.loop.invariant.1 in
    let stays : Bor (List ℕ) → Type 0 =
    λ rest. ((taken : List ℕ) × (c.args.bytes.now ≡ taken ++ rest.now) × Appends (contents_of g.D.Disk.contents c.args.outlet.now) (contents_of g.D.Disk.contents c.write_part.new.outlet) taken)
    × HasWritten g.D.Disk.did c.args.disk.now c.args.outlet.now c.args.bytes.now (c.loop.counter + 1) rest.now c.write_part.new.self c.write_part.new.outlet in
    elim c.match-write_part.branch [
      | in-Ok w ↦ subst stays (sym w.rest-is) ((done ++ take w.in-Ok.count c.loop.rest.now, more_done_of _ done _ w.in-Ok.count split, Appends-trans _ _ _ _ _ appended w.in-Ok.ensures.bytes), one_more_write g.D.Disk.did c.args.disk.now c.args.outlet.now c.args.bytes.now c.loop.counter w.in-Ok.count c.loop.rest.now c.loop.disk _ c.loop.outlet _ written (some_count _ w.in-Ok.count-test.1) w.in-Ok.ensures.answered w.in-Ok.ensures.stays)
      | in-Err+in-Interrupted w ↦ subst stays (sym w.rest-is) ((done, split, Appends-kept _ _ _ done appended w.in-Err.ensures.bytes), again_written g.D.Disk.did c.args.disk.now c.args.outlet.now c.args.bytes.now c.loop.counter c.loop.rest.now c.loop.disk _ c.loop.outlet _ w.in-Err.error written w.in-Err.ensures.answered w.in-Err.ensures.stays (sym w.kind.ensures ∙ w.in-Interrupted.is))
    ]

pub returns-then-is_empty-2-clause-calls : goal.returns-then-is_empty-2-clause-calls
returns-then-is_empty-2-clause-calls g c =
    let none : length c.loop.rest.now ≡ 0 = search rules in
    all_written g.D.Disk.did c.args.disk.now c.args.outlet.now c.args.bytes.now c.loop.counter c.loop.rest.now c.loop.disk c.loop.outlet c.loop.invariant.1 c.loop.auto.counter-end (none_left _ none)

pub returns-else-is_empty-2-clause-calls : goal.returns-else-is_empty-2-clause-calls
returns-else-is_empty-2-clause-calls g c =
    let some : 0 < length c.loop.rest.now = search rules in
    let spent : c.loop.counter ≡ 2 ^ 40 = search rules in
    written_in_vain g.D.Disk.did c.args.disk.now c.args.outlet.now c.args.bytes.now c.loop.rest.now c.loop.disk c.loop.outlet (subst (λ n. HasWritten g.D.Disk.did c.args.disk.now c.args.outlet.now c.args.bytes.now n c.loop.rest.now c.loop.disk c.loop.outlet) spent c.loop.invariant.1) some

pub returns-else-is_empty-2-clause-refused : goal.returns-else-is_empty-2-clause-refused
returns-else-is_empty-2-clause-refused g c =
    let (done, split, appended) = c.loop.invariant.0 in
    took_part _ _ _ _ _ split appended
